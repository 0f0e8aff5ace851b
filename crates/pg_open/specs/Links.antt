-- A link that is raw, or a stream of TLS.
use Rattle.std.specs.Prelude.{ℕ, List, Option, None}
use Rattle.pg_spec.specs.Links.{LinkView}
use Rattle.pg_open.specs.declared.maybe_tls.MaybeTls.{MaybeTls}
use Rattle.pg_open.specs.declared.maybe_tls.MaybeTls.TheVariants.{Raw, Tls}

-- its meaning is that of the link that it is
abbrev pub view_of : {L S : Type 0} → (L → LinkView) → (S → LinkView) → MaybeTls L S → LinkView
view_of l s (Raw link) = l link
view_of l s (Tls stream) = s stream

-- what a login can be bound by: nothing over a raw link
abbrev pub binding_of : {L S : Type 0} → (S → Option (List ℕ)) → MaybeTls L S → Option (List ℕ)
binding_of s (Raw link) = None
binding_of s (Tls stream) = s stream
