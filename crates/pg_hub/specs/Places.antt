-- Mailboxes by where they stand among those that are kept.
use Rattle.std.specs.Prelude.{◌≡◌, ℕ, zero, suc, List, [], ◌∷◌, get_or, slice_set, if◌then◌else◌}
use Rattle.std.specs.List.{remove}
use Rattle.pg_hub.specs.declared.mailbox.Mailbox.{Mailbox}
use Rattle.pg_hub.specs.declared.mailbox.Mailbox.TheVariants.{Empty}
use Rattle.pg_hub.specs.declared.mailbox.Kept.{Kept}
use Rattle.pg_hub.specs.Mail.{rest_of, is_held}

-- the mailbox of request id stands there
abbrev pub IsAt : (id : ℕ) → List Kept → ℕ → Type 0
IsAt id [] i = ⊥
IsAt id (m ∷ ms) zero = m.id ≡ id
IsAt id (m ∷ ms) (suc i) = IsAt id ms i

-- what stands there
abbrev pub kept_at : List Kept → ℕ → Kept
kept_at kept i = get_or kept i (record { id = 0; mailbox = Empty })

-- the mailbox of the request at this place
abbrev pub mailbox_at : List Kept → ℕ → Mailbox
mailbox_at kept i = let m = kept_at kept i in m.mailbox

-- a mailbox without its oldest batch, let go where it isn't held any more
abbrev pub less_at : List Kept → ℕ → (finished : ℕ) → Kept → List Kept
less_at kept i finished m = if is_held m.id finished m.mailbox then slice_set kept i m else remove kept i

-- what is kept once the oldest batch of the request at this place was taken
abbrev pub taken_at : List Kept → ℕ → (finished : ℕ) → List Kept
taken_at kept i finished = let m = kept_at kept i in less_at kept i finished (record { id = m.id; mailbox = rest_of m.mailbox })
