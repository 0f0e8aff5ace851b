-- A Bind is two names and what is said behind them.
use Rattle.std.proofs.Common.{◌≡◌, List, ℕ, Option, Some, ap, ◌∙◌}
use Rattle.std.specs.Option.{option_and_then}
use Rattle.pg_spec.specs.Bytes.{◌>>=◌, text0_at}
use Rattle.pg_spec.specs.ClientFrames as spec
use Rattle.pg_server.specs.Readings.{giving}

pub bound : (body r1 r2 portal statement : List ℕ) (frame : Option spec.ClientFrame) → Some (portal, r1) ≡ text0_at body → Some (statement, r2) ≡ text0_at r1 →
    frame ≡ giving (spec.Bind portal statement) r2 → frame ≡ spec.binding body
bound body r1 r2 portal statement frame e1 e2 e3 =
    e3
    ∙ ap (option_and_then (λ (s : List ℕ × List ℕ). giving (spec.Bind portal s.0) s.1)) e2
    ∙ ap (option_and_then (λ (p : List ℕ × List ℕ). text0_at p.1 >>= λ s. giving (spec.Bind p.0 s.0) s.1)) e1
