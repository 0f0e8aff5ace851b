-- Where an error is where it stops, what led to the error led to the stop.
use Rattle.std.proofs.Common.{◌≡◌, List, sym, subst, Result, Ok, Err, MatchResult}
use Rattle.pg_spec.specs.declared.stamps.Stamp.{Stamp}
use Rattle.pg_desk.specs.declared.event.Event.{Event}
use Rattle.pg_types.specs.declared.error.Error.{Error}
use Rattle.pg_query.specs.declared.running.Running.{Running}
use Rattle.pg_query.specs.declared.script.Want.{Want}
use Rattle.pg_query.specs.declared.stop.Stop.{Stop}
use Rattle.pg_query.specs.declared.stop.Stop.TheVariants as stop
use Rattle.pg_query.specs.Dialogue.{Dialogue}
use Rattle.pg_query.specs.Meaning.{Place, meaning_at, Goes, GoesToAnswer, Stops}

-- what doing one thing came to
abbrev pub Did : {S D T : Type 0} → (D → List Event → D → Type 0) → (S → Dialogue T) → (S → Error → Dialogue T) → Stamp → D → Place T → D → Running S T → Result (Want T) (Stop T) → Type 0
Did becomes dialogue refuses stamp a p b new r = MatchResult r (λ w. Goes becomes stamp a p b (meaning_at dialogue refuses new w)) (λ s. Stops becomes dialogue stamp a p b new s)

pub stopped-did : {S D T : Type 0} (becomes : D → List Event → D → Type 0) (dialogue : S → Dialogue T) (refuses : S → Error → Dialogue T) (stamp : Stamp) (a : D) (p : Place T) (b : D) (new : Running S T) →
    (went : Result (Want T) Error) (r : Result (Want T) (Stop T)) → MatchResult went (λ w. r ≡ Ok w) (λ e. r ≡ Err (stop.Answers (Err e))) →
    MatchResult went (λ w. Goes becomes stamp a p b (meaning_at dialogue refuses new w)) (λ e. GoesToAnswer becomes stamp a p b (Err e)) → Did becomes dialogue refuses stamp a p b new r
stopped-did {S} {D} {T} becomes dialogue refuses stamp a p b new (Ok w) r is h = subst (λ (x : Result (Want T) (Stop T)). Did becomes dialogue refuses stamp a p b new x) (sym is) h
stopped-did {S} {D} {T} becomes dialogue refuses stamp a p b new (Err e) r is h = subst (λ (x : Result (Want T) (Stop T)). Did becomes dialogue refuses stamp a p b new x) (sym is) h
