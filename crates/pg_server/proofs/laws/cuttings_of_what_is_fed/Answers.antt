use Rattle.std.proofs.Common.{sym, ap, ◌∙◌, List, ℕ, ◌++◌, append_assoc}
use Rattle.pg_server.specs.Hearing.{said_to}
use Rattle.pg_server.proofs.ServedLaws.{goes_on}
use Rattle.pg_server.proofs.laws.cuttings_of_what_is_fed.Goals as goal

pub returns-clause-whole : goal.returns-clause-whole
returns-clause-whole g c step at a b none =
    ap (said_to step at.standing) (sym (append_assoc at.left a b)) ∙ (goes_on step at.standing (at.left ++ a) b).whole none

pub returns-clause-fault : goal.returns-clause-fault
returns-clause-fault g c step at a b fault is =
    let l = (goes_on step at.standing (at.left ++ a) b).fault fault is in (
      ap (λ (x : List ℕ). (said_to step at.standing x).fault) (sym (append_assoc at.left a b)) ∙ l.0,
      ap (λ (x : List ℕ). (said_to step at.standing x).said) (sym (append_assoc at.left a b)) ∙ l.1,
    )
