use Rattle.std.proofs.Common.{◌≤◌, ◌^◌, ℕ, length, arith, sym, subst}
use Rattle.std.proofs.lemmas.Nat.{mul-le}
use Rattle.pg_search.specs.Asking.{ask_steps}
use Rattle.pg_search.specs.Steps.{finding_steps}
use Rattle.pg_search.specs.Finding.{most_steps}
use Rattle.pg_search.proofs.finds.FindsFinder.find.Goals as goal

pub returns-clause-most : goal.returns-clause-most
returns-clause-most c =
    let few : length c.args.oids.items ≤ 2 ^ 64 = grind arith in
    subst (λ (n : ℕ). n ≤ most_steps) (sym c.new.ensures.steps) (mul-le (length c.args.oids.items) (finding_steps ask_steps 64) (2 ^ 64) (finding_steps ask_steps 64) few (omega arith))
