use Rattle.std.proofs.Common.{◌≡◌, subst, sym, ◌∙◌, List, ℕ, ◌++◌, drop, Result, Ok, Err, false, cond}
use Rattle.std.specs.Result.{is_ok, is_err}
use Rattle.pg_machine.specs.declared.feeding.Fed.{Fed}
use Rattle.pg_machine.specs.Machines.{service_of}
use Rattle.pg_machine.specs.Steps.{serving_of}
use Rattle.pg_machine.specs.Feeding.{IsFed}
use Rattle.pg_machine.proofs.FeedLaws.{rest_is, began}
use Rattle.pg_machine.proofs.machine.Machine.begin.Goals as goal

no_error : {T E : Type 0} (r : Result T E) (a b items : List ℕ) → items ≡ cond (is_ok r) a b → is_err r ≡ false → items ≡ a
no_error (Ok x) a b items e h = e
no_error (Err x) a b items e h = absurd cc

pub returns : goal.returns
returns c before none =
    let table = c.args.self.now in
    let taken : List ℕ = c.args.taken.now in
    let cut = c.in-Some.cut in
    let done : Fed = c.in_ok-done.done in
    let old : List ℕ = c.args.said.now.items in
    let new : List ℕ = c.feed.new.out.items in
    let said : c.extend_from_slice.new.self.items ≡ old ++ c.args.startup.now
    = no_error c.extend_from_slice.result (old ++ c.args.startup.now) old c.extend_from_slice.new.self.items c.extend_from_slice.ensures.items (sym c.is_err.ensures.value ∙ c.if-is_err.false) in
    let h : IsFed table c.new.result (drop cut taken) c.extend_from_slice.new.self.items new done
    = subst (λ (x : List ℕ). IsFed table c.new.result x c.extend_from_slice.new.self.items new done) (rest_is taken cut) c.in_ok-done.ensures in
    began (service_of table) 0 c.args.startup.now before taken old new cut done.cut (serving_of c.new.result) (serving_of done.at) none c.in-Some.ensures.0 c.in-Some.ensures.1 c.new.ensures
    (subst (λ (o : List ℕ). IsFed table c.new.result (drop cut taken) o new done) said h)
