use Rattle.std.proofs.Common.{◌≡◌, ◌∙◌, sym, Some}
use Rattle.std.proofs.lemmas.List.{take_rest}
use Rattle.pg_text.proofs.WordLaws.{text_none, text_runs_on, text_taken}
use Rattle.pg_text.proofs.word.Words.text.Goals as goal

pub returns-then-step_to : goal.returns-then-step_to
returns-then-step_to c =
    let is : c.args.self.now ≡ Some c.in-Some.rest.now = cc in
    let read = rw c.in-Some-2.is at c.in_ok-quoted.ensures in
    text_taken c.args.self.now c.step_to.new.self c.in-Some.rest.now _ _ is read.0 (c.if-step_to.ensures ∙ take_rest c.in-Some.rest.now c.in-Some-2.quoted.used)

pub returns-else-step_to : goal.returns-else-step_to
returns-else-step_to c =
    let is : c.args.self.now ≡ Some c.in-Some.rest.now = cc in
    let read = rw c.in-Some-2.is at c.in_ok-quoted.ensures in
    text_runs_on c.args.self.now c.step_to.new.self c.in-Some.rest.now _ _ is read.0 (λ left e. c.if-step_to.ensures left (e ∙ sym (take_rest c.in-Some.rest.now c.in-Some-2.quoted.used)))

pub returns-in-None : goal.returns-in-None
returns-in-None c =
    let is : c.args.self.now ≡ Some c.in-Some.rest.now = cc in
    text_none c.args.self.now c.args.self.now c.in-Some.rest.now is (rw c.in-None.is at c.in_ok-quoted.ensures)
