use Rattle.std.proofs.Common.{◌++◌, refl, ap, ◌∙◌, take, rules}
use Rattle.pg_connect.proofs.Joining.{keeps_same, untouched_same}
use Rattle.pg_startup.proofs.Getting.{gets-end, gets-none, gets-piece}
use Rattle.pg_startup.proofs.transfer.Transfer.read_over.Goals as goal

pub returns-then-is_err-clause-gets : goal.returns-then-is_err-clause-gets
returns-then-is_err-clause-gets g c =
    let l = g.L.Link.view c.args.link.now in
    gets-none c.args.self.now c.reserve.new.self l l _ _ c.reserve.ensures.items (untouched_same l) (record { flushed = refl; shut = refl }) (keeps_same l) refl

pub returns-then-self-clause-gets : goal.returns-then-self-clause-gets
returns-then-self-clause-gets g c =
    gets-piece c.args.self.now c.take_in.new.self (g.L.Link.view c.args.link.now) (g.L.Link.view c.read.new.self) c.read.new.out c.in-Got.n _ _
    c.in-Got.ensures.answer.0 (search rules) c.in-Got.ensures.keeps (c.take_in.ensures.buffer ∙ ap (λ x. x ++ take c.in-Got.n c.read.new.out) c.reserve.ensures.items) c.take_in.ensures.same refl

pub returns-else-self-clause-gets : goal.returns-else-self-clause-gets
returns-else-self-clause-gets g c =
    gets-piece c.args.self.now c.take_in.new.self (g.L.Link.view c.args.link.now) (g.L.Link.view c.read.new.self) c.read.new.out c.in-Got.n _ _
    c.in-Got.ensures.answer.0 (search rules) c.in-Got.ensures.keeps (c.take_in.ensures.buffer ∙ ap (λ x. x ++ take c.in-Got.n c.read.new.out) c.reserve.ensures.items) c.take_in.ensures.same refl

pub returns-in-NotReady-clause-gets : goal.returns-in-NotReady-clause-gets
returns-in-NotReady-clause-gets g c =
    gets-none c.args.self.now c.reserve.new.self (g.L.Link.view c.args.link.now) (g.L.Link.view c.read.new.self) _ _ c.reserve.ensures.items
    (record { bytes = c.in-NotReady.ensures.answer.0.bytes; promised = c.in-NotReady.ensures.promise.kept refl }) c.in-NotReady.ensures.answer.0.writing c.in-NotReady.ensures.keeps refl

pub returns-then-is_empty-clause-gets : goal.returns-then-is_empty-clause-gets
returns-then-is_empty-clause-gets g c =
    gets-end c.args.self.now c.reserve.new.self (g.L.Link.view c.args.link.now) (g.L.Link.view c.read.new.self) _ _ c.reserve.ensures.items
    c.in-End.ensures.answer.2.bytes c.in-End.ensures.answer.2.writing c.in-End.ensures.keeps refl

pub returns-else-is_empty-clause-gets : goal.returns-else-is_empty-clause-gets
returns-else-is_empty-clause-gets g c =
    gets-end c.args.self.now c.reserve.new.self (g.L.Link.view c.args.link.now) (g.L.Link.view c.read.new.self) _ _ c.reserve.ensures.items
    c.in-End.ensures.answer.2.bytes c.in-End.ensures.answer.2.writing c.in-End.ensures.keeps refl

pub returns-in-Failed-clause-gets : goal.returns-in-Failed-clause-gets
returns-in-Failed-clause-gets g c =
    gets-none c.args.self.now c.reserve.new.self (g.L.Link.view c.args.link.now) (g.L.Link.view c.read.new.self) _ _ c.reserve.ensures.items
    (record { bytes = c.in-Failed.ensures.answer.bytes; promised = c.in-Failed.ensures.promise.kept refl }) c.in-Failed.ensures.answer.writing c.in-Failed.ensures.keeps refl
