use Rattle.std.proofs.Common.{◌≡◌, ℕ, List, Global, Vec, length, ap, ◌∙◌}
use Rattle.pg_wire.specs.Giving.{entry_of, entries_of, lists}
use Rattle.pg_wire.proofs.GivingLaws.{pass_inside, pass_rest}
use Rattle.pg_wire.proofs.giving.Giving.pass.Goals as goal

pub returns-then-n-entry_len : goal.returns-then-n-entry_len
returns-then-n-entry_len c =
    let len : c.entry_len.result ≡ length (entry_of (entries_of c.args.self.now) c.args.self.now.entry) =
    c.entry_len.ensures ∙ ap (λ (l : List (Vec ℕ Global)). length (entry_of (lists l) c.args.self.now.entry)) c.deref.ensures.value in
    pass_inside c.args.self.now c.args.n c.entry_len.result c.requires.place len c.if-n-entry_len.true

pub overflow_sub-self : goal.overflow_sub-self
overflow_sub-self c =
    let len : c.entry_len.result ≡ length (entry_of (entries_of c.args.self.now) c.args.self.now.entry) =
    c.entry_len.ensures ∙ ap (λ (l : List (Vec ℕ Global)). length (entry_of (lists l) c.args.self.now.entry)) c.deref.ensures.value in
    (pass_rest c.args.self.now c.args.n c.entry_len.result c.requires.place len c.if-n-eq0.false c.requires.fits c.if-n-entry_len.false).1

pub returns : goal.returns
returns c =
    let len : c.entry_len.result ≡ length (entry_of (entries_of c.args.self.now) c.args.self.now.entry) =
    c.entry_len.ensures ∙ ap (λ (l : List (Vec ℕ Global)). length (entry_of (lists l) c.args.self.now.entry)) c.deref.ensures.value in
    (pass_rest c.args.self.now c.args.n c.entry_len.result c.requires.place len c.if-n-eq0.false c.requires.fits c.if-n-entry_len.false).0
