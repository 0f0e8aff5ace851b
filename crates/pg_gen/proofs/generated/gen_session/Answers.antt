use Rattle.std.proofs.Common.{◌≡◌, List, true, sym, subst, ◌∙◌}
use Rattle.pg_text.specs.Scripts.{AreShort, are_typed}
use Rattle.pg_text.specs.declared.command.Command.{Command}
use Rattle.pg_gen.proofs.SessionLaws.{refused_never, short_from, typed_from}
use Rattle.pg_gen.proofs.generated.gen_session.Goals as goal

pub new-requires-2-clause-short : goal.new-requires-2-clause-short
new-requires-2-clause-short c =
    subst (λ (scripts : List (List Command)). AreShort scripts) (sym c.new.ensures)
    (short_from c.args.n c.in_ok-new_scripts.field-0.items c.requires.most c.in_ok-new_scripts.ensures.scripts)

pub new-requires-2-clause-typed : goal.new-requires-2-clause-typed
new-requires-2-clause-typed c =
    subst (λ (scripts : List (List Command)). are_typed scripts ≡ true) (sym c.new.ensures)
    (typed_from c.args.n c.in_ok-new_scripts.field-0.items c.in_ok-new_scripts.ensures.scripts)

pub unreachable-requires : goal.unreachable-requires
unreachable-requires c = absurd (refused_never c.args.n c.new.result (c.new.ensures ∙ c.in_ok-new_scripts.ensures.scripts) c.in-Err.ensures.refused.0)
