use Rattle.std.proofs.Common.{ℕ, List, subst, sym}
use Rattle.pg_text.specs.SessionText.{IsTypeName}
use Rattle.pg_text.specs.Words.{TookAll}
use Rattle.pg_text.proofs.LineLaws.{all_refused, one_more}
use Rattle.pg_text.proofs.TypeNames.{type_name_ends}
use Rattle.pg_text.proofs.line.all_types.Goals as goal

pub returns-in-None : goal.returns-in-None
returns-in-None c =
    all_refused IsTypeName type_name_ends c.loop-words.types.items c.args.words.now c.loop-words.words c.type_name.new.self c.loop-words.invariant (sym c.loop-words-test.ensures) c.in-None.ensures

pub loop-words-preserved : goal.loop-words-preserved
loop-words-preserved c =
    subst (λ (items : List ℕ). TookAll IsTypeName items c.args.words.now c.type_name.new.self) (sym c.in_ok-push-in-Some.ensures.items)
    (one_more IsTypeName c.loop-words.types.items c.in-Some.oid c.args.words.now c.loop-words.words c.type_name.new.self c.loop-words.invariant c.in-Some.ensures)
