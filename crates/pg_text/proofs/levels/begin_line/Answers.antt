use Rattle.std.proofs.Common.{sym, ◌∙◌}
use Rattle.pg_text.proofs.LevelLaws.{modes_refused, modes_taken}
use Rattle.pg_text.proofs.LineLaws.{begin_none, begin_some}
use Rattle.pg_text.proofs.levels.begin_line.Goals as goal

pub returns-then-is_done-clause-line : goal.returns-then-is_done-clause-line
returns-then-is_done-clause-line c =
    let level = c.next_level-isolation_level in
    let access = c.next_access-read_only in
    let deferral = c.next_deferral-deferrable in
    begin_some c.args.words.now _
    (modes_taken c.args.words.now level.new.words access.new.words deferral.new.words (record { isolation_level = level.result; read_only = access.result; deferrable = deferral.result })
    level.ensures access.ensures deferral.ensures (sym c.is_done.ensures ∙ c.if-is_done.true))

pub returns-else-is_done-clause-line : goal.returns-else-is_done-clause-line
returns-else-is_done-clause-line c =
    let level = c.next_level-isolation_level in
    let access = c.next_access-read_only in
    let deferral = c.next_deferral-deferrable in
    begin_none c.args.words.now
    (modes_refused c.args.words.now level.new.words access.new.words deferral.new.words level.result access.result deferral.result
    level.ensures access.ensures deferral.ensures (sym c.is_done.ensures ∙ c.if-is_done.false))
