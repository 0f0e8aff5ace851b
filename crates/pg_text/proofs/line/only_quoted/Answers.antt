use Rattle.std.proofs.Common.{◌∙◌, Some, sym}
use Rattle.pg_spec.specs.SessionText.{IsQuoted}
use Rattle.pg_text.proofs.WordLaws.{quoted_ends}
use Rattle.pg_text.proofs.LineLaws.{no_one, not_one}
use Rattle.pg_text.proofs.line.only_quoted.Goals as goal

pub returns-else-is_done : goal.returns-else-is_done
returns-else-is_done c =
    let taken = rw c.in-Some.is at c.in_ok-bytes.ensures in
    not_one IsQuoted quoted_ends c.args.words.now c.text.new.self (Some c.in-Some.bytes.items) taken (sym c.is_done.ensures ∙ c.if-is_done.false)

pub returns-in_default : goal.returns-in_default
returns-in_default c = no_one IsQuoted c.args.words.now c.text.new.self (rw c.in_default.is at c.in_ok-bytes.ensures)
