use Rattle.std.proofs.Common.{refl, sym}
use Rattle.pg_text.proofs.DraftLaws.{pushed_last}
use Rattle.pg_text.proofs.parse.push_last.Goals as goal

pub returns-in_ok-stands-in-Some : goal.returns-in_ok-stands-in-Some
returns-in_ok-stands-in-Some c =
    let list = c.args.scripts.now in
    let made = c.in_ok-stands-in-Some.ensures in
    record {
      last = pushed_last c.args.command list.items c.in-Some.script.now c.push_command.new.script list.len c.in_ok-stands-in-Some.stands (c.in-Some.ensures.variant.0 refl) (sym list.ok.0) c.in-Some.ensures.value made.0 made.1;
    }
