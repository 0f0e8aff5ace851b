use Rattle.std.proofs.Common.{ap, ◌∙◌, subst, Bool, List, ℕ}
use Rattle.pg_machine.specs.Requests.{is_execute}
use Rattle.pg_machine.specs.Tags.{sounds}
use Rattle.pg_machine.specs.Machines.{tagged_as}
use Rattle.pg_machine.proofs.ReplyLaws.{AreTagsOf, reply-sounds}
use Rattle.pg_machine.proofs.machine.keeps_rules.Goals as goal

pub returns : goal.returns
returns c =
    let t = c.tags_of-tags.result in
    let e = c.tags_of-tags.ensures in
    let row = c.args.row.now in
    let are : AreTagsOf row.reply t
    = subst (λ (reply : List ℕ). AreTagsOf reply t) c.as_slice-reply.ensures
    (record { bytes = e.bytes; whole = e.whole; ready = e.ready; error = e.error; copy_in = e.copy_in; ends = e.ends }) in
    c.may_answer.ensures
    ∙ ap (λ (b : Bool). sounds t b row.opens) (c.executes.ensures ∙ ap (λ (f : List ℕ). is_execute (tagged_as f)) c.as_slice.ensures)
    ∙ reply-sounds (tagged_as row.frame) row.reply row.opens t are
