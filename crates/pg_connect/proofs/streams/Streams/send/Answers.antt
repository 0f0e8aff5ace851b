use Rattle.std.proofs.Common.{refl, ◌∙◌, Ok, Err}
use Rattle.pg_connect.specs.declared.ends.FlushEnd.TheVariants as flush
use Rattle.pg_connect.specs.declared.ends.SendEnd.TheVariants as sending
use Rattle.pg_connect.proofs.Rounds.{flushed, flush_blocked, flush_done, flush_over, flush_error, flush_shuts}
use Rattle.pg_connect.proofs.streams.Streams.send.Goals as goal

pub returns-in-Ok-Blocked-flush_step-clause-goes : goal.returns-in-Ok-Blocked-flush_step-clause-goes
returns-in-Ok-Blocked-flush_step-clause-goes g c =
    let t = c.write_step.new.self in
    let l = g.L.Link.view c.args.link.now in
    let m = g.L.Link.view c.write_step.new.link in
    let n = g.L.Link.view c.flush_step.new.link in
    let all = c.in-Ok-AllTaken in
    let w = c.in-Ok-Blocked-flush_step in
    flushed _ _ _ c.args.self.now t l m n c.args.may_close all.field-0 (Ok sending.Waits) (all.ensures.only.unread ∙ c.requires) all.field-0-is all.ensures.goes w.ensures.untouched w.ensures.keeps
    (flush_shuts l m n flush.Blocked w.field-0 (Ok sending.Waits) w.field-0-is all.ensures.shut refl w.ensures.shut)
    (λ es keeps still was. flush_blocked t l m n t.closing w.field-0 es w.field-0-is w.ensures.end keeps still)

pub returns-in-Ok-Flushed-clause-goes : goal.returns-in-Ok-Flushed-clause-goes
returns-in-Ok-Flushed-clause-goes g c =
    let t = c.write_step.new.self in
    let l = g.L.Link.view c.args.link.now in
    let m = g.L.Link.view c.write_step.new.link in
    let n = g.L.Link.view c.flush_step.new.link in
    let all = c.in-Ok-AllTaken in
    let w = c.in-Ok-Flushed in
    flushed _ _ _ c.args.self.now t l m n c.args.may_close all.field-0 (Ok sending.Waits) (all.ensures.only.unread ∙ c.requires) all.field-0-is all.ensures.goes w.ensures.untouched w.ensures.keeps
    (flush_shuts l m n flush.Flushed w.field-0 (Ok sending.Waits) w.field-0-is all.ensures.shut refl w.ensures.shut)
    (λ es keeps still was. flush_done t l m n w.field-0 es w.field-0-is w.ensures.end all.ensures.shut was)

pub returns-in-Ok-ShutDown-clause-goes : goal.returns-in-Ok-ShutDown-clause-goes
returns-in-Ok-ShutDown-clause-goes g c =
    let t = c.write_step.new.self in
    let l = g.L.Link.view c.args.link.now in
    let m = g.L.Link.view c.write_step.new.link in
    let n = g.L.Link.view c.flush_step.new.link in
    let all = c.in-Ok-AllTaken in
    let w = c.in-Ok-ShutDown in
    flushed _ _ _ c.args.self.now t l m n c.args.may_close all.field-0 (Ok sending.Over) (all.ensures.only.unread ∙ c.requires) all.field-0-is all.ensures.goes w.ensures.untouched w.ensures.keeps
    (flush_shuts l m n flush.ShutDown w.field-0 (Ok sending.Over) w.field-0-is all.ensures.shut refl w.ensures.shut)
    (λ es keeps still was. flush_over t l m n w.field-0 es w.field-0-is w.ensures.end all.ensures.shut was)

pub returns-in-Err-flush_step-clause-goes : goal.returns-in-Err-flush_step-clause-goes
returns-in-Err-flush_step-clause-goes g c =
    let t = c.write_step.new.self in
    let l = g.L.Link.view c.args.link.now in
    let m = g.L.Link.view c.write_step.new.link in
    let n = g.L.Link.view c.flush_step.new.link in
    let all = c.in-Ok-AllTaken in
    let w = c.in-Err-flush_step in
    flushed _ _ _ c.args.self.now t l m n c.args.may_close all.field-0 (Err w.e) (all.ensures.only.unread ∙ c.requires) all.field-0-is all.ensures.goes w.ensures.untouched w.ensures.keeps (w.ensures.shut ∙ all.ensures.shut)
    (λ es keeps still was. flush_error t t.closing l m n w.e es keeps w.ensures.end)
