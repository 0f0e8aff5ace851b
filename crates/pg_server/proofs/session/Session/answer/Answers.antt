use Rattle.std.proofs.Common.{ℕ, refl, sym, ap, ◌∙◌}
use Rattle.pg_machine.specs.declared.serving.Kind.{Kind}
use Rattle.pg_machine.specs.Serving.{turn, kind_by_tag}
use Rattle.pg_server.specs.Answers.{sounds}
use Rattle.pg_server.specs.Frames.{frame_view}
use Rattle.pg_server.specs.Standings.{standing_of}
use Rattle.pg_server.proofs.AnswerLaws.{Seen, seen_of, answered-none, answered-some, answered-never}
use Rattle.pg_server.proofs.session.Session.answer.Goals as goal

pub returns-then-not-asks : goal.returns-then-not-asks
returns-then-not-asks g c raw tag read =
    answered-none g.H.Handler.step (standing_of g.H.Handler.state c.args.self.now) raw (frame_view c.args.frame.now) c.turn_of-turn.result
    c.new-then-not-asks.result c.says_ready-ready.result c.mode_kept-self.result
    (c.turn_of-turn.ensures ∙ ap (λ (k : Kind). turn c.args.self.now.mode k) (c.kind_of.ensures ∙ ap kind_by_tag (sym tag)))
    (sym c.asks.ensures ∙ c.if-not-asks.true) (c.new-then-not-asks.ensures ∙ c.new.ensures.items) c.says_ready-ready.ensures c.mode_kept-self.ensures

pub returns-then-not-is_sound : goal.returns-then-not-is_sound
returns-then-not-is_sound g c raw tag read =
    let seen : Seen c.in-Ok.effect c.tags_of-tags.result = seen_of c.in-Ok.effect c.tags_of-tags.result c.as_slice.result.now c.as_slice.ensures c.tags_of-tags.ensures.bytes
    c.tags_of-tags.ensures.whole c.tags_of-tags.ensures.ready c.tags_of-tags.ensures.error c.tags_of-tags.ensures.copy_in c.tags_of-tags.ensures.ends c.tags_of-tags.ensures.again in (
      refl,
      answered-never g.H.Handler.step (standing_of g.H.Handler.state c.args.self.now) raw (frame_view c.args.frame.now) c.turn_of-turn.result
          c.in-Ok.effect (g.H.Handler.state c.answer.new.self) c.tags_of-tags.result
          (c.turn_of-turn.ensures ∙ ap (λ (k : Kind). turn c.args.self.now.mode k) (c.kind_of.ensures ∙ ap kind_by_tag (sym tag)))
          (sym c.asks.ensures ∙ c.if-not-asks.false) c.in-Ok.ensures seen.are seen.again
          (ap (λ (t : ℕ). sounds c.tags_of-tags.result t c.in-Ok.effect.opens) tag ∙ sym c.is_sound.ensures ∙ c.if-not-is_sound.true),
      refl,
    )

pub returns : goal.returns
returns g c raw tag read =
    let seen : Seen c.in-Ok.effect c.tags_of-tags.result = seen_of c.in-Ok.effect c.tags_of-tags.result c.as_slice.result.now c.as_slice.ensures c.tags_of-tags.ensures.bytes
    c.tags_of-tags.ensures.whole c.tags_of-tags.ensures.ready c.tags_of-tags.ensures.error c.tags_of-tags.ensures.copy_in c.tags_of-tags.ensures.ends c.tags_of-tags.ensures.again in
    answered-some g.H.Handler.step (standing_of g.H.Handler.state c.args.self.now) raw (frame_view c.args.frame.now) c.turn_of-turn.result
    c.in-Ok.effect (g.H.Handler.state c.answer.new.self) c.tags_of-tags.result c.says_ready-ready.result c.mode_behind-self.result read
    (c.turn_of-turn.ensures ∙ ap (λ (k : Kind). turn c.args.self.now.mode k) (c.kind_of.ensures ∙ ap kind_by_tag (sym tag)))
    (sym c.asks.ensures ∙ c.if-not-asks.false) c.in-Ok.ensures seen.are seen.again
    (ap (λ (t : ℕ). sounds c.tags_of-tags.result t c.in-Ok.effect.opens) tag ∙ sym c.is_sound.ensures ∙ c.if-not-is_sound.false)
    c.says_ready-ready.ensures c.mode_behind-self.ensures
