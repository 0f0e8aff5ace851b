use Rattle.std.proofs.Common.{◌++◌, inr, ◌≡◌, ℕ, [], List, map, refl, ap, subst, ◌∙◌, arith, Bool, true, false, Ok, Err}
use Rattle.pg_wire.specs.declared.body.ErrorResponseBody.{ErrorResponseBody}
use Rattle.pg_connect.specs.Passes.{delayed_in, notice_of}
use Rattle.pg_connect.specs.declared.streams.Streams.{Streams}
use Rattle.pg_spec.specs.Links.{LinkView}
use Rattle.pg_desk.specs.declared.event.Event.{Event}
use Rattle.pg_connect.specs.declared.fault.ConnectionFault.{ConnectionFault}
use Rattle.pg_connect.specs.declared.fault.ConnectionFault.TheVariants as fault
use Rattle.pg_connect.specs.declared.ends.Step.TheVariants as step
use Rattle.pg_connect.specs.declared.ends.ReadEnd.{ReadEnd}
use Rattle.pg_connect.specs.declared.ends.ReadEnd.TheVariants as ending
use Rattle.pg_spec.specs.RawMessages.{RawMessage, messages}
use Rattle.pg_connect.proofs.Joining.{none_lost}
use Rattle.pg_connect.specs.Reads.{AllEnds, PieceEnds, HandedAll, HandedBy, ReadEnds, ReadStops, TakesIn}
use Rattle.pg_connect.proofs.Calm.{calm_same, calm_then}
use Rattle.pg_connect.proofs.Clearing.{cleared_by}
use Rattle.pg_connect.proofs.Pacing.{paced-start, paced-all, paced-piece, paced-last, paced-hands}
use Rattle.pg_connect.proofs.Passing.{idle, idle_goes, any_link, given_of, given_same, full_behind, all_refused, piece_refused, settled, dry_later, decoded_same, untouched_first, ends_later}
use Rattle.pg_connect.proofs.Within.{within-any}
use Rattle.pg_connect.proofs.streams.Streams.read_link.Goals as goal

pub pieces-init : goal.pieces-init
pieces-init g c =
    let v = g.L.Link.view c.args.link.now in
    record {
      goes = paced-start _ _ (g.met.E.Desk.stays c.args.hub.now) c.args.self.now v c.requires.unread;
      only = record { taken = refl; closing = refl; shut = refl };
      at_end = refl;
      held = c.requires.held;
      delayed = c.requires.delayed;
      unread = c.requires.unread;
      limit = refl;
      given = c.requires.given;
      calm = calm_same v;
      quiet = refl;
    }

pub read_piece-requires-clause-limit : goal.read_piece-requires-clause-limit
read_piece-requires-clause-limit g c =
    let i = idle _ _ _ c.pieces.self c.pass_all.new.self c.in-Ok-Nothing.field-0 c.in-Ok-Nothing.field-0-is (c.in-Ok-Nothing.ensures.goes any_link) in
    omega (arith, i.limit, c.pieces.invariant.limit, c.requires.limit)

pub read_piece-requires-clause-given : goal.read_piece-requires-clause-given
read_piece-requires-clause-given g c =
    let i = idle _ _ _ c.pieces.self c.pass_all.new.self c.in-Ok-Nothing.field-0 c.in-Ok-Nothing.field-0-is (c.in-Ok-Nothing.ensures.goes any_link) in
    omega (arith, i.limit, i.given, c.pieces.invariant.given)

-- no notice is delayed, by the notices
none_late : (s : Streams) → s.delayed.items ≡ [] → delayed_in s ≡ []
none_late s none = ap (λ (x : List ErrorResponseBody). map notice_of x) none

-- passing on never meets the limit
all_stops : (s t start : Streams) (e : ConnectionFault) (es : List Event) (got piece : List ℕ) → AllEnds s t (Err e) es → ReadStops start t (Err e) got piece
all_stops s t start (fault.LimitReached given most) es got piece is = absurd is
all_stops s t start _ es got piece is = tt

-- past the limit all of the piece lies there
past_limit : (s t : Streams) (l m : LinkView) (start : Streams) (e : ConnectionFault) (got : List ℕ) (took : TakesIn s t l m) → ReadStops start t (Err e) got took.passes.got
past_limit s t l m start (fault.LimitReached given most) got took = (s.buffer.items, took.buffer)
past_limit s t l m start _ got took = tt

pub returns-in-Ok-Full-clause-goes : goal.returns-in-Ok-Full-clause-goes
returns-in-Ok-Full-clause-goes g c =
    let a = g.L.Link.view c.args.link.now in
    let v = g.L.Link.view c.pieces.link in
    let s = c.pieces.self in
    let t = c.pass_all.new.self in
    let w = c.in-Ok-Full in
    paced-hands _ g.met.E.Desk.joins _ _ _ c.args.self.now s t a v (HandedAll (Ok step.Full)) (HandedBy (Ok ending.Full)) (AllEnds s t (Ok step.Full)) (ReadEnds t a v (Ok ending.Full)) (ReadStops c.args.self.now t (Ok ending.Full))
    c.pieces.invariant.goes (settled _ _ _ s t v v step.Full w.field-0 w.field-0-is (w.ensures.goes v)) (given_of _ _ _ s t _ _ (w.ensures.goes any_link)) (λ handed is. is)
    (λ es fs was. (full_behind t es fs was, none_late t w.ensures.delayed)) (λ was. tt)

pub returns-in-Ok-Handed-clause-goes : goal.returns-in-Ok-Handed-clause-goes
returns-in-Ok-Handed-clause-goes g c =
    let a = g.L.Link.view c.args.link.now in
    let v = g.L.Link.view c.pieces.link in
    let s = c.pieces.self in
    let t = c.pass_all.new.self in
    let w = c.in-Ok-Handed in
    paced-hands _ g.met.E.Desk.joins _ _ _ c.args.self.now s t a v (HandedAll (Ok (step.Handed w.message))) (HandedBy (Ok (ending.Handed w.message)))
    (AllEnds s t (Ok (step.Handed w.message))) (ReadEnds t a v (Ok (ending.Handed w.message))) (ReadStops c.args.self.now t (Ok (ending.Handed w.message)))
    c.pieces.invariant.goes (settled _ _ _ s t v v (step.Handed w.message) w.field-0 w.field-0-is (w.ensures.goes v)) (given_of _ _ _ s t _ _ (w.ensures.goes any_link)) (λ handed is. is)
    (λ es fs was. tt)
    (λ was.
    let p = c.pieces.invariant.goes.goes.passes in
    inr (ends_later (c.args.self.now.buffer.items ++ p.got) s.buffer.items t.buffer.items p.read w.message
    (p.came_off ∙ ap (λ (x : List RawMessage). p.read ++ (x ++ messages s.buffer.items)) (none_lost s.unread p.lost c.pieces.invariant.unread p.unread)) was))

pub returns-in-Err-clause-goes : goal.returns-in-Err-clause-goes
returns-in-Err-clause-goes g c =
    let a = g.L.Link.view c.args.link.now in
    let v = g.L.Link.view c.pieces.link in
    let s = c.pieces.self in
    let t = c.pass_all.new.self in
    let e = c.in-Err.e in
    paced-hands _ g.met.E.Desk.joins _ _ _ c.args.self.now s t a v (HandedAll (Err e)) (HandedBy (Err e)) (AllEnds s t (Err e)) (ReadEnds t a v (Err e)) (ReadStops c.args.self.now t (Err e))
    c.pieces.invariant.goes (c.in-Err.ensures.goes v) (given_of _ _ _ s t _ _ (c.in-Err.ensures.goes any_link)) (λ handed is. is) (λ es fs was. all_refused s t a v e es fs (none_late t c.in-Err.ensures.delayed) was)
    (λ was. all_stops s t c.args.self.now e (c.in-Err.ensures.goes v).goes.events c.pieces.invariant.goes.goes.passes.got c.pieces.invariant.goes.paced.piece was)

pub pieces-smaller : goal.pieces-smaller
pieces-smaller g c =
    let t = c.pass_all.new.self in
    let u = c.read_piece.new.self in
    let i = idle _ _ _ c.pieces.self t c.in-Ok-Nothing.field-0 c.in-Ok-Nothing.field-0-is (c.in-Ok-Nothing.ensures.goes any_link) in
    let end : PieceEnds t u (g.L.Link.view c.pieces.link) (g.L.Link.view c.read_piece.new.link) (Ok true) =
    subst (λ (b : Bool). PieceEnds t u (g.L.Link.view c.pieces.link) (g.L.Link.view c.read_piece.new.link) (Ok b)) c.in-Ok-true.field-0-test c.in-Ok-true.ensures.end in
    omega (arith, end.0, end.1, i.given, i.limit, c.in-Ok-true.ensures.takes.passes.limit, c.pieces.invariant.given)

pub pieces-preserved : goal.pieces-preserved
pieces-preserved g c =
    let a = g.L.Link.view c.args.link.now in
    let v = g.L.Link.view c.pieces.link in
    let w = g.L.Link.view c.read_piece.new.link in
    let s = c.pieces.self in
    let t = c.pass_all.new.self in
    let u = c.read_piece.new.self in
    let all = c.in-Ok-Nothing in
    let i = idle _ _ _ s t all.field-0 all.field-0-is (all.ensures.goes any_link) in
    let end : PieceEnds t u v w (Ok true) = subst (λ (b : Bool). PieceEnds t u v w (Ok b)) c.in-Ok-true.field-0-test c.in-Ok-true.ensures.end in
    let so_far = paced-all g.E.Desk.becomes g.met.E.Desk.joins c.args.hub.now c.pieces.hub c.pass_all.new.hub c.args.self.now s t a v c.pieces.invariant.goes (idle_goes _ _ _ s t v v all.field-0 all.field-0-is (all.ensures.goes v)) i.given in
    record {
      goes = paced-piece _ g.met.E.Desk.joins g.met.E.Desk.stays _ _ c.args.self.now t u a v w so_far c.in-Ok-true.ensures.takes
          (record {
            decoded = i.decoded;
            held = i.held;
            unread = all.ensures.unread;
            early = none_late c.args.self.now c.requires.delayed;
            late = none_late t all.ensures.delayed;
            within = omega (arith, i.limit, i.given, c.pieces.invariant.given);
          }) c.in-Ok-true.ensures.piece;
      only = record {
        taken = c.in-Ok-true.ensures.only.taken ∙ c.pieces.invariant.only.taken;
        closing = c.in-Ok-true.ensures.only.closing ∙ all.ensures.closing ∙ c.pieces.invariant.only.closing;
        shut = c.in-Ok-true.ensures.only.shut ∙ c.pieces.invariant.only.shut;
      };
      at_end = c.in-Ok-true.ensures.at_end ∙ all.ensures.at_end ∙ c.pieces.invariant.at_end;
      held = c.in-Ok-true.ensures.held ∙ i.held;
      delayed = c.in-Ok-true.ensures.delayed ∙ all.ensures.delayed;
      unread = c.in-Ok-true.ensures.unread;
      limit = c.in-Ok-true.ensures.takes.passes.limit ∙ i.limit ∙ c.pieces.invariant.limit;
      given = end.1;
      calm = calm_then a v w c.pieces.invariant.calm c.in-Ok-true.ensures.no_lull;
      quiet = c.in-Ok-true.ensures.ready (ap Ok c.in-Ok-true.field-0-test) ∙ c.pieces.invariant.quiet;
    }

pub returns-in-Ok-false-clause-goes : goal.returns-in-Ok-false-clause-goes
returns-in-Ok-false-clause-goes g c =
    let a = g.L.Link.view c.args.link.now in
    let v = g.L.Link.view c.pieces.link in
    let w = g.L.Link.view c.read_piece.new.link in
    let s = c.pieces.self in
    let t = c.pass_all.new.self in
    let u = c.read_piece.new.self in
    let all = c.in-Ok-Nothing in
    let i = idle _ _ _ s t all.field-0 all.field-0-is (all.ensures.goes any_link) in
    let end : PieceEnds t u v w (Ok false) = subst (λ (b : Bool). PieceEnds t u v w (Ok b)) c.in-Ok-false.field-0-test c.in-Ok-false.ensures.end in
    let so_far = paced-all g.E.Desk.becomes g.met.E.Desk.joins c.args.hub.now c.pieces.hub c.pass_all.new.hub c.args.self.now s t a v c.pieces.invariant.goes (idle_goes _ _ _ s t v v all.field-0 all.field-0-is (all.ensures.goes v)) i.given in
    paced-last _ g.met.E.Desk.joins g.met.E.Desk.stays _ _ c.args.self.now t u a v w (HandedBy (Ok ending.Dry)) (ReadEnds u a w (Ok ending.Dry)) (ReadStops c.args.self.now u (Ok ending.Dry)) so_far c.in-Ok-false.ensures.takes
    (record {
      decoded = i.decoded;
      held = i.held;
      unread = all.ensures.unread;
      early = none_late c.args.self.now c.requires.delayed;
      late = none_late t all.ensures.delayed;
      within = omega (arith, i.limit, i.given, c.pieces.invariant.given);
    }) c.in-Ok-false.ensures.piece refl
    (λ es. (
      dry_later u.moved a v w c.pieces.invariant.goes.goes.passes.link
          (untouched_first c.args.self.now t u a v w so_far.goes.events [] [] [] so_far.goes.passes c.in-Ok-false.ensures.takes.passes) end.0,
      decoded_same t u end.1 i.decoded,
      cleared_by u (c.in-Ok-false.ensures.held ∙ i.held) (c.in-Ok-false.ensures.delayed ∙ all.ensures.delayed) c.in-Ok-false.ensures.unread,
    )) (λ got. tt)

pub returns-in-Err-read_piece-clause-goes : goal.returns-in-Err-read_piece-clause-goes
returns-in-Err-read_piece-clause-goes g c =
    let a = g.L.Link.view c.args.link.now in
    let v = g.L.Link.view c.pieces.link in
    let w = g.L.Link.view c.read_piece.new.link in
    let s = c.pieces.self in
    let t = c.pass_all.new.self in
    let u = c.read_piece.new.self in
    let e = c.in-Err-read_piece.e in
    let all = c.in-Ok-Nothing in
    let i = idle _ _ _ s t all.field-0 all.field-0-is (all.ensures.goes any_link) in
    let so_far = paced-all g.E.Desk.becomes g.met.E.Desk.joins c.args.hub.now c.pieces.hub c.pass_all.new.hub c.args.self.now s t a v c.pieces.invariant.goes (idle_goes _ _ _ s t v v all.field-0 all.field-0-is (all.ensures.goes v)) i.given in
    paced-last _ g.met.E.Desk.joins g.met.E.Desk.stays _ _ c.args.self.now t u a v w (HandedBy (Err e)) (ReadEnds u a w (Err e)) (ReadStops c.args.self.now u (Err e)) so_far c.in-Err-read_piece.ensures.takes
    (record {
      decoded = i.decoded;
      held = i.held;
      unread = all.ensures.unread;
      early = none_late c.args.self.now c.requires.delayed;
      late = none_late t all.ensures.delayed;
      within = omega (arith, i.limit, i.given, c.pieces.invariant.given);
    }) c.in-Err-read_piece.ensures.piece refl
    (λ es. piece_refused t u a v w e es c.pieces.invariant.goes.goes.passes.link i.decoded (c.in-Err-read_piece.ensures.held ∙ i.held)
    (none_late u (c.in-Err-read_piece.ensures.delayed ∙ all.ensures.delayed)) c.in-Err-read_piece.ensures.unread c.in-Err-read_piece.ensures.end)
    (λ got. past_limit t u v w c.args.self.now e got c.in-Err-read_piece.ensures.takes)

pub returns-in-Ok-Full-clause-within : goal.returns-in-Ok-Full-clause-within
returns-in-Ok-Full-clause-within g c =
    let hands = c.in-Ok-Full.ensures.goes any_link in
    omega (arith, hands.goes.passes.limit, given_same c.pieces.self c.pass_all.new.self hands.goes.events hands.handed hands.goes.passes, c.pieces.invariant.given)

pub returns-in-Ok-Handed-clause-within : goal.returns-in-Ok-Handed-clause-within
returns-in-Ok-Handed-clause-within g c =
    let hands = c.in-Ok-Handed.ensures.goes any_link in
    omega (arith, hands.goes.passes.limit, given_same c.pieces.self c.pass_all.new.self hands.goes.events hands.handed hands.goes.passes, c.pieces.invariant.given)

pub returns-in-Ok-false-clause-within : goal.returns-in-Ok-false-clause-within
returns-in-Ok-false-clause-within g c =
    let v = g.L.Link.view c.pieces.link in
    let w = g.L.Link.view c.read_piece.new.link in
    let t = c.pass_all.new.self in
    let u = c.read_piece.new.self in
    let i = idle _ _ _ c.pieces.self t c.in-Ok-Nothing.field-0 c.in-Ok-Nothing.field-0-is (c.in-Ok-Nothing.ensures.goes any_link) in
    let end : PieceEnds t u v w (Ok false) = subst (λ (b : Bool). PieceEnds t u v w (Ok b)) c.in-Ok-false.field-0-test c.in-Ok-false.ensures.end in
    omega (arith, end.2, i.given, i.limit, c.in-Ok-false.ensures.takes.passes.limit, c.pieces.invariant.given)

pub returns-in-Err-clause-within : goal.returns-in-Err-clause-within
returns-in-Err-clause-within g c =
    let t = c.pass_all.new.self in
    let hands = c.in-Err.ensures.goes any_link in
    within-any {A = ReadEnd} t (Err c.in-Err.e)
    (omega (arith, hands.goes.passes.limit, given_same c.pieces.self t hands.goes.events hands.handed hands.goes.passes, c.pieces.invariant.given))
