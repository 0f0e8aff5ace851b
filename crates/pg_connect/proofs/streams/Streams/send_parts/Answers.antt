use Rattle.std.proofs.Common.{[], ◌∷◌, refl, sym, subst, ◌∙◌, ap, Bool, Ok, Err, ◌++◌}
use Rattle.pg_desk.specs.declared.event.Event.TheVariants.{NextOut}
use Rattle.pg_desk.specs.declared.event.Out.TheVariants as out
use Rattle.pg_connect.specs.declared.fault.ConnectionFault.{ConnectionFault}
use Rattle.pg_connect.specs.declared.streams.Streams.{Streams}
use Rattle.pg_connect.specs.Passes.{delayed_in}
use Rattle.pg_connect.specs.Ends.{has_none, has_no_more, OfferEnds, PartsEnds}
use Rattle.pg_connect.proofs.Calm.{calm_same, calm_then}
use Rattle.pg_connect.proofs.Parts.{Anything, answered, came_out}
use Rattle.pg_connect.proofs.Joining.{goes-also, keeps_same, blocked_later, parts_refused, parts_closed, last_of, untouched_same}
use Rattle.pg_connect.proofs.Passing.{untouched_first}
use Rattle.pg_connect.proofs.Sends.{passes_nothing}
use Rattle.pg_connect.proofs.streams.Streams.send_parts.Goals as goal

pub parts-init : goal.parts-init
parts-init g c = record {
  goes = record {
    events = [];
    calls = tt;
    became = g.met.E.Desk.stays c.args.hub.now;
    passes = passes_nothing c.args.self.now (g.L.Link.view c.args.link.now) (g.L.Link.view c.args.link.now) [] c.requires.unread (untouched_same _) (keeps_same _) refl refl refl refl;
    ended = tt;
  };
  only = record { given = refl; count = refl; buffer = refl; held = refl; delayed = refl; unread = refl; at_end = refl };
  shut = refl;
  closing = c.requires.active;
  unread = c.requires.unread;
  calm = calm_same _;
  quiet = refl;
}

pub returns-in-Ok-false-clause-goes : goal.returns-in-Ok-false-clause-goes
returns-in-Ok-false-clause-goes g c =
    let end = subst (λ (b : Bool). OfferEnds c.offer.new.self (g.L.Link.view c.parts.link) (g.L.Link.view c.offer.new.link) (Ok b)) c.in-Ok-false.field-0-test c.in-Ok-false.ensures.end in
    goes-also _ _ _ _ c.parts.self _ _ (g.L.Link.view c.parts.link) _ [] [] Anything _ c.parts.invariant.goes c.in-Ok-false.ensures.passes
    (λ es was. blocked_later _ _ _ _ c.parts.invariant.goes.passes.link
    (untouched_first c.args.self.now c.parts.self c.offer.new.self _ _ _ c.parts.invariant.goes.events [] [] [] c.parts.invariant.goes.passes c.in-Ok-false.ensures.passes) end)

pub returns-in-Err-clause-goes : goal.returns-in-Err-clause-goes
returns-in-Err-clause-goes g c =
    goes-also _ _ _ _ c.parts.self _ _ (g.L.Link.view c.parts.link) _ [] [] Anything _ c.parts.invariant.goes c.in-Err.ensures.passes
    (λ es was. parts_refused c.offer.new.self (g.L.Link.view c.args.link.now) (g.L.Link.view c.parts.link) (g.L.Link.view c.offer.new.link) c.in-Err.e es c.parts.invariant.goes.passes.link c.in-Err.ensures.end)

pub parts-preserved : goal.parts-preserved
parts-preserved g c =
    let sent = subst (λ (b : Bool). OfferEnds c.offer.new.self (g.L.Link.view c.parts.link) (g.L.Link.view c.offer.new.link) (Ok b)) c.in-Ok-true.field-0-test c.in-Ok-true.ensures.end in
    let was = c.parts.invariant in
    let only = c.in-Ok-true.ensures.only in
    let active = c.in-Ok-true.ensures.closing ∙ was.closing in
    let read = only.unread ∙ was.unread in
    let queued = c.queue_part.ensures in
    record {
      goes = came_out _ g.met.E.Desk.joins _ _ _ _ c.parts.self c.offer.new.self c.queue_part.new.self _ (g.L.Link.view c.parts.link) _ _ c.in-Ok-Part.part was.goes
          c.in-Ok-true.ensures.passes read c.in-Ok-Part.ensures.event (ap Ok c.in-Ok-Part.field-0-is) sent active queued;
      only = record {
        given = only.given ∙ was.only.given;
        count = ap (λ (x : Streams). x.given) queued ∙ only.count ∙ was.only.count;
        buffer = ap (λ (x : Streams). x.buffer.items) queued ∙ only.buffer ∙ was.only.buffer;
        held = ap (λ (x : Streams). x.held) queued ∙ only.held ∙ was.only.held;
        delayed = ap delayed_in queued ∙ only.delayed ∙ was.only.delayed;
        unread = ap (λ (x : Streams). x.unread) queued ∙ only.unread ∙ was.only.unread;
        at_end = ap (λ (x : Streams). x.at_end) queued ∙ only.at_end ∙ was.only.at_end;
      };
      shut = c.in-Ok-true.ensures.shut ∙ was.shut;
      closing = ap (λ (x : Streams). x.closing) queued ∙ active;
      unread = ap (λ (x : Streams). x.unread) queued ∙ read;
      calm = calm_then _ _ _ was.calm c.in-Ok-true.ensures.no_lull;
      quiet = c.in-Ok-true.ensures.ready (ap Ok c.in-Ok-true.field-0-test) ∙ was.quiet;
    }

pub returns-in-Ok-CopyWaits-clause-goes : goal.returns-in-Ok-CopyWaits-clause-goes
returns-in-Ok-CopyWaits-clause-goes g c =
    let sent = subst (λ (b : Bool). OfferEnds c.offer.new.self (g.L.Link.view c.parts.link) (g.L.Link.view c.offer.new.link) (Ok b)) c.in-Ok-true.field-0-test c.in-Ok-true.ensures.end in
    answered _ g.met.E.Desk.joins _ _ _ _ c.parts.self _ _ (g.L.Link.view c.parts.link) _ _ (Ok out.CopyWaits) _ c.parts.invariant.goes c.in-Ok-true.ensures.passes
    (c.in-Ok-true.ensures.only.unread ∙ c.parts.invariant.unread)
    c.in-Ok-CopyWaits.ensures.event (ap Ok c.in-Ok-CopyWaits.field-0-is) refl refl refl (λ es. (sent, last_of has_none es (NextOut (Ok out.CopyWaits)), last_of has_no_more es (NextOut (Ok out.CopyWaits))))

pub returns-in-Ok-Nothing-clause-goes : goal.returns-in-Ok-Nothing-clause-goes
returns-in-Ok-Nothing-clause-goes g c =
    let sent = subst (λ (b : Bool). OfferEnds c.offer.new.self (g.L.Link.view c.parts.link) (g.L.Link.view c.offer.new.link) (Ok b)) c.in-Ok-true.field-0-test c.in-Ok-true.ensures.end in
    answered _ g.met.E.Desk.joins _ _ _ _ c.parts.self _ _ (g.L.Link.view c.parts.link) _ _ (Ok out.Nothing) _ c.parts.invariant.goes c.in-Ok-true.ensures.passes
    (c.in-Ok-true.ensures.only.unread ∙ c.parts.invariant.unread)
    c.in-Ok-Nothing.ensures.event (ap Ok c.in-Ok-Nothing.field-0-is) refl refl refl (λ es. (sent, last_of has_none es (NextOut (Ok out.Nothing)), last_of has_no_more es (NextOut (Ok out.Nothing))))

pub returns-in-Ok-NoMore-clause-goes : goal.returns-in-Ok-NoMore-clause-goes
returns-in-Ok-NoMore-clause-goes g c =
    let sent = subst (λ (b : Bool). OfferEnds c.offer.new.self (g.L.Link.view c.parts.link) (g.L.Link.view c.offer.new.link) (Ok b)) c.in-Ok-true.field-0-test c.in-Ok-true.ensures.end in
    answered _ g.met.E.Desk.joins _ _ _ _ c.parts.self _ _ (g.L.Link.view c.parts.link) _ _ (Ok out.NoMore) _ c.parts.invariant.goes c.in-Ok-true.ensures.passes
    (c.in-Ok-true.ensures.only.unread ∙ c.parts.invariant.unread)
    c.in-Ok-NoMore.ensures.event (ap Ok c.in-Ok-NoMore.field-0-is) refl refl refl (λ es. (sent, last_of has_no_more es (NextOut (Ok out.NoMore))))

pub returns-in-Err-next_out-clause-goes : goal.returns-in-Err-next_out-clause-goes
returns-in-Err-next_out-clause-goes g c =
    let new = c.offer.new.self in
    let a = g.L.Link.view c.args.link.now in
    let b = g.L.Link.view c.offer.new.link in
    let f = c.in-Err-next_out.fault in
    answered _ g.met.E.Desk.joins _ _ _ _ c.parts.self _ _ (g.L.Link.view c.parts.link) _ _ (Err f) _ c.parts.invariant.goes c.in-Ok-true.ensures.passes
    (c.in-Ok-true.ensures.only.unread ∙ c.parts.invariant.unread)
    c.in-Err-next_out.ensures.event refl refl refl refl
    (λ es. subst (λ (x : ConnectionFault). PartsEnds new a b (Err x) (es ++ NextOut (Err f) ∷ [])) (sym c.fault_of.ensures)
    (parts_closed new a b f es c.in-Err-next_out.ensures.fault))
