-- Where a cancelling stands behind each step of a poll.
use Rattle.std.proofs.Common.{◌≡◌, ℕ, ℤ, Bool, true, false, List, [], ◌++◌, append-nil, Some, Result, Ok, Err, is_err, append_assoc, refl, sym, ◌∙◌, ap, subst}
use Rattle.pg_spec.specs.Frames.{cancel_request}
use Rattle.pg_spec.specs.Links.{LinkView, Grew}
use Rattle.futures.specs.declared.task.Poll.{Poll}
use Rattle.futures.specs.declared.task.Poll.TheVariants.{Ready, Pending}
use Rattle.pg_types.specs.declared.cause.Cause.TheVariants as cause
use Rattle.pg_types.specs.declared.error.Error.{Error}
use Rattle.pg_types.specs.declared.error.Error.TheVariants as error
use Rattle.pg_types.specs.declared.faults.FrameFault.{FrameFault}
use Rattle.pg_spec.specs.Faults as spec
use Rattle.pg_wire.specs.Writes.{Writes}
use Rattle.pg_connect.proofs.Joining.{grew_none, grew_then, keeps_same, keeps_then, rose_later}
use Rattle.pg_startup.specs.Transfers.{IsFlushed}
use Rattle.pg_startup.specs.declared.transfer.Transfer.{Transfer}
use Rattle.pg_open.specs.declared.maybe_tls.MaybeTls.{MaybeTls}
use Rattle.pg_open.specs.Cancelling.{CancelFails, CancelStands, IsGiven, IsSending, IsUnderWay, Said, SaidEnds, Sends, Sent, WasSent, cancel_frame, cancel_settings}
use Rattle.pg_open.specs.Choosing.{Known, StandsAt, TlsAnswers}
use Rattle.pg_open.specs.declared.cancel_stages.CancelStage.{CancelStage}
use Rattle.pg_open.specs.declared.cancel_stages.CancelStage.TheVariants.{Choosing, Sending, Over}
use Rattle.pg_open.specs.declared.cancel_stages.SessionInfo.{SessionInfo}
use Rattle.pg_open.specs.declared.stages.ConnectTls.{ConnectTls}
use Rattle.pg_open.specs.declared.stages.Stage.{Stage}
use Rattle.pg_open.specs.declared.stages.TlsSettings.{TlsSettings}

-- the frame was written into an empty buffer
pub written : (frame old new : List ℕ) (r : Result (Unit {0}) FrameFault) (failed : Bool) → Writes (Ok frame) old new r → failed ≡ is_err r → failed ≡ false → old ≡ [] → new ≡ frame
written frame old new (Ok x) failed w is not_ none = let same : frame ≡ w.0 = ok-of frame w.0 w.1 in w.2 ∙ ap (λ (l : List ℕ). l ++ w.0) none ∙ sym same
  where
    ok-of : (m n : List ℕ) → ◌≡◌ {A = Result (List ℕ) spec.FrameFault} (Ok m) (Ok n) → m ≡ n
    ok-of m n e = cc
written frame old new (Err fault) failed w is not_ none = absurd (no (sym is ∙ not_))
  where
    no : true ≡ false → ⊥
    no e = cc

-- the frame of equal numbers
pub same-frame : (p q x y : ℤ) → p ≡ x → q ≡ y → cancel_request p q ≡ cancel_request x y
same-frame p q x y a b = ap (λ (z : ℤ). cancel_request z q) a ∙ ap (λ (z : ℤ). cancel_request x z) b

-- nothing of a frame was sent
pub sends-none : (frame : List ℕ) (a : LinkView) → Sends frame a a frame
sends-none frame a = record { sent = []; given = refl; taken = grew_none a.taken; out = refl; shut = refl; link = keeps_same a }

-- some more of it was
pub sends-on : (frame : List ℕ) (begin a b : LinkView) (old new : Transfer) → Sends frame begin a old.unsent.items → Said old new a b → b.shut ≡ a.shut → Sends frame begin b new.unsent.items
sends-on frame begin a b old new p s shut = record {
  sent = p.sent ++ s.sent;
  given = s.given ∙ p.given;
  taken = grew_then begin.taken a.taken b.taken p.sent s.sent p.taken s.taken;
  out = append_assoc p.sent s.sent new.unsent.items ∙ ap (λ (l : List ℕ). p.sent ++ l) (sym s.out) ∙ p.out;
  shut = shut ∙ p.shut;
  link = keeps_then begin a b p.link s.link;
}

-- all of it was, and the writing side was ended
pub sent-all : (frame : List ℕ) (begin a b : LinkView) (old new : Transfer) → Sends frame begin a old.unsent.items → IsFlushed old a → Said old new a b → SaidEnds old new a b (Ok true) → Sent frame begin b
sent-all frame begin a b old new p is s end = record {
  given = s.given ∙ p.given;
  taken = subst (λ (l : List ℕ). Grew begin.taken b.taken l) whole (grew_then begin.taken a.taken b.taken p.sent s.sent p.taken s.taken);
  flushed = λ open_. end.1 is (p.shut ∙ open_);
  shut = end.2;
  link = keeps_then begin a b p.link s.link;
}
  where
    left : p.sent ++ (s.sent ++ new.unsent.items) ≡ frame
    left = ap (λ (l : List ℕ). p.sent ++ l) (sym s.out) ∙ p.out

    whole : p.sent ++ s.sent ≡ frame
    whole = ap (λ (l : List ℕ). p.sent ++ l) (sym (append-nil s.sent) ∙ ap (λ (l : List ℕ). s.sent ++ l) (sym end.0)) ∙ left

module _ {L T F S E : Type 0} (k : Known L T F S E) (view : MaybeTls L S → LinkView) (info : SessionInfo) (link : L) (tls : T) where
  -- the choice was made, and nothing was sent yet
  pub under-way : (now : MaybeTls L S) (bytes : Transfer) → IsGiven k view info link tls now → bytes.unsent.items ≡ cancel_frame info → bytes.flushed ≡ false → IsUnderWay k view info link tls now bytes
  under-way now bytes given frame unflushed = record {
    from = now;
    given = given;
    sends = subst (λ (l : List ℕ). Sends (cancel_frame info) (view now) (view now) l) (sym frame) (sends-none (cancel_frame info) (view now));
    flushed = λ is. absurd (no is unflushed);
  }
    where
      no : {x : Bool} → x ≡ true → x ≡ false → ⊥
      no is not_ = cc

  -- it stands so still
  pub stands-so : (old new met : CancelStage L T F S E) → met ≡ old → met ≡ new → CancelStands k view info link tls old → CancelStands k view info link tls new
  stands-so old new met was is st = subst (λ (s : CancelStage L T F S E). CancelStands k view info link tls s) (sym was ∙ is) st

  -- and is under way
  pub still-under-way : (old met : CancelStage L T F S E) (now : MaybeTls L S) (bytes : Transfer) → met ≡ old → met ≡ Sending now bytes → CancelStands k view info link tls old → IsUnderWay k view info link tls now bytes
  still-under-way old met now bytes was is st = let sending : IsSending k view info link tls now bytes = stands-so old (Sending now bytes) met was is st in sending.under_way

  -- what the choice answered, by the settings that it has
  answered : (want : TlsSettings) (asked after : ℕ) (old new : Stage L T F S E) (answer : Poll (Result (MaybeTls L S) Error)) → want ≡ cancel_settings info →
      StandsAt k (cancel_settings info) link tls asked old → (StandsAt k want link tls asked old → TlsAnswers k want link tls after new answer) → TlsAnswers k (cancel_settings info) link tls after new answer
  answered want asked after old new answer is stands then_ =
      subst (λ (w : TlsSettings). TlsAnswers k w link tls after new answer) is (then_ (subst (λ (w : TlsSettings). StandsAt k w link tls asked old) (sym is) stands))

  -- the choice gave a link or a stream
  pub choice-gives : (before : ConnectTls L T F S E) (after : ℕ) (new : Stage L T F S E) (answer : Result (MaybeTls L S) Error) (m : MaybeTls L S) → CancelStands k view info link tls (Choosing before) →
      (StandsAt k before.settings link tls before.asked before.stage → TlsAnswers k before.settings link tls after new (Ready answer)) → answer ≡ Ok m → IsGiven k view info link tls m
  choice-gives before after new answer m st follows is = (
    after,
    subst (λ (r : Result (MaybeTls L S) Error). TlsAnswers k (cancel_settings info) link tls after new (Ready r)) is
        (answered before.settings before.asked after before.stage new (Ready answer) st.0 st.1 follows),
  )

  -- the choice failed
  pub choice-fails : (before now : ConnectTls L T F S E) (answer : Result (MaybeTls L S) Error) (e : Error) → CancelStands k view info link tls (Choosing before) →
      (StandsAt k before.settings link tls before.asked before.stage → TlsAnswers k before.settings link tls now.asked now.stage (Ready answer)) → answer ≡ Err e → CancelFails k view info link tls (Choosing now) e
  choice-fails before now answer e st follows is =
      subst (λ (r : Result (MaybeTls L S) Error). TlsAnswers k (cancel_settings info) link tls now.asked now.stage (Ready r)) is
      (answered before.settings before.asked now.asked before.stage now.stage (Ready answer) st.0 st.1 follows)

  -- the choice goes on
  pub choice-goes-on : (before now : ConnectTls L T F S E) → CancelStands k view info link tls (Choosing before) →
      (StandsAt k before.settings link tls before.asked before.stage → TlsAnswers k before.settings link tls now.asked now.stage Pending) → now.settings ≡ before.settings → CancelStands k view info link tls (Choosing now)
  choice-goes-on before now st follows same =
      (same ∙ st.0, answered before.settings before.asked now.asked before.stage now.stage Pending st.0 st.1 follows)

  -- it goes on
  pub goes-on : (before now : MaybeTls L S) (old new : Transfer) (stage : CancelStage L T F S E) → IsUnderWay k view info link tls before old → Said old new (view before) (view now) →
      SaidEnds old new (view before) (view now) (Ok false) → stage ≡ Sending now new → CancelStands k view info link tls stage
  goes-on before now old new stage u s end is =
      subst (λ (x : CancelStage L T F S E). CancelStands k view info link tls x) (sym is)
      (record {
        under_way = record {
          from = u.from;
          given = u.given;
          sends = sends-on (cancel_frame info) (view u.from) (view before) (view now) old new u.sends s end.1;
          flushed = s.flushed u.flushed;
        };
        quiet = rose_later (view u.from).quiet (view before).quiet (view now).quiet u.sends.link.counts.quiet end.0;
      })

  -- all was sent
  pub is-sent : (before now : MaybeTls L S) (old new : Transfer) → IsUnderWay k view info link tls before old → Said old new (view before) (view now) →
      SaidEnds old new (view before) (view now) (Ok true) → WasSent k view info link tls now
  is-sent before now old new u s end = record {
    from = u.from;
    given = u.given;
    sent = sent-all (cancel_frame info) (view u.from) (view before) (view now) old new u.sends u.flushed s end;
  }

  -- memory lacks for the CancelRequest: nothing of it was sent
  pub lacks-first : (now : MaybeTls L S) → IsGiven k view info link tls now → CancelFails k view info link tls (Over (Some now)) error.OutOfMemory
  lacks-first now given = record { from = now; given = given; unsent = cancel_frame info; sends = sends-none (cancel_frame info) (view now); fails = tt }

  -- a call failed, or memory lacked
  pub send-fails : (before now : MaybeTls L S) (old new : Transfer) (e : Error) → IsUnderWay k view info link tls before old → Said old new (view before) (view now) →
      SaidEnds old new (view before) (view now) (Err e) → CancelFails k view info link tls (Over (Some now)) e
  send-fails before now old new (error.Io cause.Link) u s end = record {
    from = u.from;
    given = u.given;
    unsent = new.unsent.items;
    sends = sends-on (cancel_frame info) (view u.from) (view before) (view now) old new u.sends s end.1;
    fails = rose_later (view u.from).faults (view before).faults (view now).faults u.sends.link.counts.faults end.0;
  }
  send-fails before now old new error.OutOfMemory u s end = record {
    from = u.from;
    given = u.given;
    unsent = new.unsent.items;
    sends = sends-on (cancel_frame info) (view u.from) (view before) (view now) old new u.sends s end;
    fails = tt;
  }
  send-fails before now old new _ u s end = absurd end
