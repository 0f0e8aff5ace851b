-- What a session sent, once it ended.
use Rattle.std.proofs.Common.{◌≡◌, inl, inr, ℕ, ◌≤◌, List, [], ◌∷◌, ◌++◌, length, map, drop, Bool, true, false, Option, Some, None, Result, Ok, Err, refl, sym, ap, subst, ◌∙◌, arith, append-nil, append_assoc}
use Rattle.std.specs.Prelude.{IfSome, option_map}
use Rattle.std.specs.List.{concat}
use Rattle.std.proofs.Math.Seq.{drop-append_seam}
use Rattle.futures.specs.declared.task.Poll.{Poll}
use Rattle.futures.specs.declared.task.Poll.TheVariants.{Ready, Pending}
use Rattle.pg_spec.specs.Book as book
use Rattle.pg_spec.specs.Settings.{Settings}
use Rattle.pg_spec.specs.Frames.{terminate_frame}
use Rattle.pg_spec.specs.Links.{LinkView, Grew, added, OfBytes}
use Rattle.pg_spec.specs.RawMessages.{RawMessage, messages, sync_of}
use Rattle.pg_spec.specs.Startup.{startup}
use Rattle.pg_spec.specs.Turns.{delivered_after}
use Rattle.pg_errors.specs.declared.async_message.AsyncMessage.{AsyncMessage}
use Rattle.pg_types.specs.declared.error.Error.{Error}
use Rattle.pg_desk.specs.declared.event.Booking.{Booking}
use Rattle.pg_desk.specs.History.{start, after_all, wire, joined, IsFrontOf}
use Rattle.pg_desk.proofs.Soundness.{legal-sound}
use Rattle.pg_hub.specs.Standing.{Standing}
use Rattle.pg_hub.specs.Fits.{HubBecomes}
use Rattle.pg_connect.specs.declared.streams.Streams.{Streams}
use Rattle.pg_connect.specs.Answers.{PollAnswers}
use Rattle.pg_connect.specs.Passed.{bytes_out_by}
use Rattle.pg_connect.specs.Passes.{goodbye}
use Rattle.pg_core.specs.Trails.{said_booking}
use Rattle.pg_promises.specs.Endings.{Report}
use Rattle.pg_spec.specs.declared.stamps.TurnMark.{TurnMark}
use Rattle.pg_session.specs.Crossed.{session_of, Sent}
use Rattle.pg_session.specs.Sessions.{HasPlayed}
use Rattle.pg_session.specs.States.{SessionState}
use Rattle.pg_session.specs.Turns.{HandsOn, Makes}
use Rattle.pg_session.proofs.Crossing.Hub.{out-all}
use Rattle.pg_session.proofs.Crossing.{Stood}
use Rattle.pg_session.proofs.Crossing.Chain.{StoodIn, stood-turn, stood-all}
use Rattle.pg_session.proofs.Crossing.Front.{all-marked, front-delivered}
use Rattle.pg_session.proofs.Crossing.Start.{stood-start}
use Rattle.pg_session.proofs.Opening.{Started, done-of, is-started}
use Rattle.pg_session.specs.Speeches.{Speech}

not_over : {X : Type 0} → true ≡ false → X
not_over e = absurd cc

-- ---- bytes that a link tells

pub added-is : (a b : Option (List ℕ)) (piece t : List ℕ) → Grew a b piece → added a b ≡ Some t → t ≡ piece
added-is a b piece t grew e = by_old a (ap (added a) (sym grew) ∙ e)
  where
    by_old : (o : Option (List ℕ)) → added o (option_map (λ told. told ++ piece) o) ≡ Some t → t ≡ piece
    by_old None e = absurd cc
    by_old (Some told) e = let same : drop (length told) (told ++ piece) ≡ t = cc in sym same ∙ drop-append_seam told piece

if-some : {X : Type 0} (o : Option X) (P : X → Type 0) → ((x : X) → o ≡ Some x → P x) → IfSome o P
if-some None P f = tt
if-some (Some x) P f = f x refl

pub of-bytes : (before after : LinkView) (P : List ℕ → List ℕ → Type 0) →
    ((g t : List ℕ) → added before.given after.given ≡ Some g → added before.taken after.taken ≡ Some t → P g t) → OfBytes before after P
of-bytes before after P f =
    if-some (added before.given after.given) (λ g. IfSome (added before.taken after.taken) (λ t. P g t))
    (λ g e. if-some (added before.taken after.taken) (λ t. P g t) (λ t d. f g t e d))

-- ---- what was sent

pub joined-append : (xs ys : List (List ℕ)) → joined (xs ++ ys) ≡ joined xs ++ joined ys
joined-append [] ys = refl
joined-append (x ∷ xs) ys = ap (λ (l : List ℕ). x ++ l) (joined-append xs ys) ∙ sym (append_assoc x (joined xs) (joined ys))

joined-concat : (xs : List (List ℕ)) → joined xs ≡ concat xs
joined-concat [] = refl
joined-concat (x ∷ xs) = ap (λ (l : List ℕ). x ++ l) (joined-concat xs)

-- the bytes of all parts are those of the book
pub wire-bytes : (bs : List Booking) → joined (wire bs) ≡ book.wire (map said_booking bs)
wire-bytes [] = refl
wire-bytes (b ∷ bs) =
    joined-append b.parts (wire bs) ∙ ap (λ (l : List ℕ). l ++ joined (wire bs)) (joined-concat b.parts)
    ∙ ap (λ (l : List ℕ). concat b.parts ++ l) (wire-bytes bs)

pub whole-front : {A : Type 0} (xs ys : List A) → IsFrontOf xs ys → drop (length xs) ys ≡ [] → xs ≡ ys
whole-front {A} xs ys front none =
    let rest : front.0 ≡ [] = sym (drop-append_seam xs front.0) ∙ ap (λ (l : List A). drop (length xs) l) front.1 ∙ none in
    sym (append-nil xs) ∙ ap (λ (l : List A). xs ++ l) (sym rest) ∙ front.1

-- all parts went out
pub all-out : (opening : List ℕ) (first : List RawMessage) (base l : LinkView) (hub : Standing) (s : Streams) (asides : List AsyncMessage) →
    (h : Stood opening first base hub s asides l) → s.closing ≡ true →
    (after_all (start 0 0) h.events).gone_out ≡ wire (after_all (start 0 0) h.events).book
all-out opening first base l hub s asides h closing =
    whole-front (after_all (start 0 0) h.events).gone_out (wire (after_all (start 0 0) h.events).book)
    (legal-sound 0 0 h.events h.legal).out_is_front (h.spent closing).out

-- The link took the startup's frames, each request, and Terminate.
pub all-taken : (opening : List ℕ) (first : List RawMessage) (base l : LinkView) (hub : Standing) (s : Streams) (asides : List AsyncMessage) →
    (h : Stood opening first base hub s asides l) → s.closing ≡ true → s.unsent ≡ [] → h.taken ≡ opening ++ book.wire (map said_booking hub.book) ++ terminate_frame
all-taken opening first base l hub s asides h closing sent =
    let st = after_all (start 0 0) h.events in
    let bytes : bytes_out_by h.events ≡ book.wire (map said_booking hub.book) =
    sym (out-all (start 0 0) h.events) ∙ ap (λ (l : List (List ℕ)). joined l) (all-out opening first base l hub s asides h closing)
    ∙ wire-bytes st.book ∙ ap (λ (b : List Booking). book.wire (map said_booking b)) (sym h.fits.book) in
    sym (append-nil h.taken) ∙ ap (λ (l : List ℕ). h.taken ++ l) (sym sent) ∙ sym h.out
    ∙ ap (λ (c : Bool). (opening ++ bytes_out_by h.events) ++ goodbye false c) closing
    ∙ ap (λ (l : List ℕ). (opening ++ l) ++ terminate_frame) bytes

module _ {C T A E : Type 0} (speech : Speech C T A E) where
  -- ---- the last turn

  -- the connection was shut down, in a turn of its own
  pub record IsLast (s t : SessionState T A E) : Type 0 where
    pub closing : t.streams.closing ≡ true
    pub sent : t.streams.unsent ≡ []
    pub turn : ℕ
    pub trace : t.trace ≡ s.trace ++ record { turn = turn; delivered = t.streams.delivered } ∷ []

  by_answer : (turn : ℕ) (s t : SessionState T A E) (l m : LinkView) (answer : Poll (Option (Result AsyncMessage Error))) →
      PollAnswers HubBecomes s.hub t.hub s.streams t.streams l m answer → HandsOn answer s.asynchronous t.asynchronous true →
      t.trace ≡ s.trace ++ record { turn = turn; delivered = t.streams.delivered } ∷ [] → IsLast s t
  by_answer turn s t l m Pending h hands trace = not_over hands.1
  by_answer turn s t l m (Ready None) h hands trace = record { closing = h.turns.goes.ended.closing; sent = h.turns.goes.ended.sent; turn = turn; trace = trace }
  by_answer turn s t l m (Ready (Some (Ok message))) h hands trace = not_over hands.1
  by_answer turn s t l m (Ready (Some (Err e))) h hands trace = absurd hands

  pub is-last : (scripts : List (List C)) (turn : ℕ) (s t : SessionState T A E) (l m : LinkView) → Makes speech scripts turn s t l m true → IsLast s t
  is-last scripts turn s t l m (inl made) = not_over made.goes_on
  is-last scripts turn s t l m (inr made) = by_answer turn s t l m made.made.answer made.made.polled made.made.hands made.made.trace

  -- what stands at the end of a session
  pub record Finished (opening : List ℕ) (first : List RawMessage) (before after : LinkView) (s t : SessionState T A E) : Type 0 where
    pub stood : StoodIn speech opening first before t after
    pub is_last : IsLast s t

  pub finished : (settings : Settings) (nonce : List ℕ) (scripts : List (List C)) (given : List ℕ) (before after : LinkView) (report : Report A)
      (p : HasPlayed speech settings nonce scripts given before after report) →
      Finished p.opening p.opened.read before after p.plays.ends.state p.last
  finished settings nonce scripts given before after report p = record {
    stood = stood-turn speech p.opening p.opened.read before p.plays.ends.link after scripts p.plays.last p.plays.ends.state p.last true
        (stood-all speech p.opening p.opened.read before scripts p.plays.turns p.new p.link p.plays.ends.state p.plays.ends.link
        (stood-start speech settings nonce scripts before p.link p.startup p.opening p.new p.opened p.fresh p.is_new) p.plays.ends.before)
        p.plays.ends.over;
    is_last = is-last scripts p.plays.last p.plays.ends.state p.last p.plays.ends.link after p.plays.ends.over;
  }

  -- the startup, by the bytes given
  pub startup-of : (settings : Settings) (nonce : List ℕ) (scripts : List (List C)) (given : List ℕ) (before after : LinkView) (report : Report A)
      (p : HasPlayed speech settings nonce scripts given before after report) (f : Finished p.opening p.opened.read before after p.plays.ends.state p.last) (g : List ℕ) → g ≡ f.stood.given →
      Started settings nonce p.opening p.opened.read (f.stood.read ++ (f.stood.lost ++ messages p.last.streams.buffer.items)) (messages g)
  startup-of settings nonce scripts given before after report p f g is =
      is-started settings nonce p.opening p.opened.read (f.stood.read ++ (f.stood.lost ++ messages p.last.streams.buffer.items)) (messages g)
      (done-of settings nonce p.opening before p.link p.startup p.new.streams p.opened p.fresh)
      (ap messages is ∙ f.stood.came_off ∙ append_assoc p.opened.read f.stood.read (f.stood.lost ++ messages p.last.streams.buffer.items))

  pub was-sent : (settings : Settings) (nonce : List ℕ) (scripts : List (List C)) (given : List ℕ) (before after : LinkView) (report : Report A)
      (p : HasPlayed speech settings nonce scripts given before after report) → Finished p.opening p.opened.read before after p.plays.ends.state p.last → (g t : List ℕ) →
      added before.given after.given ≡ Some g → added before.taken after.taken ≡ Some t → Sent (session_of settings nonce scripts given report g) t
  was-sent settings nonce scripts given before after report p f g t e d =
      let h = f.stood in
      let started = startup-of settings nonce scripts given before after report p f g (added-is before.given after.given h.given g h.gave e) in
      let all : t ≡ p.opening ++ book.wire (map said_booking p.last.hub.book) ++ terminate_frame =
      added-is before.taken after.taken h.taken t h.took d
      ∙ all-taken p.opening p.opened.read before after p.last.hub p.last.streams p.last.asynchronous h f.is_last.closing f.is_last.sent in
      record {
        no_tls = p.no_tls;
        started = (length p.opened.read, started.outcome);
        sent = all ∙ ap (λ (l : List ℕ). l ++ book.wire (map said_booking p.last.hub.book) ++ terminate_frame) (sym started.frames)
            ∙ ap (λ (b : List book.Booking). concat (startup settings nonce (messages g)).frames ++ book.wire b ++ terminate_frame) (sym p.reports.book);
        reported = p.reports.sent ∙ sym all;
        delivered_front = λ place inside.
            let more = h.lost ++ messages p.last.streams.buffer.items in
            let here : delivered_after report.trace place ≤ p.last.streams.delivered =
            subst (λ (x : List TurnMark). delivered_after x place ≤ p.last.streams.delivered) (sym p.reports.trace)
            (all-marked speech scripts p.plays.turns p.plays.last p.new p.link p.plays.ends.state p.plays.ends.link p.last after p.is_new.trace p.plays.ends.before true p.plays.ends.over place) in
            let front : p.last.streams.delivered ≤ length (sync_of (h.read ++ more)) =
            front-delivered p.opening p.opened.read before after p.last.hub p.last.streams p.last.asynchronous h more in
            subst (λ (x : List RawMessage). delivered_after report.trace place ≤ length (sync_of x)) (sym started.rest) (omega (arith, here, front));
      }
