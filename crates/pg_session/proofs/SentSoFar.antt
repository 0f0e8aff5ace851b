-- What was sent where a session failed.
pub mod Outcomes
pub mod UnderWay
pub mod Parts
pub mod Order
pub mod Whole
pub mod Broken
pub mod NoneKept
pub mod TurnsCounted
pub mod TurnsAsked
use Rattle.std.proofs.Common.{◌≡◌, ℕ, zero, suc, ◌<◌, ◌^◌, List, [], ◌∷◌, ◌++◌, length, map, Bool, true, false, if◌then◌else◌, ◌&&◌, Some, inl, inr, refl, sym, ap, subst, ◌∙◌, arith, append_assoc, append-nil, slice_get, length-append}
use Rattle.std.specs.Prelude.{All, IsSome, IsTrue, filter, not}
use Rattle.std.specs.List.{AllByRecursion, concat, list_all}
use Rattle.std.specs.List.Sorted.{IsNonDecreasingBy}
use Rattle.std.proofs.lemmas.List.Elements.{All-nil, filter-append}
use Rattle.pg_spec.specs.Book as said
use Rattle.pg_spec.specs.Frames.{terminate_frame}
use Rattle.pg_spec.specs.Links.{LinkView, Grew}
use Rattle.pg_spec.specs.RawMessages.{RawMessage, ends_in, groups, is_aside, messages, sync_of}
use Rattle.pg_spec.specs.Sent.{ends_unit}
use Rattle.pg_spec.specs.Settings.{Settings}
use Rattle.pg_spec.specs.Startup.{startup, plain_login}
use Rattle.pg_spec.specs.Turns.{entry_at}
use Rattle.pg_promises.specs.Causes.{NeedsNoTls, OfDialogue, startup_after}
use Rattle.pg_promises.specs.ConnectionStrings.{Means}
use Rattle.pg_promises.specs.Promises.{IsFront}
use Rattle.pg_spec.specs.Courses.{Asked, Course}
use Rattle.pg_promises.specs.Calls.{Call, apart}
use Rattle.pg_promises.specs.Sent as sent
use Rattle.pg_promises.specs.Sent.{AskedInOrder, InScriptOrder, SentInOrder, is_ended}
use Rattle.pg_types.specs.declared.error.Error.{Error}
use Rattle.pg_types.specs.declared.error.Error.TheVariants as error
use Rattle.pg_desk.specs.declared.event.Booking.{Booking}
use Rattle.pg_desk.specs.declared.event.Event.{Event}
use Rattle.pg_desk.specs.History.{State, start, after_all, wire, joined, IsFrontOf, IsLegal}
use Rattle.pg_desk.specs.Kept.{legal-joined}
use Rattle.pg_desk.proofs.Soundness.{legal-sound}
use Rattle.pg_hub.specs.Becomes.{after-joined}
use Rattle.pg_query.specs.declared.desk_call.DeskCall.{DeskCall}
use Rattle.pg_query.specs.declared.desk_call.Reply.{Reply}
use Rattle.pg_core.specs.Trails.{said_booking}
use Rattle.pg_connect.specs.Answers.{fresh, left_open}
use Rattle.pg_connect.specs.Passed.{bytes_out_by, delivered_by}
use Rattle.pg_connect.specs.Passes.{Passes, goodbye, waiting}
use Rattle.pg_connect.specs.Polls.{ClosesBy}
use Rattle.pg_connect.specs.declared.streams.Streams.{Streams}
use Rattle.pg_connect.proofs.Joining.{came_off_then, grew_same, grew_then, none_lost}
use Rattle.pg_startup.specs.Startups.{Failed}
use Rattle.pg_startup.specs.declared.startup.Startup.{Startup}
use Rattle.pg_session.specs.Calls.{asked_in_all, calls_in}
use Rattle.pg_session.specs.Sessions.{IsNewSession, MakesAll}
use Rattle.pg_session.specs.Speeches.{AreCommands, BookWhole, EndsAlone, Speech, meaning_of}
use Rattle.pg_session.specs.States.{SessionState}
use Rattle.pg_session.specs.Kept.{Now, book_of}
use Rattle.pg_session.specs.SessionKept.{SessionKept}
use Rattle.pg_session.proofs.Played.{new-kept, turns-keep}
use Rattle.pg_session.proofs.Ran.{course_at}
use Rattle.pg_session.specs.Failures.{StopsOpening, WasOpened}
use Rattle.pg_session.proofs.Caused.Asks.{AllAsk}
use Rattle.pg_session.proofs.Caused.Frames.{ends-alone}
use Rattle.pg_session.proofs.Caused.Start.{of_grown}
use Rattle.pg_session.proofs.Crossing.All.{filter-short, fewer-messages}
use Rattle.pg_session.proofs.Crossing.End.{joined-append, wire-bytes, whole-front}
use Rattle.pg_session.proofs.Crossing.Hub.{Spent, no-more-spent, out-all, spent-all}
use Rattle.pg_session.proofs.LivesLink.{CameSo}
use Rattle.pg_session.proofs.Opening.{IsDone, at-front, ends-frames, is-started}
use Rattle.pg_session.proofs.SentSoFar.Outcomes.{asks-nothing}
use Rattle.pg_session.proofs.SentSoFar.Parts.{book-parts}
use Rattle.pg_session.proofs.SentSoFar.Order.{all-but-last, in-script-order, so_far}
use Rattle.pg_session.proofs.Stalled.Start.{rests-so, stands-at}

-- ---- the bytes

-- a front of the startup's frames, of the requests and of Terminate
pub front-taken : (opening taken unsent : List ℕ) (closing : Bool) (es : List Event) (bookings : List Booking) → IsLegal (start 0 0) es →
    (opening ++ bytes_out_by es) ++ goodbye false closing ≡ taken ++ unsent → (closing ≡ true → Spent (after_all (start 0 0) es)) → bookings ≡ (after_all (start 0 0) es).book →
    IsFront taken (opening ++ said.wire (map said_booking bookings) ++ terminate_frame)
front-taken opening taken unsent closing es bookings legal out spent same = by closing out spent
  where
    st : State
    st = after_all (start 0 0) es

    front : IsFrontOf st.gone_out (wire st.book)
    front = (legal-sound 0 0 es legal).out_is_front

    all : joined (wire st.book) ≡ said.wire (map said_booking bookings)
    all = wire-bytes st.book ∙ ap (λ (bs : List Booking). said.wire (map said_booking bs)) (sym same)

    by : (closing : Bool) → (opening ++ bytes_out_by es) ++ goodbye false closing ≡ taken ++ unsent → (closing ≡ true → Spent st) →
        IsFront taken (opening ++ said.wire (map said_booking bookings) ++ terminate_frame)
    by true out spent =
        let bytes : bytes_out_by es ≡ said.wire (map said_booking bookings) =
        sym (out-all (start 0 0) es) ∙ ap (λ (l : List (List ℕ)). joined l) (whole-front st.gone_out (wire st.book) front (spent refl).out) ∙ all in (
          unsent,
          sym out ∙ ap (λ (l : List ℕ). (opening ++ l) ++ terminate_frame) bytes,
        )
    by false out spent =
        let later = joined front.0 ++ terminate_frame in
        let bytes : bytes_out_by es ++ joined front.0 ≡ said.wire (map said_booking bookings) =
        ap (λ (l : List ℕ). l ++ joined front.0) (sym (out-all (start 0 0) es)) ∙ sym (joined-append st.gone_out front.0) ∙ ap (λ (l : List (List ℕ)). joined l) front.1 ∙ all in (
          unsent ++ later,
          sym (append_assoc taken unsent later) ∙ ap (λ (l : List ℕ). l ++ later) (sym out ∙ append-nil (opening ++ bytes_out_by es))
              ∙ sym (append_assoc (opening ++ bytes_out_by es) (joined front.0) terminate_frame)
              ∙ ap (λ (l : List ℕ). l ++ terminate_frame) (append_assoc opening (bytes_out_by es) (joined front.0))
              ∙ ap (λ (l : List ℕ). (opening ++ l) ++ terminate_frame) bytes,
        )

-- where a poll failed
pub spent-polled : (s t : Streams) (former now : List Event) → IsLegal (after_all (start 0 0) former) now → (s.closing ≡ true → Spent (after_all (start 0 0) former)) →
    ClosesBy (fresh s) (left_open t) now → t.closing ≡ true → Spent (after_all (start 0 0) (former ++ now))
spent-polled s t former now legal before closes is =
    subst Spent (sym (after-joined (start 0 0) former now)) (elim (closes is) [
      | inl closing ↦ spent-all (after_all (start 0 0) former) now (before closing) legal
      | inr last ↦ no-more-spent (after_all (start 0 0) former) now last legal
    ])

-- ---- each request is ended

-- each of the hub's bookings is
pub all-ended : (bs : List Booking) → AllAsk bs → AllByRecursion (λ b. IsTrue (is_ended b)) (map said_booking bs)
all-ended [] h = tt
all-ended (b ∷ bs) (part, alone, request, h) =
    let one : is_ended (said_booking b) ≡ true = ap (λ (parts : List (List ℕ)). is_ended (record { stamp = b.stamp; parts = parts })) alone ∙ ended-part part request.frames in
    (one, all-ended bs h)
  where
    ended-part : (part : List ℕ) → EndsAlone (messages part) → is_ended (record { stamp = b.stamp; parts = part ∷ [] }) ≡ true
    ended-part part frames = ap (λ (bytes : List ℕ). ends_in ends_unit (messages bytes)) (append-nil part) ∙ ends-alone (messages part) frames

-- so Terminate follows
pub says-goodbye : (book : List said.Booking) → AllByRecursion (λ b. IsTrue (is_ended b)) book → sent.goodbye book ≡ terminate_frame
says-goodbye book h = ap (λ (b : Bool). if b then terminate_frame else []) (all book h)
  where
    all : (book : List said.Booking) → AllByRecursion (λ b. IsTrue (is_ended b)) book → list_all is_ended book ≡ true
    all [] h = refl
    all (b ∷ book) h = ap (λ (x : Bool). x && list_all is_ended book) h.0 ∙ all book h.1

-- ---- what came

-- Since the link was so it gave these bytes: of their messages the startup read the first ones, the connection the next ones, and
-- these are the others.
pub record CameOn (first : List RawMessage) (base l : LinkView) (passed : List RawMessage) : Type 0 where
  pub got : List ℕ
  pub given : Grew base.given l.given got
  pub others : List RawMessage
  pub are : messages got ≡ first ++ (passed ++ others)

-- what came by a turn
pub came-here : (first : List RawMessage) (base l m : LinkView) (s : Streams) (all : List RawMessage) → (is : CameSo first base l s all) → m.given ≡ l.given → CameOn first base m is.passed
came-here first base l m s all is same = record {
  got = is.got;
  given = same ∙ is.given;
  others = is.lost ++ messages s.buffer.items;
  are = is.came_off ∙ append_assoc first is.passed (is.lost ++ messages s.buffer.items);
}

-- and by one poll more
pub came-polled : (first : List RawMessage) (base l m : LinkView) (s t : Streams) (all : List RawMessage) (es : List Event) (hs : List RawMessage) → (is : CameSo first base l s all) →
    Passes (fresh s) (left_open t) l m es hs → CameOn first base m is.passed
came-polled first base l m s t all es hs is p = record {
  got = is.got ++ p.got;
  given = grew_then base.given l.given m.given is.got p.got is.given p.given;
  others = p.read ++ (p.lost ++ messages t.buffer.items);
  are = came_off_then [] s.buffer.items is.got p.got (first ++ is.passed) p.read (p.lost ++ messages t.buffer.items)
      (is.came_off ∙ ap (λ (x : List RawMessage). (first ++ is.passed) ++ (x ++ messages s.buffer.items)) (none_lost s.unread is.lost p.all_read is.unread)) is.rest p.came_off
      ∙ append_assoc (first ++ is.passed) p.read (p.lost ++ messages t.buffer.items)
      ∙ append_assoc first is.passed (p.read ++ (p.lost ++ messages t.buffer.items));
}

module _ {C T A E : Type 0} (speech : Speech C T A E) where
  -- ---- behind the startup

  -- the requests are in order, and what was taken is a front of what the startup writes, of them and of Terminate
  sent-behind : (call : Call C) (settings : Settings) (opening : List ℕ) (first later : List RawMessage) (book : List said.Booking) (asks : List (Asked DeskCall Reply)) (given taken : List ℕ) →
      NeedsNoTls settings → IsDone settings call.nonce opening first → messages given ≡ first ++ later →
      InScriptOrder (meaning_of speech) call.scripts (record { trace = []; book = book; replies = groups later; asked = asks }) →
      IsFront taken (opening ++ said.wire book ++ sent.goodbye book) → SentInOrder (meaning_of speech) call settings given taken
  sent-behind call settings opening first later book asks given taken plain done came order front =
      let started = is-started settings call.nonce opening first later (messages given) done came in
      record {
        book = book;
        asked = asks;
        order = subst (λ (ms : List RawMessage). InScriptOrder (meaning_of speech) call.scripts (record { trace = []; book = book; replies = groups ms; asked = asks })) (sym started.rest) order;
        front = inr (inr (
          plain,
          inr (
            (length first, started.outcome),
            subst (λ (x : List ℕ). IsFront taken (x ++ said.wire book ++ sent.goodbye book)) (sym started.frames) front,
          ),
        ));
      }

  -- what the session did by these turns, of which this came, and more
  module _ (commands : AreCommands speech) (books : BookWhole speech) (scripts : List (List C)) (turns : List ℕ) (new : SessionState T A E) (l : LinkView) (s : SessionState T A E) (m : LinkView) (is_new : IsNewSession speech scripts new)
      (active : new.streams.closing ≡ false) (none : new.streams.delivered ≡ 0) (made : MakesAll speech scripts turns new l s m)
      (first : List RawMessage) (base : LinkView) (came : CameSo first base m s.streams (delivered_by (calls_in speech scripts turns new l s m made))) (counted : s.streams.given < 2 ^ 64) where
    abbrev pub asks : List (Asked DeskCall Reply)
    asks = asked_in_all speech scripts turns new l s m made

    abbrev pub all : List RawMessage
    all = delivered_by (calls_in speech scripts turns new l s m made)

    pub kept-by : (others : List RawMessage) → SessionKept speech scripts (course_at s (groups (came.passed ++ others)) asks) asks all s
    kept-by others =
        let later = came.passed ++ others in
        let course = course_at s (groups later) asks in
        turns-keep speech scripts course later [] [] turns new l s m commands made
        (record {
          turns = ([], append-nil s.trace);
          front = (
            waiting s.streams.held ++ sync_of others,
            sym (append_assoc all (waiting s.streams.held) (sync_of others)) ∙ ap (λ (ms : List RawMessage). ms ++ sync_of others) (sym came.delivered)
                ∙ sym (filter-append (λ (m : RawMessage). not (is_aside m)) came.passed others),
          );
          replies = refl;
          small = omega (
            arith,
            counted,
            came.count,
            fewer-messages came.got,
            ap length came.came_off,
            length-append (first ++ came.passed) (came.lost ++ messages s.streams.buffer.items),
            length-append first came.passed,
            filter-short (λ (m : RawMessage). not (is_aside m)) came.passed,
            ap length came.delivered,
            length-append all (waiting s.streams.held),
          );
        })
        (new-kept speech scripts course new is_new active none)

    -- its requests are in script order, whatever came behind
    pub order-so : (others : List RawMessage) → AllByRecursion (λ b. IsTrue (is_ended b)) (map said_booking s.hub.book) →
        InScriptOrder (meaning_of speech) scripts (record { trace = []; book = map said_booking s.hub.book; replies = groups (came.passed ++ others); asked = asks })
    order-so others ended =
        let k = kept-by others in
        let course = course_at s (groups (came.passed ++ others)) asks in
        let now : Now = record { turns = length s.trace; asked = asks; state = k.state } in
        let same : book_of now ≡ map said_booking s.hub.book = ap (map said_booking) (sym k.fits.book) in
        subst (λ (bs : List said.Booking). InScriptOrder (meaning_of speech) scripts (record { trace = []; book = bs; replies = groups (came.passed ++ others); asked = asks })) same
        (in-script-order speech commands (book-parts speech books) scripts course now s.handles k.all k.many
        (subst (λ (bs : List said.Booking). sent.AllButLastEnded bs) (sym same) (all-but-last (map said_booking s.hub.book) ended)))

    -- what was sent by then
    pub sent-by : (call : Call C) (settings : Settings) (opening given taken : List ℕ) (others : List RawMessage) → call.scripts ≡ scripts → NeedsNoTls settings → IsDone settings call.nonce opening first →
        messages given ≡ first ++ (came.passed ++ others) → AllAsk s.hub.book → IsFront taken (opening ++ said.wire (map said_booking s.hub.book) ++ terminate_frame) →
        SentInOrder (meaning_of speech) call settings given taken
    sent-by call settings opening given taken others same plain done are whole front =
        let ended = all-ended s.hub.book whole in
        let book = map said_booking s.hub.book in
        sent-behind call settings opening first (came.passed ++ others) book asks given taken plain done are
        (subst (λ (xs : List (List C)). InScriptOrder (meaning_of speech) xs (record { trace = []; book = book; replies = groups (came.passed ++ others); asked = asks })) (sym same) (order-so others ended))
        (subst (λ (x : List ℕ). IsFront taken (opening ++ said.wire book ++ x)) (sym (says-goodbye book ended)) front)

  -- ---- in the startup

  -- nothing was asked
  none-asked : (scripts : List (List C)) (replies : List (List RawMessage)) → InScriptOrder (meaning_of speech) scripts (record { trace = []; book = []; replies = replies; asked = [] })
  none-asked scripts replies = record {
    owners = All-nil (λ b. IsSome (entry_at scripts b.stamp.owner b.stamp.command));
    askers = All-nil (λ a. IsSome (entry_at scripts a.stamp.owner a.stamp.command));
    in_order = λ handle i j d le lt. absurd (omega (arith, lt));
    asked_in_order = λ handle i j d le lt. absurd (omega (arith, lt));
    each = λ handle script at. none-begun handle script;
    told = tt;
    ended = tt;
  }
    where
      none-begun : (handle : ℕ) (script : List C) → AskedInOrder (meaning_of speech) (record { trace = []; book = []; replies = replies; asked = [] }) handle 0 speech.begins script
      none-begun handle [] = tt
      none-begun handle (c ∷ cs) = inl (record {
        requests = tt;
        asked = sym (asks-nothing ((meaning_of speech).asks speech.begins c) [] []);
        none_later = λ later lt. (refl, refl);
      })

  -- a front of the startup's frames
  start-sent : (call : Call C) (settings : Settings) (given taken : List ℕ) → NeedsNoTls settings → IsFront taken (concat (startup_after (apart call) settings given).frames) → SentInOrder (meaning_of speech) call settings given taken
  start-sent call settings given taken plain front = record { book = []; asked = []; order = none-asked call.scripts _; front = inr (inr (plain, inl front)) }

  pub sent-failed : (call : Call C) (settings : Settings) (s : Startup) (e : Error) → Means call.config settings → NeedsNoTls settings →
      Failed (plain_login settings call.nonce) 0 call.before call.after s e → OfDialogue (apart call) (λ s g t. SentInOrder (meaning_of speech) call s g t)
  sent-failed call settings s e means plain f = (
    settings,
    means,
    of_grown call.before call.after f.got f.sent (λ g t. SentInOrder (meaning_of speech) call settings g t) f.given f.taken
        (start-sent call settings f.got f.sent plain
        (subst (λ (ms : List RawMessage). IsFront f.sent (concat (startup settings call.nonce ms).frames)) (sym f.came)
        (at-front settings call.nonce f.first f.frame f.read f.wrote f.done f.at f.stands f.rest f.sent f.unsent f.out))),
  )

  pub sent-stopped : (call : Call C) (settings : Settings) (s : Startup) (before after : ℕ) → Means call.config settings →
      StopsOpening settings call.nonce call.before call.after s (error.Stalled before after) → OfDialogue (apart call) (λ s g t. SentInOrder (meaning_of speech) call s g t)
  sent-stopped call settings s before after means h =
      let rests = rests-so h.waited h.polled call.after h.fails.2 in
      let o = h.opening in
      let stands = stands-at settings call.nonce call.before h.polled s o in (
        settings,
        means,
        of_grown call.before call.after o.got o.sent (λ g t. SentInOrder (meaning_of speech) call settings g t) (rests.bytes.given ∙ o.given) (rests.bytes.taken ∙ o.taken)
            (start-sent call settings o.got o.sent h.no_tls
            (subst (λ (ms : List RawMessage). IsFront o.sent (concat (startup settings call.nonce ms).frames)) (sym o.came.messages)
            (at-front settings call.nonce o.first o.frame o.read o.stands.speaks.wrote s.done stands.0 stands.1 (messages s.bytes.buffer.items) o.sent s.bytes.unsent.items
            (o.out ∙ o.stands.speaks.opening)))),
      )

  -- where no byte crossed, whatever the settings say
  pub sent-untouched : (call : Call C) (s : Settings) → Means call.config s → call.after ≡ call.before → OfDialogue (apart call) (λ s g t. SentInOrder (meaning_of speech) call s g t)
  sent-untouched call s means same = (
    s,
    means,
    of_grown call.before call.after [] [] (λ g t. SentInOrder (meaning_of speech) call s g t) (grew_same call.before.given call.after.given (ap (λ (l : LinkView). l.given) same))
        (grew_same call.before.taken call.after.taken (ap (λ (l : LinkView). l.taken) same))
        (record { book = []; asked = []; order = none-asked call.scripts _; front = inl refl }),
  )

  -- where it was opened alone, the startup's frames were sent
  pub sent-opened : (call : Call C) (settings : Settings) → Means call.config settings → WasOpened settings call.nonce call.before call.after → OfDialogue (apart call) (λ s g t. SentInOrder (meaning_of speech) call s g t)
  sent-opened call settings means w =
      let o = w.opened in
      let opening = w.startup.opening.items in (
        settings,
        means,
        of_grown call.before call.after o.got opening (λ g t. SentInOrder (meaning_of speech) call settings g t) o.given o.taken
            (start-sent call settings o.got opening w.no_tls
            (subst (λ (ms : List RawMessage). IsFront opening (concat (startup settings call.nonce ms).frames)) (sym o.came.messages)
            ([], append-nil opening ∙ o.opening ∙ sym (ends-frames settings call.nonce o.first o.frame o.read o.wrote o.done (messages w.startup.bytes.buffer.items))))),
      )
