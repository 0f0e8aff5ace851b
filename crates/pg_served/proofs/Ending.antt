-- Where a session over a server that conforms failed, memory lacked, or its link failed.
use Rattle.std.proofs.Common.{◌≡◌, ◌⊎◌, ℕ, ◌<◌, ◌≤◌, Bool, true, false, not, ◌||◌, List, [], ◌∷◌, ◌++◌, length, drop, Option, Some, None, Result, Ok, Err, inl, inr, refl, sym, ap, subst, ◌∙◌, append_assoc, append-nil, arith}
use Rattle.std.specs.Prelude.{IfSome, IsSome, IsTrue, is_none, slice_get, map}
use Rattle.std.specs.List.{AllByRecursion, concat, list_all}
use Rattle.std.proofs.lemmas.Bool.{true≢false}
use Rattle.std.proofs.lemmas.Grind.{flat_map-append}
use Rattle.std.proofs.lemmas.List.{length-append, drop-append-le, drop_at}
use Rattle.pg_promises.specs.Causes.{Call, HasCause, OfDialogue, OfPlainDialogue, InStartup, Behind, OutOfTurn, IsAwaited, IsPastLimit, startup_after, whole_groups}
use Rattle.pg_promises.specs.ConnectionStrings.{Means}
use Rattle.pg_promises.specs.Promises.{EndsWell, IsFront, SentInOrder}
use Rattle.pg_promises.proofs.Strings.{means_one, no_fault}
use Rattle.pg_spec.specs.Asides.{AsideUnreadable, AsideBreaks, aside_fault, is_readable}
use Rattle.pg_spec.specs.Book.{Booking, wire}
use Rattle.pg_spec.specs.Faults.{FrameFault, WireFault, Failure}
use Rattle.pg_spec.specs.Faults as faults
use Rattle.pg_spec.specs.Frames.{startup_frame, terminate_frame}
use Rattle.pg_spec.specs.Links.{Rose, added}
use Rattle.pg_spec.specs.Messages.{Message}
use Rattle.pg_spec.specs.RawMessages.{RawMessage, messages, message_bytes, bytes_left, has_bad_header, groups, is_async, is_parameter}
use Rattle.pg_spec.specs.Sent.{whole_units}
use Rattle.pg_spec.specs.Settings.{Settings, startup_parameters}
use Rattle.pg_spec.specs.Startup.{Startup, Done, More, First, begun_by, dialogue, plain_login, session_part, startup, used_of}
use Rattle.pg_spec.proofs.GroupLaws.{groups-AreFronts}
use Rattle.pg_spec.proofs.MessageLaws.{Fits, messages-append, bytes_left-append}
use Rattle.pg_machine.specs.Serving.{Service, joined, served}
use Rattle.pg_machine.specs.Requests.{SoundAlong}
use Rattle.pg_machine.specs.Sessions.{IsStartup, begun, frames_of, spoken}
use Rattle.pg_machine.proofs.ServingLaws.{replies-Fit}
use Rattle.pg_session.proofs.Complete.Bytes.{IsFrontOf, all-behind, all-front, all-holds, front-of, messages-behind, never-bad, none-front, place-low}
use Rattle.pg_session.proofs.Complete.Start.{done-later, frames-grow, front-startup, never-refused, same-later, used-within}
use Rattle.pg_session.proofs.Opening.Sent.{cut-front}
use Rattle.pg_served.specs.Conforming.{GivesWell, IsValid, reply_to}
use Rattle.pg_served.proofs.Booked.{Came, behind-startup, front-all, front-sound, replies-to, reply-more, spoken-whole}
use Rattle.pg_served.proofs.Requests.{AsksQuery}
use Rattle.pg_served.proofs.Serving.{wrote-first}
use Rattle.pg_served.proofs.Sessions.{none-done}

-- ---- the frames of the startup

-- the startup frame is written
pub frame-made : (s : Settings) (nonce bytes : List ℕ) → (st : IsStartup s nonce bytes) → startup_frame (startup_parameters s) ≡ Ok st.frame
frame-made s nonce bytes st =
    let w = wrote-first s nonce (messages bytes) (length (messages bytes), ap (λ (x : Startup). x.outcome) st.done) in
    let same : w.frame ∷ w.others ≡ st.frame ∷ [] = sym w.frames ∙ ap (λ (x : Startup). x.frames) st.done in
    let first : w.frame ≡ st.frame = cc in
    w.written ∙ ap Ok first

-- and no other, by messages that go on as the startup does
one-frame : (s : Settings) (nonce bytes : List ℕ) → (st : IsStartup s nonce bytes) → (ms more later : List RawMessage) → ms ++ more ≡ messages bytes ++ later →
    (startup s nonce ms).frames ≡ st.frame ∷ []
one-frame s nonce bytes st ms more later is =
    let n = length (messages bytes) in
    let all : startup s nonce (ms ++ more) ≡ record { frames = st.frame ∷ []; outcome = Done n }
    = ap (startup s nonce) is ∙ same-later s nonce (messages bytes) later n (ap (λ (x : Startup). x.outcome) st.done) ∙ st.done in
    let others = (dialogue (plain_login s nonce) First ms).frames in
    let frames : (startup s nonce ms).frames ≡ st.frame ∷ others
    = ap (λ (r : Result (List ℕ) FrameFault). (begun_by r (dialogue (plain_login s nonce) First ms)).frames) (frame-made s nonce bytes st) in
    let few : length others ≤ 0 = omega (arith, frames-grow s nonce ms more, ap length frames, ap (λ (x : Startup). length x.frames) all) in
    frames ∙ ap (λ (fs : List (List ℕ)). st.frame ∷ fs) (none-long others few)
  where
    none-long : (fs : List (List ℕ)) → length fs ≤ 0 → fs ≡ []
    none-long [] e = refl
    none-long (f ∷ fs) e = absurd (omega (arith, e))

-- nothing was given, or the startup first
abbrev pub Opens : (bytes given : List ℕ) → Type 0
Opens bytes given = (given ≡ []) ⊎ ((more : List ℕ) × (given ≡ bytes ++ more))

pub frames-written : (s : Settings) (nonce bytes : List ℕ) → (st : IsStartup s nonce bytes) → (g due : List ℕ) → Opens bytes (g ++ due) → (startup s nonce (messages g)).frames ≡ st.frame ∷ []
frames-written s nonce bytes st g due (inl none) =
    one-frame s nonce bytes st (messages g) (messages bytes) []
    (ap (λ (l : List ℕ). messages l ++ messages bytes) (none-front g due none) ∙ sym (append-nil (messages bytes)))
frames-written s nonce bytes st g due (inr some) =
    one-frame s nonce bytes st (messages g) (messages (bytes_left g ++ due)) (messages some.0)
    (sym (messages-append g due) ∙ ap messages some.1 ∙ messages-behind bytes some.0 st.whole)

-- so what was sent is a front of that frame, the requests and Terminate
pub sent-front : (call : Call) (s : Settings) (frame g t : List ℕ) → IsValid call s → (sent : SentInOrder call s g t) → (startup_after call s g).frames ≡ frame ∷ [] →
    IsFront t (frame ++ (wire sent.book ++ terminate_frame))
sent-front call s frame g t v sent frames = elim sent.front [
  | inl none ↦ (frame ++ sends, ap (λ (l : List ℕ). l ++ (frame ++ sends)) none)
  | inr (inl tls) ↦ absurd (v.no_tls tls.0.0)
  | inr (inr (free, inl front)) ↦ (
    front.0 ++ sends,
    sym (append_assoc t front.0 sends) ∙ ap (λ (l : List ℕ). l ++ sends) (front.1 ∙ ap concat frames ∙ append-nil frame),
  )
  | inr (inr (free, inr w)) ↦ (
    w.1.0,
    w.1.1 ∙ ap (λ (fs : List (List ℕ)). (concat fs ++ wire sent.book) ++ terminate_frame) frames
        ∙ ap (λ (l : List ℕ). (l ++ wire sent.book) ++ terminate_frame) (append-nil frame) ∙ append_assoc frame (wire sent.book) terminate_frame,
  )
]
  where
    sends : List ℕ
    sends = wire sent.book ++ terminate_frame

-- ---- what was taken

-- a part of the startup frame, or all of it and more
pub data Taken (frame sends t : List ℕ) : Type 0 where
  Part : (rest : List ℕ) (x : ℕ) → t ++ x ∷ rest ≡ frame → Taken frame sends t
  Past : (more unsent : List ℕ) → t ≡ frame ++ more → more ++ unsent ≡ sends → Taken frame sends t

pub taken-of : (frame sends t : List ℕ) → IsFront t (frame ++ sends) → Taken frame sends t
taken-of frame sends t front = elim (cut-front t front.0 frame sends front.1) [
  | inl part ↦ by_rest part.0 part.1
  | inr w ↦ Past w.0 front.0 w.1 w.2
]
  where
    by_rest : (rest : List ℕ) → t ++ rest ≡ frame → Taken frame sends t
    by_rest [] e = Past [] sends (sym (append-nil t) ∙ e ∙ sym (append-nil frame)) refl
    by_rest (x ∷ rest) e = Part rest x e

-- Before the startup frame was taken whole nothing was given; and then the startup, and the reply to the requests that were taken whole.
pub data Stands {S : Type 0} (service : Service S) (begins : S) (bytes frame : List ℕ) (book : List Booking) (given t : List ℕ) : Type 0 where
  Silent : (rest : List ℕ) (x : ℕ) → t ++ x ∷ rest ≡ frame → given ≡ [] → Stands service begins bytes frame book given t
  Says : Came service begins bytes book given t → Stands service begins bytes frame book given t

-- The link was just made, is steady, told its bytes, and didn't end.
pub record HasCrossed (call : Call) (g t due : List ℕ) : Type 0 where
  pub none_given : call.before.given ≡ Some []
  pub none_taken : call.before.taken ≡ Some []
  pub given_is : call.after.given ≡ Some g
  pub taken_is : call.after.taken ≡ Some t
  pub due_is : call.after.due ≡ Some due
  pub steady : IsTrue call.before.steady
  pub no_end : Rose call.before.ends call.after.ends → ⊥

-- P of the settings and the bytes
pub dialogue-says : (call : Call) (s : Settings) (g t due : List ℕ) → Means call.config s → HasCrossed call g t due → (P : Settings → List ℕ → List ℕ → Type 0) → OfDialogue call P → P s g t
dialogue-says call s g t due means k P (s', is, told) =
    let given : added call.before.given call.after.given ≡ Some g = ap (λ o. added o call.after.given) k.none_given ∙ ap (λ o. added (Some []) o) k.given_is in
    let taken : added call.before.taken call.after.taken ≡ Some t = ap (λ o. added o call.after.taken) k.none_taken ∙ ap (λ o. added (Some []) o) k.taken_is in
    subst (λ (x : Settings). P x g t) (means_one call.config s' s is means)
    (subst (λ o. IfSome o (λ t. P s' g t)) taken
    (subst (λ o. IfSome o (λ g. IfSome (added call.before.taken call.after.taken) (λ t. P s' g t))) given told))

-- a count that stands at 0 didn't rise
pub never-rose : (before after : ℕ) → after ≡ 0 → Rose before after → ⊥
never-rose before after none rose = omega (arith, none, rose)

-- what is set isn't missing
none-user : (o : Option (List ℕ)) → o ≡ None → IsSome o → ⊥
none-user None none some = absurd cc
none-user (Some user) none some = cc

-- it failed for want of memory, or for its link
abbrev pub Left : Call → Failure → Type 0
Left call f = EndsWell (Err f) ⊎ ((f ≡ faults.Io faults.Link) × Rose call.before.faults call.after.faults)

-- ---- each cause

module _ (S : Type 0) (service : Service S) (begins : S) (bytes : List ℕ) (call : Call) (s : Settings) (means : Means call.config s) (v : IsValid call s) (st : IsStartup s call.nonce bytes)
    (book : List Booking) (asks : AllByRecursion AsksQuery book) (gives : GivesWell service begins bytes call.limit book) (sound : SoundAlong service (begun begins) (joined (map frames_of book)))
    (g t due : List ℕ) (k : HasCrossed call g t due) (stands : Stands service begins bytes st.frame book (g ++ due) t) where
  abbrev n : ℕ
  n = length (messages bytes)

  abbrev reply : List RawMessage
  reply = reply_to service begins book

  abbrev all : List ℕ
  all = bytes ++ spoken reply

  abbrev dialogue_of : List RawMessage → Startup
  dialogue_of ms = startup s call.nonce ms

  fit : AllByRecursion Fits reply
  fit = replies-Fit service (begun begins) (joined (map frames_of book)) sound

  done-bytes : (dialogue_of (messages bytes)).outcome ≡ Done n
  done-bytes = ap (λ (x : Startup). x.outcome) st.done

  messages-all : messages all ≡ messages bytes ++ reply
  messages-all = behind-startup bytes reply st.whole fit

  whole-all : bytes_left all ≡ []
  whole-all = bytes_left-append bytes (spoken reply) ∙ ap (λ (l : List ℕ). bytes_left (l ++ spoken reply)) st.whole ∙ spoken-whole reply fit

  -- what was given is a front of all that may be given
  in-front : (more : List ℕ) × (g ++ more ≡ all)
  in-front = by stands
    where
      by : Stands service begins bytes st.frame book (g ++ due) t → (more : List ℕ) × (g ++ more ≡ all)
      by (Silent rest x e none) = (all, ap (λ (l : List ℕ). l ++ all) (none-front g due none))
      by (Says c) =
          let first = reply_to service begins c.front in
          let later = (served service (served service (begun begins) (joined (map frames_of c.front))).next (joined (map frames_of c.later))).reply in (
            due ++ spoken later,
            sym (append_assoc g due (spoken later)) ∙ ap (λ (l : List ℕ). l ++ spoken later) c.given_is ∙ append_assoc bytes (spoken first) (spoken later)
                ∙ ap (λ (l : List ℕ). bytes ++ l) (sym (flat_map-append message_bytes first later))
                ∙ ap (λ (ms : List RawMessage). bytes ++ spoken ms) (sym (reply-more service begins c.front c.later book c.is)),
          )

  front : IsFrontOf g all
  front = front-of g in-front.0 all in-front.1

  done-front : (dialogue_of (messages g ++ front.more)).outcome ≡ Done n
  done-front = subst (λ (ms : List RawMessage). (dialogue_of ms).outcome ≡ Done n) (sym messages-all ∙ front.is) (done-later s call.nonce (messages bytes) reply n done-bytes)

  -- ---- the startup

  refused : (f : Failure) → InStartup f call s g → ⊥
  refused f h = never-refused s call.nonce (messages g) front.more n f done-front h.1

  done-same : (u : ℕ) → (dialogue_of (messages g)).outcome ≡ Done u → u ≡ n
  done-same u done = elim (front-startup s call.nonce (messages g) front.more n done-front) [
    | inl open_ ↦ absurd (let no : More ≡ Done u = sym open_ ∙ done in cc)
    | inr same ↦ ap used_of (sym done ∙ same)
  ]

  -- it isn't done before anything was given
  none-given : (u : ℕ) → (dialogue_of (messages g)).outcome ≡ Done u → g ++ due ≡ [] → ⊥
  none-given u done none = none-done s call.nonce (u, ap (λ (l : List ℕ). (dialogue_of (messages l)).outcome) (sym (none-front g due none)) ∙ done)

  -- ---- what stands behind it

  readable : list_all is_readable (messages g) ≡ true
  readable = all-front is_readable (messages g) front.more (subst (λ (ms : List RawMessage). list_all is_readable ms ≡ true) (sym messages-all ∙ front.is) gives.readable)

  abbrev tells : RawMessage → Result Message WireFault → Bool
  tells m r = elim r [ Ok message ↦ is_none (aside_fault message) | Err fault ↦ not (is_async m || is_parameter m) ]

  unreadable : (cause : faults.Cause) → AsideUnreadable cause (messages g) → ⊥
  unreadable cause h =
      let read : is_readable h.0 ≡ true = all-holds is_readable (messages g) h.0 readable h.2 in
      let not-read : is_readable h.0 ≡ false = ap (tells h.0) h.3 ∙ ap (λ (o : Option faults.Cause). is_none o) h.4 in
      true≢false (sym read ∙ not-read)

  breaks : (fault : WireFault) → Behind call s g (AsideBreaks fault) → ⊥
  breaks fault (plain, (u, done, h)) =
      let read : is_readable h.0 ≡ true = all-holds is_readable (session_part s call.nonce (messages g)) h.0
      (all-behind is_readable (used_of (dialogue_of (messages g)).outcome) (messages g) readable) h.1 in
      let not-read : is_readable h.0 ≡ false = ap (tells h.0) h.3 ∙ ap (λ (b : Bool). not b) h.2 in
      true≢false (sym read ∙ not-read)

  bad-header : IsTrue (has_bad_header (bytes_left g)) → ⊥
  bad-header h = never-bad g in-front.0 (ap bytes_left in-front.1 ∙ whole-all) h

  -- the messages that came behind the startup
  session-is : (u : ℕ) → (dialogue_of (messages g)).outcome ≡ Done u → session_part s call.nonce (messages g) ≡ drop n (messages g)
  session-is u done = ap (λ o. drop (used_of o) (messages g)) done ∙ ap (λ (m : ℕ). drop m (messages g)) (done-same u done)

  -- with those that are due they are the replies to the requests that were taken whole
  behind-is : (c : Came service begins bytes book (g ++ due) t) (u : ℕ) → (dialogue_of (messages g)).outcome ≡ Done u →
      drop n (messages g) ++ messages (bytes_left g ++ due) ≡ reply_to service begins c.front
  behind-is c u done =
      let later = messages (bytes_left g ++ due) in
      let first = reply_to service begins c.front in
      let fits : AllByRecursion Fits first = replies-Fit service (begun begins) (joined (map frames_of c.front)) (front-sound service begins c.front c.later book c.is sound) in
      let whole : messages g ++ later ≡ messages bytes ++ first = sym (messages-append g due) ∙ ap messages c.given_is ∙ behind-startup bytes first st.whole fits in
      let enough : n ≤ length (messages g) = used-within s call.nonce (messages g) n (done ∙ ap Done (done-same u done)) in
      sym (drop-append-le n (messages g) later enough) ∙ ap (drop n) whole ∙ drop_at (messages bytes) first n refl

  asks-front : (c : Came service begins bytes book (g ++ due) t) → AllByRecursion AsksQuery c.front
  asks-front c = front-all AsksQuery c.front c.later (subst (AllByRecursion AsksQuery) (sym c.is) asks)

  -- no message comes out of turn
  in-turn : (f : Failure) → Behind call s g (OutOfTurn f t) → ⊥
  in-turn f (plain, (u, done, o)) = by stands
    where
      by : Stands service begins bytes st.frame book (g ++ due) t → ⊥
      by (Silent rest x e none) = none-given u done none
      by (Says c) =
          let are = replies-to service begins c.front (asks-front c) (front-sound service begins c.front c.later book c.is sound) in
          let came_so = drop n (messages g) in
          let later = messages (bytes_left g ++ due) in
          let there = groups-AreFronts came_so later o.before (o.first ∷ o.group)
          (subst (λ (ms : List RawMessage). slice_get (groups ms) o.before ≡ Some (o.first ∷ o.group)) (session-is u done) o.stands) in
          let place = place-low (groups (came_so ++ later)) o.before ((o.first ∷ o.group) ++ there.0) there.1 in
          let count : length (groups (came_so ++ later)) ≡ length c.front = ap (λ (ms : List RawMessage). length (groups ms)) (behind-is c u done) ∙ are.count in
          let unasked = o.unasked in
          let few = c.few in
          omega (arith, place, count, unasked, few)

  -- ---- nothing more may come

  module _ (dry : call.after.due ≡ Some []) where
    none-due : due ≡ []
    none-due = same_due (sym k.due_is ∙ dry)
      where
        same_due : Some due ≡ Some [] → due ≡ []
        same_due e = cc

    all-came : (c : Came service begins bytes book (g ++ due) t) → g ≡ bytes ++ spoken (reply_to service begins c.front)
    all-came c = sym (append-nil g) ∙ ap (λ (l : List ℕ). g ++ l) (sym none-due) ∙ c.given_is

    came-messages : (c : Came service begins bytes book (g ++ due) t) → messages g ≡ messages bytes ++ reply_to service begins c.front
    came-messages c =
        ap messages (all-came c) ∙ behind-startup bytes (reply_to service begins c.front) st.whole
        (replies-Fit service (begun begins) (joined (map frames_of c.front)) (front-sound service begins c.front c.later book c.is sound))

    -- all that the startup writes was taken, so it is done
    goes-on : (dialogue_of (messages g)).outcome ≡ More → t ≡ concat (dialogue_of (messages g)).frames → ⊥
    goes-on more is = by stands
      where
        by : Stands service begins bytes st.frame book (g ++ due) t → ⊥
        by (Silent rest x e none) =
            let frames : (dialogue_of (messages g)).frames ≡ st.frame ∷ [] = frames-written s call.nonce bytes st g due (inl none) in
            let whole : t ≡ st.frame = is ∙ ap concat frames ∙ append-nil st.frame in
            omega (arith, ap length whole, ap length e, length-append t (x ∷ rest))
        by (Says c) =
            let done : (dialogue_of (messages g)).outcome ≡ Done n
            = ap (λ (ms : List RawMessage). (dialogue_of ms).outcome) (came-messages c) ∙ done-later s call.nonce (messages bytes) (reply_to service begins c.front) n done-bytes in
            let no : More ≡ Done n = sym more ∙ done in cc

    -- each request that was taken whole is replied
    replied : (u : ℕ) → (dialogue_of (messages g)).outcome ≡ Done u → whole_groups (session_part s call.nonce (messages g)) < whole_units t → ⊥
    replied u done less = by stands
      where
        by : Stands service begins bytes st.frame book (g ++ due) t → ⊥
        by (Silent rest x e none) = none-given u done none
        by (Says c) =
            let first = reply_to service begins c.front in
            let are = replies-to service begins c.front (asks-front c) (front-sound service begins c.front c.later book c.is sound) in
            let part : session_part s call.nonce (messages g) ≡ first = session-is u done ∙ ap (drop n) (came-messages c) ∙ drop_at (messages bytes) first n refl in
            let count : whole_groups (session_part s call.nonce (messages g)) ≡ length c.front = ap whole_groups part ∙ are.whole in
            let whole = c.count in
            omega (arith, less, count, whole)

    not-awaited : IsAwaited call s g t → ⊥
    not-awaited (inl (plain, more, is)) = goes-on more is
    not-awaited (inr (inl asked)) = v.no_tls asked.0.0
    not-awaited (inr (inr (plain, (u, done, less)))) = replied u done less

  -- ---- each failure

  says : (P : Settings → List ℕ → List ℕ → Type 0) → OfDialogue call P → P s g t
  says P h = dialogue-says call s g t due means k P h

  -- the same of settings that require no TLS
  plain-says : (P : Settings → List ℕ → List ℕ → Type 0) → OfPlainDialogue call P → P s g t
  plain-says P (s', is, both) = says P (s', is, both.1)

  within : (given limit : ℕ) → IsPastLimit call given limit → ⊥
  within given limit h =
      let count : length g ≡ given = says (λ s g t. length g ≡ given) (s, means, h.counted) in
      let more : length g ≤ length all = subst (λ (l : List ℕ). length g ≤ length l) in-front.1 (omega (arith, length-append g in-front.0)) in
      let most = gives.within in
      let past = h.more in
      let is = h.asked in
      omega (arith, count, more, most, past, is)

  no-tls : (cause : faults.Cause) → HasCause call (faults.Tls cause) → ⊥
  no-tls cause h = v.no_tls (ap (λ (x : Settings). x.ssl_mode) (sym (means_one call.config h.1.0 s h.1.1 means)) ∙ h.1.2.0)

  -- nothing is wrong with the bytes
  no-fault : (fault : WireFault) → OfPlainDialogue call (λ s g t.
      ((fault ≡ faults.BadLength) × IsTrue (has_bad_header (bytes_left g)))
      ⊎ InStartup (faults.Io (faults.Wire fault)) call s g ⊎ Behind call s g (AsideBreaks fault)) → ⊥
  no-fault fault h = elim (plain-says _ h) [
    | inl header ↦ bad-header header.1
    | inr (inl start) ↦ refused (faults.Io (faults.Wire fault)) start
    | inr (inr later) ↦ breaks fault later
  ]

  -- it failed for want of memory, or for its link
  pub what-is-left : (f : Failure) → HasCause call f → Left call f
  what-is-left (faults.ConfigParse cause) h = absurd (no_fault call.config s cause means h)
  what-is-left (faults.Config faults.NoUser) h =
      absurd (none-user s.user (ap (λ (x : Settings). x.user) (sym (means_one call.config h.0 s h.1 means)) ∙ h.2) v.user)
  what-is-left (faults.Config faults.Nonce) h = absurd (true≢false (sym v.nonce ∙ h.1))
  what-is-left (faults.Config faults.NoPassword) h = absurd (refused (faults.Config faults.NoPassword) (plain-says _ h))
  what-is-left (faults.Config _) h = absurd h
  what-is-left (faults.Tls cause) h = absurd (no-tls cause h)
  what-is-left (faults.Encode (faults.Frame faults.ZeroByte)) h = absurd (refused (faults.Encode (faults.Frame faults.ZeroByte)) (plain-says _ h))
  what-is-left (faults.Encode (faults.Frame faults.TooMany)) h = absurd (refused (faults.Encode (faults.Frame faults.TooMany)) (plain-says _ h))
  what-is-left (faults.Encode (faults.Frame faults.TooLong)) h = absurd (refused (faults.Encode (faults.Frame faults.TooLong)) (plain-says _ h))
  what-is-left (faults.Encode _) h = absurd h
  what-is-left (faults.Authentication cause) h = absurd (refused (faults.Authentication cause) (plain-says _ h.1))
  what-is-left (faults.Db error) h = elim (plain-says _ h) [
    | inl start ↦ absurd (refused (faults.Db error) start)
    | inr later ↦ absurd (in-turn (faults.Db error) later)
  ]
  what-is-left faults.UnexpectedMessage h = elim (plain-says _ h) [
    | inl start ↦ absurd (refused faults.UnexpectedMessage start)
    | inr later ↦ absurd (in-turn faults.UnexpectedMessage later)
  ]
  what-is-left (faults.Parse cause) h = elim (plain-says _ h.1) [
    | inl start ↦ absurd (refused (faults.Parse cause) start)
    | inr (inl aside) ↦ absurd (unreadable cause aside)
    | inr (inr later) ↦ absurd (in-turn (faults.Parse cause) later)
  ]
  what-is-left (faults.Io faults.Link) h = inr (refl, h)
  what-is-left (faults.Io faults.Ended) h = absurd (k.no_end h.0)
  what-is-left (faults.Io (faults.Wire faults.BadLength)) h = absurd (no-fault faults.BadLength h)
  what-is-left (faults.Io (faults.Wire faults.UnknownTag)) h = absurd (no-fault faults.UnknownTag h)
  what-is-left (faults.Io (faults.Wire faults.Layout)) h = absurd (no-fault faults.Layout h)
  what-is-left (faults.Io (faults.Wire faults.NotUtf8)) h = absurd (no-fault faults.NotUtf8 h)
  what-is-left (faults.Io _) h = absurd h
  what-is-left faults.Closed h = absurd (k.no_end h.0)
  what-is-left (faults.Stalled before after) h =
      let a = h.awaited k.steady in
      absurd (not-awaited a.0 (says (λ s g t. IsAwaited call s g t) a.1))
  what-is-left (faults.LimitReached given limit) h = absurd (within given limit h)
  what-is-left faults.OutOfMemory h = inl tt
  what-is-left _ h = absurd h
