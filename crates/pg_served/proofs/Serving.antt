-- A session that ended well over a link to a server: the server stopped at no frame.
use Rattle.std.proofs.Common.{◌≡◌, ℕ, zero, suc, ◌+◌, ◌-◌, ◌<◌, ◌≤◌, Bool, true, false, cond, List, [], ◌∷◌, ◌++◌, Option, Some, None, Result, Ok, Err, refl, sym, ap, ◌∙◌, subst, append_assoc, append-nil, arith, inl, inr, ◌⊎◌, length, drop}
use Rattle.std.specs.Prelude.{map, if◌then◌else◌}
use Rattle.std.specs.Int.{w32, to_be_bytes}
use Rattle.std.specs.List.{concat, flat_map}
use Rattle.std.proofs.lemmas.List.{drop_at, length-append}
use Rattle.pg_types.specs.declared.faults.WireFault.TheVariants.{BadLength, Layout}
use Rattle.pg_promises.specs.EndedWell.{Session, EndedWell, replies}
use Rattle.pg_spec.specs.Book.{Booking, wire}
use Rattle.pg_spec.specs.Bytes.{text0}
use Rattle.pg_spec.specs.Faults.{FrameFault}
use Rattle.pg_spec.specs.Frames.{startup_frame, startup_body, untagged, terminate_frame}
use Rattle.pg_spec.specs.RawMessages.{RawMessage, messages, bytes_left}
use Rattle.pg_spec.specs.Sent.{after_startup_frame}
use Rattle.pg_spec.specs.Settings.{Settings, startup_parameters}
use Rattle.pg_spec.specs.Startup.{Startup, startup, session_part, used_of, dialogue, begun_by, First, plain_login}
use Rattle.pg_spec.proofs.MessageLaws.{messages-join}
use Rattle.pg_spec.proofs.Readers.{bytes_at_front, number_at_front}
use Rattle.pg_spec.proofs.SentLaws.{after_startup_frame-front}
use Rattle.pg_machine.specs.Serving.{Service, Serving, Replied, served, joined}
use Rattle.pg_machine.specs.Requests.{SoundAlong}
use Rattle.pg_machine.specs.Sessions.{IsOver, begun, frames_of, spoken}
use Rattle.pg_machine.proofs.ServingLaws.{served-append, SoundAlong-append, replies-Fit}
use Rattle.pg_machine.proofs.SessionLaws.{AllRequests, silent-Terminate, terminate, terminate-messages, wire-messages}
use Rattle.pg_server.specs.declared.fault.ServerFault.{ServerFault}
use Rattle.pg_server.specs.declared.fault.ServerFault.TheVariants as faults
use Rattle.pg_server.specs.declared.session.Stage.TheVariants.{Serves}
use Rattle.pg_server.specs.Handlers.{Step, service_of}
use Rattle.pg_server.specs.Hearing.{Said, said_to}
use Rattle.pg_server.specs.Openings as opening
use Rattle.pg_server.specs.Openings.{InFront, opening_in_front, opening_behind, opening_by, starting, is_length, is_parameters}
use Rattle.pg_server.specs.Standings.{Standing, opened, unfed}
use Rattle.pg_server.specs.Startups.{is_startup}
use Rattle.pg_server.proofs.HearingLaws.{said_to-says, said_to-stops}
use Rattle.pg_session.proofs.Caused.Frames.{Written, written}
use Rattle.pg_served.specs.OneAtATime.{AsksInRequests}
use Rattle.pg_served.proofs.Counting.{readies, readies-append, groups-readies, split, fewer}
use Rattle.pg_served.proofs.Saying.{SaysFront, says-front}
use Rattle.pg_served.proofs.Sessions.{HasBegun, has-begun, none-done}
use Rattle.pg_served.proofs.Starting.{IsDone, HasStarted}

-- ---- the startup frame is what a server looks for

pub startup-found : (pairs : List (List ℕ × List ℕ)) (frame more : List ℕ) → startup_frame pairs ≡ Ok frame →
    (opening_in_front (frame ++ more) ≡ opening.Starts more) ⊎ ((fault : ServerFault) × (opening_in_front (frame ++ more) ≡ opening.Breaks fault))
startup-found pairs frame more e = by_length (is_length n) refl
  where
    parameters : List ℕ
    parameters = flat_map (λ pair. text0 pair.0 ++ text0 pair.1) pairs ++ 0 ∷ []

    n : ℕ
    n = 4 + length (startup_body pairs)

    w : Written n (untagged (startup_body pairs)) frame
    w = written (map (λ pair. pair.0) pairs ++ map (λ pair. pair.1) pairs) [] n (untagged (startup_body pairs)) frame e

    by_number : Option (ℕ × List ℕ) → InFront
    by_number o = elim o [ None ↦ opening.Short | Some k ↦ if is_length k.0 then opening_behind k.0 k.1 else opening.Breaks (faults.BadFrame BadLength) ]

    by_code : Option (ℕ × List ℕ) → InFront
    by_code o = elim o [ None ↦ opening.Short | Some code ↦ opening_by n code.0 code.1 ]

    by_rest : Option (List ℕ × List ℕ) → InFront
    by_rest o = elim o [ None ↦ opening.Short | Some p ↦ if is_parameters p.0 then opening.Starts p.1 else opening.Breaks (faults.BadFrame Layout) ]

    found : opening_in_front (frame ++ more) ≡ cond (is_length n) (opening_behind n (startup_body pairs ++ more)) (opening.Breaks (faults.BadFrame BadLength))
    found =
        ap (λ (f : List ℕ). opening_in_front (f ++ more)) w.same
        ∙ ap opening_in_front (append_assoc (to_be_bytes w32 n) (startup_body pairs) more)
        ∙ ap by_number (number_at_front n (startup_body pairs ++ more) (omega (arith, w.short)))

    coded : opening_behind n (startup_body pairs ++ more) ≡ starting n (parameters ++ more)
    coded = ap by_code (number_at_front 196608 (parameters ++ more) (omega arith))

    starts : starting n (parameters ++ more) ≡ cond (is_parameters parameters) (opening.Starts more) (opening.Breaks (faults.BadFrame Layout))
    starts = ap by_rest (bytes_at_front parameters more (n - 8) (omega arith))

    by_parameters : (b : Bool) → starting n (parameters ++ more) ≡ cond b (opening.Starts more) (opening.Breaks (faults.BadFrame Layout)) → opening_in_front (frame ++ more) ≡ starting n (parameters ++ more) →
        (opening_in_front (frame ++ more) ≡ opening.Starts more) ⊎ ((fault : ServerFault) × (opening_in_front (frame ++ more) ≡ opening.Breaks fault))
    by_parameters true is all = inl (all ∙ is)
    by_parameters false is all = inr (faults.BadFrame Layout, all ∙ is)

    by_length : (b : Bool) → is_length n ≡ b → (opening_in_front (frame ++ more) ≡ opening.Starts more) ⊎ ((fault : ServerFault) × (opening_in_front (frame ++ more) ≡ opening.Breaks fault))
    by_length true is =
        by_parameters (is_parameters parameters) starts
        (found ∙ ap (λ b. cond b (opening_behind n (startup_body pairs ++ more)) (opening.Breaks (faults.BadFrame BadLength))) is ∙ coded)
    by_length false is =
        inr (faults.BadFrame BadLength, found ∙ ap (λ b. cond b (opening_behind n (startup_body pairs ++ more)) (opening.Breaks (faults.BadFrame BadLength))) is)

-- what a startup that is done wrote first
pub record WroteFirst (s : Settings) (at : Startup) : Type 0 where
  pub frame : List ℕ
  pub others : List (List ℕ)
  pub written : startup_frame (startup_parameters s) ≡ Ok frame
  pub frames : at.frames ≡ frame ∷ others

pub wrote-first : (s : Settings) (nonce : List ℕ) (ms : List RawMessage) → IsDone (startup s nonce ms) → WroteFirst s (startup s nonce ms)
wrote-first s nonce ms done = by_frame (startup_frame (startup_parameters s)) refl done
  where
    by_frame : (frame : Result (List ℕ) FrameFault) → startup_frame (startup_parameters s) ≡ frame → IsDone (begun_by frame (dialogue (plain_login s nonce) First ms)) → WroteFirst s (startup s nonce ms)
    by_frame (Ok frame) is d = record {
      frame = frame;
      others = (dialogue (plain_login s nonce) First ms).frames;
      written = is;
      frames = ap (λ (f : Result (List ℕ) FrameFault). (begun_by f (dialogue (plain_login s nonce) First ms)).frames) is;
    }
    by_frame (Err fault) is d = absurd cc

-- ---- the frames that were sent

-- all requests, and Terminate or nothing behind them
data Reaches (frames front : List RawMessage) : Type 0 where
  Whole : (later : List RawMessage) → front ≡ frames ++ later → (later ≡ []) ⊎ (later ≡ terminate ∷ []) → Reaches frames front
  Part : (frame : RawMessage) (more : List RawMessage) → front ++ frame ∷ more ≡ frames → Reaches frames front

reaches : (frames front behind : List RawMessage) → frames ++ terminate ∷ [] ≡ front ++ behind → Reaches frames front
reaches frames front [] e = Whole (terminate ∷ []) (sym (append-nil front) ∙ sym e) (inr refl)
reaches frames front (frame ∷ behind) e = by_split (split front frame behind frames (terminate ∷ []) (sym e))
  where
    none : (later : List RawMessage) → later ++ frame ∷ behind ≡ terminate ∷ [] → later ≡ []
    none [] e = refl
    none (x ∷ later) e = absurd (omega (arith, ap length e, length-append later (frame ∷ behind)))

    by_split : ((later : List RawMessage) × (front ++ frame ∷ later ≡ frames)) ⊎ ((later : List RawMessage) × (front ≡ frames ++ later) × (later ++ frame ∷ behind ≡ terminate ∷ [])) → Reaches frames front
    by_split (inl found) = Part frame found.0 found.1
    by_split (inr found) = Whole found.0 found.1 (inl (none found.0 found.2))

-- ---- what was given counts the requests that were answered

drop-readies : (n : ℕ) (xs ys : List RawMessage) → readies (drop n xs) ≤ readies (drop n (xs ++ ys))
drop-readies zero xs ys = omega (arith, readies-append xs ys)
drop-readies (suc n) [] ys = omega arith
drop-readies (suc n) (x ∷ xs) ys = drop-readies n xs ys

length-frames : (book : List Booking) → length (map frames_of book) ≡ length book
length-frames [] = refl
length-frames (b ∷ book) = ap suc (length-frames book)

-- ---- the session

-- what a server stands at behind the startup frame
abbrev pub behind_startup : {S : Type 0} → S → List ℕ → Standing S
behind_startup state bytes = record (unfed state bytes) { stage = Serves }

-- the session is one over a server by the rules, each of whose answers is sound
pub record IsServed {S : Type 0} (step : Step S) (state : S) (bytes : List ℕ) (s : Session) (taken : List ℕ) : Type 0 where
  pub over : IsOver (service_of step) state bytes s.given taken
  pub sound : SoundAlong (service_of step) (begun state) (joined (map frames_of s.report.book))

pub served-session : {S : Type 0} (step : Step S) (state : S) (bytes : List ℕ) (s : Session) (taken due : List ℕ) → EndedWell s taken → is_startup bytes ≡ true →
    s.given ++ due ≡ (said_to step (unfed state bytes) taken).said → AsksInRequests (service_of step) state s.report.book → IsServed step state bytes s taken
served-session {S = S} step state bytes s taken due ended form all asks = by_opening (startup-found (startup_parameters s.settings) first.frame rest first.written)
  where
    service : Service S
    service = service_of step

    requests : List (List RawMessage)
    requests = map frames_of s.report.book

    ms : List RawMessage
    ms = messages s.given

    first : WroteFirst s.settings (startup s.settings s.nonce ms)
    first = wrote-first s.settings s.nonce ms ended.started

    -- what was sent behind the startup frame
    rest : List ℕ
    rest = concat first.others ++ (wire s.report.book ++ terminate_frame)

    sent : taken ≡ first.frame ++ rest
    sent =
        ended.sent ∙ ap (λ (frames : List (List ℕ)). concat frames ++ wire s.report.book ++ terminate_frame) first.frames
        ∙ append_assoc (first.frame ++ concat first.others) (wire s.report.book) terminate_frame
        ∙ append_assoc first.frame (concat first.others) (wire s.report.book ++ terminate_frame)

    empty : (xs ys : List ℕ) → xs ++ ys ≡ [] → xs ≡ []
    empty [] ys e = refl
    empty (x ∷ xs) ys e = absurd cc

    -- nothing is said to a frame that is refused
    broken : (fault : ServerFault) → opening_in_front (first.frame ++ rest) ≡ opening.Breaks fault → IsServed step state bytes s taken
    broken fault is =
        let quiet : (said_to step (unfed state bytes) taken).said ≡ []
        = ap (λ (x : Said S). x.said) (said_to-stops step (unfed state bytes) taken fault (ap (λ (t : List ℕ). opened (unfed state bytes) (opening_in_front t)) sent ∙ ap (opened (unfed state bytes)) is)) in
        absurd (none-done s.settings s.nonce (subst (λ (g : List ℕ). IsDone (startup s.settings s.nonce (messages g))) (empty s.given due (all ∙ quiet)) ended.started))

    -- the startup, and what is said to the frames
    opens : opening_in_front (first.frame ++ rest) ≡ opening.Starts rest → s.given ++ due ≡ bytes ++ (said_to step (behind_startup state bytes) rest).said
    opens is =
        all ∙ ap (λ (x : Said S). x.said) (said_to-says step (unfed state bytes) taken bytes (behind_startup state bytes) rest
        (ap (λ (t : List ℕ). opened (unfed state bytes) (opening_in_front t)) sent ∙ ap (opened (unfed state bytes)) is))

    started : opening_in_front (first.frame ++ rest) ≡ opening.Starts rest → HasBegun s.settings s.nonce bytes s.given due (messages (said_to step (behind_startup state bytes) rest).said)
    started is = has-begun s.settings s.nonce bytes s.given due (said_to step (behind_startup state bytes) rest).said form (opens is) ended.started

    -- no frame but the startup frame was sent before the requests
    rest-is : HasStarted s.settings s.nonce (messages bytes) → startup s.settings s.nonce ms ≡ startup s.settings s.nonce (messages bytes) → rest ≡ wire s.report.book ++ terminate_frame
    rest-is h same =
        let frames : first.frame ∷ first.others ≡ h.frame ∷ [] = sym first.frames ∙ ap (λ (x : Startup). x.frames) (same ∙ h.done) in
        let none : first.others ≡ [] = cc in
        ap (λ (frames : List (List ℕ)). concat frames ++ (wire s.report.book ++ terminate_frame)) none

    after : HasStarted s.settings s.nonce (messages bytes) → rest ≡ wire s.report.book ++ terminate_frame → after_startup_frame taken ≡ Some (wire s.report.book ++ terminate_frame)
    after h is =
        let pairs : List (List ℕ × List ℕ) = startup_parameters s.settings in
        let body : List ℕ = drop 1 (startup_body pairs) in
        let w : Written (4 + length (startup_body pairs)) (untagged (startup_body pairs)) first.frame
        = written (map (λ pair. pair.0) pairs ++ map (λ pair. pair.1) pairs) [] (4 + length (startup_body pairs)) (untagged (startup_body pairs)) first.frame first.written in
        ap after_startup_frame (sent ∙ ap (λ (f : List ℕ). f ++ rest) w.same) ∙ after_startup_frame-front body rest (omega (arith, w.short)) ∙ ap (λ (r : List ℕ). Some r) is

    by_front : (b : HasBegun s.settings s.nonce bytes s.given due (messages (said_to step (behind_startup state bytes) rest).said)) → s.given ++ due ≡ bytes ++ (said_to step (behind_startup state bytes) rest).said →
        (f : SaysFront step (behind_startup state bytes) rest (said_to step (behind_startup state bytes) rest).said) → messages rest ≡ joined requests ++ terminate ∷ [] →
        Reaches (joined requests) f.front → IsServed step state bytes s taken
    by_front b given f frames (Whole later is none) =
        let sounds = SoundAlong-append service (begun state) (joined requests) later (subst (SoundAlong service (begun state)) is f.sound) in
        let at : Serving S = (served service (begun state) (joined requests)).next in
        let silent : (served service at later).reply ≡ [] = quiet at none in
        let to : (fs : List RawMessage) (xs : List RawMessage) → fs ≡ joined requests ++ xs → (served service at xs).reply ≡ [] → (served service (begun state) fs).reply ≡ (served service (begun state) (joined requests)).reply
        = λ fs xs e none. ap (λ (x : List RawMessage). (served service (begun state) x).reply) e ∙ ap (λ (r : Replied S). r.reply) (served-append service (begun state) (joined requests) xs)
        ∙ ap (λ (r : List RawMessage). (served service (begun state) (joined requests)).reply ++ r) none ∙ append-nil (served service (begun state) (joined requests)).reply in
        let same : (served service (begun state) f.front).reply ≡ (served service (begun state) (messages rest)).reply
        = to f.front later is silent ∙ sym (to (messages rest) (terminate ∷ []) frames (silent-Terminate service at)) in
        let r : rest ≡ wire s.report.book ++ terminate_frame = rest-is b.started b.same in
        record {
          over = record {
            due = due;
            in_all = given ∙ ap (λ (x : List ℕ). bytes ++ x) f.says ∙ ap (λ (x : List RawMessage). bytes ++ spoken x) same
                ∙ ap (λ (x : List ℕ). bytes ++ spoken (served service (begun state) (messages x)).reply) r
                ∙ sym (ap (λ (o : Option (List ℕ)). elim o [ None ↦ [] | Some x ↦ bytes ++ spoken (served service (begun state) (messages x)).reply ]) (after b.started r));
          };
          sound = sounds.0;
        }
      where
        quiet : (at : Serving S) → (later ≡ []) ⊎ (later ≡ terminate ∷ []) → (served service at later).reply ≡ []
        quiet at (inl e) = ap (λ (x : List RawMessage). (served service at x).reply) e
        quiet at (inr e) = ap (λ (x : List RawMessage). (served service at x).reply) e ∙ silent-Terminate service at
    by_front b given f frames (Part frame more is) =
        let reply : List RawMessage = (served service (begun state) f.front).reply in
        let few : readies reply < length requests = fewer service (begun state) requests f.front frame more refl (AllRequests s.report.book asks.requests) asks.only_copies_open f.sound is in
        let heard : messages (said_to step (behind_startup state bytes) rest).said ≡ reply
        = ap messages (f.says ∙ sym (append-nil (spoken reply))) ∙ messages-join reply [] (replies-Fit service (begun state) f.front f.sound) ∙ append-nil reply in
        let tail : List RawMessage = messages (bytes_left s.given ++ due) in
        let n : ℕ = length (messages bytes) in
        let used : used_of (startup s.settings s.nonce ms).outcome ≡ n = ap (λ (x : Startup). used_of x.outcome) (b.same ∙ b.started.done) in
        let part : session_part s.settings s.nonce ms ≡ drop n ms = ap (λ (k : ℕ). drop k ms) used in
        let whole : drop n (ms ++ tail) ≡ reply
        = ap (drop n) b.behind ∙ drop_at (messages bytes) (messages (said_to step (behind_startup state bytes) rest).said) n refl ∙ heard in
        let many : length (replies s) ≤ readies (session_part s.settings s.nonce ms) = groups-readies (session_part s.settings s.nonce ms) ended.whole_groups in
        absurd (omega (arith, few, many, ended.one_group_each, length-frames s.report.book, drop-readies n ms tail, ap readies part, ap readies whole))

    by_opening : (opening_in_front (first.frame ++ rest) ≡ opening.Starts rest) ⊎ ((fault : ServerFault) × (opening_in_front (first.frame ++ rest) ≡ opening.Breaks fault)) → IsServed step state bytes s taken
    by_opening (inl is) =
        let b = started is in
        let f = says-front step (behind_startup state bytes) rest refl in
        let frames : messages rest ≡ joined requests ++ terminate ∷ []
        = ap messages (rest-is b.started b.same) ∙ wire-messages s.report.book terminate_frame asks.requests ∙ ap (λ (x : List RawMessage). joined requests ++ x) terminate-messages in
        by_front b (opens is) f frames (reaches (joined requests) f.front f.behind (sym frames ∙ f.is))
    by_opening (inr is) = broken is.0 is.1
