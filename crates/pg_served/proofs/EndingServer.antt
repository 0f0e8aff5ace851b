-- A session over a link to a server that was just made: its link has a fault only where the server has one for what was sent, and else want
-- of memory alone is left.
use Rattle.std.proofs.Common.{◌≡◌, ℕ, Bool, true, false, List, [], ◌∷◌, ◌++◌, length, Option, Some, None, Result, Ok, Err, inl, inr, ◌⊎◌, refl, sym, ap, ◌∙◌, subst, append_assoc, append-nil, arith}
use Rattle.std.specs.Prelude.{IfOk, IsSome, map}
use Rattle.std.specs.List.{AllByRecursion, concat}
use Rattle.std.proofs.lemmas.Bool.{true≢false}
use Rattle.std.proofs.lemmas.List.{length-append}
use Rattle.std.proofs.lemmas.Option.{none-some}
use Rattle.pg_promises.specs.Causes.{Call, HasCause, startup_after}
use Rattle.pg_promises.specs.ConnectionStrings.{Means}
use Rattle.pg_promises.specs.EndedWell.{EndedWell}
use Rattle.pg_promises.specs.Promises.{IsFront, SentInOrder}
use Rattle.pg_spec.specs.Book.{Booking, wire}
use Rattle.pg_spec.specs.Faults.{Failure, FrameFault}
use Rattle.pg_spec.specs.Faults as errors
use Rattle.pg_spec.specs.Frames.{startup_frame, terminate_frame}
use Rattle.pg_spec.specs.Links.{Rose}
use Rattle.pg_spec.specs.RawMessages.{RawMessage, messages}
use Rattle.pg_spec.specs.Report.{Report}
use Rattle.pg_spec.specs.Settings.{Settings, startup_parameters}
use Rattle.pg_spec.specs.Startup.{First, begun_by, dialogue, plain_login}
use Rattle.pg_wire.specs.LinkCalls.{Continues}
use Rattle.pg_wire.specs.Memory.{as_count}
use Rattle.pg_machine.specs.Serving.{Service, joined, served}
use Rattle.pg_machine.specs.Requests.{SoundAlong}
use Rattle.pg_machine.specs.Sessions.{IsStartup, begun, frames_of, spoken}
use Rattle.pg_machine.proofs.ServingLaws.{SoundAlong-append}
use Rattle.pg_machine.proofs.SessionLaws.{terminate, terminate-messages, wire-messages}
use Rattle.pg_server.specs.declared.fault.ServerFault.{ServerFault}
use Rattle.pg_server.specs.ByteLists.{are_bytes}
use Rattle.pg_server.specs.Handlers.{Step, service_of}
use Rattle.pg_server.specs.Hearing.{Said, before, said_to}
use Rattle.pg_server.specs.Openings.{opening_in_front}
use Rattle.pg_server.specs.ServerLinks.{FailsByFault, Served, link_of, new_link}
use Rattle.pg_server.specs.Servers.{new_heard}
use Rattle.pg_server.specs.Standings.{Front, Standing, front, opened, unfed}
use Rattle.pg_server.specs.Standings as fronts
use Rattle.pg_server.proofs.ByteLaws.{bytes-end}
use Rattle.pg_server.proofs.CutLaws.{Knows, front-known}
use Rattle.pg_server.proofs.FaultCourseLaws.{fault-of-new}
use Rattle.pg_server.proofs.HearingLaws.{said_to-says, said_to-stops, said_to-waits}
use Rattle.pg_server.proofs.ServedLaws.{goes_on}
use Rattle.pg_tool.specs.SessionContract.{SessionContract, SessionResult, session_of}
use Rattle.pg_served.specs.Conforming.{Conforms, HasNoFault, HasNoneBehind, IsValid, MayBook, ServerMustEndWell}
use Rattle.pg_served.specs.Runs.{Asked, HasItsFault, call_over_server}
use Rattle.pg_served.proofs.Booked.{booked-asks, came}
use Rattle.pg_served.proofs.Crossed.{server-said}
use Rattle.pg_served.proofs.Ending.{HasCrossed, Left, Opens, Part, Past, Says, Silent, Stands, Taken, dialogue-says, frame-made, frames-written, never-rose, sent-front, taken-of, what-is-left}
use Rattle.pg_served.proofs.Requests.{AsksQuery, queries-asked}
use Rattle.pg_served.proofs.Saying.{says-front}
use Rattle.pg_served.proofs.Serving.{behind_startup, startup-found}

-- ---- what a server says to a front of what a session sends

-- the bytes behind what stands in front
rest_of : {S : Type 0} → Front S → List ℕ
rest_of fronts.Waits = []
rest_of (fronts.Says said next rest) = rest
rest_of (fronts.Stops fault) = []

is_said : {S : Type 0} → Front S → Bool
is_said fronts.Waits = false
is_said (fronts.Says said next rest) = true
is_said (fronts.Stops fault) = false

-- What it says behind the startup frame is what the rules say to all frames there, and each answer is sound.
pub record SaysAll {S : Type 0} (step : Step S) (state : S) (bytes frame more : List ℕ) : Type 0 where
  pub sound : SoundAlong (service_of step) (begun state) (messages more)
  pub says : (said_to step (unfed state bytes) (frame ++ more)).said ≡ bytes ++ spoken (served (service_of step) (begun state) (messages more)).reply

module _ (S : Type 0) (step : Step S) (state : S) (bytes : List ℕ) (s : Settings) (frame : List ℕ) (made : startup_frame (startup_parameters s) ≡ Ok frame) where
  abbrev at : Standing S
  at = unfed state bytes

  abbrev said : List ℕ → Said S
  said t = said_to step at t

  -- the startup and what is said behind it, or nothing for a fault
  startup-said : (more : List ℕ) → (said (frame ++ more) ≡ before bytes (said_to step (behind_startup state bytes) more))
      ⊎ ((fault : ServerFault) × ((said (frame ++ more)).said ≡ []) × ((said (frame ++ more)).fault ≡ Some fault))
  startup-said more = elim (startup-found (startup_parameters s) frame more made) [
    | inl starts ↦ inl (said_to-says step at (frame ++ more) bytes (behind_startup state bytes) more (ap (opened at) starts))
    | inr breaks ↦
        let all = said_to-stops step at (frame ++ more) breaks.0 (ap (opened at) breaks.1) in
        inr (breaks.0, ap (λ (x : Said S). x.said) all, ap (λ (x : Said S). x.fault) all)
  ]

  -- nothing is said to a part of the startup frame
  pub part-said : (t rest : List ℕ) (x : ℕ) → t ++ x ∷ rest ≡ frame → (said t).said ≡ []
  unfolding rest_of is_said
  part-said t rest x e =
      elim (front step at t) as (λ z. front step at t ≡ z → Knows t (x ∷ rest) z (front step at (t ++ x ∷ rest)) → (said t).said ≡ []) [
        | fronts.Waits ↦ λ is k. ap (λ (a : Said S). a.said) (said_to-waits step at t is)
        | fronts.Says words next more ↦ λ is k. absurd (never words next more k.1)
        | fronts.Stops fault ↦ λ is k. ap (λ (a : Said S). a.said) (said_to-stops step at t fault is)
      ] refl (front-known step at t (x ∷ rest))
    where
      same : front step at (t ++ x ∷ rest) ≡ opened at (opening_in_front (frame ++ []))
      same = ap (λ (l : List ℕ). opened at (opening_in_front l)) (e ∙ sym (append-nil frame))

      never : (words : List ℕ) (next : Standing S) (more : List ℕ) → front step at (t ++ x ∷ rest) ≡ fronts.Says words next (more ++ x ∷ rest) → ⊥
      never words next more k = elim (startup-found (startup_parameters s) frame [] made) [
        | inl starts ↦
            let none : more ++ x ∷ rest ≡ [] = ap rest_of (sym k ∙ same ∙ ap (opened at) starts) in
            omega (arith, ap length none, length-append more (x ∷ rest))
        | inr breaks ↦ true≢false (ap is_said (sym k ∙ same ∙ ap (opened at) breaks.1))
      ]

  -- so it says nothing, or its startup first
  pub server-opens : (sends t : List ℕ) → IsFront t (frame ++ sends) → Opens bytes (said t).said
  server-opens sends t is = by (taken-of frame sends t is)
    where
      by : Taken frame sends t → Opens bytes (said t).said
      by (Part rest x e) = inl (part-said t rest x e)
      by (Past more unsent e ends) = elim (startup-said more) [
        | inl all ↦ inr ((said_to step (behind_startup state bytes) more).said, ap (λ (l : List ℕ). (said l).said) e ∙ ap (λ (a : Said S). a.said) all)
        | inr none ↦ inl (ap (λ (l : List ℕ). (said l).said) e ∙ none.1)
      ]

  -- without a fault it says what the rules say to all frames behind the startup frame, and each answer is sound
  pub says-all : (more : List ℕ) → (said (frame ++ more)).fault ≡ None → SaysAll step state bytes frame more
  says-all more none = elim (startup-said more) [
    | inl all ↦
        let f = says-front step (behind_startup state bytes) more refl in
        let calm : (said_to step (behind_startup state bytes) more).fault ≡ None = sym (ap (λ (a : Said S). a.fault) all) ∙ none in
        let whole : messages more ≡ f.front = f.is ∙ ap (λ (ms : List RawMessage). f.front ++ ms) (f.all calm) ∙ append-nil f.front in
        record {
          sound = subst (SoundAlong (service_of step) (begun state)) (sym whole) f.sound;
          says = ap (λ (a : Said S). a.said) all ∙ ap (λ (l : List ℕ). bytes ++ l) f.says
              ∙ ap (λ (ms : List RawMessage). bytes ++ spoken (served (service_of step) (begun state) ms).reply) (sym whole);
        }
    | inr broken ↦ absurd (none-some broken.0 (sym none ∙ broken.2))
  ]

  -- a fault in the first bytes stays one
  pub calm-front : (a b : List ℕ) → (said (a ++ b)).fault ≡ None → (said a).fault ≡ None
  calm-front a b none = by (said a).fault refl
    where
      by : (o : Option ServerFault) → (said a).fault ≡ o → (said a).fault ≡ None
      by None is = is
      by (Some fault) is = absurd (none-some fault (sym none ∙ ((goes_on step at a b).fault fault is).0))

-- ---- the link that was just made

-- what was sent begins as the startup frame does
begins : (call : Call) (s : Settings) (frame g t : List ℕ) → IsValid call s → startup_frame (startup_parameters s) ≡ Ok frame → SentInOrder call s g t → (sends : List ℕ) × IsFront t (frame ++ sends)
begins call s frame g t v made sent = elim sent.front [
  | inl none ↦ ([], (frame ++ [], ap (λ (l : List ℕ). l ++ (frame ++ [])) none))
  | inr (inl tls) ↦ absurd (v.no_tls tls.0.0)
  | inr (inr (free, inl front)) ↦ (concat others, (front.0, front.1 ∙ ap concat frames))
  | inr (inr (free, inr w)) ↦ (
    (concat others ++ wire sent.book) ++ terminate_frame,
    (
      w.1.0,
      w.1.1 ∙ ap (λ (fs : List (List ℕ)). (concat fs ++ wire sent.book) ++ terminate_frame) frames
          ∙ ap (λ (l : List ℕ). l ++ terminate_frame) (append_assoc frame (concat others) (wire sent.book)) ∙ append_assoc frame (concat others ++ wire sent.book) terminate_frame,
    ),
  )
]
  where
    others : List (List ℕ)
    others = (dialogue (plain_login s call.nonce) First (messages g)).frames

    frames : (startup_after call s g).frames ≡ frame ∷ others
    frames = ap (λ (r : Result (List ℕ) FrameFault). (begun_by r (dialogue (plain_login s call.nonce) First (messages g))).frames) made

module _ (S : Type 0) (step : Step S) (asked : Asked) (state : S) (startup : List ℕ) (cut room : ℕ) (new : Served S) (s : Settings) (f : Failure)
    (contract : SessionContract (call_over_server step asked (new_link (new_heard state startup) cut room) new) (Err f)) (means : Means asked.config s)
    (v : IsValid (call_over_server step asked (new_link (new_heard state startup) cut room) new) s)
    (c : Conforms (call_over_server step asked (new_link (new_heard state startup) cut room) new) s (service_of step) state startup)
    (none : (book : List Booking) → MayBook (call_over_server step asked (new_link (new_heard state startup) cut room) new).scripts book → HasNoFault step state startup c.starts.frame book)
    (bytes : are_bytes new.crossed.taken ≡ true) where
  abbrev service : Service S
  service = service_of step

  abbrev call : Call
  call = call_over_server step asked (new_link (new_heard state startup) cut room) new

  abbrev frame : List ℕ
  frame = c.starts.frame

  abbrev given : List ℕ
  given = new.crossed.given ++ new.crossed.due

  abbrev taken : List ℕ
  taken = new.crossed.taken

  made : startup_frame (startup_parameters s) ≡ Ok frame
  made = frame-made s call.nonce startup c.starts

  k : HasCrossed call new.crossed.given taken new.crossed.due
  k = record { none_given = refl; none_taken = refl; given_is = refl; taken_is = refl; due_is = refl; steady = refl; no_end = never-rose 0 0 refl }

  told : given ≡ (said_to step (unfed state startup) taken).said
  told = server-said step state startup cut room new contract.link (bytes-end taken bytes)

  sent : SentInOrder call s new.crossed.given taken
  sent = dialogue-says call s new.crossed.given taken new.crossed.due means k (λ s g t. SentInOrder call s g t) (contract.sent (s, means, tt))

  opens : Opens startup given
  opens =
      let first = begins call s frame new.crossed.given taken v made sent in
      subst (Opens startup) (sym told) (server-opens S step state startup s frame made first.0 taken first.1)

  abbrev book : List Booking
  book = sent.book

  abbrev sends : List ℕ
  sends = wire book ++ terminate_frame

  may : MayBook call.scripts book
  may = record { owners = sent.owners; order = sent.order }

  asks : AllByRecursion AsksQuery book
  asks = booked-asks call.scripts book may

  calm : (said_to step (unfed state startup) (frame ++ sends)).fault ≡ None
  calm = ap (λ (l : List ℕ). (said_to step (unfed state startup) l).fault) (sym (append_assoc frame (wire book) terminate_frame)) ∙ none book may

  sound : SoundAlong service (begun state) (joined (map frames_of book))
  sound =
      let all : messages sends ≡ joined (map frames_of book) ++ terminate ∷ []
      = wire-messages book terminate_frame (queries-asked service state book asks).requests ∙ ap (λ (ms : List RawMessage). joined (map frames_of book) ++ ms) terminate-messages in
      (SoundAlong-append service (begun state) (joined (map frames_of book)) (terminate ∷ [])
      (subst (SoundAlong service (begun state)) all (says-all S step state startup s frame made sends calm).sound)).0

  was-taken : Taken frame sends taken
  was-taken = taken-of frame sends taken (sent-front call s frame new.crossed.given taken v sent (frames-written s call.nonce startup c.starts new.crossed.given new.crossed.due opens))

  -- no fault for a front of all that may be sent
  quiet-front : (front unsent : List ℕ) → front ++ unsent ≡ frame ++ sends → (said_to step (unfed state startup) front).fault ≡ None
  quiet-front front unsent is =
      calm-front S step state startup s frame made front unsent (ap (λ (l : List ℕ). (said_to step (unfed state startup) l).fault) is ∙ calm)

  stands : Stands service state startup frame book given taken
  stands = by was-taken
    where
      by : Taken frame sends taken → Stands service state startup frame book given taken
      by (Part rest x e) = Silent rest x e (told ∙ part-said S step state startup s frame made taken rest x e)
      by (Past more unsent e ends) =
          let quiet : (said_to step (unfed state startup) (frame ++ more)).fault ≡ None
          = quiet-front (frame ++ more) unsent (append_assoc frame more unsent ∙ ap (λ (l : List ℕ). frame ++ l) ends) in
          Says (came service state startup s frame made book asks given taken more unsent e ends
          (told ∙ ap (λ (l : List ℕ). (said_to step (unfed state startup) l).said) e ∙ (says-all S step state startup s frame made more quiet).says))

  pub none-new : new.fault ≡ None
  none-new = fault-of-new step state startup cut room new contract.link bytes ∙ by was-taken
    where
      by : Taken frame sends taken → (said_to step (unfed state startup) taken).fault ≡ None
      by (Part rest x e) = quiet-front taken (x ∷ rest ++ sends) (sym (append_assoc taken (x ∷ rest) sends) ∙ ap (λ (l : List ℕ). l ++ sends) e)
      by (Past more unsent e ends) =
          quiet-front taken unsent (ap (λ (l : List ℕ). l ++ unsent) e ∙ append_assoc frame more unsent ∙ ap (λ (l : List ℕ). frame ++ l) ends)

  pub left-new : Left call f
  left-new = what-is-left S service state startup call s means v c.starts book asks (c.gives book may) sound new.crossed.given taken new.crossed.due k stands f contract.cause

-- ---- the fault

-- its link fails only where the server has a fault
no-rise : {S : Type 0} (new : Served S) (before : ℕ) → FailsByFault new → Rose before (as_count new.crossed.faults) → new.fault ≡ None → ⊥
no-rise new before fails rose is = let none : new.crossed.faults ≡ 0 = fails is in omega (arith, none, rose)

pub has-fault : {S : Type 0} (new : Served S) (before : ℕ) → FailsByFault new → Rose before (as_count new.crossed.faults) → IsSome new.fault
has-fault new before fails rose = by new.fault refl
  where
    by : (o : Option ServerFault) → new.fault ≡ o → IsSome o
    by None is = absurd (no-rise new before fails rose is)
    by (Some fault) is = refl

pub server-ends : {S : Type 0} (step : Step S) (asked : Asked) (old new : Served S) (r : SessionResult) → FailsByFault new → are_bytes new.crossed.taken ≡ true →
    SessionContract (call_over_server step asked old new) r → ServerMustEndWell step asked old new r
server-ends step asked old new (Ok report) fails bytes contract = λ state startup s made means v c none. tt
server-ends {S = S} step asked old new (Err f) fails bytes contract = λ state startup s made means v c none.
    let from : old ≡ new_link (new_heard state startup) made.cut made.room = made.link_is in
    let c' : Conforms (call_over_server step asked (new_link (new_heard state startup) made.cut made.room) new) s (service_of step) state startup
    = record { starts = c.starts; gives = c.gives } in
    let v' : IsValid (call_over_server step asked (new_link (new_heard state startup) made.cut made.room) new) s = record { user = v.user; nonce = v.nonce; no_tls = v.no_tls } in
    let contract' : SessionContract (call_over_server step asked (new_link (new_heard state startup) made.cut made.room) new) (Err f)
    = subst (λ (m : Served S). SessionContract (call_over_server step asked m new) (Err f)) from contract in
    elim (left-new S step asked state startup made.cut made.room new s f contract' means v' c' none bytes) [
      | inl well ↦ well
      | inr link ↦ absurd (no-rise new 0 fails link.1 (none-new S step asked state startup made.cut made.room new s f contract' means v' c' none bytes))
    ]

-- its fault follows from the bytes taken
pub its-fault : {S : Type 0} (step : Step S) (old new : Served S) → are_bytes new.crossed.taken ≡ true → Continues (link_of step old) (link_of step new) → HasItsFault step old new
its-fault {S = S} step old new bytes goes = λ state startup made.
    fault-of-new step state startup made.cut made.room new (subst (λ (m : Served S). Continues (link_of step m) (link_of step new)) made.link_is goes) bytes

-- ---- behind an answer of Ok

module _ (S : Type 0) (step : Step S) (asked : Asked) (state : S) (startup : List ℕ) (cut room : ℕ) (new : Served S) (s : Settings) (report : Report)
    (contract : SessionContract (call_over_server step asked (new_link (new_heard state startup) cut room) new) (Ok report)) (means : Means asked.config s)
    (starts : IsStartup s asked.nonce startup) (none : HasNoFault step state startup starts.frame report.book) (bytes : are_bytes new.crossed.taken ≡ true) where
  abbrev over : Call
  over = call_over_server step asked (new_link (new_heard state startup) cut room) new

  abbrev first : List ℕ
  first = starts.frame

  written : startup_frame (startup_parameters s) ≡ Ok first
  written = frame-made s asked.nonce startup starts

  abbrev others : List (List ℕ)
  others = (dialogue (plain_login s asked.nonce) First (messages new.crossed.given)).frames

  frames : (startup_after over s new.crossed.given).frames ≡ first ∷ others
  frames = ap (λ (r : Result (List ℕ) FrameFault). (begun_by r (dialogue (plain_login s asked.nonce) First (messages new.crossed.given))).frames) written

  ended : EndedWell (session_of over s new.crossed.given report) new.crossed.taken
  ended =
      dialogue-says over s new.crossed.given new.crossed.taken new.crossed.due means
      (record { none_given = refl; none_taken = refl; given_is = refl; taken_is = refl; due_is = refl; steady = refl; no_end = never-rose 0 0 refl })
      (λ s g t. EndedWell (session_of over s g report) t) contract.ended_well

  -- it wrote one frame in its startup
  one-written : (startup_after over s new.crossed.given).frames ≡ first ∷ []
  one-written =
      let sends : List ℕ = (concat others ++ wire report.book) ++ terminate_frame in
      let front : IsFront new.crossed.taken (first ++ sends) = (
        [],
        append-nil new.crossed.taken ∙ ended.sent ∙ ap (λ (fs : List (List ℕ)). (concat fs ++ wire report.book) ++ terminate_frame) frames
            ∙ ap (λ (l : List ℕ). l ++ terminate_frame) (append_assoc first (concat others) (wire report.book)) ∙ append_assoc first (concat others ++ wire report.book) terminate_frame,
      ) in
      frames-written s asked.nonce startup starts new.crossed.given new.crossed.due
      (subst (Opens startup) (sym (server-said step state startup cut room new contract.link (bytes-end new.crossed.taken bytes)))
      (server-opens S step state startup s first written sends new.crossed.taken front))

  pub none-behind : new.fault ≡ None
  none-behind =
      fault-of-new step state startup cut room new contract.link bytes
      ∙ ap (λ (l : List ℕ). (said_to step (unfed state startup) l).fault)
      (ended.sent ∙ ap (λ (fs : List (List ℕ)). (concat fs ++ wire report.book) ++ terminate_frame) one-written
      ∙ ap (λ (l : List ℕ). (l ++ wire report.book) ++ terminate_frame) (append-nil first))
      ∙ none

pub server-calm : {S : Type 0} (step : Step S) (asked : Asked) (old new : Served S) (r : SessionResult) → are_bytes new.crossed.taken ≡ true → SessionContract (call_over_server step asked old new) r →
    IfOk r (HasNoneBehind step asked old new)
server-calm step asked old new (Err f) bytes contract = tt
server-calm {S = S} step asked old new (Ok report) bytes contract = λ state startup s made means starts none.
    none-behind S step asked state startup made.cut made.room new s report
    (subst (λ (m : Served S). SessionContract (call_over_server step asked m new) (Ok report)) made.link_is contract) means starts none bytes
