-- A session that ended well over a server: what the server is to each request where it is fed one at a time.
use Rattle.std.proofs.Common.{◌≡◌, ℕ, true, List, [], ◌∷◌, ◌++◌, Option, Some, None, Result, Ok, Err, refl, sym, ap, ◌∙◌, subst, append-nil, length, drop}
use Rattle.std.specs.Prelude.{map, unwrap_or, option_map, slice_get}
use Rattle.std.specs.List.{AllByRecursion}
use Rattle.std.proofs.lemmas.List.{drop_at}
use Rattle.pg_promises.specs.EndedWell.{Session, EndedWell, replies, answer_of}
use Rattle.pg_spec.specs.Batches.{is_nothing}
use Rattle.pg_spec.specs.Book.{request_of}
use Rattle.pg_spec.specs.Faults.{FrameFault, Frame, Encode}
use Rattle.pg_spec.specs.Frames.{startup_frame, query_frame}
use Rattle.pg_spec.specs.RawMessages.{RawMessage, messages, bytes_left, groups, sync_of}
use Rattle.pg_spec.specs.Report.{Command, Simple, Failed, simple_answer}
use Rattle.pg_spec.specs.Sent.{after_startup_frame}
use Rattle.pg_spec.specs.Settings.{Settings, startup_parameters}
use Rattle.pg_spec.specs.SimpleQuery.{simple_reading}
use Rattle.pg_spec.specs.Startup.{Startup, Outcome, Done, Refused, More, startup, session_part, used_of, begun_by}
use Rattle.pg_spec.proofs.MessageLaws.{messages-append, messages-join, Fits}
use Rattle.pg_wire.proofs.Cuts.{messages-behind}
use Rattle.pg_machine.specs.Serving.{Service, served, joined}
use Rattle.pg_machine.specs.Requests.{IsReply, SoundAlong}
use Rattle.pg_machine.specs.Sessions.{AreRequests, IsExchange, IsStartup, IsOver, alone, begun, frames_of, spoken}
use Rattle.pg_machine.proofs.ServingLaws.{served-joined, replies-Fit, requests-IsReply, replies-groups}
use Rattle.pg_machine.proofs.SessionLaws.{AllRequests, both_true, session-alone}
use Rattle.pg_session.proofs.Complete.Start.{same-later}
use Rattle.pg_server.specs.Startups.{are_startup, is_startup}
use Rattle.pg_served.specs.OneAtATime.{AsksInRequests, IsOneAtATime, fed_alone}
use Rattle.pg_served.proofs.Requests.{some-times}
use Rattle.pg_served.proofs.Starting.{IsDone, HasStarted, startup-done, nothing}

-- ---- the startup

not-both : (used : ℕ) (o : Outcome) → o ≡ Done used → o ≡ More → ⊥
not-both used (Done u) done more = absurd cc
not-both used (Refused failure) done more = absurd cc
not-both used More done more = absurd cc

-- messages behind a startup that is done change nothing
pub stays-done : (s : Settings) (nonce : List ℕ) (ms more : List RawMessage) → IsDone (startup s nonce ms) → startup s nonce (ms ++ more) ≡ startup s nonce ms
stays-done s nonce ms more done = same-later s nonce ms more done.0 done.1

-- so it isn't done before any message came
pub none-done : (s : Settings) (nonce : List ℕ) → IsDone (startup s nonce []) → ⊥
none-done s nonce done = by_frame (startup_frame (startup_parameters s)) done
  where
    by_frame : (frame : Result (List ℕ) FrameFault) → IsDone (begun_by frame (record { frames = []; outcome = More })) → ⊥
    by_frame (Ok frame) d = absurd (not-both d.0 More d.1 refl)
    by_frame (Err fault) d = absurd cc

-- what was given begins with the startup
pub record HasBegun (s : Settings) (nonce bytes given due : List ℕ) (later : List RawMessage) : Type 0 where
  pub whole : bytes_left bytes ≡ []
  pub started : HasStarted s nonce (messages bytes)
  pub same : startup s nonce (messages given) ≡ startup s nonce (messages bytes)
  pub behind : messages given ++ messages (bytes_left given ++ due) ≡ messages bytes ++ later

pub has-begun : (s : Settings) (nonce bytes given due more : List ℕ) → is_startup bytes ≡ true → given ++ due ≡ bytes ++ more → IsDone (startup s nonce (messages given)) →
    HasBegun s nonce bytes given due (messages more)
has-begun s nonce bytes given due more form all done =
    let parts = both_true (is_nothing (bytes_left bytes)) (are_startup (messages bytes)) form in
    let whole : bytes_left bytes ≡ [] = nothing (bytes_left bytes) parts.0 in
    let tail : List RawMessage = messages (bytes_left given ++ due) in
    let behind : messages given ++ tail ≡ messages bytes ++ messages more
    = sym (messages-append given due) ∙ ap messages all ∙ messages-behind bytes more whole in
    let here : startup s nonce (messages given ++ tail) ≡ startup s nonce (messages given) = stays-done s nonce (messages given) tail done in
    let there : IsDone (startup s nonce (messages bytes ++ messages more)) = subst IsDone (sym here ∙ ap (startup s nonce) behind) done in
    let started : HasStarted s nonce (messages bytes) = startup-done s nonce (messages bytes) (messages more) parts.1 there in
    let settled : IsDone (startup s nonce (messages bytes)) = (length (messages bytes), ap (λ (x : Startup). x.outcome) started.done) in
    record {
      whole = whole;
      started = started;
      same = sym here ∙ ap (startup s nonce) behind ∙ stays-done s nonce (messages bytes) (messages more) settled;
      behind = behind;
    }

-- ---- the answers

-- an answer stands on the replies alone
answer-by : (a b : Session) (command : Command) (request : Option ℕ) → replies a ≡ replies b → answer_of a command request ≡ answer_of b command request
answer-by a b (Simple text take) request same =
    ap (λ (all : List (List RawMessage)). elim (query_frame text) [
      | Err fault ↦ Some (Failed (Encode (Frame fault)))
      | Ok frame ↦ elim request [ None ↦ None | Some k ↦ option_map simple_answer (simple_reading take (unwrap_or (slice_get all k) [])) ]
    ]) same

-- ---- the session

-- it gave its startup, and then what the frames are replied
gives-begun : {S : Type 0} (service : Service S) (begins : S) (s : Settings) (nonce bytes given taken : List ℕ) → is_startup bytes ≡ true → IsOver service begins bytes given taken →
    IsDone (startup s nonce (messages given)) → (due more : List ℕ) × HasBegun s nonce bytes given due (messages more)
gives-begun service begins s nonce bytes given taken form over done = by_taken (after_startup_frame taken) over.in_all
  where
    empty : (xs ys : List ℕ) → xs ++ ys ≡ [] → xs ≡ []
    empty [] ys e = refl
    empty (x ∷ xs) ys e = absurd cc

    by_taken : (o : Option (List ℕ)) → given ++ over.due ≡ elim o [ None ↦ [] | Some rest ↦ bytes ++ spoken (served service (begun begins) (messages rest)).reply ] →
        (due more : List ℕ) × HasBegun s nonce bytes given due (messages more)
    by_taken None all = absurd (none-done s nonce (subst (λ (g : List ℕ). IsDone (startup s nonce (messages g))) (empty given over.due all) done))
    by_taken (Some rest) all =
        let more : List ℕ = spoken (served service (begun begins) (messages rest)).reply in
        (over.due, more, has-begun s nonce bytes given over.due more form all done)

-- the replies where they came one at a time
alone-replies : {S : Type 0} (service : Service S) (begins : S) (bytes : List ℕ) (s : Session) → HasStarted s.settings s.nonce (messages bytes) → bytes_left bytes ≡ [] →
    AreRequests s.report.book → SoundAlong service (begun begins) (joined (map frames_of s.report.book)) → AllByRecursion IsReply (alone service begins s.report.book) →
    replies (fed_alone service begins bytes s) ≡ map sync_of (alone service begins s.report.book)
alone-replies {S = S} service begins bytes s started whole are sound each =
    let requests : List (List RawMessage) = map frames_of s.report.book in
    let said : List RawMessage = joined (alone service begins s.report.book) in
    let fit : AllByRecursion Fits said
    = subst (AllByRecursion Fits) (served-joined service (begun begins) requests) (replies-Fit service (begun begins) (joined requests) sound) in
    let heard : messages (spoken said) ≡ said
    = ap messages (sym (append-nil (spoken said))) ∙ messages-join said [] fit ∙ append-nil said in
    let all : messages (bytes ++ spoken said) ≡ messages bytes ++ said = messages-behind bytes (spoken said) whole ∙ ap (λ (ms : List RawMessage). messages bytes ++ ms) heard in
    let n : ℕ = length (messages bytes) in
    let settled : startup s.settings s.nonce (messages bytes ++ said) ≡ startup s.settings s.nonce (messages bytes)
    = stays-done s.settings s.nonce (messages bytes) said (n, ap (λ (x : Startup). x.outcome) started.done) in
    let used : used_of (startup s.settings s.nonce (messages bytes ++ said)).outcome ≡ n
    = ap (λ (x : Startup). used_of x.outcome) (settled ∙ started.done) in
    ap (λ (ms : List RawMessage). groups (session_part s.settings s.nonce ms)) all
    ∙ ap (λ (k : ℕ). groups (drop k (messages bytes ++ said))) used
    ∙ ap groups (drop_at (messages bytes) said n refl)
    ∙ replies-groups (alone service begins s.report.book) each

pub alone-session : {S : Type 0} (service : Service S) (begins : S) (bytes : List ℕ) (s : Session) (taken : List ℕ) → EndedWell s taken → is_startup bytes ≡ true →
    IsOver service begins bytes s.given taken → SoundAlong service (begun begins) (joined (map frames_of s.report.book)) → AsksInRequests service begins s.report.book →
    IsOneAtATime service begins bytes s
alone-session {S = S} service begins bytes s taken ended form over sound asks =
    let begun_so = gives-begun service begins s.settings s.nonce bytes s.given taken form over ended.started in
    let b = begun_so.2 in
    let started = b.started in
    let exchange : IsExchange s.settings s.nonce s.report.book s.given taken
    = record { started = ended.started; one_group_each = ended.one_group_each; whole_groups = ended.whole_groups; sent = ended.sent } in
    let st : IsStartup s.settings s.nonce bytes = record { whole = b.whole; frame = started.frame; done = started.done } in
    let same : replies s ≡ map sync_of (alone service begins s.report.book)
    = session-alone service begins s.settings s.nonce s.report.book bytes s.given taken exchange st over asks.requests (record { sound = sound; only_copies_open = asks.only_copies_open }) in
    let each : AllByRecursion IsReply (alone service begins s.report.book)
    = requests-IsReply service (begun begins) (map frames_of s.report.book) refl (AllRequests s.report.book asks.requests) sound asks.only_copies_open in
    let there = alone-replies service begins bytes s started b.whole asks.requests sound each in
    record {
      groups = same;
      each = each;
      answers = λ handle place command at.
          let times = some-times s.scripts ended.schedule ended.has_run.one_time_each handle place command at in
          ended.answers handle place command times.0 at times.1
          ∙ answer-by s (fed_alone service begins bytes s) command (request_of s.report.book handle place) (same ∙ sym there);
    }
