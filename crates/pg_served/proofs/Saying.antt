-- What a server says is what the rules say to a front of the frames, each answered soundly.
use Rattle.std.proofs.Common.{◌≡◌, ℕ, zero, suc, ◌<◌, Bool, true, false, not, ◌&&◌, List, [], ◌∷◌, ◌++◌, Option, Some, None, Result, Ok, Err, refl, sym, ap, subst, ◌∙◌, cond, arith, length}
use Rattle.std.specs.Prelude.{IfSome, IsTrue, option_map}
use Rattle.std.proofs.lemmas.Grind.{flat_map-append}
use Rattle.std.proofs.lemmas.Option.{none-some}
use Rattle.pg_types.specs.declared.faults.WireFault.{WireFault}
use Rattle.pg_types.specs.declared.faults.WireFault.TheVariants.{BadLength}
use Rattle.pg_spec.specs.Batches.{is_nothing}
use Rattle.pg_spec.specs.ClientFrames.{ClientFrame, client_frame_of}
use Rattle.pg_spec.specs.RawMessages.{RawMessage, message_at, message_bytes, messages, bytes_left, has_bad_header}
use Rattle.pg_spec.specs.Sent.{is_terminate}
use Rattle.pg_wire.proofs.Cuts.{messages_of_none, messages_of_one}
use Rattle.pg_machine.specs.declared.serving.Turn.{Turn}
use Rattle.pg_machine.specs.declared.serving.Turn.TheVariants.{Silent, Ready, AnswersReady, Answers, TakesData, EndsCopy, Refuses}
use Rattle.pg_machine.specs.Serving as rules
use Rattle.pg_machine.specs.Serving.{Replied, served, turn, kind_of, own_or_refusal}
use Rattle.pg_machine.specs.Sessions.{spoken}
use Rattle.pg_machine.specs.Requests.{SoundAlong, asked, is_sound, is_copy_in}
use Rattle.pg_machine.specs.Tags.{has_two}
use Rattle.pg_machine.proofs.SessionLaws.{both_true}
use Rattle.pg_server.specs.declared.fault.ServerFault.{ServerFault}
use Rattle.pg_server.specs.declared.fault.ServerFault.TheVariants as faults
use Rattle.pg_server.specs.declared.session.Stage.TheVariants.{Serves, Over}
use Rattle.pg_server.specs.Answers.{asks}
use Rattle.pg_server.specs.Frames.{frame_or_fault}
use Rattle.pg_server.specs.declared.handler.Effect.{Effect}
use Rattle.pg_server.specs.Handlers.{Step, service_of, may_give, effect_view, answer_view}
use Rattle.pg_server.specs.Hearing.{Said, said_to}
use Rattle.pg_server.specs.Standings.{Standing, Says, Stops, front, at_stage, serving, reading, serving_of, is_broken, replied, behind_frame}
use Rattle.pg_server.proofs.AnswerLaws.{was_laid_out}
use Rattle.pg_server.proofs.CutLaws.{front-behind}
use Rattle.pg_server.proofs.HearingLaws.{shorter, said_to-says, said_to-waits, said_to-stops}
use Rattle.pg_server.proofs.SettledLaws.{over-silent}

-- This is what the rules say to a front of the frames, each answer of which may be given.
pub record SaysFront {S : Type 0} (step : Step S) (at : Standing S) (bytes said : List ℕ) : Type 0 where
  pub front : List RawMessage
  pub behind : List RawMessage
  pub is : messages bytes ≡ front ++ behind
  pub sound : SoundAlong (service_of step) (serving_of at) front
  pub says : said ≡ spoken (served (service_of step) (serving_of at) front).reply
  -- without a fault it is what they say to all frames
  pub all : (said_to step at bytes).fault ≡ None → behind ≡ []

-- nothing was said
says-nothing : {S : Type 0} (step : Step S) (at : Standing S) (bytes said : List ℕ) → said ≡ [] → ((said_to step at bytes).fault ≡ None → messages bytes ≡ []) → SaysFront step at bytes said
says-nothing step at bytes said none all = record { front = []; behind = messages bytes; is = refl; sound = tt; says = none; all = all }

some-fault : {S : Type 0} (s : Said S) (fault : ServerFault) → s.fault ≡ Some fault → s.fault ≡ None → ⊥
some-fault s fault some none = none-some fault (sym none ∙ some)

-- behind Terminate no frame stands, or there is a fault
over-none : {S : Type 0} (step : Step S) (at : Standing S) (bytes : List ℕ) → at.stage ≡ Over → (said_to step at bytes).fault ≡ None → messages bytes ≡ []
over-none step at [] over none = refl
over-none {S = S} step at (b ∷ bytes) over none =
    absurd (some-fault (said_to step at (b ∷ bytes)) faults.Ended (ap (λ (s : Said S). s.fault) (said_to-stops step at (b ∷ bytes) faults.Ended (ap (at_stage step at (b ∷ bytes)) over))) none)

-- an answer, or another
abbrev or_else : {X : Type 0} → Option X → X → X
or_else o other = elim o [ None ↦ other | Some x ↦ x ]

-- an effect that may be given is sound
effect-sound : {S : Type 0} (step : Step S) (at : Standing S) (m : RawMessage) (frame : ClientFrame) → frame_or_fault m ≡ Ok frame → is_broken step at m frame ≡ false →
    IfSome (asked (service_of step) at.state (turn at.mode (kind_of m)) m) (λ a. IsTrue (is_sound m a.0))
effect-sound {S = S} step at m frame read good = by_turn (turn at.mode (kind_of m)) good
  where
    effect : Effect
    effect = (step at.state frame).0

    given : not (may_give m effect) ≡ false → may_give m effect ≡ true
    given e = by_test (may_give m effect) e
      where
        by_test : (b : Bool) → not b ≡ false → b ≡ true
        by_test true e = refl
        by_test false e = absurd cc

    sound : may_give m effect ≡ true → IsTrue (is_sound m (effect_view effect))
    sound e =
        let may = both_true (is_nothing (bytes_left effect.reply) && is_sound m (effect_view effect)) (not (effect.opens && has_two is_copy_in (messages effect.reply))) e in
        (both_true (is_nothing (bytes_left effect.reply)) (is_sound m (effect_view effect)) may.0).1

    laid : client_frame_of m ≡ Some frame
    laid = was_laid_out m frame read

    own : ClientFrame → rules.Effect × S
    own f = answer_view (step at.state f)

    refused : Option ClientFrame → rules.Effect × S
    refused o = elim o [ None ↦ (record { reply = []; opens = false }, at.state) | Some f ↦ own f ]

    -- of its answer, or else the refusal
    of_answer : (may_give m effect ≡ true) → IsTrue (is_sound m (own_or_refusal (service_of step) at.state m).0)
    of_answer e =
        subst (λ (o : Option ClientFrame). IsTrue (is_sound m (or_else (option_map own o) (refused o)).0)) (sym laid) (sound e)

    by_turn : (t : Turn) → (asks t && not (may_give m effect)) ≡ false → IfSome (asked (service_of step) at.state t m) (λ a. IsTrue (is_sound m a.0))
    by_turn Silent e = tt
    by_turn Ready e = tt
    by_turn TakesData e = subst (λ (o : Option ClientFrame). IfSome (option_map own o) (λ a. IsTrue (is_sound m a.0))) (sym laid) (sound (given e))
    by_turn Refuses e = subst (λ (o : Option ClientFrame). IsTrue (is_sound m (refused o).0)) (sym laid) (sound (given e))
    by_turn AnswersReady e = of_answer (given e)
    by_turn Answers e = of_answer (given e)
    by_turn EndsCopy e = of_answer (given e)

-- ---- one frame behind another

-- how it goes on behind a frame
behind : {S : Type 0} (step : Step S) (next : Standing S) (rest : List ℕ) (t : Bool) → next.stage ≡ cond t Over Serves →
    (next.stage ≡ Serves → SaysFront step next rest (said_to step next rest).said) → SaysFront step next rest (said_to step next rest).said
behind step next rest true stage later = says-nothing step next rest (said_to step next rest).said (over-silent step next rest stage) (over-none step next rest stage)
behind step next rest false stage later = later stage

-- a frame was answered, and this was said behind it
says-more : {S : Type 0} (step : Step S) (at : Standing S) (bytes : List ℕ) (m : RawMessage) (rest : List ℕ) → message_at bytes ≡ Some (m, rest) →
    IfSome (asked (service_of step) at.state (turn at.mode (kind_of m)) m) (λ a. IsTrue (is_sound m a.0)) →
    front step at bytes ≡ Says (spoken (replied step at m).reply) (behind_frame at m (replied step at m).next) rest →
    SaysFront step (behind_frame at m (replied step at m).next) rest (said_to step (behind_frame at m (replied step at m).next) rest).said →
    SaysFront step at bytes (said_to step at bytes).said
says-more {S = S} step at bytes m rest e sound f later =
    let r : Replied S = replied step at m in
    let next : Standing S = behind_frame at m r.next in
    record {
      front = m ∷ later.front;
      behind = later.behind;
      is = messages_of_one bytes m rest e ∙ ap (λ (ms : List RawMessage). m ∷ ms) later.is;
      sound = (sound, later.sound);
      says = ap (λ (s : Said S). s.said) (said_to-says step at bytes (spoken r.reply) next rest f)
          ∙ ap (λ (x : List ℕ). spoken r.reply ++ x) later.says
          ∙ sym (flat_map-append message_bytes r.reply (served (service_of step) r.next later.front).reply);
      all = λ none. later.all (sym (ap (λ (s : Said S). s.fault) (said_to-says step at bytes (spoken r.reply) next rest f)) ∙ none);
    }

stops-silent : {S : Type 0} (step : Step S) (at : Standing S) (bytes : List ℕ) (fault : ServerFault) → front step at bytes ≡ Stops fault → SaysFront step at bytes (said_to step at bytes).said
stops-silent {S = S} step at bytes fault f =
    let all = said_to-stops step at bytes fault f in
    says-nothing step at bytes (said_to step at bytes).said (ap (λ (s : Said S). s.said) all)
    (λ none. absurd (some-fault (said_to step at bytes) fault (ap (λ (s : Said S). s.fault) all) none))

by_frame : {S : Type 0} (step : Step S) (at : Standing S) (bytes : List ℕ) (m : RawMessage) (rest : List ℕ) (r : Result ClientFrame WireFault) → message_at bytes ≡ Some (m, rest) →
    frame_or_fault m ≡ r → front step at bytes ≡ reading step at m rest r →
    (length rest < length bytes → SaysFront step (behind_frame at m (replied step at m).next) rest (said_to step (behind_frame at m (replied step at m).next) rest).said) →
    SaysFront step at bytes (said_to step at bytes).said
by_frame step at bytes m rest (Err fault) e read f later = stops-silent step at bytes (faults.BadFrame fault) f
by_frame {S = S} step at bytes m rest (Ok frame) e read f later = by_test (is_broken step at m frame) refl f
  where
    by_test : (broken : Bool) → is_broken step at m frame ≡ broken →
        front step at bytes ≡ cond broken (Stops (faults.BadEffect at.answered)) (Says (spoken (replied step at m).reply) (behind_frame at m (replied step at m).next) rest) →
        SaysFront step at bytes (said_to step at bytes).said
    by_test true is f = stops-silent step at bytes (faults.BadEffect at.answered) f
    by_test false is f =
        says-more step at bytes m rest e (effect-sound step at m frame read is) f
        (later (shorter bytes rest (front-behind step at bytes (spoken (replied step at m).reply) (behind_frame at m (replied step at m).next) rest f)))

by_header : {S : Type 0} (step : Step S) (at : Standing S) (bytes : List ℕ) (bad : Bool) → message_at bytes ≡ None → front step at bytes ≡ serving step at None bad → SaysFront step at bytes (said_to step at bytes).said
by_header step at bytes true e f = stops-silent step at bytes (faults.BadFrame BadLength) f
by_header {S = S} step at bytes false e f =
    says-nothing step at bytes (said_to step at bytes).said (ap (λ (s : Said S). s.said) (said_to-waits step at bytes f)) (λ none. messages_of_none bytes e)

says-within : {S : Type 0} (step : Step S) (n : ℕ) (at : Standing S) (bytes : List ℕ) → length bytes < n → at.stage ≡ Serves → SaysFront step at bytes (said_to step at bytes).said
says-within step zero at bytes fits serves = absurd (omega arith)
says-within {S = S} step (suc n) at bytes fits serves =
    elim (message_at bytes) as (λ o. message_at bytes ≡ o → front step at bytes ≡ serving step at o (has_bad_header bytes) → SaysFront step at bytes (said_to step at bytes).said) [
      | None ↦ λ e f. by_header step at bytes (has_bad_header bytes) e f
      | Some m ↦ λ e f. by_frame step at bytes m.0 m.1 (frame_or_fault m.0) e refl f
          (λ less. behind step (behind_frame at m.0 (replied step at m.0).next) m.1 (is_terminate m.0) refl
          (says-within step n (behind_frame at m.0 (replied step at m.0).next) m.1 (omega (arith, fits, less))))
    ] refl (ap (at_stage step at bytes) serves)

-- behind the startup frame it says what the rules say to a front of the frames
pub says-front : {S : Type 0} (step : Step S) (at : Standing S) (bytes : List ℕ) → at.stage ≡ Serves → SaysFront step at bytes (said_to step at bytes).said
says-front step at bytes serves = says-within step (suc (length bytes)) at bytes (omega arith) serves
