-- Where a server is cut from its bytes makes no difference, and behind the startup frame it says what the rules of a server say.
use Rattle.std.proofs.Common.{◌≡◌, ℕ, zero, suc, ◌<◌, Bool, true, false, List, [], ◌∷◌, ◌++◌, Some, None, Result, Ok, Err, refl, sym, ap, subst, ◌∙◌, cond, arith, length, append_assoc}
use Rattle.std.proofs.lemmas.Grind.{flat_map-append}
use Rattle.std.proofs.lemmas.Option.{none-some}
use Rattle.pg_types.specs.declared.faults.WireFault.{WireFault}
use Rattle.pg_types.specs.declared.faults.WireFault.TheVariants.{BadLength}
use Rattle.pg_spec.specs.ClientFrames.{ClientFrame}
use Rattle.pg_spec.specs.RawMessages.{RawMessage, message_at, message_bytes, messages, has_bad_header}
use Rattle.pg_spec.specs.Sent.{is_terminate}
use Rattle.pg_wire.proofs.Cuts.{messages_of_one, messages_of_none}
use Rattle.pg_machine.specs.Serving.{Replied, served}
use Rattle.pg_machine.specs.Sessions.{spoken}
use Rattle.pg_server.specs.declared.fault.ServerFault.{ServerFault}
use Rattle.pg_server.specs.declared.fault.ServerFault.TheVariants as faults
use Rattle.pg_server.specs.declared.session.Stage.TheVariants.{Serves, Over}
use Rattle.pg_server.specs.Frames.{frame_or_fault}
use Rattle.pg_server.specs.Handlers.{Step, service_of}
use Rattle.pg_server.specs.Hearing.{Said, stopped, before, said_to}
use Rattle.pg_server.specs.Standings.{Standing, Waits, Says, Stops, front, at_stage, serving, reading, serving_of, is_broken, replied, behind_frame}
use Rattle.pg_server.proofs.CutLaws.{Knows, front-known, front-behind}
use Rattle.pg_server.proofs.HearingLaws.{shorter, said_to-says, said_to-waits, said_to-stops}

-- ---- more bytes

-- what is said to more bytes, by what was said to the first of them
pub record GoesOn {S : Type 0} (step : Step S) (at : Standing S) (a b : List ℕ) (s : Said S) : Type 0 where
  pub whole : s.fault ≡ None → said_to step at (a ++ b) ≡ before s.said (said_to step s.next (s.left ++ b))
  pub fault : (f : ServerFault) → s.fault ≡ Some f → ((said_to step at (a ++ b)).fault ≡ Some f) × ((said_to step at (a ++ b)).said ≡ s.said)

goes_on-within : {S : Type 0} (step : Step S) (n : ℕ) (at : Standing S) (a b : List ℕ) → length a < n → GoesOn step at a b (said_to step at a)
goes_on-within step zero at a b fits = absurd (omega arith)
goes_on-within {S = S} step (suc n) at a b fits =
    elim (front step at a) as (λ x. front step at a ≡ x → Knows a b x (front step at (a ++ b)) → GoesOn step at a b (said_to step at a)) [
      | Waits ↦ λ e k. subst (GoesOn step at a b) (sym (said_to-waits step at a e)) (record { whole = λ none. refl; fault = λ f is. absurd (none-some f is) })
      | Says said next rest ↦ λ e k.
          let later = goes_on-within step n next rest b (omega (arith, fits, shorter a rest k.0)) in
          let all : said_to step at (a ++ b) ≡ before said (said_to step next (rest ++ b)) = said_to-says step at (a ++ b) said next (rest ++ b) k.1 in
          subst (GoesOn step at a b) (sym (said_to-says step at a said next rest e)) (record {
            whole = λ none. all ∙ ap (before said) (later.whole none)
                ∙ ap (λ (x : List ℕ). record (said_to step (said_to step next rest).next ((said_to step next rest).left ++ b)) { said = x })
                (sym (append_assoc said (said_to step next rest).said (said_to step (said_to step next rest).next ((said_to step next rest).left ++ b)).said));
            fault = λ f is. let l = later.fault f is in (
              ap (λ (s : Said S). s.fault) all ∙ l.0,
              ap (λ (s : Said S). s.said) all ∙ ap (λ (x : List ℕ). said ++ x) l.1,
            );
          })
      | Stops fault ↦ λ e k.
          let all : said_to step at (a ++ b) ≡ stopped at (a ++ b) fault = said_to-stops step at (a ++ b) fault k in
          subst (GoesOn step at a b) (sym (said_to-stops step at a fault e)) (record {
            whole = λ none. absurd (none-some fault (sym none));
            fault = λ f is. (ap (λ (s : Said S). s.fault) all ∙ is, ap (λ (s : Said S). s.said) all);
          })
    ] refl (front-known step at a b)

pub goes_on : {S : Type 0} (step : Step S) (at : Standing S) (a b : List ℕ) → GoesOn step at a b (said_to step at a)
goes_on step at a b = goes_on-within step (suc (length a)) at a b (omega arith)

-- ---- behind the startup frame

-- what the rules of a server say
abbrev pub by_rules : {S : Type 0} → Step S → Standing S → List RawMessage → List ℕ
by_rules step at ms = spoken (served (service_of step) (serving_of at) ms).reply

abbrev IsByRules : {S : Type 0} → Step S → Standing S → List ℕ → Said S → Type 0
IsByRules step at bytes s = s.fault ≡ None → s.said ≡ by_rules step at (messages bytes)

-- where it is over nothing is left
over-nothing : {S : Type 0} (step : Step S) (at : Standing S) (bytes : List ℕ) → at.stage ≡ Over → IsByRules step at bytes (said_to step at bytes)
over-nothing {S = S} step at [] over none = ap (λ (s : Said S). s.said) (said_to-waits step at [] (ap (at_stage step at []) over))
over-nothing {S = S} step at (b ∷ bytes) over none =
    absurd (none-some faults.Ended (sym (sym (ap (λ (s : Said S). s.fault) (said_to-stops step at (b ∷ bytes) faults.Ended (ap (at_stage step at (b ∷ bytes)) over))) ∙ none)))

no_fault : {S : Type 0} (s : Said S) (fault : ServerFault) → s.fault ≡ Some fault → s.fault ≡ None → ⊥
no_fault s fault some none = none-some fault (sym none ∙ some)

-- no whole frame stands there
by_header : {S : Type 0} (step : Step S) (at : Standing S) (bytes : List ℕ) (bad : Bool) → message_at bytes ≡ None → front step at bytes ≡ serving step at None bad →
    IsByRules step at bytes (said_to step at bytes)
by_header {S = S} step at bytes true e f none =
    absurd (no_fault (said_to step at bytes) (faults.BadFrame BadLength) (ap (λ (s : Said S). s.fault) (said_to-stops step at bytes (faults.BadFrame BadLength) f)) none)
by_header {S = S} step at bytes false e f none = ap (λ (s : Said S). s.said) (said_to-waits step at bytes f) ∙ ap (by_rules step at) (sym (messages_of_none bytes e))

-- a frame was answered, and this holds of those behind it
said_all : {S : Type 0} (step : Step S) (at : Standing S) (bytes : List ℕ) (m : RawMessage) (rest : List ℕ) → message_at bytes ≡ Some (m, rest) →
    front step at bytes ≡ Says (spoken (replied step at m).reply) (behind_frame at m (replied step at m).next) rest →
    IsByRules step (behind_frame at m (replied step at m).next) rest (said_to step (behind_frame at m (replied step at m).next) rest) →
    IsByRules step at bytes (said_to step at bytes)
said_all {S = S} step at bytes m rest e f later none =
    let r : Replied S = replied step at m in
    let next : Standing S = behind_frame at m r.next in
    let all : said_to step at bytes ≡ before (spoken r.reply) (said_to step next rest) = said_to-says step at bytes (spoken r.reply) next rest f in
    ap (λ (s : Said S). s.said) all
    ∙ ap (λ (x : List ℕ). spoken r.reply ++ x) (later (sym (ap (λ (s : Said S). s.fault) all) ∙ none))
    ∙ sym (flat_map-append message_bytes r.reply (served (service_of step) r.next (messages rest)).reply)
    ∙ ap (by_rules step at) (sym (messages_of_one bytes m rest e))

-- a whole frame stands there
by_frame : {S : Type 0} (step : Step S) (at : Standing S) (bytes : List ℕ) (m : RawMessage) (rest : List ℕ) (r : Result ClientFrame WireFault) → message_at bytes ≡ Some (m, rest) →
    front step at bytes ≡ reading step at m rest r →
    (length rest < length bytes → IsByRules step (behind_frame at m (replied step at m).next) rest (said_to step (behind_frame at m (replied step at m).next) rest)) →
    IsByRules step at bytes (said_to step at bytes)
by_frame {S = S} step at bytes m rest (Err fault) e f later none =
    absurd (no_fault (said_to step at bytes) (faults.BadFrame fault) (ap (λ (s : Said S). s.fault) (said_to-stops step at bytes (faults.BadFrame fault) f)) none)
by_frame {S = S} step at bytes m rest (Ok frame) e f later none = by_test (is_broken step at m frame) f
  where
    by_test : (broken : Bool) → front step at bytes ≡ cond broken (Stops (faults.BadEffect at.answered)) (Says (spoken (replied step at m).reply) (behind_frame at m (replied step at m).next) rest) →
        (said_to step at bytes).said ≡ by_rules step at (messages bytes)
    by_test true f = absurd (no_fault (said_to step at bytes) (faults.BadEffect at.answered) (ap (λ (s : Said S). s.fault) (said_to-stops step at bytes (faults.BadEffect at.answered) f)) none)
    by_test false f =
        said_all step at bytes m rest e f
        (later (shorter bytes rest (front-behind step at bytes (spoken (replied step at m).reply) (behind_frame at m (replied step at m).next) rest f))) none

-- behind Terminate, or behind any other frame
behind : {S : Type 0} (step : Step S) (next : Standing S) (rest : List ℕ) (t : Bool) → next.stage ≡ cond t Over Serves →
    (next.stage ≡ Serves → IsByRules step next rest (said_to step next rest)) → IsByRules step next rest (said_to step next rest)
behind step next rest true stage later = over-nothing step next rest stage
behind step next rest false stage later = later stage

by_rules-within : {S : Type 0} (step : Step S) (n : ℕ) (at : Standing S) (bytes : List ℕ) → length bytes < n → at.stage ≡ Serves → IsByRules step at bytes (said_to step at bytes)
by_rules-within step zero at bytes fits serves = absurd (omega arith)
by_rules-within {S = S} step (suc n) at bytes fits serves =
    elim (message_at bytes) as (λ o. message_at bytes ≡ o → front step at bytes ≡ serving step at o (has_bad_header bytes) → IsByRules step at bytes (said_to step at bytes)) [
      | None ↦ λ e f. by_header step at bytes (has_bad_header bytes) e f
      | Some m ↦ λ e f. by_frame step at bytes m.0 m.1 (frame_or_fault m.0) e f
          (λ less. behind step (behind_frame at m.0 (replied step at m.0).next) m.1 (is_terminate m.0) refl
          (by_rules-within step n (behind_frame at m.0 (replied step at m.0).next) m.1 (omega (arith, fits, less))))
    ] refl (ap (at_stage step at bytes) serves)

pub served-said : {S : Type 0} (step : Step S) (at : Standing S) (bytes : List ℕ) → at.stage ≡ Serves → (said_to step at bytes).fault ≡ None →
    (said_to step at bytes).said ≡ spoken (served (service_of step) (serving_of at) (messages bytes)).reply
served-said step at bytes serves none = by_rules-within step (suc (length bytes)) at bytes (omega arith) serves none
