-- Where a fault comes: the frames before it were answered by the rules of a server.
use Rattle.std.proofs.Common.{◌≡◌, ℕ, zero, suc, ◌+◌, ◌-◌, ◌^◌, ◌<◌, ◌≤◌, Bool, true, false, List, [], ◌∷◌, ◌++◌, Some, None, Result, Ok, Err, refl, sym, ap, ◌∙◌, cond, arith, length, take}
use Rattle.std.specs.Prelude.{min}
use Rattle.std.proofs.lemmas.Grind.{flat_map-append}
use Rattle.std.proofs.lemmas.Option.{none-some}
use Rattle.pg_types.specs.declared.faults.WireFault.{WireFault}
use Rattle.pg_types.specs.declared.faults.WireFault.TheVariants.{BadLength}
use Rattle.pg_spec.specs.ClientFrames.{ClientFrame}
use Rattle.pg_spec.specs.RawMessages.{RawMessage, message_at, message_bytes, messages, has_bad_header}
use Rattle.pg_spec.specs.Sent.{is_terminate}
use Rattle.pg_wire.proofs.Cuts.{messages_of_one}
use Rattle.pg_machine.specs.Serving.{Replied, served}
use Rattle.pg_machine.specs.Sessions.{spoken}
use Rattle.pg_server.specs.declared.fault.ServerFault.{ServerFault}
use Rattle.pg_server.specs.declared.fault.ServerFault.TheVariants as faults
use Rattle.pg_server.specs.declared.session.Stage.TheVariants.{Serves, Over}
use Rattle.pg_server.specs.FaultPlaces.{ComesBehind}
use Rattle.pg_server.specs.Frames.{frame_or_fault}
use Rattle.pg_server.specs.Handlers.{Step, service_of}
use Rattle.pg_server.specs.Hearing.{Said, stopped, before, said_to}
use Rattle.pg_server.specs.Openings.{Starts, opening_in_front}
use Rattle.pg_server.specs.Standings.{Standing, Waits, Says, Stops, unfed, front, at_stage, opened, serving, reading, is_broken, replied, behind_frame}
use Rattle.pg_server.proofs.CutLaws.{front-behind}
use Rattle.pg_server.proofs.HearingLaws.{shorter, said_to-says, said_to-waits, said_to-stops}
use Rattle.pg_server.proofs.ServedLaws.{by_rules}

-- so many frames were answered by the rules before this fault
record Behind {S : Type 0} (step : Step S) (at : Standing S) (bytes : List ℕ) (s : Said S) (fault : ServerFault) : Type 0 where
  frames : ℕ
  fits : frames ≤ length (messages bytes)
  said : s.said ≡ by_rules step at (take frames (messages bytes))
  effect : (n : ℕ) → fault ≡ faults.BadEffect n → n ≡ min (at.answered + frames) (2 ^ 64 - 1)

abbrev FaultIs : {S : Type 0} → Step S → Standing S → List ℕ → ServerFault → Type 0
FaultIs step at bytes fault = (said_to step at bytes).fault ≡ Some fault

-- its count is one
abbrev IsCounted : {S : Type 0} → Standing S → Type 0
IsCounted at = at.answered ≤ 2 ^ 64 - 1

same_fault : (a b : ServerFault) → Some a ≡ Some b → a ≡ b
same_fault a b e = cc

-- it comes at once
at_once : {S : Type 0} (step : Step S) (at : Standing S) (bytes : List ℕ) (f fault : ServerFault) → IsCounted at → front step at bytes ≡ Stops f →
    ((n : ℕ) → f ≡ faults.BadEffect n → n ≡ at.answered) → FaultIs step at bytes fault → Behind step at bytes (said_to step at bytes) fault
at_once {S = S} step at bytes f fault counted stops effect is =
    let all : said_to step at bytes ≡ stopped at bytes f = said_to-stops step at bytes f stops in
    let same : f ≡ fault = same_fault f fault (sym (ap (λ (s : Said S). s.fault) all) ∙ is) in
    record {
      frames = 0;
      fits = omega arith;
      said = ap (λ (s : Said S). s.said) all;
      effect = λ n e. let n_is : n ≡ at.answered = effect n (same ∙ e) in omega (arith, n_is, counted);
    }

-- it doesn't come while more bytes have to
never : {S : Type 0} (step : Step S) (at : Standing S) (bytes : List ℕ) (fault : ServerFault) → front step at bytes ≡ Waits → FaultIs step at bytes fault → ⊥
never {S = S} step at bytes fault waits is = none-some fault (sym (ap (λ (s : Said S). s.fault) (said_to-waits step at bytes waits)) ∙ is)

-- behind Terminate
over : {S : Type 0} (step : Step S) (at : Standing S) (bytes : List ℕ) (fault : ServerFault) → IsCounted at → at.stage ≡ Over → FaultIs step at bytes fault →
    Behind step at bytes (said_to step at bytes) fault
over step at [] fault counted is_over is = absurd (never step at [] fault (ap (at_stage step at []) is_over) is)
over step at (b ∷ bytes) fault counted is_over is = at_once step at (b ∷ bytes) faults.Ended fault counted (ap (at_stage step at (b ∷ bytes)) is_over) (λ n e. absurd cc) is

one_more : (a k n : ℕ) → n ≡ min (min (a + 1) (2 ^ 64 - 1) + k) (2 ^ 64 - 1) → n ≡ min (a + suc k) (2 ^ 64 - 1)
one_more a k n e = omega (arith, e)

-- it comes behind one more frame
one_behind : {S : Type 0} (step : Step S) (at : Standing S) (bytes : List ℕ) (m : RawMessage) (rest : List ℕ) (fault : ServerFault) → message_at bytes ≡ Some (m, rest) →
    front step at bytes ≡ Says (spoken (replied step at m).reply) (behind_frame at m (replied step at m).next) rest →
    Behind step (behind_frame at m (replied step at m).next) rest (said_to step (behind_frame at m (replied step at m).next) rest) fault →
    Behind step at bytes (said_to step at bytes) fault
one_behind {S = S} step at bytes m rest fault e f later =
    let r : Replied S = replied step at m in
    let next : Standing S = behind_frame at m r.next in
    let all : said_to step at bytes ≡ before (spoken r.reply) (said_to step next rest) = said_to-says step at bytes (spoken r.reply) next rest f in
    let frames_are : messages bytes ≡ m ∷ messages rest = messages_of_one bytes m rest e in
    record {
      frames = suc later.frames;
      fits = omega (arith, later.fits, ap length frames_are);
      said = ap (λ (s : Said S). s.said) all ∙ ap (λ (x : List ℕ). spoken r.reply ++ x) later.said
          ∙ sym (flat_map-append message_bytes r.reply (served (service_of step) r.next (take later.frames (messages rest))).reply)
          ∙ ap (λ (ms : List RawMessage). by_rules step at (take (suc later.frames) ms)) (sym frames_are);
      effect = λ n is. one_more at.answered later.frames n (later.effect n is);
    }

later_fault : {S : Type 0} (step : Step S) (at : Standing S) (bytes said : List ℕ) (next : Standing S) (rest : List ℕ) (fault : ServerFault) → front step at bytes ≡ Says said next rest →
    FaultIs step at bytes fault → FaultIs step next rest fault
later_fault {S = S} step at bytes said next rest fault f is = sym (ap (λ (s : Said S). s.fault) (said_to-says step at bytes said next rest f)) ∙ is

-- a whole frame stands there
by_frame : {S : Type 0} (step : Step S) (at : Standing S) (bytes : List ℕ) (m : RawMessage) (rest : List ℕ) (r : Result ClientFrame WireFault) (fault : ServerFault) → IsCounted at →
    message_at bytes ≡ Some (m, rest) → front step at bytes ≡ reading step at m rest r → FaultIs step at bytes fault →
    (length rest < length bytes → FaultIs step (behind_frame at m (replied step at m).next) rest fault →
    Behind step (behind_frame at m (replied step at m).next) rest (said_to step (behind_frame at m (replied step at m).next) rest) fault) →
    Behind step at bytes (said_to step at bytes) fault
by_frame step at bytes m rest (Err f) fault counted e stops is later = at_once step at bytes (faults.BadFrame f) fault counted stops (λ n e. absurd cc) is
by_frame {S = S} step at bytes m rest (Ok frame) fault counted e f is later = by_test (is_broken step at m frame) f
  where
    next : Standing S
    next = behind_frame at m (replied step at m).next

    by_test : (broken : Bool) → front step at bytes ≡ cond broken (Stops (faults.BadEffect at.answered)) (Says (spoken (replied step at m).reply) next rest) →
        Behind step at bytes (said_to step at bytes) fault
    by_test true f = at_once step at bytes (faults.BadEffect at.answered) fault counted f (λ n e. cc) is
    by_test false f =
        one_behind step at bytes m rest fault e f
        (later (shorter bytes rest (front-behind step at bytes (spoken (replied step at m).reply) next rest f))
        (later_fault step at bytes (spoken (replied step at m).reply) next rest fault f is))

-- behind Terminate, or behind any other frame
by_stage : {S : Type 0} (step : Step S) (next : Standing S) (rest : List ℕ) (fault : ServerFault) (t : Bool) → IsCounted next → next.stage ≡ cond t Over Serves → FaultIs step next rest fault →
    (next.stage ≡ Serves → Behind step next rest (said_to step next rest) fault) → Behind step next rest (said_to step next rest) fault
by_stage step next rest fault true counted stage is later = over step next rest fault counted stage is
by_stage step next rest fault false counted stage is later = later stage

by_header : {S : Type 0} (step : Step S) (at : Standing S) (bytes : List ℕ) (bad : Bool) (fault : ServerFault) → IsCounted at → front step at bytes ≡ serving step at None bad →
    FaultIs step at bytes fault → Behind step at bytes (said_to step at bytes) fault
by_header step at bytes true fault counted f is = at_once step at bytes (faults.BadFrame BadLength) fault counted f (λ n e. absurd cc) is
by_header step at bytes false fault counted f is = absurd (never step at bytes fault f is)

within : {S : Type 0} (step : Step S) (n : ℕ) (at : Standing S) (bytes : List ℕ) (fault : ServerFault) → length bytes < n → IsCounted at → at.stage ≡ Serves → FaultIs step at bytes fault →
    Behind step at bytes (said_to step at bytes) fault
within step zero at bytes fault fits counted serves is = absurd (omega arith)
within {S = S} step (suc n) at bytes fault fits counted serves is =
    elim (message_at bytes) as (λ o. message_at bytes ≡ o → front step at bytes ≡ serving step at o (has_bad_header bytes) → Behind step at bytes (said_to step at bytes) fault) [
      | None ↦ λ e f. by_header step at bytes (has_bad_header bytes) fault counted f is
      | Some m ↦ λ e f. by_frame step at bytes m.0 m.1 (frame_or_fault m.0) fault counted e f is
          (λ less later_is. by_stage step (behind_frame at m.0 (replied step at m.0).next) m.1 fault (is_terminate m.0) (omega arith) refl later_is
          (λ stage. within step n (behind_frame at m.0 (replied step at m.0).next) m.1 fault (omega (arith, fits, less)) (omega arith) stage later_is))
    ] refl (ap (at_stage step at bytes) serves)

pub comes-behind : {S : Type 0} (step : Step S) (state : S) (startup bytes rest : List ℕ) (fault : ServerFault) → opening_in_front bytes ≡ Starts rest →
    (said_to step (unfed state startup) bytes).fault ≡ Some fault → ComesBehind step state startup rest (said_to step (unfed state startup) bytes).said fault
comes-behind {S = S} step state startup bytes rest fault starts is =
    let next : Standing S = record (unfed state startup) { stage = Serves } in
    let f : front step (unfed state startup) bytes ≡ Says startup next rest = ap (opened (unfed state startup)) starts in
    let b : Behind step next rest (said_to step next rest) fault
    = within step (suc (length rest)) next rest fault (omega arith) (omega arith) refl (later_fault step (unfed state startup) bytes startup next rest fault f is) in
    record {
      frames = b.frames;
      fits = b.fits;
      said_is = ap (λ (s : Said S). s.said) (said_to-says step (unfed state startup) bytes startup next rest f) ∙ ap (λ (x : List ℕ). startup ++ x) b.said;
      effect = λ n e. let n_is : n ≡ min (0 + b.frames) (2 ^ 64 - 1) = b.effect n e in omega (arith, n_is);
    }
