-- A whole frame, read and answered.
use Rattle.std.proofs.Common.{◌≡◌, ℕ, ◌-◌, ◌≤◌, Bool, List, ◌++◌, Some, Result, Ok, Err, refl, sym, ap, subst, ◌∙◌, cond, arith, length, drop}
use Rattle.pg_spec.specs.ClientFrames.{ClientFrame}
use Rattle.pg_spec.specs.RawMessages.{RawMessage}
use Rattle.pg_machine.specs.Serving as serving
use Rattle.pg_machine.specs.Sessions.{spoken}
use Rattle.pg_server.specs.declared.answer.Answer.{Answer}
use Rattle.pg_server.specs.declared.fault.ServerFault.{ServerFault}
use Rattle.pg_server.specs.declared.fault.ServerFault.TheVariants as faults
use Rattle.pg_server.specs.Answers.{answer_bytes}
use Rattle.pg_server.specs.Frames.{frame_or_fault}
use Rattle.pg_server.specs.Handlers.{Step}
use Rattle.pg_server.specs.Openings.{Breaks, opening_in_front}
use Rattle.pg_server.specs.Standings.{Standing, Front, Says, Stops, Answers, Asks, Steps, Does, replied, reading, serving_of, behind_frame, opened}
use Rattle.pg_server.proofs.CutLaws.{IsLeft, left_behind, opened-behind, NoEffect, opening-NoEffect}

-- the frame was read, and this is its answer
pub asks-read : {S : Type 0} (step : Step S) (old new : Standing S) (raw : RawMessage) (frame : ClientFrame) (r : Result Answer ServerFault) →
    frame_or_fault raw ≡ Ok frame → Answers step old new raw frame r → Asks step old new raw r
asks-read step old new raw frame (Ok answer) read a = (frame, read, a)
asks-read step old new raw frame (Err faults.OutOfMemory) read a = a
asks-read step old new raw frame (Err (faults.BadEffect n)) read a = (frame, read, a)
asks-read step old new raw frame (Err (faults.BadFrame fault)) read a = absurd a
asks-read step old new raw frame (Err faults.BadStartup) read a = absurd a
asks-read step old new raw frame (Err (faults.Version n)) read a = absurd a
asks-read step old new raw frame (Err faults.Cancel) read a = absurd a
asks-read step old new raw frame (Err faults.Ended) read a = absurd a

-- what is done with a frame whose effect may be given, or may not
abbrev chosen : {S : Type 0} → Step S → Standing S → RawMessage → List ℕ → Bool → Front S
chosen step old raw rest broken =
    cond broken (Stops (faults.BadEffect old.answered)) (Says (spoken (replied step old raw).reply) (behind_frame old raw (replied step old raw).next) rest)

abbrev broken_at : (S : Type 0) → ℕ → Front S
broken_at S n = Stops (faults.BadEffect n)

-- it was answered
pub serves-Ok : {S : Type 0} (step : Step S) (old middle new : Standing S) (raw : RawMessage) (answer : Answer) (bytes : List ℕ) (n left : ℕ) →
    Asks step old middle raw (Ok answer) → new ≡ behind_frame middle raw (serving_of middle) → n ≤ length bytes → left ≡ length bytes - n →
    Steps (reading step old raw (drop n bytes) (frame_or_fault raw)) old new bytes (Ok (Some (answer, left)))
serves-Ok {S = S} step old middle new raw answer bytes n left (frame, read, (good, said, is)) passed fits left_is =
    let next : serving.Serving S = (replied step old raw).next in
    let stands : behind_frame old raw next ≡ new
    = ap (λ (m : Standing S). behind_frame m raw (serving_of m)) (sym is) ∙ sym passed in
    let back : n ≡ length bytes - left = omega (arith, fits, left_is) in (
      omega (arith, left_is),
      ap (reading step old raw (drop n bytes)) read ∙ ap (chosen step old raw (drop n bytes)) good
          ∙ ap (λ (x : Standing S). Says (spoken (replied step old raw).reply) x (drop n bytes)) stands
          ∙ ap (λ (b : List ℕ). Says b new (drop n bytes)) (sym said)
          ∙ ap (λ (k : ℕ). Says (answer_bytes answer) new (drop k bytes)) back,
    )

-- it was refused
pub serves-Err : {S : Type 0} (step : Step S) (old new : Standing S) (raw : RawMessage) (rest bytes : List ℕ) (fault : ServerFault) →
    Asks step old new raw (Err fault) → Steps (reading step old raw rest (frame_or_fault raw)) old new bytes (Err fault)
serves-Err step old new raw rest bytes faults.OutOfMemory a = a
serves-Err step old new raw rest bytes (faults.BadFrame fault) a = (ap (reading step old raw rest) a.0, a.1)
serves-Err {S = S} step old new raw rest bytes (faults.BadEffect n) (frame, read, (is, broken, over)) =
    (ap (reading step old raw rest) read ∙ ap (chosen step old raw rest) broken ∙ ap (broken_at S) (sym is), over)
serves-Err step old new raw rest bytes faults.BadStartup a = absurd a
serves-Err step old new raw rest bytes (faults.Version n) a = absurd a
serves-Err step old new raw rest bytes faults.Cancel a = absurd a
serves-Err step old new raw rest bytes faults.Ended a = absurd a

-- ---- before the startup frame

-- what stands in front is answered
pub opens-Ok : {S : Type 0} (old new : Standing S) (bytes said rest : List ℕ) (answer : Answer) (left : ℕ) →
    opened old (opening_in_front bytes) ≡ Says said new rest → answer_bytes answer ≡ said → left ≡ length rest →
    Steps (opened old (opening_in_front bytes)) old new bytes (Ok (Some (answer, left)))
opens-Ok {S = S} old new bytes said rest answer left does answers left_is =
    let back : IsLeft bytes rest = left_behind bytes rest 1 (opened-behind old bytes said new rest does) in (
      omega (arith, back.fits, left_is),
      does ∙ ap (λ (b : List ℕ). Says b new rest) (sym answers)
          ∙ ap (λ (r : List ℕ). Says (answer_bytes answer) new r) (back.is ∙ ap (λ (n : ℕ). drop (length bytes - n) bytes) (sym left_is)),
    )

-- it is refused
pub opens-Err : {S : Type 0} (old : Standing S) (bytes : List ℕ) (fault : ServerFault) → opening_in_front bytes ≡ Breaks fault → Steps (opened old (opening_in_front bytes)) old old bytes (Err fault)
opens-Err {S = S} old bytes fault is = by_fault fault is (ap (opened old) is)
  where
    by_fault : (fault : ServerFault) → opening_in_front bytes ≡ Breaks fault → opened old (opening_in_front bytes) ≡ Stops fault → Steps (opened old (opening_in_front bytes)) old old bytes (Err fault)
    by_fault faults.BadStartup is e = (e, refl)
    by_fault (faults.Version n) is e = (e, refl)
    by_fault faults.Cancel is e = (e, refl)
    by_fault (faults.BadFrame f) is e = (e, refl)
    by_fault (faults.BadEffect n) is e = absurd (subst NoEffect is (opening-NoEffect bytes))
    by_fault faults.Ended is e = (e, refl)
    by_fault faults.OutOfMemory is e = refl

-- ---- the loop's step

-- it was answered, and the answer appended
pub does-Ok : {S : Type 0} (found : Front S) (old new : Standing S) (bytes out later behind : List ℕ) (answer : Answer) (left : ℕ) →
    Steps found old new bytes (Ok (Some (answer, left))) → later ≡ out ++ answer_bytes answer → behind ≡ drop (length bytes - left) bytes →
    (said : List ℕ) × (found ≡ Says said new behind) × (later ≡ out ++ said)
does-Ok found old new bytes out later behind answer left (fits, is) put rest =
    (answer_bytes answer, is ∙ ap (λ (r : List ℕ). Says (answer_bytes answer) new r) (sym rest), put)

-- it was refused
pub does-Err : {S : Type 0} (found : Front S) (old new : Standing S) (bytes out : List ℕ) (fault : ServerFault) → Steps found old new bytes (Err fault) → Does found old new out out (Err fault)
does-Err found old new bytes out faults.BadStartup s = (s.0, refl)
does-Err found old new bytes out (faults.Version n) s = (s.0, refl)
does-Err found old new bytes out faults.Cancel s = (s.0, refl)
does-Err found old new bytes out (faults.BadFrame f) s = (s.0, refl)
does-Err found old new bytes out (faults.BadEffect n) s = (s.0, refl)
does-Err found old new bytes out faults.Ended s = (s.0, refl)
does-Err found old new bytes out faults.OutOfMemory s = refl
