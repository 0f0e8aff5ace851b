-- Bytes that nothing can be done with yet.
use Rattle.std.proofs.Common.{◌≡◌, ℕ, zero, suc, ◌-◌, ◌<◌, ◌≤◌, Bool, true, false, not, ◌&&◌, List, [], ◌∷◌, ◌++◌, Option, Some, None, Result, Ok, Err, refl, sym, ap, subst, ◌∙◌, cond, arith, length, take, drop}
use Rattle.std.specs.Prelude.{nat_lt, if◌then◌else◌}
use Rattle.std.proofs.lemmas.Bool.{ltb-true, ltb-false}
use Rattle.std.proofs.lemmas.List.{length-append, length-drop, take_at}
use Rattle.std.proofs.lemmas.Option.{none-some}
use Rattle.pg_types.specs.declared.faults.WireFault.{WireFault}
use Rattle.pg_spec.specs.Batches.{is_nothing}
use Rattle.pg_spec.specs.ClientFrames.{ClientFrame}
use Rattle.pg_spec.specs.RawMessages.{RawMessage, message_at, has_bad_header}
use Rattle.pg_machine.specs.Sessions.{spoken}
use Rattle.pg_server.specs.declared.answer.Answer.{Answer}
use Rattle.pg_server.specs.declared.fault.ServerFault.{ServerFault}
use Rattle.pg_server.specs.declared.fault.ServerFault.TheVariants as faults
use Rattle.pg_server.specs.declared.session.Stage.{Stage}
use Rattle.pg_server.specs.declared.session.Stage.TheVariants.{Opening, Serves, Over}
use Rattle.pg_server.specs.Answers.{answer_bytes}
use Rattle.pg_server.specs.Frames.{frame_or_fault}
use Rattle.pg_server.specs.Handlers.{Step}
use Rattle.pg_server.specs.Hearing.{Said, before, said_to}
use Rattle.pg_server.specs.Openings as opening
use Rattle.pg_server.specs.Openings.{InFront, opening_in_front}
use Rattle.pg_server.specs.Servers.{Heard, TakesFront}
use Rattle.pg_server.specs.Settled.{is_short, is_none, is_settled}
use Rattle.pg_server.specs.Standings.{Standing, Front, Waits, Says, Stops, Steps, is_broken, replied, behind_frame, reading, serving, opened, at_stage, front}
use Rattle.pg_server.proofs.AloneLaws.{front-alone}
use Rattle.pg_server.proofs.CutLaws.{IsBehind, Knows, front-known, front-behind}
use Rattle.pg_server.proofs.HearingLaws.{shorter, said_to-says, said_to-waits, said_to-stops}

-- a frame is answered or refused
never_waits : {S : Type 0} (step : Step S) (at : Standing S) (m : RawMessage) (r : List ℕ) (f : Result ClientFrame WireFault) → reading step at m r f ≡ Waits → ⊥
never_waits step at m r (Err fault) e = absurd cc
never_waits {S = S} step at m r (Ok frame) e = by_test (is_broken step at m frame) e
  where
    chosen : Bool → Front S
    chosen t = cond t (Stops (faults.BadEffect at.answered)) (Says (spoken (replied step at m).reply) (behind_frame at m (replied step at m).next) r)

    by_test : (t : Bool) → chosen t ≡ Waits → ⊥
    by_test true e = absurd cc
    by_test false e = absurd cc

-- where it waits, nothing can be done
pub waits-settled : {S : Type 0} (step : Step S) (at : Standing S) (s : List ℕ) → front step at s ≡ Waits → is_settled at.stage s ≡ true
waits-settled {S = S} step at s e = by_stage at.stage e
  where
    by_opening : (v : InFront) → opened at v ≡ Waits → is_short v ≡ true
    by_opening opening.Short e = refl
    by_opening (opening.Ssl r) e = absurd cc
    by_opening (opening.Starts r) e = absurd cc
    by_opening (opening.Breaks fault) e = absurd cc

    by_message : (o : Option (RawMessage × List ℕ)) (bad : Bool) → serving step at o bad ≡ Waits → (is_none o && not bad) ≡ true
    by_message None true e = absurd cc
    by_message None false e = refl
    by_message (Some m) bad e = absurd (never_waits step at m.0 m.1 (frame_or_fault m.0) e)

    by_stage : (stage : Stage) → at_stage step at s stage ≡ Waits → is_settled stage s ≡ true
    by_stage Opening e = by_opening (opening_in_front s) e
    by_stage Serves e = by_message (message_at s) (has_bad_header s) e
    by_stage Over e = refl

-- Where nothing can be done it waits, or it is over.
abbrev IsQuiet : {S : Type 0} → Front S → Type 0
IsQuiet Waits = Unit {0}
IsQuiet (Stops faults.Ended) = Unit {0}
IsQuiet other = ⊥

quiet : {S : Type 0} (step : Step S) (at : Standing S) (s : List ℕ) → is_settled at.stage s ≡ true → IsQuiet (front step at s)
quiet {S = S} step at s e = by_stage at.stage e
  where
    by_opening : (v : InFront) → is_short v ≡ true → IsQuiet (opened at v)
    by_opening opening.Short e = tt
    by_opening (opening.Ssl r) e = absurd cc
    by_opening (opening.Starts r) e = absurd cc
    by_opening (opening.Breaks fault) e = absurd cc

    by_message : (o : Option (RawMessage × List ℕ)) (bad : Bool) → (is_none o && not bad) ≡ true → IsQuiet (serving step at o bad)
    by_message None true e = absurd cc
    by_message None false e = tt
    by_message (Some m) bad e = absurd cc

    at_end : Bool → Front S
    at_end t = if t then Waits else Stops faults.Ended

    by_nothing : (t : Bool) → IsQuiet (at_end t)
    by_nothing true = tt
    by_nothing false = tt

    by_stage : (stage : Stage) → is_settled stage s ≡ true → IsQuiet (at_stage step at s stage)
    by_stage Opening e = by_opening (opening_in_front s) e
    by_stage Serves e = by_message (message_at s) (has_bad_header s) e
    by_stage Over e = by_nothing (is_nothing s)

-- so nothing is said
pub settled-silent : {S : Type 0} (step : Step S) (at : Standing S) (s : List ℕ) → is_settled at.stage s ≡ true → (said_to step at s).said ≡ []
settled-silent {S = S} step at s e = by_front (front step at s) (quiet step at s e) refl
  where
    by_front : (x : Front S) → IsQuiet x → front step at s ≡ x → (said_to step at s).said ≡ []
    by_front Waits q is = ap (λ (a : Said S). a.said) (said_to-waits step at s is)
    by_front (Stops fault) q is = ap (λ (a : Said S). a.said) (said_to-stops step at s fault is)
    by_front (Says said next rest) q is = absurd q

-- behind Terminate or a fault nothing is said
pub over-silent : {S : Type 0} (step : Step S) (at : Standing S) (s : List ℕ) → at.stage ≡ Over → (said_to step at s).said ≡ []
over-silent step at s e = settled-silent step at s (ap (λ (stage : Stage). is_settled stage s) e)

-- where no bytes are left nothing can be done
pub none-settled : (stage : Stage) → is_settled stage [] ≡ true
none-settled Opening = refl
none-settled Serves = refl
none-settled Over = refl

-- ---- what is left behind all that is said

settled-within : {S : Type 0} (step : Step S) (n : ℕ) (at : Standing S) (s : List ℕ) → length s < n → (said_to step at s).fault ≡ None →
    is_settled (said_to step at s).next.stage (said_to step at s).left ≡ true
settled-within step zero at s fits none = absurd (omega arith)
settled-within {S = S} step (suc n) at s fits none =
    elim (front step at s) as (λ x. front step at s ≡ x → is_settled (said_to step at s).next.stage (said_to step at s).left ≡ true) [
      | Waits ↦ λ e. ap (λ (a : Said S). is_settled a.next.stage a.left) (said_to-waits step at s e) ∙ waits-settled step at s e
      | Says said next rest ↦ λ e.
          let all : said_to step at s ≡ before said (said_to step next rest) = said_to-says step at s said next rest e in
          ap (λ (a : Said S). is_settled a.next.stage a.left) all
          ∙ settled-within step n next rest (omega (arith, fits, shorter s rest (front-behind step at s said next rest e))) (sym (ap (λ (a : Said S). a.fault) all) ∙ none)
      | Stops fault ↦ λ e. absurd (none-some fault (sym (sym (ap (λ (a : Said S). a.fault) (said_to-stops step at s fault e)) ∙ none)))
    ] refl

pub said-settled : {S : Type 0} (step : Step S) (at : Standing S) (s : List ℕ) → (said_to step at s).fault ≡ None → is_settled (said_to step at s).next.stage (said_to step at s).left ≡ true
said-settled step at s none = settled-within step (suc (length s)) at s (omega arith) none

-- ---- bytes behind those

-- A front of bytes made the frame in front whole, and nothing is behind it then.
pub record IsPiece {S : Type 0} (step : Step S) (at : Standing S) (left bytes said : List ℕ) (next : Standing S) (rest : List ℕ) : Type 0 where
  pub piece : List ℕ
  pub some : 1 ≤ length piece
  pub is : piece ++ rest ≡ bytes
  pub front_is : front step at (left ++ piece) ≡ Says said next []

-- two cuts of the same bytes
pub same_front : (gone rest left bytes : List ℕ) → gone ++ rest ≡ left ++ bytes → length rest < length bytes →
    (piece : List ℕ) × (gone ≡ left ++ piece) × (piece ++ rest ≡ bytes)
same_front gone rest [] bytes e less = (gone, refl, e)
same_front [] rest (x ∷ left) bytes e less = absurd (omega (arith, ap length e, length-append left bytes, less))
same_front (y ∷ gone) rest (x ∷ left) bytes e less =
    let heads : y ≡ x = cc in
    let tails : gone ++ rest ≡ left ++ bytes = cc in
    let more = same_front gone rest left bytes tails less in
    (more.0, ap (λ (h : ℕ). h ∷ gone) heads ∙ ap (λ (t : List ℕ). x ∷ t) more.1, more.2)

pub same_back : (gone rest left bytes : List ℕ) → gone ++ rest ≡ left ++ bytes → length bytes ≤ length rest → (y : List ℕ) × (gone ++ y ≡ left)
same_back [] rest left bytes e more = (left, refl)
same_back (y ∷ gone) rest [] bytes e more = absurd (omega (arith, ap length e, length-append gone rest, more))
same_back (y ∷ gone) rest (x ∷ left) bytes e more =
    let heads : y ≡ x = cc in
    let tails : gone ++ rest ≡ left ++ bytes = cc in
    let behind = same_back gone rest left bytes tails more in
    (behind.0, ap (λ (h : ℕ). h ∷ gone ++ behind.0) heads ∙ ap (λ (t : List ℕ). x ∷ t) behind.1)

pub settled-piece : {S : Type 0} (step : Step S) (at : Standing S) (left bytes said : List ℕ) (next : Standing S) (rest : List ℕ) → is_settled at.stage left ≡ true →
    front step at (left ++ bytes) ≡ Says said next rest → IsPiece step at left bytes said next rest
settled-piece {S = S} step at left bytes said next rest settled e =
    by_size (front-behind step at (left ++ bytes) said next rest e) (nat_lt (length rest) (length bytes)) refl
  where
    never : (x : Front S) (said : List ℕ) (next : Standing S) (rest : List ℕ) → x ≡ Says said next rest → IsQuiet x → ⊥
    never Waits said next rest e q = absurd cc
    never (Stops fault) said next rest e q = absurd cc
    never (Says a b c) said next rest e q = q

    by_size : IsBehind (left ++ bytes) rest 1 → (t : Bool) → nat_lt (length rest) (length bytes) ≡ t → IsPiece step at left bytes said next rest
    by_size is true less =
        let alone : front step at is.gone ≡ Says said next [] = front-alone step at is.gone rest said next (ap (front step at) is.is ∙ e) in
        let cut = same_front is.gone rest left bytes is.is (ltb-true (length rest) (length bytes) less) in
        record {
          piece = cut.0;
          some = omega (arith, ltb-true (length rest) (length bytes) less, length-append cut.0 rest, ap length cut.2);
          is = cut.2;
          front_is = ap (front step at) (sym cut.1) ∙ alone;
        }
    by_size is false more =
        let alone : front step at is.gone ≡ Says said next [] = front-alone step at is.gone rest said next (ap (front step at) is.is ∙ e) in
        let back = same_back is.gone rest left bytes is.is (ltb-false (length rest) (length bytes) more) in
        let known = (subst (λ (x : Front S). Knows is.gone back.0 x (front step at (is.gone ++ back.0))) alone (front-known step at is.gone back.0)).1 in
        absurd (never (front step at left) said next back.0 (ap (front step at) (sym back.1) ∙ known) (quiet step at left settled))

-- ---- what is taken up to the end of a frame

-- where memory lacks it stands as before
kept-standing : {S : Type 0} (found : Front S) (old new : Standing S) (s : List ℕ) (fault : ServerFault) → fault ≡ faults.OutOfMemory → Steps found old new s (Err fault) → new ≡ old
kept-standing {S = S} found old new s fault is does = subst (λ (f : ServerFault). Steps found old new s (Err f)) is does

pub kept-settled : {S : Type 0} (step : Step S) (old new : Standing S) (s left : List ℕ) (fault : ServerFault) → fault ≡ faults.OutOfMemory → Steps (front step old s) old new s (Err fault) →
    is_settled old.stage left ≡ true → is_settled new.stage left ≡ true
kept-settled {S = S} step old new s left fault is does settled =
    ap (λ (at : Standing S). is_settled at.stage left) (kept-standing (front step old s) old new s fault is does) ∙ settled

pub kept-takes : {S : Type 0} (step : Step S) (old new : Heard S) (s bytes : List ℕ) (fault : ServerFault) → fault ≡ faults.OutOfMemory → Steps (front step old.standing s) old.standing new.standing s (Err fault) →
    new.left ≡ old.left → TakesFront (front step old.standing (old.left ++ bytes)) old new bytes (Err fault)
kept-takes {S = S} step old new s bytes fault is does left =
    subst (λ (f : ServerFault). TakesFront (front step old.standing (old.left ++ bytes)) old new bytes (Err f)) (sym is)
    (ap (λ (at : Standing S). record { standing = at; left = new.left }) (kept-standing (front step old.standing s) old.standing new.standing s fault is does) ∙ ap (λ (l : List ℕ). record old { left = l }) left)

-- it is over
pub stopped-takes : {S : Type 0} (found : Front S) (old new : Heard S) (mid : Standing S) (s bytes : List ℕ) (fault : ServerFault) → (fault ≡ faults.OutOfMemory → ⊥) → Steps found old.standing mid s (Err fault) →
    new.standing.stage ≡ Over → TakesFront found old new bytes (Err fault)
stopped-takes {S = S} found old new mid s bytes fault memory does over = by_fault fault memory does
  where
    by_fault : (fault : ServerFault) → (fault ≡ faults.OutOfMemory → ⊥) → Steps found old.standing mid s (Err fault) → TakesFront found old new bytes (Err fault)
    by_fault faults.BadStartup memory d = (d.0, over)
    by_fault (faults.Version n) memory d = (d.0, over)
    by_fault faults.Cancel memory d = (d.0, over)
    by_fault (faults.BadFrame f) memory d = (d.0, over)
    by_fault (faults.BadEffect n) memory d = (d.0, over)
    by_fault faults.Ended memory d = (d.0, over)
    by_fault faults.OutOfMemory memory d = absurd (memory refl)

-- a frame was whole by some of the bytes
pub answered-takes : {S : Type 0} (step : Step S) (old new : Heard S) (s bytes : List ℕ) (said : Answer × ℕ) → s ≡ old.left ++ bytes → is_settled old.standing.stage old.left ≡ true →
    Steps (front step old.standing s) old.standing new.standing s (Ok (Some said)) → new.left ≡ [] → TakesFront (front step old.standing (old.left ++ bytes)) old new bytes (Ok (Some said))
answered-takes {S = S} step old new s bytes said s_is settled (fits, is) none =
    let rest : List ℕ = drop (length s - said.1) s in
    let here : front step old.standing (old.left ++ bytes) ≡ Says (answer_bytes said.0) new.standing rest = ap (front step old.standing) (sym s_is) ∙ is in
    let cut : IsPiece step old.standing old.left bytes (answer_bytes said.0) new.standing rest
    = settled-piece step old.standing old.left bytes (answer_bytes said.0) new.standing rest settled here in
    let size : said.1 ≡ length rest = sym (left_length s said.1 fits) in
    (rest, here, size, omega (arith, size, cut.some, length-append cut.piece rest, ap length cut.is), none)
  where
    left_length : (s : List ℕ) (n : ℕ) → n ≤ length s → length (drop (length s - n) s) ≡ n
    left_length s n fits = omega (arith, length-drop (length s - n) s, fits)

-- no frame was whole
pub waited-settled : {S : Type 0} (step : Step S) (old new : Standing S) (s left : List ℕ) (o : Option (Answer × ℕ)) → o ≡ None → Steps (front step old s) old new s (Ok o) → s ≡ left → is_settled new.stage left ≡ true
waited-settled {S = S} step old new s left o none does s_is = by_none (subst (λ (o : Option (Answer × ℕ)). Steps (front step old s) old new s (Ok o)) none does)
  where
    by_none : (front step old s ≡ Waits) × (new ≡ old) → is_settled new.stage left ≡ true
    by_none (waits, same) = ap (λ (at : Standing S). is_settled at.stage left) same ∙ ap (is_settled old.stage) (sym s_is) ∙ waits-settled step old s waits

-- bytes were taken and given back
pub given_back : (left bytes now back : List ℕ) (len : ℕ) → now ≡ left ++ bytes → len ≡ length left → back ≡ take len now → back ≡ left
given_back left bytes now back len now_is len_is back_is = back_is ∙ ap (take len) now_is ∙ take_at left bytes len (sym len_is)
