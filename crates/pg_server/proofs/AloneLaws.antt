-- What stands in front is the same where nothing follows it.
use Rattle.std.proofs.Common.{◌≡◌, ℕ, ◌-◌, ◌<◌, ◌≤◌, Bool, true, false, List, [], ◌∷◌, ◌++◌, Option, Some, None, Result, Ok, Err, refl, sym, ap, subst, ◌∙◌, cond, arith, length, take, drop}
use Rattle.std.specs.Prelude.{nat_le, ◌==◌, if◌then◌else◌}
use Rattle.std.specs.Int.{w32, from_be_bytes}
use Rattle.std.specs.Option.{option_and_then}
use Rattle.std.proofs.lemmas.Bool.{leb-true, le-leb, leb-false}
use Rattle.std.proofs.lemmas.List.{length-append, length-drop, take-append-le, drop-append-le}
use Rattle.std.proofs.lemmas.Option.{option_and_then_some, some_pair_parts, cond_some}
use Rattle.pg_types.specs.declared.faults.WireFault.{WireFault}
use Rattle.pg_types.specs.declared.faults.WireFault.TheVariants.{BadLength, Layout}
use Rattle.pg_spec.specs.Bytes.{◌>>=◌, bytes_at, number_at}
use Rattle.pg_spec.specs.ClientFrames.{ClientFrame}
use Rattle.pg_spec.specs.RawMessages as raw
use Rattle.pg_spec.specs.RawMessages.{RawMessage, message_at, has_bad_header}
use Rattle.pg_spec.proofs.Readers.{bytes_at-Keeps}
use Rattle.pg_server.specs.declared.fault.ServerFault.TheVariants as faults
use Rattle.pg_server.specs.declared.session.Stage.{Stage}
use Rattle.pg_server.specs.declared.session.Stage.TheVariants.{Opening, Serves, Over}
use Rattle.pg_server.specs.Frames.{frame_or_fault}
use Rattle.pg_server.specs.Handlers.{Step}
use Rattle.pg_server.specs.Openings as opening
use Rattle.pg_server.specs.Openings.{InFront, is_length, is_parameters, starting, cancelling, opening_by, opening_behind, opening_in_front}
use Rattle.pg_machine.specs.Sessions.{spoken}
use Rattle.pg_spec.specs.Batches.{is_nothing}
use Rattle.pg_server.specs.Standings.{Standing, Front, Waits, Says, Stops, is_broken, replied, behind_frame, reading, serving, opened, at_stage, front}
use Rattle.pg_server.proofs.CutLaws.{IsBehind, Known, opening_by-known, opening_behind-known, message_at-behind, finish}

-- nothing stands before bytes that are all
nil : (l rest : List ℕ) → l ++ rest ≡ rest → l ≡ []
nil l rest e = by_length l (omega (arith, ap length e, length-append l rest))
  where
    by_length : (l : List ℕ) → length l ≡ 0 → l ≡ []
    by_length [] e = refl
    by_length (x ∷ l) e = absurd (omega (arith, e))

-- What a reader leaves ends in these bytes; without them it reads the same.
record Within {A : Type 0} (read : List ℕ → Option (A × List ℕ)) (x rest : List ℕ) (item : A) (r : List ℕ) : Type 0 where
  pub less : List ℕ
  pub is : read x ≡ Some (item, less)
  pub behind : r ≡ less ++ rest

bytes_at-within : (n : ℕ) (x rest item r : List ℕ) → bytes_at n (x ++ rest) ≡ Some (item, r) → length rest ≤ length r → Within (bytes_at n) x rest item r
bytes_at-within n x rest item r e long =
    let parts = cond_some (nat_le n (length (x ++ rest))) (take n (x ++ rest), drop n (x ++ rest)) (item, r) e in
    let front_is : take n (x ++ rest) ≡ item = ap (λ (p : List ℕ × List ℕ). p.0) parts.1 in
    let rest_is : drop n (x ++ rest) ≡ r = ap (λ (p : List ℕ × List ℕ). p.1) parts.1 in
    let within : n ≤ length x = omega (arith, length-append x rest, length-drop n (x ++ rest), ap length rest_is, long, leb-true n (length (x ++ rest)) parts.0) in
    record {
      less = drop n x;
      is = ap (λ (b : Bool). cond b (Some (take n x, drop n x)) None) (le-leb n (length x) within)
          ∙ ap (λ (i : List ℕ). Some (i, drop n x)) (sym (take-append-le n x rest within) ∙ front_is);
      behind = sym rest_is ∙ drop-append-le n x rest within;
    }

number_at-within : (x rest : List ℕ) (n : ℕ) (r : List ℕ) → number_at w32 (x ++ rest) ≡ Some (n, r) → length rest ≤ length r → Within (number_at w32) x rest n r
number_at-within x rest n r e long =
    option_and_then_some (λ (d : List ℕ × List ℕ). Some (from_be_bytes w32 d.0, d.1)) (bytes_at 4 (x ++ rest)) (n, r) e (λ d at made.
    let parts = some_pair_parts (from_be_bytes w32 d.0) n d.1 r made in
    let w : Within (bytes_at 4) x rest d.0 d.1 = bytes_at-within 4 x rest d.0 d.1 at (subst (λ (b : List ℕ). length rest ≤ length b) (sym parts.1) long) in
    record {
      less = w.less;
      is = ap (option_and_then (λ (d : List ℕ × List ℕ). Some (from_be_bytes w32 d.0, d.1))) w.is ∙ ap (λ (k : ℕ). Some (k, w.less)) parts.0;
      behind = sym parts.1 ∙ w.behind;
    })

-- ---- a frame

pub message_at-alone : (x rest : List ℕ) (m : RawMessage) → message_at (x ++ rest) ≡ Some (m, rest) → message_at x ≡ Some (m, [])
message_at-alone [] rest m e = absurd (never rest (message_at-behind rest m rest e))
  where
    never : (s : List ℕ) → IsBehind s s 1 → ⊥
    never s is = omega (arith, is.some, length-append is.gone s, ap length is.is)
message_at-alone (tag ∷ s) rest m e =
    option_and_then_some (λ (n : ℕ × List ℕ). bytes_at (n.0 - 4) n.1 >>= λ body. finish tag n.0 body.0 body.1) (number_at w32 (s ++ rest)) (m, rest) e (λ n at later.
    option_and_then_some (λ (body : List ℕ × List ℕ). finish tag n.0 body.0 body.1) (bytes_at (n.0 - 4) n.1) (m, rest) later (λ body behind made.
    let parts = cond_some (raw.is_length n.0) (record { tag = tag; body = body.0 }, body.1) (m, rest) made in
    let ends : body.1 ≡ rest = ap (λ (p : RawMessage × List ℕ). p.1) parts.1 in
    let w : Within (number_at w32) s rest n.0 n.1
    = number_at-within s rest n.0 n.1 at (omega (arith, bytes_at-Keeps (n.0 - 4) n.1 body.0 body.1 behind, ap length ends)) in
    let v : Within (bytes_at (n.0 - 4)) w.less rest body.0 body.1
    = bytes_at-within (n.0 - 4) w.less rest body.0 body.1 (ap (bytes_at (n.0 - 4)) (sym w.behind) ∙ behind) (omega (arith, ap length ends)) in
    let none : v.less ≡ [] = nil v.less rest (sym v.behind ∙ ends) in
    ap (option_and_then (λ (n : ℕ × List ℕ). bytes_at (n.0 - 4) n.1 >>= λ body. finish tag n.0 body.0 body.1)) w.is
    ∙ ap (option_and_then (λ (body : List ℕ × List ℕ). finish tag n.0 body.0 body.1)) v.is
    ∙ ap (λ (b : Bool). cond b (Some (record { tag = tag; body = body.0 }, v.less)) None) parts.0
    ∙ ap (λ (l : List ℕ). Some (record { tag = tag; body = body.0 }, l)) none
    ∙ ap (λ (p : RawMessage × List ℕ). Some (p.0, [])) parts.1))

-- ---- the opening frames

-- what was found in front of bytes that end in these leaves just these: then it is found without them
abbrev Ends : (rest : List ℕ) → InFront → InFront → Type 0
Ends rest (opening.Ssl r) found = r ≡ rest → found ≡ opening.Ssl []
Ends rest (opening.Starts r) found = r ≡ rest → found ≡ opening.Starts []
Ends rest other found = Unit {0}

-- no more bytes are left than so many
abbrev LeavesAtMost : ℕ → InFront → Type 0
LeavesAtMost k (opening.Ssl r) = length r ≤ k
LeavesAtMost k (opening.Starts r) = length r ≤ k
LeavesAtMost k other = Unit {0}

too_few : (rest : List ℕ) (k : ℕ) (v found : InFront) → LeavesAtMost k v → k < length rest → Ends rest v found
too_few rest k opening.Short found most less = tt
too_few rest k (opening.Ssl r) found most less = λ e. absurd (omega (arith, most, less, ap length e))
too_few rest k (opening.Starts r) found most less = λ e. absurd (omega (arith, most, less, ap length e))
too_few rest k (opening.Breaks fault) found most less = tt

leaves : (body : List ℕ) (v later : InFront) → Known (0 ∷ body) [] v later → LeavesAtMost (length body) v
leaves body opening.Short later k = tt
leaves body (opening.Ssl r) later k = fewer body r k.0
  where
    fewer : (body r : List ℕ) → IsBehind (0 ∷ body) r 1 → length r ≤ length body
    fewer body r is = omega (arith, is.some, length-append is.gone r, ap length is.is)
leaves body (opening.Starts r) later k = fewer body r k.0
  where
    fewer : (body r : List ℕ) → IsBehind (0 ∷ body) r 1 → length r ≤ length body
    fewer body r is = omega (arith, is.some, length-append is.gone r, ap length is.is)
leaves body (opening.Breaks fault) later k = tt

one_more : (body : List ℕ) → IsBehind (0 ∷ body) body 1
one_more body = record { gone = 0 ∷ []; some = omega arith; is = refl }

starting-ends : (n : ℕ) (y rest : List ℕ) → Ends rest (starting n (y ++ rest)) (starting n y)
starting-ends n y rest =
    elim (bytes_at (n - 8) (y ++ rest)) as (λ o. bytes_at (n - 8) (y ++ rest) ≡ o → Ends rest (by_parameters o) (starting n y)) [
      | None ↦ λ e. tt
      | Some p ↦ λ e. by_test (is_parameters p.0) p.0 p.1 refl e
    ] refl
  where
    by_parameters : Option (List ℕ × List ℕ) → InFront
    by_parameters o = elim o [ None ↦ opening.Short | Some p ↦ if is_parameters p.0 then opening.Starts p.1 else opening.Breaks (faults.BadFrame Layout) ]

    by_test : (t : Bool) (p r : List ℕ) → is_parameters p ≡ t → bytes_at (n - 8) (y ++ rest) ≡ Some (p, r) →
        Ends rest (cond t (opening.Starts r) (opening.Breaks (faults.BadFrame Layout))) (starting n y)
    by_test false p r are e = tt
    by_test true p r are e = λ ends.
        let w : Within (bytes_at (n - 8)) y rest p r = bytes_at-within (n - 8) y rest p r e (omega (arith, ap length ends)) in
        ap by_parameters w.is ∙ ap (λ (t : Bool). cond t (opening.Starts w.less) (opening.Breaks (faults.BadFrame Layout))) are
        ∙ ap opening.Starts (nil w.less rest (sym w.behind ∙ ends))

opening_by-ends : (n code : ℕ) (y rest : List ℕ) → Ends rest (opening_by n code (y ++ rest)) (opening_by n code y)
opening_by-ends n code y rest = by_tests (code == 80877103) (n == 8) (code == 80877102) (n == 16) (code == 196608)
  where
    chosen : (ssl eight cancel sixteen version : Bool) → List ℕ → InFront
    chosen ssl eight cancel sixteen version body =
        cond ssl (cond eight (opening.Ssl body) (opening.Breaks (faults.BadFrame BadLength)))
        (cond cancel (cond sixteen (cancelling body) (opening.Breaks (faults.BadFrame BadLength))) (cond version (starting n body) (opening.Breaks (faults.Version code))))

    by_rest : (o : Option (List ℕ × List ℕ)) (found : InFront) → Ends rest (elim o [ None ↦ opening.Short | Some p ↦ opening.Breaks faults.Cancel ]) found
    by_rest None found = tt
    by_rest (Some p) found = tt

    by_tests : (ssl eight cancel sixteen version : Bool) → Ends rest (chosen ssl eight cancel sixteen version (y ++ rest)) (chosen ssl eight cancel sixteen version y)
    by_tests true true cancel sixteen version = λ e. ap opening.Ssl (nil y rest e)
    by_tests true false cancel sixteen version = tt
    by_tests false eight true true version = by_rest (bytes_at 8 (y ++ rest)) (cancelling y)
    by_tests false eight true false version = tt
    by_tests false eight false sixteen true = starting-ends n y rest
    by_tests false eight false sixteen false = tt

opening_behind-ends : (n : ℕ) (y rest : List ℕ) → Ends rest (opening_behind n (y ++ rest)) (opening_behind n y)
opening_behind-ends n y rest =
    elim (number_at w32 (y ++ rest)) as (λ o. number_at w32 (y ++ rest) ≡ o → Ends rest (by_code o) (opening_behind n y)) [
      | None ↦ λ e. tt
      | Some code ↦ λ e. by_size (nat_le (length rest) (length code.1)) code.0 code.1 refl e
    ] refl
  where
    by_code : Option (ℕ × List ℕ) → InFront
    by_code o = elim o [ None ↦ opening.Short | Some code ↦ opening_by n code.0 code.1 ]

    by_size : (t : Bool) (code : ℕ) (body : List ℕ) → nat_le (length rest) (length body) ≡ t → number_at w32 (y ++ rest) ≡ Some (code, body) →
        Ends rest (opening_by n code body) (opening_behind n y)
    by_size true code body long e =
        let w : Within (number_at w32) y rest code body = number_at-within y rest code body e (leb-true (length rest) (length body) long) in
        subst (λ (found : InFront). Ends rest (opening_by n code body) found) (sym (ap by_code w.is))
        (subst (λ (b : List ℕ). Ends rest (opening_by n code b) (opening_by n code w.less)) (sym w.behind) (opening_by-ends n code w.less rest))
    by_size false code body short e =
        too_few rest (length body) (opening_by n code body) (opening_behind n y)
        (leaves body (opening_by n code body) (opening_by n code (body ++ [])) (opening_by-known (0 ∷ body) [] n code body (one_more body))) (leb-false (length rest) (length body) short)

opening-ends : (x rest : List ℕ) → Ends rest (opening_in_front (x ++ rest)) (opening_in_front x)
opening-ends x rest =
    elim (number_at w32 (x ++ rest)) as (λ o. number_at w32 (x ++ rest) ≡ o → Ends rest (by_length o) (opening_in_front x)) [
      | None ↦ λ e. tt
      | Some n ↦ λ e. by_size (nat_le (length rest) (length n.1)) n.0 n.1 refl e
    ] refl
  where
    by_length : Option (ℕ × List ℕ) → InFront
    by_length o = elim o [ None ↦ opening.Short | Some n ↦ if is_length n.0 then opening_behind n.0 n.1 else opening.Breaks (faults.BadFrame BadLength) ]

    ranged : (t : Bool) (n : ℕ) (y : List ℕ) → Ends rest (cond t (opening_behind n (y ++ rest)) (opening.Breaks (faults.BadFrame BadLength))) (cond t (opening_behind n y) (opening.Breaks (faults.BadFrame BadLength)))
    ranged true n y = opening_behind-ends n y rest
    ranged false n y = tt

    few : (t : Bool) (n : ℕ) (bytes : List ℕ) → length bytes < length rest → Ends rest (cond t (opening_behind n bytes) (opening.Breaks (faults.BadFrame BadLength))) (opening_in_front x)
    few true n bytes less =
        too_few rest (length bytes) (opening_behind n bytes) (opening_in_front x)
        (leaves bytes (opening_behind n bytes) (opening_behind n (bytes ++ [])) (opening_behind-known (0 ∷ bytes) [] n bytes (one_more bytes))) less
    few false n bytes less = tt

    by_size : (t : Bool) (n : ℕ) (bytes : List ℕ) → nat_le (length rest) (length bytes) ≡ t → number_at w32 (x ++ rest) ≡ Some (n, bytes) →
        Ends rest (if is_length n then opening_behind n bytes else opening.Breaks (faults.BadFrame BadLength)) (opening_in_front x)
    by_size true n bytes long e =
        let w : Within (number_at w32) x rest n bytes = number_at-within x rest n bytes e (leb-true (length rest) (length bytes) long) in
        subst (λ (found : InFront). Ends rest (if is_length n then opening_behind n bytes else opening.Breaks (faults.BadFrame BadLength)) found) (sym (ap by_length w.is))
        (subst (λ (b : List ℕ). Ends rest (if is_length n then opening_behind n b else opening.Breaks (faults.BadFrame BadLength)) (if is_length n then opening_behind n w.less else opening.Breaks (faults.BadFrame BadLength)))
        (sym w.behind) (ranged (is_length n) n w.less))
    by_size false n bytes short e = few (is_length n) n bytes (leb-false (length rest) (length bytes) short)

-- ---- whatever stands in front

-- without what follows
abbrev cleared : {S : Type 0} → Front S → Front S
cleared Waits = Waits
cleared (Says said next rest) = Says said next []
cleared (Stops fault) = Stops fault

abbrev rest_of : {S : Type 0} → Front S → List ℕ
rest_of Waits = []
rest_of (Says said next rest) = rest
rest_of (Stops fault) = []

says-opened : {S : Type 0} (at : Standing S) (x rest said : List ℕ) (next : Standing S) (v : InFront) → Ends rest v (opening_in_front x) →
    opened at v ≡ Says said next rest → opened at (opening_in_front x) ≡ Says said next []
says-opened at x rest said next opening.Short ends e = absurd cc
says-opened at x rest said next (opening.Ssl r) ends e = ap (opened at) (ends (ap rest_of e)) ∙ ap cleared e
says-opened at x rest said next (opening.Starts r) ends e = ap (opened at) (ends (ap rest_of e)) ∙ ap cleared e
says-opened at x rest said next (opening.Breaks fault) ends e = absurd cc

-- what a frame does leaves what stands behind it, and nothing where nothing does
reads : {S : Type 0} (step : Step S) (at : Standing S) (m : RawMessage) (r said : List ℕ) (next : Standing S) (rest : List ℕ) (f : Result ClientFrame WireFault) →
    reading step at m r f ≡ Says said next rest → (r ≡ rest) × (reading step at m [] f ≡ Says said next [])
reads step at m r said next rest (Err fault) e = absurd cc
reads {S = S} step at m r said next rest (Ok frame) e = by_test (is_broken step at m frame) e
  where
    chosen : Bool → List ℕ → Front S
    chosen t rest = cond t (Stops (faults.BadEffect at.answered)) (Says (spoken (replied step at m).reply) (behind_frame at m (replied step at m).next) rest)

    by_test : (t : Bool) → chosen t r ≡ Says said next rest → (r ≡ rest) × (chosen t [] ≡ Says said next [])
    by_test true e = absurd cc
    by_test false e = (ap rest_of e, ap cleared e)

says-served : {S : Type 0} (step : Step S) (at : Standing S) (x rest said : List ℕ) (next : Standing S) → serving step at (message_at (x ++ rest)) (has_bad_header (x ++ rest)) ≡ Says said next rest →
    serving step at (message_at x) (has_bad_header x) ≡ Says said next []
says-served {S = S} step at x rest said next e = by_message (message_at (x ++ rest)) (has_bad_header (x ++ rest)) refl e
  where
    by_message : (o : Option (RawMessage × List ℕ)) (bad : Bool) → message_at (x ++ rest) ≡ o → serving step at o bad ≡ Says said next rest → serving step at (message_at x) (has_bad_header x) ≡ Says said next []
    by_message None true at_ e = absurd cc
    by_message None false at_ e = absurd cc
    by_message (Some m) bad at_ e =
        let r = reads step at m.0 m.1 said next rest (frame_or_fault m.0) e in
        let alone : message_at x ≡ Some (m.0, []) = message_at-alone x rest m.0 (at_ ∙ ap (λ (b : List ℕ). Some (m.0, b)) r.0) in
        ap (λ (o : Option (RawMessage × List ℕ)). serving step at o (has_bad_header x)) alone ∙ r.1

pub front-alone : {S : Type 0} (step : Step S) (at : Standing S) (x rest said : List ℕ) (next : Standing S) → front step at (x ++ rest) ≡ Says said next rest → front step at x ≡ Says said next []
front-alone {S = S} step at x rest said next e = by_stage at.stage e
  where
    at_end : Bool → Front S
    at_end t = if t then Waits else Stops faults.Ended

    nothing : (t : Bool) → at_end t ≡ Says said next rest → ⊥
    nothing true e = absurd cc
    nothing false e = absurd cc

    by_stage : (stage : Stage) → at_stage step at (x ++ rest) stage ≡ Says said next rest → at_stage step at x stage ≡ Says said next []
    by_stage Opening e = says-opened at x rest said next (opening_in_front (x ++ rest)) (opening-ends x rest) e
    by_stage Serves e = says-served step at x rest said next e
    by_stage Over e = absurd (nothing (is_nothing (x ++ rest)) e)
