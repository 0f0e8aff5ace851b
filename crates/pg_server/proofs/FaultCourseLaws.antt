-- The fault of a link to a server follows from the bytes taken.
use Rattle.std.proofs.Common.{append_assoc, append-nil, ◌≡◌, ℕ, ◌≤◌, Bool, true, false, List, [], ◌∷◌, ◌++◌, Option, Some, None, refl, sym, ap, ◌∙◌, subst, cond, arith, length, drop}
use Rattle.std.specs.Prelude.{if◌then◌else◌, ◌==◌}
use Rattle.std.proofs.lemmas.List.{append_cancel_left, drop_at}
use Rattle.std.proofs.lemmas.Option.{none-some, same_Some}
use Rattle.pg_types.specs.declared.faults.WireFault.{WireFault}
use Rattle.pg_types.specs.declared.faults.WireFault.TheVariants as wire
use Rattle.pg_wire.specs.LinkCalls.{Continues, IsInCourse}
use Rattle.pg_server.specs.declared.fault.ServerFault.{ServerFault}
use Rattle.pg_server.specs.declared.fault.ServerFault.TheVariants as faults
use Rattle.pg_server.specs.declared.session.Stage.{Stage}
use Rattle.pg_server.specs.declared.session.Stage.TheVariants.{Opening, Serves, Over}
use Rattle.pg_server.specs.ByteLists.{are_bytes, but_last, is_ended}
use Rattle.pg_server.specs.FaultNumbers.{fault_numbers}
use Rattle.pg_server.specs.Handlers.{Step}
use Rattle.pg_server.specs.Hearing.{Said, said_to, waiting}
use Rattle.pg_server.specs.Servers.{Heard, fed_with, new_heard}
use Rattle.pg_server.specs.ServerLinks.{Served, course_of, fault_by, first_fault, link_of, new_link, told_by}
use Rattle.pg_server.specs.Standings.{Standing, Front, Waits, Says, Stops, at_stage, front, unfed}
use Rattle.pg_server.proofs.ByteLaws.{but_last-behind, bytes-end, ended-behind}
use Rattle.pg_server.proofs.CutLaws.{Knows, front-known}
use Rattle.pg_server.proofs.HearingLaws.{said_to-says, said_to-stops, said_to-waits}
use Rattle.pg_server.proofs.ServedLaws.{goes_on}

-- ---- the numbers of a fault

wire_at : ℕ → WireFault
wire_at n = if n == 0 then wire.BadLength else if n == 1 then wire.UnknownTag else if n == 2 then wire.Layout else if n == 3 then wire.NotUtf8 else wire.OutOfMemory

told_fault : (kind more : ℕ) → ServerFault
told_fault kind more =
    if kind == 1 then faults.Version more else if kind == 3 then faults.BadFrame (wire_at more) else if kind == 4 then faults.BadEffect more
    else if kind == 0 then faults.BadStartup else if kind == 2 then faults.Cancel else if kind == 5 then faults.Ended else faults.OutOfMemory

fault_at : List ℕ → Option ServerFault
fault_at [] = None
fault_at (kind ∷ []) = Some (told_fault kind 0)
fault_at (kind ∷ more ∷ rest) = Some (told_fault kind more)

read_back : (fault : Option ServerFault) → fault_at (fault_numbers fault) ≡ fault
unfolding wire_at told_fault fault_at
read_back None = refl
read_back (Some faults.BadStartup) = refl
read_back (Some (faults.Version v)) = refl
read_back (Some faults.Cancel) = refl
read_back (Some (faults.BadFrame wire.BadLength)) = refl
read_back (Some (faults.BadFrame wire.UnknownTag)) = refl
read_back (Some (faults.BadFrame wire.Layout)) = refl
read_back (Some (faults.BadFrame wire.NotUtf8)) = refl
read_back (Some (faults.BadFrame wire.OutOfMemory)) = refl
read_back (Some (faults.BadEffect n)) = refl
read_back (Some faults.Ended) = refl
read_back (Some faults.OutOfMemory) = refl

-- the same numbers are of the same fault
same_fault : (a b : Option ServerFault) → fault_numbers a ≡ fault_numbers b → a ≡ b
same_fault a b same = sym (read_back a) ∙ ap fault_at same ∙ read_back b

-- ---- what a write keeps of the fault

-- the fault by the bytes from there is the fault by all of them
abbrev pub FaultsOn : {S : Type 0} → Step S → (m m' : Served S) → (piece : List ℕ) → Type 0
FaultsOn step m m' piece = (rest : List ℕ) → fault_by step m' rest ≡ fault_by step m (piece ++ rest)

-- where some bytes come and there was no fault
fault-some : {S : Type 0} (step : Step S) (m : Served S) (bytes : List ℕ) → 1 ≤ length bytes → m.fault ≡ None → fault_by step m bytes ≡ (fed_with step m.heard bytes).fault
fault-some step m [] some none = absurd (omega (arith, some))
fault-some step m (b ∷ bytes) some none = ap (λ (f : Option ServerFault). first_fault f (fed_with step m.heard (b ∷ bytes)).fault) none

-- behind a fault
fault-stays : {S : Type 0} (step : Step S) (m : Served S) (bytes : List ℕ) (fault : ServerFault) → m.fault ≡ Some fault → fault_by step m bytes ≡ Some fault
fault-stays step m [] fault is = is
fault-stays step m (b ∷ bytes) fault is = ap (λ (f : Option ServerFault). first_fault f (fed_with step m.heard (b ∷ bytes)).fault) is

faults-on : {S : Type 0} (step : Step S) (m m' : Served S) (piece : List ℕ) → 1 ≤ length piece → m.fault ≡ None → m'.fault ≡ (fed_with step m.heard piece).fault →
    (m'.fault ≡ None → (rest : List ℕ) → (fed_with step m'.heard rest).fault ≡ (fed_with step m.heard (piece ++ rest)).fault) → FaultsOn step m m' piece
faults-on {S = S} step m m' piece some none now later rest =
    by m'.fault refl rest ∙ sym (fault-some step m (piece ++ rest) (longer piece some rest) none)
  where
    longer : (piece : List ℕ) → 1 ≤ length piece → (rest : List ℕ) → 1 ≤ length (piece ++ rest)
    longer [] some rest = absurd (omega (arith, some))
    longer (p ∷ piece) some rest = omega arith

    by : (o : Option ServerFault) → m'.fault ≡ o → (rest : List ℕ) → fault_by step m' rest ≡ (fed_with step m.heard (piece ++ rest)).fault
    by None is [] = now ∙ ap (λ (b : List ℕ). (fed_with step m.heard b).fault) (sym (append-nil piece))
    by None is (x ∷ xs) = fault-some step m' (x ∷ xs) (omega arith) is ∙ later is (x ∷ xs)
    by (Some fault) is rest =
        fault-stays step m' rest fault is
        ∙ sym (ap (λ (b : List ℕ). (said_to step m.heard.standing b).fault) (sym (append_assoc m.heard.left piece rest))
        ∙ ((goes_on step m.heard.standing (m.heard.left ++ piece) rest).fault fault (sym now ∙ is)).0)

pub waits-FaultsOn : {S : Type 0} (step : Step S) (m m' : Served S) (piece : List ℕ) → 1 ≤ length piece → m.fault ≡ None → m'.fault ≡ None → m'.heard ≡ record m.heard { left = m.heard.left ++ piece } →
    front step m.heard.standing (m.heard.left ++ piece) ≡ Waits → FaultsOn step m m' piece
waits-FaultsOn {S = S} step m m' piece some none still heard is =
    faults-on step m m' piece some none (still ∙ sym (ap (λ (a : Said S). a.fault) (said_to-waits step m.heard.standing (m.heard.left ++ piece) is)))
    (λ f rest. ap (λ (h : Heard S). (fed_with step h rest).fault) heard ∙ ap (λ (b : List ℕ). (said_to step m.heard.standing b).fault) (append_assoc m.heard.left piece rest))

-- to no bytes nothing is said
nothing-waits : {S : Type 0} (step : Step S) (at : Standing S) → front step at [] ≡ Waits
nothing-waits {S = S} step at = by_stage at.stage
  where
    by_stage : (stage : Stage) → at_stage step at [] stage ≡ Waits
    by_stage Opening = refl
    by_stage Serves = refl
    by_stage Over = refl

pub says-FaultsOn : {S : Type 0} (step : Step S) (m m' : Served S) (piece said : List ℕ) (next : Standing S) → 1 ≤ length piece → m.fault ≡ None → m'.fault ≡ None →
    m'.heard ≡ record { standing = next; left = [] } → front step m.heard.standing (m.heard.left ++ piece) ≡ Says said next [] → FaultsOn step m m' piece
says-FaultsOn {S = S} step m m' piece said next some none still heard is =
    faults-on step m m' piece some none (still ∙ sym (ap (λ (a : Said S). a.fault) (said_to-says step m.heard.standing (m.heard.left ++ piece) said next [] is)
    ∙ ap (λ (a : Said S). a.fault) (said_to-waits step next [] (nothing-waits step next))))
    (λ f rest.
    let later : front step m.heard.standing ((m.heard.left ++ piece) ++ rest) ≡ Says said next rest
    = (subst (λ (x : Front S). Knows (m.heard.left ++ piece) rest x (front step m.heard.standing ((m.heard.left ++ piece) ++ rest))) is (front-known step m.heard.standing (m.heard.left ++ piece) rest)).1 in
    ap (λ (h : Heard S). (fed_with step h rest).fault) heard
    ∙ sym (ap (λ (b : List ℕ). (said_to step m.heard.standing b).fault) (sym (append_assoc m.heard.left piece rest))
    ∙ ap (λ (a : Said S). a.fault) (said_to-says step m.heard.standing ((m.heard.left ++ piece) ++ rest) said next rest later)))

pub stops-FaultsOn : {S : Type 0} (step : Step S) (m m' : Served S) (piece : List ℕ) (fault : ServerFault) → 1 ≤ length piece → m.fault ≡ None → m'.fault ≡ Some fault →
    front step m.heard.standing (m.heard.left ++ piece) ≡ Stops fault → FaultsOn step m m' piece
stops-FaultsOn {S = S} step m m' piece fault some none stops is =
    faults-on step m m' piece some none (stops ∙ sym (ap (λ (a : Said S). a.fault) (said_to-stops step m.heard.standing (m.heard.left ++ piece) fault is)))
    (λ f rest. absurd (none-some fault (sym f ∙ stops)))

-- ---- so all that it tells is told as before

-- What is said now and what will be said from there is what would have been said.
abbrev pub SaysOn : {S : Type 0} → Step S → (old new : Heard S) → (piece said : List ℕ) → Type 0
SaysOn step old new piece said = (rest : List ℕ) → said ++ (fed_with step new rest).said ≡ (fed_with step old (piece ++ rest)).said

-- by whether a number that is no byte ends them
abbrev pub told_if : {S : Type 0} → Step S → Served S → Bool → (all first : List ℕ) → List ℕ
told_if step m ended all first =
    cond ended ((fed_with step m.heard first).said ++ fault_numbers (fault_by step m first)) (fed_with step m.heard all).said

pub tells-on : {S : Type 0} (step : Step S) (m m' : Served S) (piece said : List ℕ) → is_ended piece ≡ false → SaysOn step m.heard m'.heard piece said → FaultsOn step m m' piece → (rest : List ℕ) →
    said ++ told_by step m' rest ≡ told_by step m (piece ++ rest)
tells-on step m m' piece said bytes says faults [] =
    says [] ∙ sym (ap (λ (t : Bool). told_if step m t (piece ++ []) (but_last (piece ++ []))) (ap is_ended (append-nil piece) ∙ bytes))
tells-on {S = S} step m m' piece said bytes says faults (x ∷ xs) =
    by (is_ended (x ∷ xs))
    ∙ ap (told_if step m (is_ended (x ∷ xs)) (piece ++ x ∷ xs)) (sym (but_last-behind piece x xs))
    ∙ ap (λ (t : Bool). told_if step m t (piece ++ x ∷ xs) (but_last (piece ++ x ∷ xs))) (sym (ended-behind piece x xs))
  where
    first : List ℕ
    first = but_last (x ∷ xs)

    by : (t : Bool) → said ++ told_if step m' t (x ∷ xs) (but_last (x ∷ xs)) ≡ told_if step m t (piece ++ x ∷ xs) (piece ++ but_last (x ∷ xs))
    by false = says (x ∷ xs)
    by true =
        sym (append_assoc said (fed_with step m'.heard (but_last (x ∷ xs))).said (fault_numbers (fault_by step m' (but_last (x ∷ xs)))))
        ∙ ap (λ (w : List ℕ). w ++ fault_numbers (fault_by step m' (but_last (x ∷ xs)))) (says (but_last (x ∷ xs)))
        ∙ ap (λ (f : Option ServerFault). (fed_with step m.heard (piece ++ but_last (x ∷ xs))).said ++ fault_numbers f) (faults (but_last (x ∷ xs)))

-- ---- the fault behind any calls

-- no fault where none came
pub fault-follows : {S : Type 0} (step : Step S) (m m' : Served S) → IsInCourse (link_of step m) → Continues (link_of step m) (link_of step m') → (piece : List ℕ) →
    m'.crossed.taken ≡ m.crossed.taken ++ piece → are_bytes piece ≡ true → m'.fault ≡ fault_by step m piece
fault-follows {S = S} step m m' here goes piece taken_is bytes =
    same_fault m'.fault (fault_by step m piece) (append_cancel_left now (fault_numbers m'.fault) (fault_numbers (fault_by step m piece)) (
    sym (ap (λ (w : List ℕ). now ++ (w ++ fault_numbers m'.fault)) quiet) ∙ marked
    ∙ sym (append_assoc was (fed_with step m.heard piece).said (fault_numbers (fault_by step m piece)))
    ∙ ap (λ (w : List ℕ). w ++ fault_numbers (fault_by step m piece)) (sym all)
    ))
  where
    now : List ℕ
    now = m'.crossed.given ++ m'.crossed.due

    was : List ℕ
    was = m.crossed.given ++ m.crossed.due

    -- a number that is no byte, behind what was taken
    asked : List ℕ
    asked = m'.crossed.taken ++ 256 ∷ []

    behind : (more : List ℕ) → drop (length m.crossed.taken) (m'.crossed.taken ++ more) ≡ piece ++ more
    behind more =
        ap (λ (t : List ℕ). drop (length m.crossed.taken) (t ++ more)) taken_is
        ∙ ap (drop (length m.crossed.taken)) (append_assoc m.crossed.taken piece more)
        ∙ drop_at m.crossed.taken (piece ++ more) (length m.crossed.taken) refl

    -- by any bytes from there
    same : (more : List ℕ) → (m'.crossed.given ++ m'.crossed.due) ++ told_by step m' more ≡ (m.crossed.given ++ m.crossed.due) ++ told_by step m (piece ++ more)
    same more =
        sym (ap (λ (b : List ℕ). (m'.crossed.given ++ m'.crossed.due) ++ told_by step m' b) (drop_at m'.crossed.taken more (length m'.crossed.taken) refl))
        ∙ same_Some (course_of step m' (m'.crossed.taken ++ more)) (course_of step m (m'.crossed.taken ++ more)) (goes.keeps.course (m'.crossed.taken ++ more) (more, refl)).1
        ∙ ap (λ (b : List ℕ). (m.crossed.given ++ m.crossed.due) ++ told_by step m b) (behind more)

    quiet : (fed_with step m'.heard []).said ≡ []
    quiet =
        let course : m'.crossed.given ++ m'.crossed.due ≡ course_of step m' m'.crossed.taken = goes.keeps.in_course here in
        let none : drop (length m'.crossed.taken) m'.crossed.taken ≡ []
        = ap (drop (length m'.crossed.taken)) (sym (append-nil m'.crossed.taken)) ∙ drop_at m'.crossed.taken [] (length m'.crossed.taken) refl in
        append_cancel_left (m'.crossed.given ++ m'.crossed.due) (fed_with step m'.heard []).said []
        (sym (course ∙ ap (λ (b : List ℕ). (m'.crossed.given ++ m'.crossed.due) ++ told_by step m' b) none) ∙ sym (append-nil (m'.crossed.given ++ m'.crossed.due)))

    all : m'.crossed.given ++ m'.crossed.due ≡ (m.crossed.given ++ m.crossed.due) ++ (fed_with step m.heard piece).said
    all =
        sym (append-nil (m'.crossed.given ++ m'.crossed.due)) ∙ ap (λ (w : List ℕ). (m'.crossed.given ++ m'.crossed.due) ++ w) (sym quiet) ∙ same []
        ∙ ap (λ (b : List ℕ). (m.crossed.given ++ m.crossed.due) ++ told_by step m b) (append-nil piece)
        ∙ ap (λ (t : Bool). (m.crossed.given ++ m.crossed.due) ++ told_if step m t piece (but_last piece)) (bytes-end piece bytes)

    marked : (m'.crossed.given ++ m'.crossed.due) ++ ((fed_with step m'.heard []).said ++ fault_numbers m'.fault)
        ≡ (m.crossed.given ++ m.crossed.due) ++ ((fed_with step m.heard piece).said ++ fault_numbers (fault_by step m piece))
    marked =
        same (256 ∷ [])
        ∙ ap (λ (t : Bool). (m.crossed.given ++ m.crossed.due) ++ told_if step m t (piece ++ 256 ∷ []) (but_last (piece ++ 256 ∷ []))) (ended-behind piece 256 [])
        ∙ ap (λ (b : List ℕ). (m.crossed.given ++ m.crossed.due) ++ told_if step m true (piece ++ 256 ∷ []) b) (but_last-behind piece 256 [] ∙ append-nil piece)

-- of a link that was just made it is the fault of what is said to all that was taken
pub fault-of-new : {S : Type 0} (step : Step S) (state : S) (startup : List ℕ) (cut room : ℕ) (after : Served S) →
    Continues (link_of step (new_link (new_heard state startup) cut room)) (link_of step after) → are_bytes after.crossed.taken ≡ true →
    after.fault ≡ (said_to step (unfed state startup) after.crossed.taken).fault
fault-of-new {S = S} step state startup cut room after goes bytes =
    fault-follows step (new_link (new_heard state startup) cut room) after (sym (ap (λ (a : Said S). a.said) none)) goes after.crossed.taken refl bytes ∙ by after.crossed.taken
  where
    none : said_to step (unfed state startup) [] ≡ waiting (unfed state startup) []
    none = said_to-waits step (unfed state startup) [] (nothing-waits step (unfed state startup))

    by : (taken : List ℕ) → fault_by step (new_link (new_heard state startup) cut room) taken ≡ (said_to step (unfed state startup) taken).fault
    by [] = sym (ap (λ (a : Said S). a.fault) none)
    by (b ∷ taken) = refl
