-- What is left to do, as one number.
use Rattle.std.proofs.Common.{◌≡◌, inl, inr, ◌⊎◌, ℕ, suc, ◌+◌, ◌-◌, ◌*◌, ◌^◌, ◌<◌, ◌≤◌, List, [], ◌∷◌, length, Bool, true, false, if◌then◌else◌, Option, Some, None, refl, ap, arith}
use Rattle.std.specs.Prelude.{not}
use Rattle.pg_connect.specs.Passes.{goodbye}
use Rattle.pg_query.specs.Meaning.{Place}
use Rattle.pg_session.specs.Measure.{Left, IsLess, LessUnread, FewerCommands, LessUnsent, IsNearer, left_to_do, script_left, scripts_left}
use Rattle.pg_session.specs.Handles.{HandleState}
use Rattle.pg_session.specs.States.{SessionState}
use Rattle.pg_text.specs.Scripts.{AreScripts, AreShort}
use Rattle.pg_play.specs.declared.play.Play.{Play}
use Rattle.pg_play.specs.Plays.{IsShort, as_number, state_of}

script_short : {C T : Type 0} (script : List C) (running : Option (Place T)) (answered : ℕ) → length script < 2 ^ 32 → script_left script running answered ≤ 2 ^ 33
script_short script None answered h = omega (arith, h)
script_short script (Some p) answered h = omega (arith, h)

scripts_short : {C T A E : Type 0} (scripts : List (List C)) (handles : List (HandleState T A E)) → AreShort scripts → scripts_left scripts handles ≤ length scripts * 2 ^ 33
scripts_short [] handles short = omega arith
scripts_short (script ∷ scripts) [] short = omega arith
scripts_short (script ∷ scripts) (h ∷ handles) short =
    let first : length script < 2 ^ 32 = short 0 [] (omega arith) in
    let one = script_short script h.running (length h.answers) first in
    let more = scripts_short scripts handles (λ k d within. short (suc k) d (omega (arith, within))) in
    omega (arith, one, more)

goodbye_short : (closing : Bool) → length (goodbye closing true) ≤ 5
goodbye_short true = omega arith
goodbye_short false = omega arith

-- what is left of a session is short, where what is to be sent is counted
pub left_short : {S C T A E : Type 0} (stands : S → Place T) (scripts : List (List C)) (p : Play S A E) → AreScripts scripts → p.hub.unsent < 2 ^ 64 → length p.streams.unsent < 2 ^ 64 → IsShort (left_to_do scripts (state_of stands p))
left_short stands scripts p are parts bytes =
    let commands = scripts_short scripts (state_of stands p).handles are.short in
    let few : length scripts ≤ 1024 = are.few in
    let last = goodbye_short p.streams.closing in
    record { commands = omega (arith, commands, few); unsent = omega (arith, parts, bytes, last) }

number_less : (x y : Left) → IsLess x y → IsShort x → as_number x < as_number y
number_less x y (LessUnread u) short = omega (arith, u, short.commands, short.unsent)
number_less x y (FewerCommands u c) short = omega (arith, u, c, short.unsent)
number_less x y (LessUnsent u c s) short = omega (arith, u, c, s)

-- the number falls with each round that ends nothing
pub number_falls : {C T A E : Type 0} (scripts : List (List C)) (s t : SessionState T A E) (moved waited next : Bool) → IsNearer scripts moved s t → IsShort (left_to_do scripts t) → next ≡ not moved →
    (next ≡ true → waited ≡ false) → 2 * as_number (left_to_do scripts t) + (if next then 0 else 1) < 2 * as_number (left_to_do scripts s) + (if waited then 0 else 1)
number_falls scripts s t true waited true nearer short is once = let no : true ≡ false = is in absurd cc
number_falls scripts s t true true false nearer short is once = let less = number_less (left_to_do scripts t) (left_to_do scripts s) nearer short in omega (arith, less)
number_falls scripts s t true false false nearer short is once = let less = number_less (left_to_do scripts t) (left_to_do scripts s) nearer short in omega (arith, less)
number_falls scripts s t false waited false nearer short is once = let no : false ≡ true = is in absurd cc
number_falls scripts s t false true true nearer short is once = let no : true ≡ false = once refl in absurd cc
number_falls scripts s t false false true (inl nearer) short is once = let less = number_less (left_to_do scripts t) (left_to_do scripts s) nearer short in omega (arith, less)
number_falls scripts s t false false true (inr same) short is once = let less = ap as_number same in omega (arith, less)
