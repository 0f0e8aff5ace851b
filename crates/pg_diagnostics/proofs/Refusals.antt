-- The digits in the text of a refusal, and their number.
use Rattle.std.proofs.Common.{◌≡◌, ℕ, ◌-◌, ◌^◌, ◌<◌, List, [], ◌∷◌, ◌++◌, length, take, drop, decimal, IsUtf8, Option, Some, None, Result, Ok, Err, sym, subst, ap, ap₂, ◌∙◌, arith, length-append}
use Rattle.std.proofs.Math.Seq.{take-append_seam}
use Rattle.std.proofs.lemmas.Fmt.{parse-decimal, IsAscii-decimal}
use Rattle.std.proofs.lemmas.Str.{IsUtf8-from_ascii}
use Rattle.std.specs.Str.Parse.{ParsesUnsigned}
use Rattle.pg_diagnostics.specs.Messages.{refusal}

pub digits_stand : (n : ℕ) (head rest digits : List ℕ) → head ≡ refusal n → rest ≡ drop 8 head → digits ≡ take (length rest - 1) rest → digits ≡ decimal n
digits_stand n head rest digits is rest_is digits_is =
    let rest_so : rest ≡ decimal n ++ 10 ∷ [] = rest_is ∙ ap (drop 8) is in
    let counts : length rest - 1 ≡ length (decimal n) = omega (arith, ap length rest_so ∙ length-append (decimal n) (10 ∷ [])) in
    digits_is ∙ ap₂ take counts rest_so ∙ take-append_seam (decimal n) (10 ∷ [])

pub digits_utf8 : (n : ℕ) (digits : List ℕ) → n < 2 ^ 64 → digits ≡ decimal n → IsUtf8 digits
digits_utf8 n digits fits is = subst IsUtf8 (sym is) (IsUtf8-from_ascii (decimal n) (IsAscii-decimal n fits))

-- the number that was read
abbrev pub number_in : {E : Type 0} → Result ℕ E → Option ℕ
number_in (Ok n) = Some n
number_in (Err e) = None

pub reads : {E : Type 0} (n : ℕ) (digits text : List ℕ) (r : Result ℕ E) → n < 2 ^ 64 → digits ≡ decimal n → text ≡ digits → ParsesUnsigned 64 10 text r → number_in r ≡ Some n
reads n digits text r fits is text_is parsed = ap number_in (parse-decimal 64 n text r fits fits (text_is ∙ is) parsed)
