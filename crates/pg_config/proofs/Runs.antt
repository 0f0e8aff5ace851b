-- Runs of characters and values, read one by one.
use Rattle.std.proofs.Common.{◌≡◌, ◌<◌, ◌+◌, ◌==◌, ℕ, Bool, true, false, cond, List, [], ◌∷◌, ◌++◌, length, get_or, take, drop, sym, ap, ◌∙◌, append-nil}
use Rattle.std.proofs.lemmas.List.{take_more}
use Rattle.std.proofs.lemmas.Str.{encodes-append}
use Rattle.std.specs.Char.{encode_utf8}
use Rattle.std.specs.Str.{encode_utf8_all}
use Rattle.pg_config.specs.KeyValueReading.{Value, behind_while, front_of, front_while, is_in_run, keyed, valued}
use Rattle.pg_config.specs.ParameterReading.{Broken, Done}
use Rattle.pg_config.specs.Numbers.{begins_with}

-- ---- runs

-- so far all belongs to the run
pub record IsRunTo (p : ℕ → Bool) (at : ℕ) (text : List ℕ) : Type 0 where
  pub front : front_while p text ≡ take at text ++ front_while p (drop at text)
  pub behind : behind_while p text ≡ behind_while p (drop at text)

-- ---- values

-- what was taken, and what the rest says
abbrev pub after_bytes : List ℕ → Value → Value
after_bytes bytes value = record { bytes = bytes ++ value.bytes; behind = value.behind }

-- ---- texts

-- one character more
pub text_more : (characters : List ℕ) (at c : ℕ) (bytes bytes' : List ℕ) → at < length characters → c ≡ get_or characters at c →
    bytes ≡ encode_utf8_all (take at characters) → bytes' ≡ bytes ++ encode_utf8 c → bytes' ≡ encode_utf8_all (take (at + 1) characters)
text_more characters at c bytes bytes' fits here so_far longer =
    longer ∙ ap (λ t. t ++ encode_utf8 c) so_far
    ∙ ap (λ t. encode_utf8_all (take at characters) ++ t) (sym (append-nil (encode_utf8 c)))
    ∙ sym (encodes-append (take at characters) (c ∷ []))
    ∙ ap encode_utf8_all (ap (λ t. take at characters ++ t ∷ []) here ∙ sym (take_more characters at c fits))

-- ---- fronts

pub keyed_is : (key text bytes value behind : List ℕ) → (length key == 0) ≡ false → begins_with 61 text ≡ true → bytes ≡ encode_utf8_all key →
    behind ≡ drop 1 text → value ≡ behind_while (is_in_run false) behind → valued bytes value ≡ keyed key text
keyed_is key text bytes value behind some equals bytes_are behind_is value_is =
    let found = valued (encode_utf8_all key) (behind_while (is_in_run false) (drop 1 text)) in
    ap (λ t. valued t value) bytes_are
    ∙ ap (valued (encode_utf8_all key)) (value_is ∙ ap (behind_while (is_in_run false)) behind_is)
    ∙ sym (ap (λ t. cond t Done (cond (begins_with 61 text) found Broken)) some ∙ ap (λ t. cond t found Broken) equals)

pub front_is : (text skipped key behind rest : List ℕ) → skipped ≡ behind_while (is_in_run false) text → key ≡ front_while (is_in_run true) skipped →
    behind ≡ behind_while (is_in_run true) skipped → rest ≡ behind_while (is_in_run false) behind → keyed key rest ≡ front_of text
front_is text skipped key behind rest skipped_is key_is behind_is rest_is =
    ap (λ t. keyed t rest) key_is
    ∙ ap (keyed (front_while (is_in_run true) skipped)) (rest_is ∙ ap (behind_while (is_in_run false)) behind_is)
    ∙ ap (λ t. keyed (front_while (is_in_run true) t) (behind_while (is_in_run false) (behind_while (is_in_run true) t))) skipped_is
