-- Each text means one thing: settings, or a first fault.
use Rattle.std.proofs.Common.{◌≡◌, ◌⊎◌, inl, inr, ◌<◌, ℕ, zero, suc, List, [], ◌∷◌, ◌++◌, length, Option, Some, None, Result, Ok, Err, refl, sym, ap, subst, ◌∙◌, arith}
use Rattle.std.proofs.lemmas.List.{length-append}
use Rattle.std.specs.Str.{chars}
use Rattle.pg_spec.specs.Faults.{Cause, Syntax}
use Rattle.pg_config.specs.declared.config.Config.{Config}
use Rattle.pg_config.specs.ConnectionStringReading.{behind_scheme}
use Rattle.pg_config.specs.ConnectionStrings.{ConnectionStringMeans}
use Rattle.pg_config.specs.KeyValue.{written_text}
use Rattle.pg_config.specs.KeyValueReading.{KeyValuesSay, front_of}
use Rattle.pg_config.specs.ParameterReading.{Broken, Done, Front, Parameter, ReadsAs, Says}
use Rattle.pg_config.specs.UrlReading.{UrlSays, opening, parameter_at, query}
use Rattle.pg_config.specs.Urls.{parameter}
use Rattle.pg_config.specs.Options.{applies}
use Rattle.pg_config.specs.Settings.{defaults}
use Rattle.pg_config.proofs.KeyValueSpelling.{key_values_agree}
use Rattle.pg_config.proofs.Meanings.{read, written}
use Rattle.pg_config.proofs.Readings as readings
use Rattle.pg_config.proofs.UrlParameterSpelling.{url_parameters_agree}

module _ (front : List ℕ → Front) (meaning : (key value : List ℕ) → Config → Result Config Cause) where
  abbrev goes_on : (rest : List ℕ) (parameters : List (List ℕ × List ℕ)) (said : Result Config Cause) → Result Config Cause → Type 0
  goes_on rest parameters said meant = elim meant [ Err fault ↦ said ≡ Err fault | Ok next ↦ ReadsAs front meaning rest next parameters said ]

  -- ---- something is said

  meant_some : (text rest : List ℕ) (s : Config) (key value : List ℕ) (meant : Result Config Cause) → front text ≡ Parameter key value rest →
      ((next : Config) → (said : Result Config Cause) × Says front meaning rest next said) → meaning key value s ≡ meant → (said : Result Config Cause) × Says front meaning text s said
  meant_some text rest s key value (Err cause) stands later means =
      (Err cause, ((key, value) ∷ [], (rest, stands, subst (goes_on rest [] (Err cause)) (sym means) refl)))
  meant_some text rest s key value (Ok next) stands later means =
      let r = later next in (r.0, ((key, value) ∷ r.1.0, (rest, stands, subst (goes_on rest r.1.0 r.0) (sym means) r.1.1)))

  front_some : (text : List ℕ) (s : Config) (f : Front) → front text ≡ f →
      ((key value rest : List ℕ) → front text ≡ Parameter key value rest → (next : Config) → (said : Result Config Cause) × Says front meaning rest next said) →
      (said : Result Config Cause) × Says front meaning text s said
  front_some text s Done is later = (Ok s, ([], inl (is, refl)))
  front_some text s Broken is later = (Err Syntax, ([], inr (is, refl)))
  front_some text s (Parameter key value rest) is later = meant_some text rest s key value (meaning key value s) is (later key value rest is) refl

  module _ (shorter : (text key value rest : List ℕ) → front text ≡ Parameter key value rest → length rest < length text) where
    some_below : (most : ℕ) (text : List ℕ) → length text < most → (s : Config) → (said : Result Config Cause) × Says front meaning text s said
    some_below zero text below s = absurd (omega arith)
    some_below (suc most) text below s =
        front_some text s (front text) refl
        (λ key value rest is next. let less = shorter text key value rest is in some_below most rest (omega arith) next)

    pub says_some : (text : List ℕ) (s : Config) → (said : Result Config Cause) × Says front meaning text s said
    says_some text s = some_below (suc (length text)) text (omega arith) s

  -- ---- only one thing is said

  meant_one : (text rest : List ℕ) (s : Config) (key value : List ℕ) (parameters : List (List ℕ × List ℕ)) (a b meant : Result Config Cause) → front text ≡ Parameter key value rest →
      ((next : Config) → ReadsAs front meaning rest next parameters a → Says front meaning rest next b → a ≡ b) →
      meaning key value s ≡ meant → goes_on rest parameters a meant → Says front meaning text s b → a ≡ b
  meant_one text rest s key value parameters a b (Err cause) stands later means said other =
      said ∙ sym (readings.only_fault front meaning text s b key value rest cause stands means other)
  meant_one text rest s key value parameters a b (Ok next) stands later means said other =
      later next said (readings.first_read front meaning text s next key value rest b stands means other.0 other.1)

  all_one : (parameters : List (List ℕ × List ℕ)) (text : List ℕ) (s : Config) (a b : Result Config Cause) → ReadsAs front meaning text s parameters a → Says front meaning text s b → a ≡ b
  all_one [] text s a b (inl h) other = h.1 ∙ sym (readings.only_done front meaning text s b h.0 other)
  all_one [] text s a b (inr h) other = h.1 ∙ sym (readings.only_broken front meaning text s b h.0 other)
  all_one (p ∷ parameters) text s a b (rest, here, later) other =
      meant_one text rest s p.0 p.1 parameters a b (meaning p.0 p.1 s) here (λ next said more. all_one parameters rest next a b said more) refl later other

  pub says_one : (text : List ℕ) (s : Config) (a b : Result Config Cause) → Says front meaning text s a → Says front meaning text s b → a ≡ b
  says_one text s a b said other = all_one said.0 text s a b said.1 other

-- ---- less is left behind a parameter

length_behind : (a b c d e f : List ℕ) → length f < length (a ++ b ++ c ++ 61 ∷ d ++ e ++ f)
length_behind a b c d e f = simp length-append (omega arith)

key_values_shorter : (text key value rest : List ℕ) → front_of text ≡ Parameter key value rest → length rest < length text
key_values_shorter text key value rest is =
    let p = key_values_agree.found key value rest text is in
    subst (λ t. length rest < length t) (sym p.text_is)
    (length_behind p.pair.space p.pair.key p.pair.left p.pair.right (written_text p.pair.value) rest)

url_shorter : (text key value rest : List ℕ) → parameter_at text ≡ Parameter key value rest → length rest < length text
url_shorter text key value rest is = by_end (url_parameters_agree.found key value rest text is).text_is where
  by_end : ((text ≡ key ++ 61 ∷ value) × (rest ≡ [])) ⊎ (text ≡ key ++ 61 ∷ (value ++ 38 ∷ rest)) → length rest < length text
  by_end (inl h) = let long = ap length h.0 ∙ length-append key (61 ∷ value) in let none = ap length h.1 in omega (arith, long, none)
  by_end (inr h) =
      let long = ap length h ∙ length-append key (61 ∷ (value ++ 38 ∷ rest)) in
      let more = length-append value (38 ∷ rest) in
      omega (arith, long, more)

-- ---- whole texts

abbrev after_opening : List ℕ → Result Config Cause → Result Config Cause → Type 0
after_opening text said opened = elim opened [ Err fault ↦ said ≡ Err fault | Ok s ↦ Says parameter_at parameter (query text) s said ]

opened_some : (text : List ℕ) (opened : Result Config Cause) → (said : Result Config Cause) × after_opening text said opened
opened_some text (Err cause) = (Err cause, refl)
opened_some text (Ok s) = says_some parameter_at parameter url_shorter (query text) s

opened_one : (text : List ℕ) (opened a b : Result Config Cause) → after_opening text a opened → after_opening text b opened → a ≡ b
opened_one text (Err cause) a b said other = said ∙ sym other
opened_one text (Ok s) a b said other = says_one parameter_at parameter (query text) s a b said other

abbrev by_scheme : List ℕ → Result Config Cause → Option (List ℕ) → Type 0
by_scheme text said scheme = elim scheme [ Some rest ↦ UrlSays rest said | None ↦ KeyValuesSay (chars text) said ]

scheme_some : (text : List ℕ) (scheme : Option (List ℕ)) → (said : Result Config Cause) × by_scheme text said scheme
scheme_some text (Some rest) = opened_some rest (opening rest defaults)
scheme_some text None = says_some front_of applies key_values_shorter (chars text) defaults

scheme_one : (text : List ℕ) (scheme : Option (List ℕ)) (a b : Result Config Cause) → by_scheme text a scheme → by_scheme text b scheme → a ≡ b
scheme_one text (Some rest) a b said other = opened_one rest (opening rest defaults) a b said other
scheme_one text None a b said other = says_one front_of applies (chars text) defaults a b said other

-- each text means something
pub meaning_some : (text : List ℕ) → (said : Result Config Cause) × ConnectionStringMeans text said
meaning_some text = let r = scheme_some text (behind_scheme text) in (r.0, written text r.0 r.1)

-- no text means two things
pub meaning_one : (text : List ℕ) (a b : Result Config Cause) → ConnectionStringMeans text a → ConnectionStringMeans text b → a ≡ b
meaning_one text a b said other = scheme_one text (behind_scheme text) a b (read text a said) (read text b other)
