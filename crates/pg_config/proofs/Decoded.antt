-- What a parameter says whose texts are decoded.
use Rattle.std.proofs.Common.{◌≡◌, ℕ, List, [], ◌∷◌, ◌++◌, Bool, true, false, if◌then◌else◌, Result, Ok, Err, codes, sym, subst, ap, ◌∙◌}
use Rattle.std.proofs.lemmas.Bool.{cond-false}
use Rattle.std.specs.Str.{bytes_eq, is_utf8}
use Rattle.percent_encoding.specs.Percent.{percent_decode}
use Rattle.pg_spec.specs.Faults.{Cause, NotText}
use Rattle.pg_config.specs.declared.config.Config.{Config}
use Rattle.pg_config.specs.Options.{applies}
use Rattle.pg_config.specs.Settings.{host_of}
use Rattle.pg_config.specs.Urls.{in_text, parameter}

abbrev meant : (List ℕ → Result Config Cause) → List ℕ → Result (List ℕ) Cause → Result Config Cause
meant meaning other (Ok text) = meaning text
meant meaning other (Err cause) = meaning other

abbrev where_ok : Type 0 → Result (List ℕ) Cause → Type 0
where_ok goal (Ok text) = goal
where_ok goal (Err cause) = Unit {0}

in_text_of : (b : Bool) (decoded text : List ℕ) (meaning : List ℕ → Result Config Cause) → (if b then Ok decoded else Err NotText) ≡ Ok text →
    (if b then meaning decoded else Err NotText) ≡ meaning text
in_text_of true decoded text meaning h = ap (meant meaning decoded) h
in_text_of false decoded text meaning h = subst (where_ok (Err NotText ≡ meaning text)) h tt

-- what is said of bytes whose text is known
decoded_in : (escaped text : List ℕ) (meaning : List ℕ → Result Config Cause) → in_text {A = List ℕ} escaped (λ t. Ok t) ≡ Ok text → in_text escaped meaning ≡ meaning text
decoded_in escaped text meaning h = in_text_of (is_utf8 (percent_decode escaped)) (percent_decode escaped) text meaning h

abbrev says : Config → (name text : List ℕ) → Result Config Cause
says s name text = if bytes_eq name (codes "host") then Ok (record s { hosts = s.hosts ++ host_of text ∷ [] }) else applies name text s

-- the parameter is no host
pub no_host : (key value k v h k' v' : List ℕ) (s : Config) → in_text {A = List ℕ} key (λ t. Ok t) ≡ Ok k → in_text {A = List ℕ} value (λ t. Ok t) ≡ Ok v →
    h ≡ k → k' ≡ k → v' ≡ v → false ≡ bytes_eq h (codes "host") → applies k' v' s ≡ parameter key value s
no_host key value k v h k' v' s key_is value_is hk kk vv other =
    ap (λ t. applies t v' s) kk ∙ ap (λ t. applies k t s) vv
    ∙ sym (cond-false (bytes_eq k (codes "host")) (Ok (record s { hosts = s.hosts ++ host_of v ∷ [] })) (applies k v s) (subst (λ t. bytes_eq t (codes "host") ≡ false) hk (sym other)))
    ∙ sym (decoded_in value v (says s k) value_is)
    ∙ sym (decoded_in key k (λ name. in_text value (says s name)) key_is)
