-- What a whole text means is what is read from its front.
use Rattle.std.proofs.Common.{◌≡◌, ◌++◌, inl, inr, ℕ, List, [], Bool, true, false, cond, length, drop, nat_eq, Option, Some, None, unwrap_or, Result, Ok, Err, codes, refl, sym, ap, subst, ◌∙◌}
use Rattle.std.specs.List.{starts_with}
use Rattle.std.specs.Str.{chars}
use Rattle.std.proofs.lemmas.Slice.Eq.{starts_is}
use Rattle.std.proofs.lemmas.Bool.Decides.{Decides-eqb}
use Rattle.pg_spec.specs.Faults.{Cause}
use Rattle.pg_config.specs.declared.config.Config.{Config}
use Rattle.pg_config.specs.ConnectionStringReading.{ConnectionStringSays, behind_scheme}
use Rattle.pg_config.specs.ConnectionStrings.{ConnectionStringMeans, IsSchemed}
use Rattle.pg_config.specs.KeyValue.{IsEnd, IsParameter, KeyValuesMean}
use Rattle.pg_config.specs.KeyValueReading.{KeyValuesSay, front_of}
use Rattle.pg_config.specs.ParameterReading.{Says}
use Rattle.pg_config.specs.Parameters.{Means}
use Rattle.pg_config.specs.UrlReading.{UrlSays, opening, parameter_at, query}
use Rattle.pg_config.specs.Urls.{IsUrlEnd, IsUrlParameter, UrlMeans, opening_says, parameter}
use Rattle.pg_config.specs.Options.{applies}
use Rattle.pg_config.specs.Settings.{defaults}
use Rattle.pg_config.proofs.Agreement as agreement
use Rattle.pg_config.proofs.KeyValueSpelling.{key_values_agree}
use Rattle.pg_config.proofs.Shapes.{none_not_some, some_same}
use Rattle.pg_config.proofs.Spelling.{by_cases}
use Rattle.pg_config.proofs.UrlParameterSpelling.{url_parameters_agree}
use Rattle.pg_config.proofs.UrlShapes.{url_found}
use Rattle.pg_config.proofs.UrlSpelling.{opening_read, query_read}

-- ---- schemes

abbrev scheme_of : List ℕ → Bool → Bool → Option (List ℕ)
scheme_of text short long = cond short (Some (drop 11 text)) (cond long (Some (drop 13 text)) None)

begins_with_it : (text scheme : List ℕ) → starts_with nat_eq text scheme ≡ true → text ≡ scheme ++ drop (length scheme) text
begins_with_it text scheme e = (starts_is Decides-eqb text scheme (starts_with nat_eq text scheme) refl).0 e

scheme_found : (text rest : List ℕ) → behind_scheme text ≡ Some rest → IsSchemed text rest
scheme_found text rest e =
    let short = starts_with nat_eq text (codes "postgres://") in
    let long = starts_with nat_eq text (codes "postgresql://") in
    by_cases short
    (λ hit. inl (begins_with_it text (codes "postgres://") hit ∙ ap (λ t. codes "postgres://" ++ t) (some_same (sym (ap (λ b. scheme_of text b long) hit) ∙ e))))
    (λ miss. by_cases long
    (λ hit. inr (begins_with_it text (codes "postgresql://") hit
    ∙ ap (λ t. codes "postgresql://" ++ t) (some_same (sym (ap (λ b. scheme_of text b long) miss ∙ ap (scheme_of text false) hit) ∙ e))))
    (λ none. absurd (none_not_some (sym (ap (λ b. scheme_of text b long) miss ∙ ap (scheme_of text false) none) ∙ e))))

scheme_read : (text rest : List ℕ) → IsSchemed text rest → behind_scheme text ≡ Some rest
scheme_read text rest (inl is) = ap behind_scheme is
scheme_read text rest (inr is) = ap behind_scheme is

-- ---- URLs

abbrev read_after : List ℕ → Result Config Cause → Result Config Cause → Type 0
read_after parameters said opened = elim opened [ Err fault ↦ said ≡ Err fault | Ok s ↦ Says parameter_at parameter parameters s said ]

abbrev meant_after : List ℕ → Result Config Cause → Result Config Cause → Type 0
meant_after parameters said opened = elim opened [ Err fault ↦ said ≡ Err fault | Ok s ↦ Means IsUrlParameter IsUrlEnd parameter parameters s said ]

after_written : (parameters : List ℕ) (said opened : Result Config Cause) → read_after parameters said opened → meant_after parameters said opened
after_written parameters said (Err cause) h = h
after_written parameters said (Ok s) h = agreement.written parameter_at IsUrlParameter IsUrlEnd parameter url_parameters_agree parameters s said h

after_read : (parameters : List ℕ) (said opened : Result Config Cause) → meant_after parameters said opened → read_after parameters said opened
after_read parameters said (Err cause) h = h
after_read parameters said (Ok s) h = agreement.read parameter_at IsUrlParameter IsUrlEnd parameter url_parameters_agree parameters s said h

url_written : (text : List ℕ) (said : Result Config Cause) → UrlSays text said → UrlMeans text said
url_written text said h =
    let u = url_found text in
    let opens = ap (λ t. opening t defaults) u.text_is ∙ opening_read u.url u.is_url defaults in
    let asks = ap query u.text_is ∙ query_read u.url u.is_url in (
      u.url,
      u.is_url,
      u.text_is,
      after_written (unwrap_or u.url.parameters []) said (opening_says u.url defaults)
          (subst (λ q. read_after q said (opening_says u.url defaults)) asks (subst (read_after (query text) said) opens h)),
    )

url_read : (text : List ℕ) (said : Result Config Cause) → UrlMeans text said → UrlSays text said
url_read text said (u, is, text_is, h) =
    let opens = ap (λ t. opening t defaults) text_is ∙ opening_read u is defaults in
    let asks = ap query text_is ∙ query_read u is in
    subst (read_after (query text) said) (sym opens)
    (subst (λ q. read_after q said (opening_says u defaults)) (sym asks) (after_read (unwrap_or u.parameters []) said (opening_says u defaults) h))

-- ---- whole texts

key_values_written : (text : List ℕ) (said : Result Config Cause) → KeyValuesSay text said → KeyValuesMean text said
key_values_written text said h = agreement.written front_of IsParameter IsEnd applies key_values_agree text defaults said h

key_values_read : (text : List ℕ) (said : Result Config Cause) → KeyValuesMean text said → KeyValuesSay text said
key_values_read text said h = agreement.read front_of IsParameter IsEnd applies key_values_agree text defaults said h

abbrev by_scheme : List ℕ → Result Config Cause → Option (List ℕ) → Type 0
by_scheme text said scheme = elim scheme [ Some rest ↦ UrlSays rest said | None ↦ KeyValuesSay (chars text) said ]

whole_written : (text : List ℕ) (said : Result Config Cause) (scheme : Option (List ℕ)) → behind_scheme text ≡ scheme → by_scheme text said scheme → ConnectionStringMeans text said
whole_written text said (Some rest) is h = inl (rest, scheme_found text rest is, url_written rest said h)
whole_written text said None is h = inr ((λ rest schemed. none_not_some (sym is ∙ scheme_read text rest schemed)), key_values_written (chars text) said h)

-- what is read from the front is in the grammar
pub written : (text : List ℕ) (said : Result Config Cause) → ConnectionStringSays text said → ConnectionStringMeans text said
written text said h = whole_written text said (behind_scheme text) refl h

no_scheme : (text : List ℕ) (scheme : Option (List ℕ)) → behind_scheme text ≡ scheme → ((rest : List ℕ) → IsSchemed text rest → ⊥) → behind_scheme text ≡ None
no_scheme text None is none = is
no_scheme text (Some rest) is none = absurd (none rest (scheme_found text rest is))

-- what is in the grammar is read from the front
pub read : (text : List ℕ) (said : Result Config Cause) → ConnectionStringMeans text said → ConnectionStringSays text said
read text said (inl (rest, schemed, h)) = subst (by_scheme text said) (sym (scheme_read text rest schemed)) (url_read rest said h)
read text said (inr (none, h)) = subst (by_scheme text said) (sym (no_scheme text (behind_scheme text) refl none)) (key_values_read (chars text) said h)
