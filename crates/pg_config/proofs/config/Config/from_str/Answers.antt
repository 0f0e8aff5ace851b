use Rattle.std.proofs.Common.{◌≡◌, ℕ, List, Result, Err, sym, subst, ap, ◌∙◌}
use Rattle.std.proofs.lemmas.Result.{err_from_is_err_and}
use Rattle.pg_spec.specs.Faults.{Cause}
use Rattle.pg_types.specs.declared.error.Error.{Error}
use Rattle.pg_types.specs.declared.error.Error.TheVariants.{OutOfMemory}
use Rattle.pg_config.specs.declared.config.Config.{Config}
use Rattle.pg_config.specs.ConnectionStringReading.{ConnectionStringSays, behind_scheme}
use Rattle.pg_config.specs.ConnectionStrings.{ConnectionStringMeans}
use Rattle.pg_config.specs.KeyValueReading.{KeyValuesSay}
use Rattle.pg_config.specs.Outcomes.{IsAnswered}
use Rattle.pg_config.proofs.Meanings.{read}
use Rattle.pg_config.proofs.OneMeaning.{meaning_some}
use Rattle.pg_config.proofs.Wholes.{key_value_text, url_text}
use Rattle.pg_config.proofs.config.Config.from_str.Goals as goal

-- whatever is said of a text is what it means, of which there is one
by_meaning : (text : List ℕ) (Answered : Result Config Cause → Type 0) → ((said : Result Config Cause) → ConnectionStringSays text said → Answered said) →
    ((said : Result Config Cause) × ConnectionStringMeans text said × Answered said) × ((said : Result Config Cause) → ConnectionStringMeans text said → Answered said)
by_meaning text Answered only =
    let some = meaning_some text in ((some.0, some.1, only some.0 (read text some.0 some.1)), λ said h. only said (read text said h))

-- want of memory is an answer to anything
lacked : (said : Result Config Cause) (r : Result Config Error) (e : Error) → r ≡ Err e → e ≡ OutOfMemory → IsAnswered said r
lacked said r e is h = subst (λ x. IsAnswered said x) (sym (is ∙ ap (λ y. Err y) h)) tt

pub returns-in-Some : goal.returns-in-Some
returns-in-Some c =
    let both = by_meaning c.args.s.now (λ said. IsAnswered said c.read_url.result)
    (λ said h. c.read_url.ensures said (url_text c.args.s.now c.in-Some.rest.now said (c.in-Some.ensures ∙ ap behind_scheme c.as_bytes.ensures.value) h)) in
    record { answer = both.0; only = both.1 }

pub returns-in_ok-characters-in-None : goal.returns-in_ok-characters-in-None
returns-in_ok-characters-in-None c =
    let both = by_meaning c.args.s.now (λ said. IsAnswered said c.read_key_values.result)
    (λ said h. c.read_key_values.ensures said (subst (λ text. KeyValuesSay text said) (sym (c.as_slice.ensures.value ∙ c.in_ok-characters-in-None.ensures))
    (key_value_text c.args.s.now said (c.in-None.ensures ∙ ap behind_scheme c.as_bytes.ensures.value) h))) in
    record { answer = both.0; only = both.1 }

pub returns-in_err-characters-in-None-clause-answer : goal.returns-in_err-characters-in-None-clause-answer
returns-in_err-characters-in-None-clause-answer c =
    let some = meaning_some c.args.s.now in
    let p = err_from_is_err_and c.from_residual.result c.from_residual.ensures.1 in
    (some.0, some.1, lacked some.0 c.from_residual.result p.0 p.1 p.2)
