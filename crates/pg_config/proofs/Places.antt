-- Hosts are read one after another.
use Rattle.std.proofs.Common.{◌≡◌, ℕ, List, Option, Some, Result, Ok, sym, ap, subst, ◌∙◌}
use Rattle.pg_spec.specs.Faults.{◌>>=◌, Cause}
use Rattle.pg_types.specs.declared.error.Error.{Error}
use Rattle.pg_config.specs.declared.config.Config.{Config}
use Rattle.pg_config.specs.Outcomes.{HasFault}
use Rattle.pg_config.specs.Pieces.{IsCut}
use Rattle.pg_config.specs.Reading.{pieces_left}
use Rattle.pg_config.specs.UrlReading.{each_place, place}
use Rattle.pg_config.proofs.Cuts.{pieces_cut}
use Rattle.pg_config.proofs.Trying.{handed_on}

-- the first fault decides
pub first_decides : {A B : Type 0} (r : Result A Cause) (g : A → Result B Cause) (e : Error) → HasFault r e → HasFault (r >>= g) e
first_decides r g e h = handed_on r (r >>= g) e (λ c is. ap (λ t. t >>= g) is) h

opened : (s : Config) (rest : Option (List ℕ)) (text piece : List ℕ) (behind : Option (List ℕ)) (whole : Result Config Cause) → IsCut 44 text piece behind → rest ≡ Some text →
    each_place (pieces_left 44 rest) s ≡ whole → (place piece s >>= λ next. each_place (pieces_left 44 behind) next) ≡ whole
opened s rest text piece behind whole is here so_far =
    sym (ap (λ ps. each_place ps s) (pieces_cut 44 text piece behind is)) ∙ sym (ap (λ r. each_place (pieces_left 44 r) s) here) ∙ so_far

-- a host was added
pub place_added : (s next : Config) (rest : Option (List ℕ)) (text piece : List ℕ) (behind : Option (List ℕ)) (whole : Result Config Cause) → IsCut 44 text piece behind → rest ≡ Some text →
    place piece s ≡ Ok next → each_place (pieces_left 44 rest) s ≡ whole → each_place (pieces_left 44 behind) next ≡ whole
place_added s next rest text piece behind whole is here found so_far =
    sym (ap (λ r. r >>= λ t. each_place (pieces_left 44 behind) t) found) ∙ opened s rest text piece behind whole is here so_far

-- a host is refused
pub place_refused : (s : Config) (rest : Option (List ℕ)) (text piece : List ℕ) (behind : Option (List ℕ)) (whole : Result Config Cause) (e : Error) → IsCut 44 text piece behind → rest ≡ Some text →
    HasFault (place piece s) e → each_place (pieces_left 44 rest) s ≡ whole → HasFault whole e
place_refused s rest text piece behind whole e is here found so_far =
    subst (λ t. HasFault t e) (opened s rest text piece behind whole is here so_far) (first_decides (place piece s) (λ next. each_place (pieces_left 44 behind) next) e found)
