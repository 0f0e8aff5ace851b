-- Attempts are made place by place.
use Rattle.std.proofs.Common.{◌≡◌, ◌<◌, ◌+◌, ℕ, List, [], ◌∷◌, ◌++◌, length, get_or, take, Option, Some, None, refl, sym, ap, ◌∙◌, add-one}
use Rattle.std.specs.List.{cons_option, filter_map}
use Rattle.std.specs.Option.{option_to_list}
use Rattle.std.proofs.lemmas.List.{take_more}
use Rattle.pg_config.specs.Attempts.{places_below}

pub one_place_more : (place : ℕ) (places longer : List ℕ) → places ≡ places_below place → longer ≡ places ++ place ∷ [] → longer ≡ places_below (place + 1)
one_place_more place places longer so_far more = more ∙ ap (λ t. t ++ place ∷ []) so_far ∙ sym (ap places_below (add-one place))

put_last : {A : Type 0} (o : Option A) (xs ys : List A) → cons_option o (xs ++ ys) ≡ cons_option o xs ++ ys
put_last None xs ys = refl
put_last (Some x) xs ys = refl

alone : {A : Type 0} (o : Option A) → cons_option o [] ≡ option_to_list o
alone None = refl
alone (Some x) = refl

one_more : {A : Type 0} (f : ℕ → Option A) (places : List ℕ) (place : ℕ) → filter_map f (places ++ place ∷ []) ≡ filter_map f places ++ option_to_list (f place)
one_more f [] place = alone (f place)
one_more f (p ∷ places) place = ap (cons_option (f p)) (one_more f places place) ∙ put_last (f p) (filter_map f places) (option_to_list (f place))

-- the attempt at one place more
pub attempts_more : {A : Type 0} (f : ℕ → Option A) (places : List ℕ) (at : ℕ) (attempts longer : List A) (attempt : Option A) → at < length places → attempt ≡ f (get_or places at 0) →
    longer ≡ attempts ++ option_to_list attempt → attempts ≡ filter_map f (take at places) → longer ≡ filter_map f (take (at + 1) places)
attempts_more f places at attempts longer attempt fits is more so_far =
    more ∙ ap (λ o. attempts ++ option_to_list o) is ∙ ap (λ t. t ++ option_to_list (f (get_or places at 0))) so_far
    ∙ sym (one_more f (take at places) (get_or places at 0)) ∙ sym (ap (filter_map f) (take_more places at 0 fits))
