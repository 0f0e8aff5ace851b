-- Values that are made by different constructors differ, and those of one are equal part by part.
use Rattle.std.proofs.Common.{◌≡◌, ℕ, List, [], ◌∷◌, Some, None}
use Rattle.pg_config.specs.ParameterReading.{Broken, Done, Parameter}

pub cons_not_nil : {c : ℕ} {text : List ℕ} → c ∷ text ≡ [] → ⊥
cons_not_nil e = cc

pub some_same : {a b : List ℕ} → Some a ≡ Some b → a ≡ b
some_same e = cc

pub none_not_some : {a : List ℕ} → None ≡ Some a → ⊥
none_not_some e = cc

pub one_front : {key value rest key' value' rest' : List ℕ} → Parameter key value rest ≡ Parameter key' value' rest' → (key ≡ key') × (value ≡ value') × (rest ≡ rest')
one_front e = (cc, cc, cc)

pub done_differs : (key value rest : List ℕ) → Done ≡ Parameter key value rest → ⊥
done_differs key value rest e = cc

pub broken_differs : (key value rest : List ℕ) → Broken ≡ Parameter key value rest → ⊥
broken_differs key value rest e = cc

pub broken_not_done : Broken ≡ Done → ⊥
broken_not_done e = cc

pub parameter_not_done : (key value rest : List ℕ) → Parameter key value rest ≡ Done → ⊥
parameter_not_done key value rest e = cc
