-- A text says one thing: parameters are read one after another.
use Rattle.std.proofs.Common.{◌≡◌, inl, inr, ℕ, List, [], ◌∷◌, Result, Ok, Err, sym, ap, subst, ◌∙◌}
use Rattle.pg_spec.specs.Faults.{Cause, Syntax}
use Rattle.pg_types.specs.declared.error.Error.{Error}
use Rattle.pg_config.specs.declared.config.Config.{Config}
use Rattle.pg_config.specs.Outcomes.{HasFault}
use Rattle.pg_config.specs.ParameterReading.{Broken, Done, Front, Parameter, ReadsAs, Says}
use Rattle.pg_config.proofs.Trying.{handed_on}

module _ (front : List ℕ → Front) (meaning : (key value : List ℕ) → Config → Result Config Cause) where
  -- what is said of the whole is what is said of the rest
  pub record IsReadTo (text : List ℕ) (start : Config) (rest : List ℕ) (s : Config) : Type 0 where
    pub there : (said : Result Config Cause) → Says front meaning rest s said → Says front meaning text start said
    pub back : (said : Result Config Cause) → Says front meaning text start said → Says front meaning rest s said

  pub read_nothing : (text : List ℕ) (start : Config) → IsReadTo text start text start
  read_nothing text start = record { there = λ said h. h; back = λ said h. h }

  -- what follows where the meaning of the first parameter is known
  abbrev goes_on : (rest : List ℕ) (parameters : List (List ℕ × List ℕ)) (said : Result Config Cause) → Result Config Cause → Type 0
  goes_on rest parameters said meant = elim meant [ Err fault ↦ said ≡ Err fault | Ok next ↦ ReadsAs front meaning rest next parameters said ]

  one_front : {key value rest key' value' rest' : List ℕ} → Parameter key value rest ≡ Parameter key' value' rest' → (key ≡ key') × (value ≡ value') × (rest ≡ rest')
  one_front e = (cc, cc, cc)

  pub first_read : (rest : List ℕ) (s next : Config) (key value behind : List ℕ) (said : Result Config Cause) → front rest ≡ Parameter key value behind → meaning key value s ≡ Ok next →
      (parameters : List (List ℕ × List ℕ)) → ReadsAs front meaning rest s parameters said → Says front meaning behind next said
  first_read rest s next key value behind said stands means [] (inl done) = absurd (differ (sym done.0 ∙ stands)) where
    differ : Done ≡ Parameter key value behind → ⊥
    differ e = cc
  first_read rest s next key value behind said stands means [] (inr broken) = absurd (differ (sym broken.0 ∙ stands)) where
    differ : Broken ≡ Parameter key value behind → ⊥
    differ e = cc
  first_read rest s next key value behind said stands means (p ∷ parameters) (rest', here, later) =
      let same = one_front (sym here ∙ stands) in (
        parameters,
        subst (λ r. ReadsAs front meaning r next parameters said) same.2
            (subst (goes_on rest' parameters said) (ap (λ k. meaning k p.1 s) same.0 ∙ ap (λ v. meaning key v s) same.1 ∙ means) later),
      )

  -- a parameter was read
  pub read_more : (text rest behind : List ℕ) (start s next : Config) (key value : List ℕ) → front rest ≡ Parameter key value behind → meaning key value s ≡ Ok next →
      IsReadTo text start rest s → IsReadTo text start behind next
  read_more text rest behind start s next key value stands means so_far = record {
    there = λ said h. so_far.there said ((key, value) ∷ h.0, (behind, stands, subst (goes_on behind h.0 said) (sym means) h.1));
    back = λ said h. let before = so_far.back said h in first_read rest s next key value behind said stands means before.0 before.1;
  }

  -- nothing more stands there
  pub only_done : (rest : List ℕ) (s : Config) (said : Result Config Cause) → front rest ≡ Done → Says front meaning rest s said → said ≡ Ok s
  only_done rest s said done ([], inl h) = h.1
  only_done rest s said done ([], inr h) = absurd (differ (sym h.0 ∙ done)) where
    differ : Broken ≡ Done → ⊥
    differ e = cc
  only_done rest s said done (p ∷ parameters, (rest', here, later)) = absurd (differ (sym here ∙ done)) where
    differ : Parameter p.0 p.1 rest' ≡ Done → ⊥
    differ e = cc

  pub only_broken : (rest : List ℕ) (s : Config) (said : Result Config Cause) → front rest ≡ Broken → Says front meaning rest s said → said ≡ Err Syntax
  only_broken rest s said broken ([], inr h) = h.1
  only_broken rest s said broken ([], inl h) = absurd (differ (sym h.0 ∙ broken)) where
    differ : Done ≡ Broken → ⊥
    differ e = cc
  only_broken rest s said broken (p ∷ parameters, (rest', here, later)) = absurd (differ (sym here ∙ broken)) where
    differ : Parameter p.0 p.1 rest' ≡ Broken → ⊥
    differ e = cc

  pub only_fault : (rest : List ℕ) (s : Config) (said : Result Config Cause) (key value behind : List ℕ) (fault : Cause) → front rest ≡ Parameter key value behind →
      meaning key value s ≡ Err fault → Says front meaning rest s said → said ≡ Err fault
  only_fault rest s said key value behind fault stands means ([], inl h) = absurd (differ (sym h.0 ∙ stands)) where
    differ : Done ≡ Parameter key value behind → ⊥
    differ e = cc
  only_fault rest s said key value behind fault stands means ([], inr h) = absurd (differ (sym h.0 ∙ stands)) where
    differ : Broken ≡ Parameter key value behind → ⊥
    differ e = cc
  only_fault rest s said key value behind fault stands means (p ∷ parameters, (rest', here, later)) =
      let same = one_front (sym here ∙ stands) in
      subst (goes_on rest' parameters said) (ap (λ k. meaning k p.1 s) same.0 ∙ ap (λ v. meaning key v s) same.1 ∙ means) later

  pub done_only : (text rest : List ℕ) (start s : Config) → IsReadTo text start rest s → Done ≡ front rest → (said : Result Config Cause) → Says front meaning text start said → said ≡ Ok s
  done_only text rest start s so_far done said h = only_done rest s said (sym done) (so_far.back said h)

  pub broken_only : (text rest : List ℕ) (start s : Config) → IsReadTo text start rest s → Broken ≡ front rest → (said : Result Config Cause) → Says front meaning text start said → said ≡ Err Syntax
  broken_only text rest start s so_far broken said h = only_broken rest s said (sym broken) (so_far.back said h)

  -- a fault in a parameter
  pub fault_only : (text rest behind : List ℕ) (start s : Config) (key value : List ℕ) (e : Error) → front rest ≡ Parameter key value behind → HasFault (meaning key value s) e →
      IsReadTo text start rest s → (said : Result Config Cause) → Says front meaning text start said → HasFault said e
  fault_only text rest behind start s key value e stands means so_far said h =
      handed_on (meaning key value s) said e (λ c is. only_fault rest s said key value behind c stands is (so_far.back said h)) means

-- the same parameter, its texts named otherwise
pub renamed : (front : List ℕ → Front) (rest key key' value value' behind : List ℕ) → Parameter key value behind ≡ front rest → key' ≡ key → value' ≡ value → front rest ≡ Parameter key' value' behind
renamed front rest key key' value value' behind stands k v = sym stands ∙ sym (λ i. Parameter (k i) (v i) behind)
