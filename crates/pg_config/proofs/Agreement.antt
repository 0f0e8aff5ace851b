-- What is read from the front, parameter by parameter, is what the grammar says.
use Rattle.std.proofs.Common.{◌≡◌, ◌⊎◌, inl, inr, ℕ, List, [], ◌∷◌, Result, Ok, Err, refl, sym, ap, subst, ◌∙◌}
use Rattle.pg_spec.specs.Faults.{◌>>=◌, Cause, Syntax}
use Rattle.pg_config.specs.declared.config.Config.{Config}
use Rattle.pg_config.specs.ParameterReading.{Broken, Done, Front, Parameter, ReadsAs, Says}
use Rattle.pg_config.specs.Parameters.{AreWritten, IsBroken, IsRefused, Means, after_each}
use Rattle.pg_config.proofs.Shapes.{broken_differs, broken_not_done}

-- a way to read what stands in front finds what is written there, and nothing else
pub record Agrees (front : List ℕ → Front) (Stands : (key value rest text : List ℕ) → Type 0) (Ends : List ℕ → Type 0) : Type 0 where
  pub finds : (key value rest text : List ℕ) → Stands key value rest text → front text ≡ Parameter key value rest
  pub found : (key value rest text : List ℕ) → front text ≡ Parameter key value rest → Stands key value rest text
  pub ends : (text : List ℕ) → Ends text → front text ≡ Done
  pub ended : (text : List ℕ) → front text ≡ Done → Ends text

module _ (front : List ℕ → Front) (Stands : (key value rest text : List ℕ) → Type 0) (Ends : List ℕ → Type 0) (meaning : (key value : List ℕ) → Config → Result Config Cause) (agrees : Agrees front Stands Ends) where
  broken_is : (text : List ℕ) → front text ≡ Broken → IsBroken Stands Ends meaning text
  broken_is text e = record {
    no_end = λ h. broken_not_done (sym e ∙ agrees.ends text h);
    no_parameter = λ key value rest h. broken_differs key value rest (sym e ∙ agrees.finds key value rest text h);
  }

  is_broken_at : (text : List ℕ) (f : Front) → front text ≡ f → IsBroken Stands Ends meaning text → f ≡ Broken
  is_broken_at text Done e broken = absurd (broken.no_end (agrees.ended text e))
  is_broken_at text Broken e broken = refl
  is_broken_at text (Parameter key value rest) e broken = absurd (broken.no_parameter key value rest (agrees.found key value rest text e))

  is_broken : (text : List ℕ) → IsBroken Stands Ends meaning text → front text ≡ Broken
  is_broken text broken = is_broken_at text (front text) refl broken

  -- ---- what is read is in the grammar

  -- a parameter more in front
  one_before : (text behind : List ℕ) (start next : Config) (key value : List ℕ) (said : Result Config Cause) → Stands key value behind text → meaning key value start ≡ Ok next →
      Means Stands Ends meaning behind next said → Means Stands Ends meaning text start said
  one_before text behind start next key value (Ok s) stands means h = record {
    parameters = (key, value) ∷ h.parameters;
    end = h.end;
    written = (behind, stands, h.written);
    ends = h.ends;
    means = ap (λ r. r >>= after_each Stands Ends meaning h.parameters) means ∙ h.means;
  }
  one_before text behind start next key value (Err cause) stands means h = record {
    parameters = (key, value) ∷ h.parameters;
    rest = h.rest;
    so_far = h.so_far;
    written = (behind, stands, h.written);
    means = ap (λ r. r >>= after_each Stands Ends meaning h.parameters) means ∙ h.means;
    fault = h.fault;
  }

  end_means : (text : List ℕ) (s : Config) → Ends text → Means Stands Ends meaning text s (Ok s)
  end_means text s ends = record { parameters = []; end = text; written = refl; ends = ends; means = refl }

  fault_means : (text : List ℕ) (s : Config) (cause : Cause) → (IsBroken Stands Ends meaning text × (cause ≡ Syntax)) ⊎ IsRefused Stands Ends meaning text s cause →
      Means Stands Ends meaning text s (Err cause)
  fault_means text s cause fault = record { parameters = []; rest = text; so_far = s; written = refl; means = refl; fault = fault }

  abbrev goes_on : (rest : List ℕ) (parameters : List (List ℕ × List ℕ)) (said : Result Config Cause) → Result Config Cause → Type 0
  goes_on rest parameters said meant = elim meant [ Err fault ↦ said ≡ Err fault | Ok next ↦ ReadsAs front meaning rest next parameters said ]

  first_written : (text rest : List ℕ) (s : Config) (key value : List ℕ) (parameters : List (List ℕ × List ℕ)) (said meant : Result Config Cause) → Stands key value rest text →
      ((next : Config) → ReadsAs front meaning rest next parameters said → Means Stands Ends meaning rest next said) →
      meaning key value s ≡ meant → goes_on rest parameters said meant → Means Stands Ends meaning text s said
  first_written text rest s key value parameters said (Ok next) stands later means h = one_before text rest s next key value said stands means (later next h)
  first_written text rest s key value parameters said (Err cause) stands later means h =
      subst (Means Stands Ends meaning text s) (sym h)
      (fault_means text s cause (inr (record { key = key; value = value; rest = rest; stands = stands; refused = means })))

  all_written : (parameters : List (List ℕ × List ℕ)) (text : List ℕ) (s : Config) (said : Result Config Cause) → ReadsAs front meaning text s parameters said → Means Stands Ends meaning text s said
  all_written [] text s said (inl h) = subst (Means Stands Ends meaning text s) (sym h.1) (end_means text s (agrees.ended text h.0))
  all_written [] text s said (inr h) = subst (Means Stands Ends meaning text s) (sym h.1) (fault_means text s Syntax (inl (broken_is text h.0, refl)))
  all_written (p ∷ parameters) text s said (rest, here, later) =
      first_written text rest s p.0 p.1 parameters said (meaning p.0 p.1 s) (agrees.found p.0 p.1 rest text here) (λ next h. all_written parameters rest next said h) refl later

  pub written : (text : List ℕ) (s : Config) (said : Result Config Cause) → Says front meaning text s said → Means Stands Ends meaning text s said
  written text s said h = all_written h.0 text s said h.1

  -- ---- what is in the grammar is read

  one_read : (text rest : List ℕ) (s next : Config) (key value : List ℕ) (said : Result Config Cause) → Stands key value rest text → meaning key value s ≡ Ok next →
      Says front meaning rest next said → Says front meaning text s said
  one_read text rest s next key value said stands means h =
      ((key, value) ∷ h.0, (rest, agrees.finds key value rest text stands, subst (goes_on rest h.0 said) (sym means) h.1))

  err_not_ok : {A : Type 0} {c : Cause} {a : A} → Err c ≡ Ok a → ⊥
  err_not_ok e = cc

  first_read : (text behind : List ℕ) (start s : Config) (key value : List ℕ) (parameters : List (List ℕ × List ℕ)) (said meant : Result Config Cause) → Stands key value behind text →
      ((next : Config) → after_each Stands Ends meaning parameters next ≡ Ok s → Says front meaning behind next said) →
      meaning key value start ≡ meant → (meaning key value start >>= after_each Stands Ends meaning parameters) ≡ Ok s → Says front meaning text start said
  first_read text behind start s key value parameters said (Ok next) stands later means all =
      one_read text behind start next key value said stands means (later next (sym (ap (λ r. r >>= after_each Stands Ends meaning parameters) means) ∙ all))
  first_read text behind start s key value parameters said (Err cause) stands later means all =
      absurd (err_not_ok (sym (ap (λ r. r >>= after_each Stands Ends meaning parameters) means) ∙ all))

  all_read : (parameters : List (List ℕ × List ℕ)) (rest text : List ℕ) (start s : Config) (said : Result Config Cause) → AreWritten Stands Ends meaning parameters rest text →
      after_each Stands Ends meaning parameters start ≡ Ok s → Says front meaning rest s said → Says front meaning text start said
  all_read [] rest text start s said is means h =
      let same : start ≡ s = cc in subst (λ t. Says front meaning t start said) (sym is) (subst (λ c. Says front meaning rest c said) (sym same) h)
  all_read (p ∷ parameters) rest text start s said (behind, stands, more) means h =
      first_read text behind start s p.0 p.1 parameters said (meaning p.0 p.1 start) stands (λ next all. all_read parameters rest behind next s said more all h) refl means

  fault_read : (rest : List ℕ) (s : Config) (cause : Cause) → (IsBroken Stands Ends meaning rest × (cause ≡ Syntax)) ⊎ IsRefused Stands Ends meaning rest s cause → Says front meaning rest s (Err cause)
  fault_read rest s cause (inl h) = ([], inr (is_broken rest h.0, ap (λ c. Err c) h.1))
  fault_read rest s cause (inr h) =
      ((h.key, h.value) ∷ [], (h.rest, agrees.finds h.key h.value h.rest rest h.stands, subst (goes_on h.rest [] (Err cause)) (sym h.refused) refl))

  pub read : (text : List ℕ) (s : Config) (said : Result Config Cause) → Means Stands Ends meaning text s said → Says front meaning text s said
  read text start (Ok s) h = all_read h.parameters h.end text start s (Ok s) h.written h.means ([], inl (agrees.ends h.end h.ends, refl))
  read text start (Err cause) h = all_read h.parameters h.rest text start h.so_far (Err cause) h.written h.means (fault_read h.rest h.so_far cause h.fault)
