-- A parameter of a URL that is read is written, and one that is written is read.
use Rattle.std.proofs.Common.{◌≡◌, ◌⊎◌, inl, inr, ℕ, List, [], ◌∷◌, ◌++◌, Option, Some, None, unwrap_or, refl, sym, ap, subst, ◌∙◌}
use Rattle.pg_config.specs.ParameterReading.{Broken, Done, Front, Parameter}
use Rattle.pg_config.specs.UrlReading.{parameter_at}
use Rattle.pg_config.specs.Urls.{IsUrlEnd, IsUrlParameter}
use Rattle.pg_config.specs.Pieces.{IsCut, Lacks, before, behind}
use Rattle.pg_config.proofs.Agreement.{Agrees}
use Rattle.pg_config.proofs.Cuts.{behind_cut, front_of_cut}
use Rattle.pg_config.proofs.Marks.{cut_is, cut_lacks}
use Rattle.pg_config.proofs.Shapes.{broken_differs, broken_not_done, done_differs, one_front, parameter_not_done}

abbrev parameter_by : List ℕ → Option (List ℕ) → Front
parameter_by text o = elim o [ None ↦ Broken | Some value ↦ Parameter (before 61 text) (before 38 value) (unwrap_or (behind 38 value) []) ]

parameter_some : (c : ℕ) (text : List ℕ) → parameter_at (c ∷ text) ≡ parameter_by (c ∷ text) (behind 61 (c ∷ text))
parameter_some c text = refl

parameter_there : (key tail : List ℕ) → parameter_at (key ++ 61 ∷ tail) ≡ parameter_by (key ++ 61 ∷ tail) (behind 61 (key ++ 61 ∷ tail))
parameter_there [] tail = refl
parameter_there (c ∷ key) tail = refl

parameter_read : (key value tail : List ℕ) (o : Option (List ℕ)) → Lacks 61 key → IsCut 38 tail value o → parameter_at (key ++ 61 ∷ tail) ≡ Parameter key value (unwrap_or o [])
parameter_read key value tail o lacks cut =
    let text = key ++ 61 ∷ tail in
    parameter_there key tail
    ∙ sym (ap (parameter_by text) (behind_cut 61 text key (Some tail) (lacks, refl)))
    ∙ sym (λ i. Parameter (front_of_cut 61 text key (Some tail) (lacks, refl) i) (front_of_cut 38 tail value o cut i) (unwrap_or (behind_cut 38 tail value o cut i) []))

finds : (key value rest text : List ℕ) → IsUrlParameter key value rest text → parameter_at text ≡ Parameter key value rest
finds key value rest text is = by_end is.text_is where
  by_end : ((text ≡ key ++ 61 ∷ value) × (rest ≡ [])) ⊎ (text ≡ key ++ 61 ∷ (value ++ 38 ∷ rest)) → parameter_at text ≡ Parameter key value rest
  by_end (inl h) =
      ap parameter_at h.0 ∙ parameter_read key value value None is.key_ends (is.value_ends, refl) ∙ ap (Parameter key value) (sym h.1)
  by_end (inr h) = ap parameter_at h ∙ parameter_read key value (value ++ 38 ∷ rest) (Some rest) is.key_ends (is.value_ends, refl)

value_end : (text name value rest tail : List ℕ) (o : Option (List ℕ)) → text ≡ name ++ 61 ∷ tail → IsCut 38 tail value o → unwrap_or o [] ≡ rest →
    ((text ≡ name ++ 61 ∷ value) × (rest ≡ [])) ⊎ (text ≡ name ++ 61 ∷ (value ++ 38 ∷ rest))
value_end text name value rest tail None is cut same = inl (is ∙ ap (λ t. name ++ 61 ∷ t) cut.1, sym same)
value_end text name value rest tail (Some behind) is cut same =
    inr (is ∙ ap (λ t. name ++ 61 ∷ t) (cut.1 ∙ ap (λ t. value ++ 38 ∷ t) same))

found_by : (text name tail key value rest : List ℕ) → Lacks 61 name → text ≡ name ++ 61 ∷ tail →
    Parameter name (before 38 tail) (unwrap_or (behind 38 tail) []) ≡ Parameter key value rest → IsUrlParameter key value rest text
found_by text name tail key value rest lacks is e =
    let same = one_front e in
    let cut = subst (λ v. IsCut 38 tail v (behind 38 tail)) same.1 (cut_is 38 tail) in
    record {
      key_ends = subst (Lacks 61) same.0 lacks;
      value_ends = cut_lacks 38 tail value (behind 38 tail) cut;
      text_is = subst (λ k. ((text ≡ k ++ 61 ∷ value) × (rest ≡ [])) ⊎ (text ≡ k ++ 61 ∷ (value ++ 38 ∷ rest))) same.0
          (value_end text name value rest tail (behind 38 tail) is cut same.2);
    }

found_at : (text key value rest : List ℕ) (o : Option (List ℕ)) → IsCut 61 text (before 61 text) o → parameter_by text o ≡ Parameter key value rest → IsUrlParameter key value rest text
found_at text key value rest None cut e = absurd (broken_differs key value rest e)
found_at text key value rest (Some tail) cut e = found_by text (before 61 text) tail key value rest cut.0 cut.1 e

found : (key value rest text : List ℕ) → parameter_at text ≡ Parameter key value rest → IsUrlParameter key value rest text
found key value rest [] e = absurd (done_differs key value rest e)
found key value rest (c ∷ text) e = found_at (c ∷ text) key value rest (behind 61 (c ∷ text)) (cut_is 61 (c ∷ text)) e

ends : (text : List ℕ) → IsUrlEnd text → parameter_at text ≡ Done
ends text is = ap parameter_at is

not_done : (text : List ℕ) (o : Option (List ℕ)) → parameter_by text o ≡ Done → ⊥
not_done text None e = broken_not_done e
not_done text (Some value) e = parameter_not_done (before 61 text) (before 38 value) (unwrap_or (behind 38 value) []) e

ended : (text : List ℕ) → parameter_at text ≡ Done → IsUrlEnd text
ended [] e = refl
ended (c ∷ text) e = absurd (not_done (c ∷ text) (behind 61 (c ∷ text)) e)

-- what is read in front is what is written there
pub url_parameters_agree : Agrees parameter_at IsUrlParameter IsUrlEnd
url_parameters_agree = record { finds = finds; found = found; ends = ends; ended = ended }
