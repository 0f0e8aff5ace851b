-- Each text is a URL: it has a login or none, places, a database or none, and parameters or none.
use Rattle.std.proofs.Common.{◌≡◌, ◌==◌, ◌||◌, ◌<◌, not, ℕ, Bool, true, false, List, [], ◌∷◌, ◌++◌, length, Option, Some, None, refl, sym, ap, subst, ◌∙◌, eqb-true, arith}
use Rattle.std.specs.List.{AllByRecursion}
use Rattle.std.proofs.lemmas.Bool.{eqb-false}
use Rattle.pg_config.specs.KeyValueReading.{behind_while, front_while}
use Rattle.pg_config.specs.UrlReading.{is_of_hosts}
use Rattle.pg_config.specs.Urls.{ArePlaces, Bracketed, HasLogin, HasText, IsDatabase, IsPlace, IsUrl, Login, Named, Place, Unclosed, Url, marked, place_text, places_text, url_text}
use Rattle.pg_config.specs.Numbers.{begins_with}
use Rattle.pg_config.specs.Pieces.{IsCut, Lacks, before, behind}
use Rattle.pg_config.proofs.Cuts.{behind_cut}
use Rattle.pg_config.proofs.Spelling.{AllAre, Stops, by_cases, run_all, run_split, run_stops}
use Rattle.pg_config.proofs.Marks.{cut_is, cut_marked, cut_lacks, lacks_not_in}
use Rattle.pg_config.proofs.Shapes.{cons_not_nil, some_same}
use Rattle.pg_config.proofs.UrlSpelling.{tail_text, whole}

record IsLoginOf (text : List ℕ) : Type 0 where
  login : Option Login
  rest : List ℕ
  has : HasLogin login rest
  text_is : text ≡ whole login rest

login_by_cut : (text front : List ℕ) (o : Option (List ℕ)) → IsCut 64 text front o → IsLoginOf text
login_by_cut text front None is = record { login = None; rest = text; has = subst (Lacks 64) (sym is.1) is.0; text_is = refl }
login_by_cut text front (Some rest) is =
    let user = before 58 front in
    let password = behind 58 front in
    let cut = cut_is 58 front in
    let front_is = cut_marked 58 front user password cut in
    record {
      login = Some (record { user = user; password = password });
      rest = rest;
      has = record { user = cut_lacks 58 front user password cut; whole = subst (Lacks 64) front_is is.0 };
      text_is = is.1 ∙ ap (λ t. t ++ 64 ∷ rest) front_is;
    }

record IsPlaceOf (piece : List ℕ) : Type 0 where
  place : Place
  is_place : IsPlace place
  text_is : place_text place ≡ piece

unclosed_lacks : (text : List ℕ) → Lacks 93 text → IsPlace (Unclosed text)
unclosed_lacks text lacks host port h e = lacks_not_in 93 host (marked 58 port) (subst (Lacks 93) e lacks)

not_marked : (c : ℕ) (rest : List ℕ) (port : Option (List ℕ)) → (c ≡ 58 → ⊥) → c ∷ rest ≡ marked 58 port → ⊥
not_marked c rest None other e = cons_not_nil e
not_marked c rest (Some port) other e = other cc

bracket_found : (text front : List ℕ) (o : Option (List ℕ)) → IsCut 93 text front o → IsPlaceOf (91 ∷ text)
bracket_found text front None is = record { place = Unclosed text; is_place = unclosed_lacks text (subst (Lacks 93) (sym is.1) is.0); text_is = refl }
bracket_found text front (Some []) is = record { place = Bracketed front None; is_place = is.0; text_is = ap (λ t. 91 ∷ t) (sym is.1) }
bracket_found text front (Some (c ∷ rest)) is = by_cases (c == 58)
    (λ hit. record {
      place = Bracketed front (Some rest);
      is_place = is.0;
      text_is = ap (λ t. 91 ∷ t) (ap (λ t. front ++ 93 ∷ t ∷ rest) (sym (eqb-true c 58 hit)) ∙ sym is.1);
    })
    (λ miss. record {
      place = Unclosed text;
      is_place = λ host port lacks e. not_marked c rest port (eqb-false c 58 miss)
          (some_same (behind_cut 93 text front (Some (c ∷ rest)) is ∙ sym (behind_cut 93 text host (Some (marked 58 port)) (lacks, e))));
      text_is = refl;
    })

named_found : (piece : List ℕ) → begins_with 91 piece ≡ false → IsPlaceOf piece
named_found piece other =
    let cut = cut_is 58 piece in
    let is = cut_marked 58 piece (before 58 piece) (behind 58 piece) cut in
    record {
      place = Named (before 58 piece) (behind 58 piece);
      is_place = (cut_lacks 58 piece (before 58 piece) (behind 58 piece) cut, ap (begins_with 91) (sym is) ∙ other);
      text_is = sym is;
    }

place_found : (piece : List ℕ) → IsPlaceOf piece
place_found [] = named_found [] refl
place_found (c ∷ text) = by_cases (c == 91)
    (λ hit. subst (λ b. IsPlaceOf (b ∷ text)) (sym (eqb-true c 91 hit)) (bracket_found text (before 93 text) (behind 93 text) (cut_is 93 text)))
    (λ miss. named_found (c ∷ text) miss)

-- pieces with commas between them
abbrev with_commas : List ℕ → List (List ℕ) → List ℕ
with_commas x [] = x
with_commas x (y ∷ more) = x ++ 44 ∷ with_commas y more

record IsPiecesOf (text : List ℕ) : Type 0 where
  first : List ℕ
  more : List (List ℕ)
  lacks : AllByRecursion (Lacks 44) (first ∷ more)
  text_is : text ≡ with_commas first more

comma_more : (c : ℕ) (x : List ℕ) (more : List (List ℕ)) → c ∷ with_commas x more ≡ with_commas (c ∷ x) more
comma_more c x [] = refl
comma_more c x (y ∷ more) = refl

pieces_found : (text : List ℕ) → IsPiecesOf text
pieces_found [] = record { first = []; more = []; lacks = (tt, tt); text_is = refl }
pieces_found (c ∷ text) = found_more (pieces_found text) where
  found_more : IsPiecesOf text → IsPiecesOf (c ∷ text)
  found_more r = by_cases (c == 44)
      (λ hit. record { first = []; more = r.first ∷ r.more; lacks = (tt, r.lacks); text_is = λ i. eqb-true c 44 hit i ∷ r.text_is i })
      (λ miss. record {
        first = c ∷ r.first;
        more = r.more;
        lacks = ((eqb-false c 44 miss, r.lacks.0), r.lacks.1);
        text_is = ap (λ t. c ∷ t) r.text_is ∙ comma_more c r.first r.more;
      })

record ArePlacesOf (text : List ℕ) : Type 0 where
  first : Place
  more : List Place
  are : ArePlaces (first ∷ more)
  text_is : places_text (first ∷ more) ≡ text

places_found : (x : List ℕ) (more : List (List ℕ)) → AllByRecursion (Lacks 44) (x ∷ more) → ArePlacesOf (with_commas x more)
places_found x [] lacks =
    let p = place_found x in
    record { first = p.place; more = []; are = (p.is_place, subst (Lacks 44) (sym p.text_is) lacks.0, tt); text_is = p.text_is }
places_found x (y ∷ more) lacks = found_more (places_found y more lacks.1) where
  found_more : ArePlacesOf (with_commas y more) → ArePlacesOf (with_commas x (y ∷ more))
  found_more r =
      let p = place_found x in
      record {
        first = p.place;
        more = r.first ∷ r.more;
        are = (p.is_place, subst (Lacks 44) (sym p.text_is) lacks.0, r.are);
        text_is = λ i. p.text_is i ++ 44 ∷ r.text_is i;
      }

record IsHostsOf (text : List ℕ) : Type 0 where
  places : List Place
  are : ArePlaces places
  has_text : HasText places
  text_is : places_text places ≡ text

hosts_found : (text : List ℕ) → IsHostsOf text
hosts_found [] = record { places = []; are = tt; has_text = tt; text_is = refl }
hosts_found (c ∷ text) =
    let r = pieces_found (c ∷ text) in
    let p = places_found r.first r.more r.lacks in
    let is : places_text (p.first ∷ p.more) ≡ c ∷ text = p.text_is ∙ sym r.text_is in
    let long : 0 < length (c ∷ text) = omega arith in
    record { places = p.first ∷ p.more; are = p.are; has_text = subst (λ t. 0 < length t) (sym is) long; text_is = is }

record IsTailOf (text : List ℕ) : Type 0 where
  database : Option (List ℕ)
  parameters : Option (List ℕ)
  is_database : IsDatabase database
  text_is : text ≡ tail_text database parameters

second_of_two : (a b : Bool) → a ≡ false → not (a || b) ≡ false → b ≡ true
second_of_two true b e f = absurd cc
second_of_two false true e f = refl
second_of_two false false e f = absurd cc

tail_found : (text : List ℕ) → Stops is_of_hosts text → IsTailOf text
tail_found [] stops = record { database = None; parameters = None; is_database = tt; text_is = refl }
tail_found (c ∷ text) stops = by_cases (c == 47)
    (λ hit.
    let cut = cut_is 63 text in
    record {
      database = Some (before 63 text);
      parameters = behind 63 text;
      is_database = cut_lacks 63 text (before 63 text) (behind 63 text) cut;
      text_is = λ i. eqb-true c 47 hit i ∷ cut_marked 63 text (before 63 text) (behind 63 text) cut i;
    })
    (λ miss. record {
      database = None;
      parameters = Some text;
      is_database = tt;
      text_is = ap (λ t. t ∷ text) (eqb-true c 63 (second_of_two (c == 47) (c == 63) miss stops));
    })

true_not_false : true ≡ false → ⊥
true_not_false e = cc

lacks_of_all : (mark : ℕ) (text : List ℕ) → is_of_hosts mark ≡ false → AllAre is_of_hosts text → Lacks mark text
lacks_of_all mark [] ends all = tt
lacks_of_all mark (c ∷ text) ends all =
    ((λ e. true_not_false (sym all.0 ∙ ap is_of_hosts e ∙ ends)), lacks_of_all mark text ends all.1)

pub record IsUrlOf (text : List ℕ) : Type 0 where
  pub url : Url
  pub is_url : IsUrl url
  pub text_is : text ≡ url_text url

pub url_found : (text : List ℕ) → IsUrlOf text
url_found text =
    let l = login_by_cut text (before 64 text) (behind 64 text) (cut_is 64 text) in
    let run = front_while is_of_hosts l.rest in
    let h = hosts_found run in
    let t = tail_found (behind_while is_of_hosts l.rest) (run_stops is_of_hosts l.rest) in
    let all = run_all is_of_hosts l.rest in
    let rest_is : l.rest ≡ places_text h.places ++ tail_text t.database t.parameters = run_split is_of_hosts l.rest ∙ (λ i. sym h.text_is i ++ t.text_is i) in
    record {
      url = record { login = l.login; places = h.places; database = t.database; parameters = t.parameters };
      is_url = record {
        login = subst (HasLogin l.login) rest_is l.has;
        places = h.are;
        has_text = h.has_text;
        no_slash = subst (Lacks 47) (sym h.text_is) (lacks_of_all 47 run refl all);
        no_question = subst (Lacks 63) (sym h.text_is) (lacks_of_all 63 run refl all);
        database = t.is_database;
      };
      text_is = l.text_is ∙ ap (whole l.login) rest_is;
    }
