-- A URL that is written is read as what it says.
use Rattle.std.proofs.Common.{◌≡◌, ◌==◌, ◌||◌, ◌<◌, not, ℕ, Bool, true, false, cond, List, [], ◌∷◌, ◌++◌, length, drop, map, Option, Some, None, unwrap_or, Result, Ok, Err, codes, refl, sym, ap, ◌∙◌, eqb-true, ne_eqb, arith}
use Rattle.std.proofs.Math.Dec.{eqb-suc-zero}
use Rattle.percent_encoding.specs.Percent.{percent_decode}
use Rattle.pg_spec.specs.Faults.{◌>>=◌, Cause, InvalidValue}
use Rattle.pg_config.specs.declared.config.Config.{Config}
use Rattle.pg_config.specs.KeyValueReading.{behind_while}
use Rattle.pg_config.specs.UrlReading.{after_login, bracketed, database, each_place, is_of_hosts, login, named_user, opening, place, places, places_and_database, query}
use Rattle.pg_config.specs.Urls.{ArePlaces, Bracketed, HasLogin, HasText, IsDatabase, IsLogin, IsPlace, IsUrl, Login, Named, Place, Unclosed, Url, database_name, database_says, in_text, login_says, login_text, marked, maybe_login_says, opening_says, place_says, place_text, placed, places_say, places_text, rest_text, url_text}
use Rattle.pg_config.specs.Pieces.{IsCut, Lacks, before, behind, pieces}
use Rattle.pg_config.proofs.Cuts.{behind_cut, front_of_cut, pieces_cut}
use Rattle.pg_config.proofs.Spelling.{AllAre, Stops, behind_run, by_cases, front_run}
use Rattle.pg_config.proofs.Marks.{cut_is, marked_cut}

bind_same : {A B : Type 0} (r : Result A Cause) (f g : A → Result B Cause) → ((a : A) → f a ≡ g a) → (r >>= f) ≡ (r >>= g)
bind_same (Ok a) f g same = same a
bind_same (Err e) f g same = refl

-- ---- the login that is written is read

abbrev pub whole : Option Login → List ℕ → List ℕ
whole o rest = elim o [ None ↦ rest | Some l ↦ login_text l ++ 64 ∷ rest ]

abbrev login_by : List ℕ → Config → Option (List ℕ) → Result Config Cause
login_by text s o = elim o [ None ↦ Ok s | Some rest ↦ named_user (before 64 text) s ]

abbrev named_by : (user : List ℕ) (password : Option (List ℕ)) → Config → Result Config Cause
named_by user password s = in_text user (λ user. Ok (record s {
  user = Some user;
  password = elim password [ None ↦ s.password | Some password ↦ Some (percent_decode password) ];
}))

lacking_cut : (mark : ℕ) (text : List ℕ) → Lacks mark text → None ≡ behind mark text
lacking_cut mark text lacks = behind_cut mark text text None (lacks, refl)

named_read : (l : Login) → IsLogin l → (s : Config) → named_user (login_text l) s ≡ login_says l s
named_read l is s =
    let cut = marked_cut 58 l.user l.password is.user in
    sym (λ i. named_by (front_of_cut 58 (login_text l) l.user l.password cut i) (behind_cut 58 (login_text l) l.user l.password cut i) s)

login_read : (o : Option Login) (rest : List ℕ) → HasLogin o rest → (s : Config) → login (whole o rest) s ≡ maybe_login_says o s
login_read None rest has s = sym (ap (login_by rest s) (lacking_cut 64 rest has))
login_read (Some l) rest has s =
    sym (ap (login_by (whole (Some l) rest) s) (behind_cut 64 (whole (Some l) rest) (login_text l) (Some rest) (has.whole, refl)))
    ∙ sym (ap (λ t. named_user t s) (front_of_cut 64 (whole (Some l) rest) (login_text l) (Some rest) (has.whole, refl)))
    ∙ named_read l has s

after_read : (o : Option Login) (rest : List ℕ) → HasLogin o rest → after_login (whole o rest) ≡ rest
after_read None rest has = sym (ap (λ t. unwrap_or t rest) (lacking_cut 64 rest has))
after_read (Some l) rest has =
    sym (ap (λ t. unwrap_or t (whole (Some l) rest)) (behind_cut 64 (whole (Some l) rest) (login_text l) (Some rest) (has.whole, refl)))

-- ---- the places that are written are read

abbrev bracket_rest : (host : List ℕ) → Config → List ℕ → Result Config Cause
bracket_rest host s rest = elim rest [
  | [] ↦ placed host (codes "5432") s
  | c ∷ port ↦ cond (c == 58) (placed host port s) (Err (InvalidValue (codes "host")))
]

abbrev bracket_by : (host : List ℕ) → Config → Option (List ℕ) → Result Config Cause
bracket_by host s o = elim o [ None ↦ Err (InvalidValue (codes "host")) | Some rest ↦ bracket_rest host s rest ]

port_read : (host : List ℕ) (s : Config) (port : Option (List ℕ)) → bracket_rest host s (marked 58 port) ≡ placed host (unwrap_or port (codes "5432")) s
port_read host s None = refl
port_read host s (Some port) = refl

bracket_read : (host : List ℕ) (port : Option (List ℕ)) (s : Config) → Lacks 93 host → bracketed (host ++ 93 ∷ marked 58 port) s ≡ placed host (unwrap_or port (codes "5432")) s
bracket_read host port s lacks =
    let text = host ++ 93 ∷ marked 58 port in
    sym (λ i. bracket_by (front_of_cut 93 text host (Some (marked 58 port)) (lacks, refl) i) s (behind_cut 93 text host (Some (marked 58 port)) (lacks, refl) i))
    ∙ port_read host s port

unclosed_by : (text host : List ℕ) (s : Config) (o : Option (List ℕ)) → IsPlace (Unclosed text) → IsCut 93 text host o → bracket_by host s o ≡ Err (InvalidValue (codes "host"))
unclosed_by text host s None is cut = refl
unclosed_by text host s (Some []) is cut = absurd (is host None cut.0 cut.1)
unclosed_by text host s (Some (c ∷ port)) is cut = by_cases (c == 58)
    (λ hit. absurd (is host (Some port) cut.0 (cut.1 ∙ ap (λ t. host ++ 93 ∷ t ∷ port) (eqb-true c 58 hit))))
    (λ miss. ap (λ t. cond t (placed host port s) (Err (InvalidValue (codes "host")))) miss)

abbrev place_by : List ℕ → Config → Bool → Result Config Cause
place_by piece s b = cond b (bracketed (drop 1 piece) s) (placed (before 58 piece) (unwrap_or (behind 58 piece) (codes "5432")) s)

place_read : (p : Place) → IsPlace p → (s : Config) → place (place_text p) s ≡ place_says p s
place_read (Named host port) is s =
    let cut = marked_cut 58 host port is.0 in
    let text = host ++ marked 58 port in
    ap (place_by text s) is.1
    ∙ sym (λ i. placed (front_of_cut 58 text host port cut i) (unwrap_or (behind_cut 58 text host port cut i) (codes "5432")) s)
place_read (Bracketed host port) is s = bracket_read host port s is
place_read (Unclosed text) is s = unclosed_by text (before 93 text) s (behind 93 text) is (cut_is 93 text)

pieces_read : (p : Place) (ps : List Place) → ArePlaces (p ∷ ps) → pieces 44 (places_text (p ∷ ps)) ≡ map place_text (p ∷ ps)
pieces_read p [] are = pieces_cut 44 (place_text p) (place_text p) None (are.1, refl)
pieces_read p (q ∷ ps) are =
    pieces_cut 44 (places_text (p ∷ q ∷ ps)) (place_text p) (Some (places_text (q ∷ ps))) (are.1, refl)
    ∙ ap (λ t. place_text p ∷ t) (pieces_read q ps are.2)

each_read : (ps : List Place) → ArePlaces ps → (s : Config) → each_place (map place_text ps) s ≡ places_say ps s
each_read [] are s = refl
each_read (p ∷ ps) are s =
    ap (λ r. r >>= each_place (map place_text ps)) (place_read p are.0 s)
    ∙ bind_same (place_says p s) (each_place (map place_text ps)) (places_say ps) (each_read ps are.2)

no_length : (text : List ℕ) → 0 < length text → (length text == 0) ≡ false
no_length [] some = absurd (omega arith)
no_length (c ∷ text) some = eqb-suc-zero (length text)

places_read : (ps : List Place) → ArePlaces ps → HasText ps → (s : Config) → places (places_text ps) s ≡ places_say ps s
places_read [] are has s = refl
places_read (p ∷ ps) are has s =
    let text = places_text (p ∷ ps) in
    ap (λ t. cond t (Ok s) (each_place (pieces 44 text) s)) (no_length text has)
    ∙ ap (λ t. each_place t s) (pieces_read p ps are)
    ∙ each_read (p ∷ ps) are s

-- ---- the database and the parameters that are written are read

abbrev pub tail_text : Option (List ℕ) → Option (List ℕ) → List ℕ
tail_text name parameters = marked 47 name ++ marked 63 parameters

database_read : (name parameters : Option (List ℕ)) → IsDatabase name → (s : Config) → database (tail_text name parameters) s ≡ database_says name s
database_read None None is s = refl
database_read None (Some parameters) is s = refl
database_read (Some name) parameters is s =
    sym (ap (λ t. database_name t s) (front_of_cut 63 (name ++ marked 63 parameters) name parameters (marked_cut 63 name parameters is)))

no_question_in : (name : Option (List ℕ)) → IsDatabase name → Lacks 63 (marked 47 name)
no_question_in None is = tt
no_question_in (Some name) is = ((λ e. differ e), is) where
  differ : ◌≡◌ {A = ℕ} 47 63 → ⊥
  differ e = omega arith

tail_stops : (name parameters : Option (List ℕ)) → Stops is_of_hosts (tail_text name parameters)
tail_stops None None = tt
tail_stops None (Some parameters) = refl
tail_stops (Some name) parameters = refl

neither : (a b : Bool) → a ≡ false → b ≡ false → not (a || b) ≡ true
neither true b e f = absurd cc
neither false true e f = absurd cc
neither false false e f = refl

all_of_hosts : (text : List ℕ) → Lacks 47 text → Lacks 63 text → AllAre is_of_hosts text
all_of_hosts [] slash question = tt
all_of_hosts (c ∷ text) slash question =
    (neither (c == 47) (c == 63) (ne_eqb c 47 slash.0) (ne_eqb c 63 question.0), all_of_hosts text slash.1 question.1)

-- ---- a URL that is written is read

rest_read : (u : Url) → IsUrl u → (s : Config) → places_and_database (rest_text u) s ≡ (places_say u.places s >>= database_says u.database)
rest_read u is s =
    let text = places_text u.places in
    let tail = tail_text u.database u.parameters in
    let all = all_of_hosts text is.no_slash is.no_question in
    let stops = tail_stops u.database u.parameters in
    (λ i. places (front_run is_of_hosts text tail all stops i) s >>= database (behind_run is_of_hosts text tail all stops i))
    ∙ ap (λ r. r >>= database tail) (places_read u.places is.places is.has_text s)
    ∙ bind_same (places_say u.places s) (database tail) (database_says u.database) (database_read u.database u.parameters is.database)

pub opening_read : (u : Url) → IsUrl u → (s : Config) → opening (url_text u) s ≡ opening_says u s
opening_read u is s =
    let rest = rest_text u in
    (λ i. login_read u.login rest is.login s i >>= places_and_database (after_read u.login rest is.login i))
    ∙ bind_same (maybe_login_says u.login s) (places_and_database rest) (λ named. places_say u.places named >>= database_says u.database) (rest_read u is)

pub query_read : (u : Url) → IsUrl u → query (url_text u) ≡ unwrap_or u.parameters []
query_read u is =
    let rest = rest_text u in
    let text = places_text u.places in
    let tail = tail_text u.database u.parameters in
    ap (λ t. unwrap_or (behind 63 (behind_while is_of_hosts t)) []) (after_read u.login rest is.login)
    ∙ ap (λ t. unwrap_or (behind 63 t) []) (behind_run is_of_hosts text tail (all_of_hosts text is.no_slash is.no_question) (tail_stops u.database u.parameters))
    ∙ sym (ap (λ t. unwrap_or t []) (behind_cut 63 tail (marked 47 u.database) u.parameters (marked_cut 63 (marked 47 u.database) u.parameters (no_question_in u.database is.database))))
