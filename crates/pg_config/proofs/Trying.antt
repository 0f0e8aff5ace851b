-- Kinds of settings are tried one after another, and a fault is handed on.
use Rattle.std.proofs.Common.{◌≡◌, ℕ, List, [], ◌∷◌, ◌++◌, Bool, true, false, if◌then◌else◌, Option, None, Some, Result, Ok, Err, refl, sym, subst, ap, ◌∙◌}
use Rattle.std.specs.Str.{bytes_eq}
use Rattle.pg_spec.specs.Faults.{Cause, UnknownOption, InvalidValue}
use Rattle.pg_types.specs.declared.error.Error.{Error}
use Rattle.pg_types.specs.declared.error.Error.TheVariants.{ConfigParse, OutOfMemory}
use Rattle.pg_config.specs.declared.config.Config.{Config}
use Rattle.pg_config.specs.Options.{Setting, applies, choice_options, number_options, options, place_options, said_by, text_options, time_options}
use Rattle.pg_config.specs.Outcomes.{HasFault, Tries}

-- a fault that another call has too
pub handed_on : {A B : Type 0} (a : Result A Cause) (b : Result B Cause) (e : Error) → ((c : Cause) → a ≡ Err c → b ≡ Err c) → HasFault a e → HasFault b e
handed_on a b (ConfigParse c) same h = same c h
handed_on a b OutOfMemory same h = tt
handed_on a b other same h = absurd h

-- what the first kind says, or else the other
abbrev or_else : Option (Result Config Cause) → Option (Result Config Cause) → Option (Result Config Cause)
or_else None later = later
or_else (Some said) later = Some said

-- two kinds, one after the other
both : (key value : List ℕ) (s : Config) (a b : List Setting) → said_by (a ++ b) key value s ≡ or_else (said_by a key value s) (said_by b key value s)
both key value s [] b = refl
both key value s (setting ∷ more) b = here (bytes_eq key setting.0) (both key value s more b) where
  said : Option (Result Config Cause)
  said = Some (elim (setting.1 value s) [ None ↦ Err (InvalidValue key) | Some next ↦ Ok next ])

  here : (same : Bool) → said_by (more ++ b) key value s ≡ or_else (said_by more key value s) (said_by b key value s) →
      (if same then said else said_by (more ++ b) key value s) ≡ or_else (if same then said else said_by more key value s) (said_by b key value s)
  here true behind = refl
  here false behind = behind

-- the first kind has no such key, so the others are tried
chain : (key value : List ℕ) (a b : List Setting) (old mid new : Config) (r : Result Bool Error) →
    Tries (said_by a key value old) old mid (Ok false) → Tries (said_by b key value mid) mid new r → Tries (said_by (a ++ b) key value old) old new r
chain key value a b old mid new r none later =
    subst (λ o. Tries o old new r) (sym (both key value old a b))
    (subst (λ o. Tries (or_else o (said_by b key value old)) old new r) (sym none.0) (subst (λ m. Tries (said_by b key value m) m new r) none.1 later))

-- the first kind has the key
decides : (key value : List ℕ) (a b : List Setting) (old new : Config) → said_by a key value old ≡ Some (Ok new) → said_by (a ++ b) key value old ≡ Some (Ok new)
decides key value a b old new h = both key value old a b ∙ ap (λ o. or_else o (said_by b key value old)) h

-- the first kind fails
first_fault : (o later : Option (Result Config Cause)) (old new : Config) (e : Error) → Tries o old new (Err e) → Tries (or_else o later) old new (Err e)
first_fault (Some one) later old new e h = h
first_fault None None old new e h = h
first_fault None (Some one) old new e h = subst (λ x. HasFault one x) (sym h) tt

-- it fails
fails : (key value : List ℕ) (a b : List Setting) (old new : Config) (e : Error) → Tries (said_by a key value old) old new (Err e) → Tries (said_by (a ++ b) key value old) old new (Err e)
fails key value a b old new e h =
    subst (λ o. Tries o old new (Err e)) (sym (both key value old a b)) (first_fault (said_by a key value old) (said_by b key value old) old new e h)

-- what is tried behind times, behind places, and behind texts
abbrev behind_times : List Setting
behind_times = number_options ++ choice_options

abbrev behind_places : List Setting
behind_places = time_options ++ behind_times

abbrev behind_texts : List Setting
behind_texts = place_options ++ behind_places

-- no text is set, so the others are tried
no_text : (key value : List ℕ) (old mid new : Config) (r : Result Bool Error) (set : Bool) → Tries (said_by text_options key value old) old mid (Ok set) → set ≡ false →
    Tries (said_by behind_texts key value mid) mid new r → Tries (said_by options key value old) old new r
no_text key value old mid new r set h none = chain key value text_options behind_texts old mid new r (subst (λ b. Tries (said_by text_options key value old) old mid (Ok b)) none h)

no_place : (key value : List ℕ) (old mid new : Config) (r : Result Bool Error) (set : Bool) → Tries (said_by place_options key value old) old mid (Ok set) → set ≡ false →
    Tries (said_by behind_places key value mid) mid new r → Tries (said_by behind_texts key value old) old new r
no_place key value old mid new r set h none = chain key value place_options behind_places old mid new r (subst (λ b. Tries (said_by place_options key value old) old mid (Ok b)) none h)

no_time : (key value : List ℕ) (old mid new : Config) (r : Result Bool Error) (set : Bool) → Tries (said_by time_options key value old) old mid (Ok set) → set ≡ false →
    Tries (said_by behind_times key value mid) mid new r → Tries (said_by behind_places key value old) old new r
no_time key value old mid new r set h none = chain key value time_options behind_times old mid new r (subst (λ b. Tries (said_by time_options key value old) old mid (Ok b)) none h)

-- places are set
pub place_set : (key value : List ℕ) (old mid new : Config) (texts places : Bool) → Tries (said_by text_options key value old) old mid (Ok texts) → texts ≡ false →
    Tries (said_by place_options key value mid) mid new (Ok places) → places ≡ true → said_by options key value old ≡ Some (Ok new)
place_set key value old mid new texts places a none h set =
    no_text key value old mid new (Ok true) texts a none
    (decides key value place_options behind_places mid new (subst (λ b. Tries (said_by place_options key value mid) mid new (Ok b)) set h))

-- places, times or numbers fail
pub place_fails : (key value : List ℕ) (old mid new : Config) (texts : Bool) (e : Error) → Tries (said_by text_options key value old) old mid (Ok texts) → texts ≡ false →
    Tries (said_by place_options key value mid) mid new (Err e) → Tries (said_by options key value old) old new (Err e)
place_fails key value old mid new texts e a none h =
    no_text key value old mid new (Err e) texts a none (fails key value place_options behind_places mid new e h)

pub time_fails : (key value : List ℕ) (old mid mid' new : Config) (texts places : Bool) (e : Error) → Tries (said_by text_options key value old) old mid (Ok texts) → texts ≡ false →
    Tries (said_by place_options key value mid) mid mid' (Ok places) → places ≡ false →
    Tries (said_by time_options key value mid') mid' new (Err e) → Tries (said_by options key value old) old new (Err e)
time_fails key value old mid mid' new texts places e a none b none' h =
    no_text key value old mid new (Err e) texts a none
    (no_place key value mid mid' new (Err e) places b none' (fails key value time_options behind_times mid' new e h))

pub number_fails : (key value : List ℕ) (old mid mid' mid'' new : Config) (texts places times : Bool) (e : Error) → Tries (said_by text_options key value old) old mid (Ok texts) → texts ≡ false →
    Tries (said_by place_options key value mid) mid mid' (Ok places) → places ≡ false → Tries (said_by time_options key value mid') mid' mid'' (Ok times) → times ≡ false →
    Tries (said_by number_options key value mid'') mid'' new (Err e) → Tries (said_by options key value old) old new (Err e)
number_fails key value old mid mid' mid'' new texts places times e a none b none' c none'' h =
    no_text key value old mid new (Err e) texts a none
    (no_place key value mid mid' new (Err e) places b none'
    (no_time key value mid' mid'' new (Err e) times c none'' (fails key value number_options choice_options mid'' new e h)))

abbrev known : (key : List ℕ) → Option (Result Config Cause) → Result Config Cause
known key o = elim o [ None ↦ Err (UnknownOption key) | Some said ↦ said ]

by_name : (key : List ℕ) (o : Option (Result Config Cause)) (old new : Config) (e : Error) → Tries o old new (Err e) → HasFault (known key o) e
by_name key (Some said) old new e h = h
by_name key None old new e h = subst (λ x. HasFault (known key None) x) (sym h) tt

-- a fault, where the key is known or memory lacked
pub known_fault : (key value : List ℕ) (old new : Config) (e : Error) → Tries (said_by options key value old) old new (Err e) → HasFault (applies key value old) e
known_fault key value old new e h = by_name key (said_by options key value old) old new e h
