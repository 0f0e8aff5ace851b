-- Texts made of parameters that stand one after another, of either form, by what stands before a rest.
use Rattle.std.specs.Prelude.{◌≡◌, ◌⊎◌, ℕ, List, [], ◌∷◌, Result, Ok, Err}
use Rattle.pg_spec.specs.Faults.{◌>>=◌, Cause, Syntax}
use Rattle.pg_config.specs.declared.config.Config.{Config}

-- A form of parameters: which texts are a parameter with this key and value and then a rest, which texts
-- are an end, and what a parameter means.
module _ (Stands : (key value rest text : List ℕ) → Type 0) (Ends : List ℕ → Type 0) (meaning : (key value : List ℕ) → Config → Result Config Cause) where
  -- the text is these parameters, one after another, and then the rest
  abbrev pub AreWritten : List (List ℕ × List ℕ) → (rest text : List ℕ) → Type 0
  AreWritten [] rest text = text ≡ rest
  AreWritten (p ∷ parameters) rest text = (behind : List ℕ) × Stands p.0 p.1 behind text × AreWritten parameters rest behind

  -- the settings after each of the parameters, or the first fault
  abbrev pub after_each : List (List ℕ × List ℕ) → Config → Result Config Cause
  after_each [] s = Ok s
  after_each (p ∷ parameters) s = meaning p.0 p.1 s >>= after_each parameters

  -- the text is parameters and an end, and they mean these settings
  pub record IsWhole (text : List ℕ) (start s : Config) : Type 0 where
    pub parameters : List (List ℕ × List ℕ)
    pub end : List ℕ
    pub written : AreWritten parameters end text
    pub ends : Ends end
    pub means : after_each parameters start ≡ Ok s

  -- neither an end nor a parameter and a rest
  pub record IsBroken (text : List ℕ) : Type 0 where
    pub no_end : ¬ Ends text
    pub no_parameter : (key value rest : List ℕ) → ¬ Stands key value rest text

  -- it begins with a parameter that is refused
  pub record IsRefused (text : List ℕ) (s : Config) (cause : Cause) : Type 0 where
    pub key : List ℕ
    pub value : List ℕ
    pub rest : List ℕ
    pub stands : Stands key value rest text
    pub refused : meaning key value s ≡ Err cause

  -- the text is parameters that mean settings, and then the first fault: what is broken, or a parameter
  -- that is refused
  pub record HasFirstFault (text : List ℕ) (start : Config) (cause : Cause) : Type 0 where
    pub parameters : List (List ℕ × List ℕ)
    pub rest : List ℕ
    pub so_far : Config
    pub written : AreWritten parameters rest text
    pub means : after_each parameters start ≡ Ok so_far
    pub fault : (IsBroken rest × (cause ≡ Syntax)) ⊎ IsRefused rest so_far cause

  -- the text means these settings, or has this first fault
  abbrev pub Means : List ℕ → Config → Result Config Cause → Type 0
  Means text start (Ok s) = IsWhole text start s
  Means text start (Err cause) = HasFirstFault text start cause
