-- What a call answers stands for what is said.
use Rattle.std.specs.Prelude.{◌≡◌, Bool, true, false, Option, Some, None, Result, Ok, Err}
use Rattle.pg_spec.specs.Faults.{Cause}
use Rattle.pg_types.specs.declared.error.Error.{Error}
use Rattle.pg_types.specs.declared.error.Error.TheVariants.{ConfigParse, OutOfMemory}
use Rattle.pg_config.specs.declared.config.Config.{Config}

-- ConfigParse holds the fault that is said; want of memory may come at any time
abbrev pub HasFault : {A : Type 0} → Result A Cause → Error → Type 0
HasFault said (ConfigParse c) = said ≡ Err c
HasFault said OutOfMemory = Unit {0}
HasFault said other = ⊥

-- what is said is answered
abbrev pub IsAnswered : {A : Type 0} → Result A Cause → Result A Error → Type 0
IsAnswered said (Ok value) = said ≡ Ok value
IsAnswered said (Err e) = HasFault said e

-- the settings become those that are said
abbrev pub Becomes : {A U : Type 0} → Result A Cause → A → Result U Error → Type 0
Becomes said new (Ok done) = said ≡ Ok new
Becomes said new (Err e) = HasFault said e

-- the key is one of these, and the settings become so, or it is none of them
abbrev pub Tries : Option (Result Config Cause) → (old new : Config) → Result Bool Error → Type 0
Tries said old new (Ok true) = said ≡ Some (Ok new)
Tries said old new (Ok false) = (said ≡ None) × (new ≡ old)
Tries said old new (Err e) = elim said [ None ↦ e ≡ OutOfMemory | Some one ↦ HasFault one e ]
