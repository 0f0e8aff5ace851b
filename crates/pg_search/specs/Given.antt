-- What a function gives where want of memory may come in place of anything.
use Rattle.std.specs.Prelude.{◌≡◌, ◌⊎◌, Result, Ok, Err}
use Rattle.pg_types.specs.declared.error.Error.{Error}
use Rattle.pg_types.specs.declared.error.Error.TheVariants.{OutOfMemory}
use Rattle.pg_types.specs.declared.fault.ValueFault.{ValueFault}
use Rattle.pg_types.specs.declared.fault.ValueFault.TheVariants as fault

-- it is this, or its error is want of memory
abbrev pub Gives : {A : Type 0} → Result A Error → Result A Error → Type 0
Gives r (Ok x) = r ≡ Ok x
Gives r (Err e) = (e ≡ OutOfMemory) ⊎ (r ≡ Err e)

-- the same of a value's fault
abbrev pub Reads : {A : Type 0} → Result A ValueFault → Result A ValueFault → Type 0
Reads r (Ok x) = r ≡ Ok x
Reads r (Err f) = (f ≡ fault.OutOfMemory) ⊎ (r ≡ Err f)
