-- What reading a value gives where want of memory may come in place of anything.
use Rattle.std.specs.Prelude.{◌≡◌, ◌⊎◌, Result, Ok, Err}
use Rattle.pg_types.specs.declared.fault.ValueFault.{ValueFault}
use Rattle.pg_types.specs.declared.fault.ValueFault.TheVariants.{OutOfMemory}

-- it is this, or its fault is want of memory
abbrev pub Reads : {A : Type 0} → Result A ValueFault → Result A ValueFault → Type 0
Reads r (Ok x) = r ≡ Ok x
Reads r (Err f) = (f ≡ OutOfMemory) ⊎ (r ≡ Err f)
