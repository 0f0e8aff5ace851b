-- Faults of the wire as errors: want of memory stays want of memory.
use Rattle.pg_types.specs.declared.faults.WireFault.{WireFault}
use Rattle.pg_types.specs.declared.faults.WireFault.TheVariants as wire
use Rattle.pg_types.specs.declared.cause.Cause.TheVariants.{Wire}
use Rattle.pg_types.specs.declared.error.Error.{Error}
use Rattle.pg_types.specs.declared.error.Error.TheVariants.{Parse, OutOfMemory}

-- a malformed message, as the error of the command that reads it
abbrev pub of_wire : WireFault → Error
of_wire wire.OutOfMemory = OutOfMemory
of_wire fault = Parse (Wire fault)
