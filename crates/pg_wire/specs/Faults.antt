-- What a fault says of the bytes or the arguments: want of memory says nothing.
use Rattle.std.specs.Prelude.{Option, Some, None}
use Rattle.pg_types.specs.declared.faults.WireFault.{WireFault}
use Rattle.pg_types.specs.declared.faults.WireFault.TheVariants as wire
use Rattle.pg_types.specs.declared.faults.FrameFault.{FrameFault}
use Rattle.pg_types.specs.declared.faults.FrameFault.TheVariants as frame

-- what is wrong with the bytes, None for want of memory
abbrev pub wire_fault : WireFault → Option WireFault
wire_fault wire.OutOfMemory = None
wire_fault fault = Some fault

-- what is wrong with the arguments, None for want of memory
abbrev pub frame_fault : FrameFault → Option FrameFault
frame_fault frame.OutOfMemory = None
frame_fault fault = Some fault
