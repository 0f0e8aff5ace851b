-- The faults of a connection as the errors that its caller is given.
use Rattle.pg_types.specs.declared.faults.WireFault.TheVariants as wire
use Rattle.pg_desk.specs.declared.event.DeskFault.{DeskFault}
use Rattle.pg_desk.specs.declared.event.DeskFault.TheVariants as desk
use Rattle.pg_types.specs.declared.cause.Cause.TheVariants as cause
use Rattle.pg_types.specs.declared.error.Error.{Error}
use Rattle.pg_types.specs.declared.error.Error.TheVariants as error
use Rattle.pg_connect.specs.declared.fault.ConnectionFault.{ConnectionFault}
use Rattle.pg_connect.specs.declared.fault.ConnectionFault.TheVariants as fault

-- the error of a fault
abbrev pub error_of : ConnectionFault → Error
error_of fault.Link = error.Io cause.Link
error_of fault.Closed = error.Closed
error_of fault.Ended = error.Io cause.Ended
error_of fault.BadLength = error.Io (cause.Wire wire.BadLength)
error_of fault.Layout = error.Io (cause.Wire wire.Layout)
error_of (fault.Unreadable c) = error.Parse c
error_of (fault.Unasked e) = e
error_of (fault.LimitReached given limit) = error.LimitReached given limit
error_of fault.OutOfMemory = error.OutOfMemory

-- a fault of the hub, which never answers Encode to a connection
abbrev pub of_desk : DeskFault → ConnectionFault
of_desk desk.OutOfMemory = fault.OutOfMemory
of_desk desk.Closed = fault.Closed
of_desk desk.Encode = fault.Closed
