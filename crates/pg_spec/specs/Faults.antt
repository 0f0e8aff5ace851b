-- Why bytes or arguments are refused, and what an operation answers in place of its value: the declared types, by the
-- names that definitions use.
use Rattle.std.specs.Prelude.{Result, Ok, Err}
pub use Rattle.pg_types.specs.declared.faults.WireFault.{WireFault}
pub use Rattle.pg_types.specs.declared.faults.WireFault.TheVariants.{BadLength, UnknownTag, Layout, NotUtf8}
pub use Rattle.pg_types.specs.declared.faults.FrameFault.{FrameFault}
pub use Rattle.pg_types.specs.declared.faults.FrameFault.TheVariants.{ZeroByte, TooMany, TooLong}
pub use Rattle.pg_types.specs.declared.cause.ScramFault.{ScramFault}
pub use Rattle.pg_types.specs.declared.cause.ScramFault.TheVariants.{BadMessage, BadNonce, BadSalt, BadIterations, BadSignature, ServerError}
pub use Rattle.pg_types.specs.declared.cause.Cause.{Cause}
pub use Rattle.pg_types.specs.declared.cause.Cause.TheVariants.{Link, Ended, Wire, Fields, FieldCount, BinaryCopy, NotUtf8 as NotText, Frame, Counter, Value, NoUser, Nonce, NoPassword, Hosts, Scripts, PreferDirect, Refused, NoHostname, Handshake, Method, Mechanism, BindingRequired, NotAscii, Scram, Syntax, UnknownOption, InvalidValue, ReadOnly, NotReadOnly}
pub use Rattle.pg_types.specs.declared.error.Error.{Error as Failure}
pub use Rattle.pg_types.specs.declared.error.Error.TheVariants.{Io, UnexpectedMessage, Tls, ToSql, FromSql, Column, ColumnCount, Parameters, Closed, Db, Parse, Encode, Authentication, ConfigParse, Config, RowCount, Connect, Stalled, LimitReached, Missing, OutOfMemory}

infixl 10 ◌>>=◌
-- one step behind another; the first fault decides
abbrev pub ◌>>=◌ : {A B E : Type 0} → Result A E → (A → Result B E) → Result B E
(Ok x) >>= f = f x
(Err e) >>= f = Err e
