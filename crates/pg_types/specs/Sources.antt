-- What an error holds.
use Rattle.std.specs.Prelude.{Option, Some, None, Bool, true, false}
use Rattle.pg_types.specs.declared.db_error.DbError.{DbError}
use Rattle.pg_types.specs.declared.error.Error.{Error}
use Rattle.pg_types.specs.declared.error.Error.TheVariants as error
use Rattle.pg_types.specs.declared.error.Source.{Source}
use Rattle.pg_types.specs.declared.error.Source.TheVariants as source

-- the error of the server
abbrev pub db_error_in : Error → Option DbError
db_error_in (error.Db e) = Some e
db_error_in _ = None

-- it says that the connection is closed
abbrev pub is_closed_error : Error → Bool
is_closed_error error.Closed = true
is_closed_error _ = false

-- the cause or the error of the server
abbrev pub source_in : Error → Option Source
source_in (error.Io c) = Some (source.Cause c)
source_in (error.Tls c) = Some (source.Cause c)
source_in (error.ToSql place c) = Some (source.Cause c)
source_in (error.FromSql place c) = Some (source.Cause c)
source_in (error.Db e) = Some (source.Db e)
source_in (error.Parse c) = Some (source.Cause c)
source_in (error.Encode c) = Some (source.Cause c)
source_in (error.Authentication c) = Some (source.Cause c)
source_in (error.ConfigParse c) = Some (source.Cause c)
source_in (error.Config c) = Some (source.Cause c)
source_in (error.Connect c) = Some (source.Cause c)
source_in _ = None
