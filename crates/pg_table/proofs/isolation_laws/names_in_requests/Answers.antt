use Rattle.std.proofs.Common.{arith, refl}
use Rattle.std.specs.Prelude.{[]}
use Rattle.pg_table.proofs.FrameNames.{prepare-names}
use Rattle.pg_table.proofs.RequestNames.{typed-names}
use Rattle.pg_table.proofs.isolation_laws.names_in_requests.Goals as goal

pub returns-clause-prepared : goal.returns-clause-prepared
returns-clause-prepared c n text oids part e = prepare-names n text oids part e

pub returns-clause-unnamed : goal.returns-clause-unnamed
returns-clause-unnamed c text types values part e = typed-names text types values part e

pub returns-clause-two : goal.returns-clause-two
returns-clause-two c s = refl

pub returns-clause-twice : goal.returns-clause-twice
returns-clause-twice c s distinct = distinct 0 1 [] (omega arith) (omega arith) refl
