use Rattle.pg_core.specs.Described.{seen_of}
use Rattle.pg_core.proofs.Telling.{other-message}
use Rattle.pg_core.proofs.description_reading.DescriptionReading.see.Goals as goal

pub returns-in_default : goal.returns-in_default
returns-in_default c =
    let d = c.in_default in
    other-message (seen_of c.args.self.now) c.args.message.now d.not-ErrorResponse d.not-NoData d.not-ParameterDescription d.not-ParseComplete d.not-RowDescription
