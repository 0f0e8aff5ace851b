use Rattle.pg_stream.proofs.Leaving.{gives-left}
use Rattle.pg_stream.proofs.stream_link.StreamLinkLink.read.Goals as goal

pub returns-clause-bytes : goal.returns-clause-bytes
returns-clause-bytes g c = gives-left c.args.self.now.input.over c.args.self.now.ahead c.give-answer.new.ahead c.give-answer.new.out _ c.give-answer.result c.args.self.now.input.ended c.give-answer.ensures
