use Rattle.pg_session.proofs.Crossing.End.{of-bytes}
use Rattle.pg_session.proofs.Histories.{are-events, reads-so}
use Rattle.pg_session.specs.Crossed.{session_of}
use Rattle.pg_session.specs.Events.{turn_events, ReadsItsReply}
use Rattle.pg_session.proofs.events.each_request_reads_its_reply.Goals as goal

pub returns-clause-events : goal.returns-clause-events
returns-clause-events g c = are-events

pub returns-clause-reads : goal.returns-clause-reads
returns-clause-reads g c speech settings nonce scripts given before after report p =
    of-bytes before after (λ g t. ReadsItsReply scripts (session_of settings nonce scripts given report g) (turn_events speech scripts given p.new p.link p.last after p.plays))
    (λ g t e d. reads-so speech settings nonce scripts given before after report p g t e d)
