-- That each request of a session that was played read of its own reply alone.
use Rattle.std.specs.Prelude.{ℕ, List}
use Rattle.pg_promises.specs.Endings.{Report}
use Rattle.pg_spec.specs.Links.{LinkView}
use Rattle.pg_spec.specs.Settings.{Settings}
use Rattle.pg_session.proofs.Crossing.End.{of-bytes}
use Rattle.pg_session.proofs.Histories.{are-events, reads-so}
use Rattle.pg_session.specs.Crossed.{session_of}
use Rattle.pg_session.specs.Events.{ReadsItsReply, turn_events}
use Rattle.pg_session.specs.Sessions.{HasPlayed}
use Rattle.pg_session.specs.Speeches.{Speech}
use Rattle.pg_tool.specs.ReadsOwn.{ReadsOwn}

pub reads_own : {C T A E : Type 0} (speech : Speech C T A E) (settings : Settings) (nonce : List ℕ) (scripts : List (List C)) (given : List ℕ) (before after : LinkView) (report : Report A) →
    HasPlayed speech settings nonce scripts given before after report → ReadsOwn speech settings nonce scripts given before after report
reads_own speech settings nonce scripts given before after report p = record {
  played = p;
  calls = are-events speech settings nonce scripts given before after report p;
  reads = of-bytes before after (λ g t. ReadsItsReply scripts (session_of settings nonce scripts given report g) (turn_events speech scripts given p.new p.link p.last after p.plays))
      (λ g t e d. reads-so speech settings nonce scripts given before after report p g t e d);
}
