use Rattle.std.proofs.Common.{◌≡◌, false}
use Rattle.pg_wire.specs.LinkCalls.{Continues}
use Rattle.pg_connect.specs.Calm.{StaysCalm}
use Rattle.pg_session.specs.Measure.{IsNearer}
use Rattle.pg_session.specs.Sessions.{MakesAll, StaysAll, numbers}
use Rattle.pg_play.specs.Plays.{IsGoing, IsReady, state_of}
use Rattle.pg_play.proofs.play.Play+S+S+Answer+S+Slots.round.Given as goal

abbrev pub invariant-turns : goal.invariant-turns
invariant-turns g l = record {
  ready : IsReady g.S.Polled.is_live l.scripts l.self;
  made : MakesAll g.S.Spoken.speech l.scripts (numbers l.turn) (state_of g.S.Polled.place l.initial.self) (g.L.Link.view l.initial.link) (state_of g.S.Polled.place l.self) (g.L.Link.view l.link);
  stays : l.moved ≡ false → StaysAll g.S.Spoken.speech l.scripts (numbers l.turn) (state_of g.S.Polled.place l.initial.self) (g.L.Link.view l.initial.link) (state_of g.S.Polled.place l.self) (g.L.Link.view l.link);
  going : IsGoing g.S.Polled.place l.scripts l.self;
  limited : l.self.streams.max_bytes ≡ l.initial.self.streams.max_bytes;
  nearer : IsNearer l.scripts l.moved (state_of g.S.Polled.place l.initial.self) (state_of g.S.Polled.place l.self);
  link : Continues (g.L.Link.view l.initial.link) (g.L.Link.view l.link);
  calm : StaysCalm (g.L.Link.view l.initial.link) (g.L.Link.view l.link);
}
