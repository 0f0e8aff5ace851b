use Rattle.std.proofs.Common.{◌≡◌, take}
use Rattle.pg_wire.specs.LinkCalls.{Continues}
use Rattle.pg_connect.specs.Calm.{StaysCalm}
use Rattle.pg_session.specs.Sessions.{MakesAll}
use Rattle.pg_play.specs.Plays.{IsGoing, IsReady, state_of}
use Rattle.pg_play.proofs.play.Play+S+S+Answer+S+Slots.run.Given as goal

abbrev pub invariant-turns : goal.invariant-turns
invariant-turns g l = record {
  ready : IsReady g.S.Polled.is_live l.scripts l.self;
  going : IsGoing g.S.Polled.place l.scripts l.self;
  limited : l.self.streams.max_bytes ≡ l.initial.self.streams.max_bytes;
  made : MakesAll g.S.Spoken.speech l.scripts (take l.turn-index l.turns) (state_of g.S.Polled.place l.initial.self) (g.L.Link.view l.initial.link) (state_of g.S.Polled.place l.self) (g.L.Link.view l.link);
  link : Continues (g.L.Link.view l.initial.link) (g.L.Link.view l.link);
  calm : StaysCalm (g.L.Link.view l.initial.link) (g.L.Link.view l.link);
}
