-- A session's connection calls the hub as an engine alone.
use Rattle.std.proofs.Common.{ℕ, List, [], ◌∷◌, ◌++◌, Bool, true, false, Option, Some, None, Result, Ok, Err, inl, inr}
use Rattle.futures.specs.declared.task.Poll.{Poll}
use Rattle.futures.specs.declared.task.Poll.TheVariants.{Ready, Pending}
use Rattle.pg_spec.specs.Links.{LinkView}
use Rattle.pg_connect.specs.Answers.{PollAnswers}
use Rattle.pg_connect.specs.declared.streams.Streams.{Streams}
use Rattle.pg_desk.specs.declared.event.Event.{Event}
use Rattle.pg_errors.specs.declared.async_message.AsyncMessage.{AsyncMessage}
use Rattle.pg_types.specs.declared.error.Error.{Error}
use Rattle.pg_hub.specs.Fits.{HubBecomes}
use Rattle.pg_hub.specs.Standing.{Standing}
use Rattle.pg_connect.specs.Passed.{AllEngineCalls}
use Rattle.pg_session.specs.Calls.{calls_in_poll, calls_in_turn, calls_in, calls_of}
use Rattle.pg_session.specs.Sessions.{MakesAll, Plays}
use Rattle.pg_session.specs.States.{SessionState}
use Rattle.pg_session.specs.Turns.{Makes}
use Rattle.pg_session.specs.Speeches.{Speech}

-- each poll of a connection does so
calls-poll : (a b : Standing) (old new : Streams) (before after : LinkView) (answer : Poll (Option (Result AsyncMessage Error)))
    (p : PollAnswers HubBecomes a b old new before after answer) → AllEngineCalls (calls_in_poll a b old new before after answer p)
calls-poll a b old new before after Pending p = p.turns.goes.calls
calls-poll a b old new before after (Ready None) p = p.turns.goes.calls
calls-poll a b old new before after (Ready (Some (Ok message))) p = p.turns.goes.calls
calls-poll a b old new before after (Ready (Some (Err e))) p = tt

calls-joined : (es fs : List Event) → AllEngineCalls es → AllEngineCalls fs → AllEngineCalls (es ++ fs)
calls-joined [] fs h k = k
calls-joined (e ∷ es) fs h k = (h.0, calls-joined es fs h.1 k)

module _ {C T A E : Type 0} (speech : Speech C T A E) where
  pub calls-turn : (scripts : List (List C)) (turn : ℕ) (s t : SessionState T A E) (l m : LinkView) (over : Bool) →
      (made : Makes speech scripts turn s t l m over) → AllEngineCalls (calls_in_turn speech scripts turn s t l m over made)
  calls-turn scripts turn s t l m over (inl handle) = tt
  calls-turn scripts turn s t l m over (inr connection) =
      calls-poll s.hub t.hub s.streams t.streams l m connection.made.answer connection.made.polled

  pub calls-turns : (scripts : List (List C)) (turns : List ℕ) (s : SessionState T A E) (l : LinkView) (t : SessionState T A E) (m : LinkView) →
      (made : MakesAll speech scripts turns s l t m) → AllEngineCalls (calls_in speech scripts turns s l t m made)
  calls-turns scripts [] s l t m made = tt
  calls-turns scripts (turn ∷ turns) s l t m (rested, mid, passed, rests, makes, more) =
      calls-joined (calls_in_turn speech scripts turn s mid rested passed false makes) (calls_in speech scripts turns mid passed t m more)
      (calls-turn scripts turn s mid rested passed false makes) (calls-turns scripts turns mid passed t m more)

  pub calls-alone : (scripts : List (List C)) (given : List ℕ) (s : SessionState T A E) (l : LinkView) (t : SessionState T A E) (m : LinkView) →
      (plays : Plays speech scripts given s l t m) → AllEngineCalls (calls_of speech scripts given s l t m plays)
  calls-alone scripts given s l t m plays =
      let ends = plays.ends in
      calls-joined (calls_in speech scripts plays.turns s l ends.state ends.link ends.before) (calls_in_turn speech scripts plays.last ends.state t ends.link m true ends.over)
      (calls-turns scripts plays.turns s l ends.state ends.link ends.before) (calls-turn scripts plays.last ends.state t ends.link m true ends.over)
