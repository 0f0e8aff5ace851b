-- Turns one after another, the next of which fails.
use Rattle.std.proofs.Common.{◌≡◌, ◌<◌, ◌≤◌, ◌^◌, ℕ, Bool, true, false, List, ◌++◌, length, Option, Some, None, Result, Ok, Err, IfErr, inl, inr, refl}
use Rattle.std.specs.Prelude.{IsTrue}
use Rattle.futures.specs.declared.task.Poll.{Poll}
use Rattle.futures.specs.declared.task.Poll.TheVariants.{Ready, Pending}
use Rattle.pg_errors.specs.declared.async_message.AsyncMessage.{AsyncMessage}
use Rattle.pg_types.specs.declared.error.Error.{Error}
use Rattle.pg_types.specs.declared.error.Error.TheVariants as error
use Rattle.pg_spec.specs.Links.{LinkView}
use Rattle.pg_wire.specs.LinkCalls.{SameBytes, SameWriting}
use Rattle.pg_connect.proofs.Calm.{calm_then}
use Rattle.pg_connect.specs.Calm.{StaysCalm}
use Rattle.pg_session.specs.Failures.{BreaksOff, GivesOut, HasFailed, IsFine, PauseFails, RunsShort, TurnFails}
use Rattle.pg_session.specs.Sessions.{MakesAll, rounds}
use Rattle.pg_session.specs.Turns.{HandsOn}
use Rattle.pg_session.proofs.Order.{makes_all_then}
use Rattle.pg_play.specs.Plays.{ConnectionPolled, RoundFails, RoundWhole, RoundsMade, is_over}
use Rattle.pg_session.specs.Speeches.{Speech}
use Rattle.pg_session.specs.States.{SessionState}

module _ {C T A O : Type 0} (speech : Speech C T A O) where
  -- the next turn of a round failed
  pub round_fails : (scripts : List (List C)) (turns : List ℕ) (s : SessionState T A O) (l : LinkView) (mid : SessionState T A O) (k m : LinkView) (e : Error) →
      MakesAll speech scripts turns s l mid k → mid.streams.given < 2 ^ 64 → TurnFails mid k m e → RoundFails speech scripts s l m e
  round_fails scripts turns s l mid k m e before counted fails = elim fails [
    | inl lacks ↦ inl (record { turns = turns; state = mid; link = k; before = before; counted = counted; lacks = lacks })
    | inr poll ↦ inr (record { turns = turns; state = mid; link = k; before = before; counted = counted; fails = poll })
  ]

  -- and in the given turns
  pub given_fails : (scripts : List (List C)) (turns : List ℕ) (s : SessionState T A O) (l : LinkView) (mid : SessionState T A O) (k m : LinkView) (e : Error) →
      MakesAll speech scripts turns s l mid k → mid.streams.given < 2 ^ 64 → TurnFails mid k m e → HasFailed speech scripts s l m e
  given_fails scripts turns s l mid k m e before counted fails = elim fails [
    | inl lacks ↦ inl (record { turns = turns; state = mid; link = k; before = before; counted = counted; lacks = lacks })
    | inr poll ↦ inr (inl (record { turns = turns; state = mid; link = k; before = before; counted = counted; fails = poll }))
  ]

  -- where memory lacked in it
  short_behind : (scripts : List (List C)) (turns : List ℕ) (s : SessionState T A O) (l : LinkView) (mid : SessionState T A O) (k m : LinkView) (e : Error) →
      MakesAll speech scripts turns s l mid k → RunsShort speech scripts mid k m e → RunsShort speech scripts s l m e
  short_behind scripts turns s l mid k m e before b = record {
    turns = turns ++ b.turns;
    state = b.state;
    link = b.link;
    before = makes_all_then speech scripts turns b.turns s l mid k b.state b.link before b.before;
    counted = b.counted;
    lacks = b.lacks;
  }

  breaks_behind : (scripts : List (List C)) (turns : List ℕ) (s : SessionState T A O) (l : LinkView) (mid : SessionState T A O) (k m : LinkView) (e : Error) →
      MakesAll speech scripts turns s l mid k → BreaksOff speech scripts mid k m e → BreaksOff speech scripts s l m e
  breaks_behind scripts turns s l mid k m e before b = record {
    turns = turns ++ b.turns;
    state = b.state;
    link = b.link;
    before = makes_all_then speech scripts turns b.turns s l mid k b.state b.link before b.before;
    counted = b.counted;
    fails = b.fails;
  }

  -- a round failed behind whole ones
  pub rounds_fail : (scripts : List (List C)) (s : SessionState T A O) (l : LinkView) (mid : SessionState T A O) (k m : LinkView) (e : Error) →
      RoundsMade speech scripts s l mid k → RoundFails speech scripts mid k m e → HasFailed speech scripts s l m e
  rounds_fail scripts s l mid k m e before fails = elim fails [
    | inl short ↦ inl (short_behind scripts (rounds (length scripts) before.count) s l mid k m e before.made short)
    | inr breaks ↦ inr (inl (breaks_behind scripts (rounds (length scripts) before.count) s l mid k m e before.made breaks))
  ]

  -- the pause behind a round in which nothing moved failed
  pub pause_fails : (scripts : List (List C)) (s : SessionState T A O) (l : LinkView) (mid : SessionState T A O) (k : LinkView) (t : SessionState T A O) (n m : LinkView) (moved waited : Bool) (e : Error) →
      RoundsMade speech scripts s l mid k → RoundWhole speech scripts mid k t n moved → StaysCalm l n → t.streams.given ≤ t.streams.max_bytes → t.streams.given < 2 ^ 64 → SameBytes n m → SameWriting n m → moved ≡ false → (waited ≡ true → IsTrue k.promised) → PauseFails k.quiet n.quiet waited n m e →
      HasFailed speech scripts s l m e
  pause_fails scripts s l mid k t n m moved waited e before round calm within counted bytes writing none promised fails = inr (inr (record {
    turns = rounds (length scripts) before.count;
    state = mid;
    link = k;
    before = before.made;
    last = t;
    passed = n;
    round = round.stays none;
    calm = calm;
    within = within;
    counted = counted;
    bytes = bytes;
    writing = writing;
    waited = waited;
    promised = promised;
    fails = fails;
  }))

  gives_behind : (scripts : List (List C)) (turns : List ℕ) (s : SessionState T A O) (l : LinkView) (mid : SessionState T A O) (k m : LinkView) (e : Error) →
      MakesAll speech scripts turns s l mid k → StaysCalm l k → GivesOut speech scripts mid k m e → GivesOut speech scripts s l m e
  gives_behind scripts turns s l mid k m e before calm b = record {
    turns = turns ++ b.turns;
    state = b.state;
    link = b.link;
    before = makes_all_then speech scripts turns b.turns s l mid k b.state b.link before b.before;
    last = b.last;
    passed = b.passed;
    round = b.round;
    calm = calm_then l k b.passed calm b.calm;
    within = b.within;
    counted = b.counted;
    bytes = b.bytes;
    writing = b.writing;
    waited = b.waited;
    promised = b.promised;
    fails = b.fails;
  }

  fails_behind : (scripts : List (List C)) (turns : List ℕ) (s : SessionState T A O) (l : LinkView) (mid : SessionState T A O) (k m : LinkView) (e : Error) →
      MakesAll speech scripts turns s l mid k → StaysCalm l k → HasFailed speech scripts mid k m e → HasFailed speech scripts s l m e
  fails_behind scripts turns s l mid k m e before calm fails = elim fails [
    | inl short ↦ inl (short_behind scripts turns s l mid k m e before short)
    | inr other ↦ elim other [
      | inl breaks ↦ inr (inl (breaks_behind scripts turns s l mid k m e before breaks))
      | inr gives ↦ inr (inr (gives_behind scripts turns s l mid k m e before calm gives))
    ]
  ]

  -- the rounds failed behind the given turns
  pub run_fails : (scripts : List (List C)) (turns : List ℕ) (s : SessionState T A O) (l : LinkView) (mid : SessionState T A O) (k m : LinkView) (r : Result (Unit {0}) Error) →
      MakesAll speech scripts turns s l mid k → StaysCalm l k → IfErr r (HasFailed speech scripts mid k m) → IfErr r (HasFailed speech scripts s l m)
  run_fails scripts turns s l mid k m (Ok x) before calm fails = tt
  run_fails scripts turns s l mid k m (Err e) before calm fails = fails_behind scripts turns s l mid k m e before calm fails

  -- ---- want of memory

  -- in a handle's turn
  pub handle_lacks : (s : SessionState T A O) (l : LinkView) (r : Result (Option Bool) Error) → IfErr r (λ e. e ≡ error.OutOfMemory) → IfErr r (TurnFails s l l)
  handle_lacks s l (Ok moved) h = tt
  handle_lacks s l (Err e) h = inl (record { memory = h; crossed = inl refl })

  fine_so : (answer : Poll (Option (Result AsyncMessage Error))) (old new : List AsyncMessage) (over : Bool) → HandsOn answer old new over → IsFine answer
  fine_so Pending old new over h = tt
  fine_so (Ready None) old new over h = tt
  fine_so (Ready (Some (Ok message))) old new over h = tt
  fine_so (Ready (Some (Err e))) old new over h = h

  -- behind a poll of the connection
  pub mark_lacks : (s t : SessionState T A O) (l m : LinkView) (moved : Option Bool) (r : Result (Option Bool) Error) → ConnectionPolled s t l m moved → IfErr r (λ e. e ≡ error.OutOfMemory) → IfErr r (TurnFails s l m)
  mark_lacks s t l m moved (Ok passed) p h = tt
  mark_lacks s t l m moved (Err e) p h = inl (record {
    memory = h;
    crossed = inr (record { hub = t.hub; streams = t.streams; answer = p.answer; polled = p.polled; misses = p.misses; fine = fine_so p.answer s.asynchronous t.asynchronous (is_over moved) p.hands });
  })
