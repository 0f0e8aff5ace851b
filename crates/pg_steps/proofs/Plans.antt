-- Each plan is a command that a session takes.
use Rattle.std.proofs.Common.{◌≡◌, ℕ, List, [], ◌∷◌, Bool, true, false, Option, Some, None, Result, Ok, Err, refl}
use Rattle.std.specs.Prelude.{is_some}
use Rattle.std.specs.List.{list_any}
use Rattle.pg_spec.specs.RawMessages.{RawMessage, is_ready}
use Rattle.pg_types.specs.declared.error.Error.{Error}
use Rattle.pg_types.specs.declared.error.Error.TheVariants.{OutOfMemory, UnexpectedMessage}
use Rattle.pg_query.specs.Dialogue.{Dialogue, Answer, HangUp}
use Rattle.pg_query.specs.Leaving.{Holds, IsLetGo, LetsGo, Nothing, Request, after_reading, request_behind}
use Rattle.pg_client.specs.Done.{batch_reading}
use Rattle.pg_core.proofs.Requests.{in-time-by}
use Rattle.pg_core.specs.Runs.{AddsNone, IsTidy, ReadsNothing}
use Rattle.pg_core.specs.Times.{EndsNone, Free, IsCommand, IsFaithful, IsInTime, IsSane, LacksMemory, ReadsNo}
use Rattle.pg_steps.specs.Calls.{request_of}
use Rattle.pg_steps.specs.Plans.{holding, is_plan}
use Rattle.pg_steps.specs.Steps.{asks, fails, means, posts, replies, sends, told_to}
use Rattle.pg_steps.specs.declared.call.Call.{Call}
use Rattle.pg_steps.specs.declared.step.Step.{Step}
use Rattle.pg_steps.specs.declared.step.Step.TheVariants.{Asks, RollsBack, Reads, Sends}
use Rattle.pg_steps.proofs.Decides.{decides, ended}

abbrev Done : Type 0
Done = Dialogue (Unit {0})

-- what a session asks of what comes behind a reply
record Behind (d : Done) : Type 0 where
  tidy : IsTidy d
  adds : AddsNone d
  sane : IsSane Free d
  in_time : IsInTime d
  faithful : IsFaithful d
  reads_no : ReadsNo d

-- what it asks of steps, where a request is read or isn't
record Sound (held : Bool) (d : Done) : Type 0 where
  tidy : IsTidy d
  adds : AddsNone d
  sane : IsSane Free d
  in_time : IsInTime d
  faithful : IsFaithful d
  reads_no : held ≡ false → ReadsNo d
  nothing : held ≡ false → ReadsNothing d
  lets_go : LetsGo (holding held) d

never : {A : Type 0} → true ≡ false → A
never e = absurd cc

-- ---- an answer

answered : (r : Result (Unit {0}) Error) → Sound false (Answer r)
answered r = record { tidy = tt; adds = tt; sane = tt; in_time = tt; faithful = tt; reads_no = λ e. tt; nothing = λ e. tt; lets_go = tt }

failed : (r : Bool) (e : Error) → Sound false (fails r e)
failed false e = answered (Err e)
failed true e = record {
  tidy = (λ e. tt, tt);
  adds = (λ e. tt, tt);
  sane = (λ e. tt, tt);
  in_time = (λ e. tt, tt);
  faithful = (refl, tt);
  reads_no = λ same. (λ e. tt, tt);
  nothing = λ same. (λ e. tt, tt);
  lets_go = (λ e. tt, tt);
}

failed-lacks : (r : Bool) → LacksMemory (fails r OutOfMemory)
failed-lacks false = refl
failed-lacks true = (refl, refl)

posts-end-none : (r : Bool) → EndsNone (posts r)
posts-end-none false = tt
posts-end-none true = tt

-- ---- one step

asked : (r : Bool) (request : Result (List ℕ) Error) (d : Done) → Sound true d → Sound false (asks r request d)
asked r (Ok part) d h = record { tidy = (h.adds, h.tidy); adds = tt; sane = (tt, h.sane); in_time = h.in_time; faithful = h.faithful; reads_no = λ e. tt; nothing = λ e. tt; lets_go = (tt, h.lets_go) }
asked r (Err e) d h = failed r e

sent : (r : Bool) (request : Result (List ℕ) Error) (d : Done) → Sound false d → Sound false (sends r request d)
sent r (Ok part) d h =
    let f : (e : Error) → Sound false (fails r e) = failed r in
    record {
      tidy = (λ e. (f e).tidy, h.tidy);
      adds = (λ e. (f e).adds, h.adds);
      sane = (λ e. (f e).sane, h.sane);
      in_time = (λ e. (f e).in_time, h.in_time);
      faithful = (failed-lacks r, h.faithful);
      reads_no = λ same. (λ e. (f e).reads_no refl, h.reads_no refl);
      nothing = λ same. (λ e. (f e).nothing refl, h.nothing refl);
      lets_go = (λ e. (f e).lets_go, h.lets_go);
    }
sent r (Err e) d h = failed r e

-- behind a reply
behind : (d : Done) → Sound false d → Behind d
behind d h = record { tidy = h.tidy; adds = h.adds; sane = h.sane; in_time = h.in_time; faithful = h.faithful; reads_no = h.reads_no refl }

hung-up : (d : Done) → Sound false d → Behind (HangUp d)
hung-up d h = record { tidy = (h.nothing refl, h.tidy); adds = h.adds; sane = (tt, h.reads_no refl, h.sane); in_time = h.in_time; faithful = h.faithful; reads_no = h.reads_no refl }

told : (r : Bool) (d : Done) → Sound false d → (o : Option (Result (Unit {0}) Error)) → Behind (told_to r d o)
told r d h (Some (Ok x)) = behind d h
told r d h (Some (Err e)) = hung-up (fails r e) (failed r e)
told r d h None = behind (fails r UnexpectedMessage) (failed r UnexpectedMessage)

-- the steps behind it hold nothing, whichever stands there
letting : (k : Holds) → IsLetGo k → (d : Done) → LetsGo Nothing d → LetsGo k d
letting Nothing h d l = l
letting Request h d l = absurd h

read : (r : Bool) (d : Done) → Sound false d → Sound true (replies r d)
read r d h = record {
  tidy = λ ms e. (told r d h (batch_reading ms)).tidy;
  adds = λ ms e. (told r d h (batch_reading ms)).adds;
  sane = (posts-end-none r, λ ms e. (told r d h (batch_reading ms)).sane);
  in_time = (in-time-by (λ ms. is_some (batch_reading ms)) decides, λ ms e. (λ any. (told r d h (batch_reading ms)).reads_no, (told r d h (batch_reading ms)).in_time));
  faithful = λ ms. (told r d h (batch_reading ms)).faithful;
  reads_no = never;
  nothing = never;
  lets_go = λ ms some. lets ms (batch_reading ms) (ended ms) some;
}
  where
    lets : (ms : List RawMessage) (o : Option (Result (Unit {0}) Error)) → ((x : Unit {0}) → o ≡ Some (Ok x) → IsLetGo (request_behind (list_any is_ready ms))) → is_some o ≡ true → LetsGo (after_reading Request ms) (told_to r d o)
    lets ms (Some (Ok x)) e some = letting (request_behind (list_any is_ready ms)) (e x refl) d h.lets_go
    lets ms (Some (Err e)) f some = (failed r e).lets_go
    lets ms None e some = absurd cc

-- ---- all of them

sound : (held : Bool) (steps : List Step) (c : Call) (r : Bool) → is_plan held steps ≡ true → Sound held (means steps c r)
sound false [] c r e = answered (Ok tt)
sound true [] c r e = absurd cc
sound held (RollsBack ∷ steps) c r e = sound held steps c true e
sound false (Asks ∷ steps) c r e = asked r (request_of c) (means steps c r) (sound true steps c r e)
sound true (Asks ∷ steps) c r e = absurd cc
sound true (Reads ∷ steps) c r e = read r (means steps c r) (sound false steps c r e)
sound false (Reads ∷ steps) c r e = absurd cc
sound false (Sends ∷ steps) c r e = sent r (request_of c) (means steps c r) (sound false steps c r e)
sound true (Sends ∷ steps) c r e = absurd cc

-- what a session asks of a plan
pub command : (steps : List Step) (c : Call) (r : Bool) → is_plan false steps ≡ true → IsCommand (means steps c r)
command steps c r e = let s = sound false steps c r e in record { tidy = s.tidy; nothing = s.nothing refl; sane = s.sane; in_time = s.in_time; faithful = s.faithful }

pub lets-go : (steps : List Step) (c : Call) (r : Bool) → is_plan false steps ≡ true → LetsGo Nothing (means steps c r)
lets-go steps c r e = (sound false steps c r e).lets_go
