-- A command of one request is a command that the core takes.
use Rattle.std.proofs.Common.{◌≡◌, ℕ, ◌+◌, List, [], ◌∷◌, Bool, true, false, if◌then◌else◌, Option, Some, None, option_map, is_some, Result, Ok, Err, refl, ap}
use Rattle.pg_spec.specs.RawMessages.{RawMessage, is_ready, ends_in}
use Rattle.pg_types.specs.declared.error.Error.{Error}
use Rattle.pg_query.specs.Reading.{ends, reads}
use Rattle.pg_query.specs.Requests.{asks, reads_unless}
use Rattle.pg_query.specs.Dialogue.{Dialogue}
use Rattle.pg_spec.specs.Dialogues.{decided_after}
use Rattle.pg_core.specs.Runs.{AddsNone, IsTidy}
use Rattle.pg_core.specs.Times.{ReadsNo, Free, IsSane, IsInTime, DecidesInTime, IsFaithful, IsCommand}

record All-so {T : Type 0} (d : Dialogue T) : Type 0 where
  tidy : IsTidy d
  adds : AddsNone d
  sane : IsSane Free d
  reads_no : ReadsNo d
  in_time : IsInTime d
  faithful : IsFaithful d

ends-so : {T : Type 0} (stops : Bool) (o : Option (Result T Error)) → All-so (ends stops o)
ends-so true (Some (Ok x)) = record { tidy = (tt, tt); adds = tt; sane = (tt, tt, tt); reads_no = tt; in_time = tt; faithful = tt }
ends-so false (Some (Ok x)) = record { tidy = tt; adds = tt; sane = tt; reads_no = tt; in_time = tt; faithful = tt }
ends-so true (Some (Err e)) = record { tidy = (tt, tt); adds = tt; sane = (tt, tt, tt); reads_no = tt; in_time = tt; faithful = tt }
ends-so false (Some (Err e)) = record { tidy = (tt, tt); adds = tt; sane = (tt, tt, tt); reads_no = tt; in_time = tt; faithful = tt }
ends-so true None = record { tidy = tt; adds = tt; sane = tt; reads_no = tt; in_time = tt; faithful = tt }
ends-so false None = record { tidy = tt; adds = tt; sane = tt; reads_no = tt; in_time = tt; faithful = tt }

decides-some : (decides : List RawMessage → Bool) (m : RawMessage) (ms : List RawMessage) → decides (m ∷ ms) ≡ true → (k : ℕ) × (decided_after decides (m ∷ ms) ≡ Some k)
decides-some decides m [] e = (1, ap (λ (b : Bool). if b then Some 1 else option_map (λ n. n + 1) (decided_after (λ l. decides (m ∷ l)) [])) e)
decides-some decides m (x ∷ ms) e = by (decides (m ∷ [])) (decides-some (λ l. decides (m ∷ l)) x ms e)
  where
    by : (b : Bool) → (k : ℕ) × (decided_after (λ l. decides (m ∷ l)) (x ∷ ms) ≡ Some k) →
        (k : ℕ) × ((if b then Some 1 else option_map (λ n. n + 1) (decided_after (λ l. decides (m ∷ l)) (x ∷ ms))) ≡ Some k)
    by true h = (1, refl)
    by false h = (h.0 + 1, ap (option_map (λ n. n + 1)) h.1)

pub in-time-by : (decides : List RawMessage → Bool) → ((ms : List RawMessage) → ends_in is_ready ms ≡ true → decides ms ≡ true) → DecidesInTime decides
in-time-by decides h [] e = absurd cc
in-time-by decides h (m ∷ ms) e = decides-some decides m ms (h (m ∷ ms) e)

-- what a reading to the answer owes
pub record ReadsSo {T : Type 0} (d : Dialogue T) : Type 0 where
  pub tidy : IsTidy d
  pub sane : IsSane Free d
  pub in_time : IsInTime d
  pub faithful : IsFaithful d

pub reads-so : {T : Type 0} (stops : Bool) (reading : List RawMessage → Option (Result T Error)) → ((ms : List RawMessage) → ends_in is_ready ms ≡ true → is_some (reading ms) ≡ true) → ReadsSo (reads stops reading)
reads-so stops reading h = record {
  tidy = λ ms e. (ends-so stops (reading ms)).tidy;
  sane = (tt, λ ms e. (ends-so stops (reading ms)).sane);
  in_time = (in-time-by (λ ms. is_some (reading ms)) h, λ ms e. (λ any. (ends-so stops (reading ms)).reads_no, (ends-so stops (reading ms)).in_time));
  faithful = λ ms. (ends-so stops (reading ms)).faithful;
}

pub request-so : {T : Type 0} (stops : Bool) (frame : List ℕ) (reading : List RawMessage → Option (Result T Error)) → ((ms : List RawMessage) → ends_in is_ready ms ≡ true → is_some (reading ms) ≡ true) →
    IsCommand (asks stops frame reading)
request-so {T} stops frame reading h = by (reading [])
  where
    behind : (o : Option (Result T Error)) →
        AddsNone (reads_unless stops reading o) × IsTidy (reads_unless stops reading o) × IsSane Free (reads_unless stops reading o) × IsInTime (reads_unless stops reading o) × IsFaithful (reads_unless stops reading o)
    behind (Some r) = (tt, (tt, tt), (tt, tt, tt), tt, tt)
    behind None = let r = reads-so stops reading h in (λ ms e. (ends-so stops (reading ms)).adds, r.tidy, r.sane, r.in_time, r.faithful)

    by : (o : Option (Result T Error)) → IsCommand (asks stops frame reading)
    by o = let b = behind (reading []) in record { tidy = (b.0, b.1); nothing = tt; sane = (tt, b.2); in_time = b.3; faithful = b.4 }
