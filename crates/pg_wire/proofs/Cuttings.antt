-- A stream in pieces: what is given and what is held is the stream.
use Rattle.std.proofs.Common.{◌≡◌, ℕ, Bool, true, false, cond, List, [], ◌∷◌, ◌++◌, Option, Some, None, Result, Ok, Err, refl, sym, ap, ◌∙◌, append_assoc, append-nil, if◌then◌else◌, ◌&&◌, length}
use Rattle.std.specs.Prelude.{filter}
use Rattle.pg_spec.specs.RawMessages.{RawMessage, messages, bytes_left, is_aside, is_ready}
use Rattle.pg_spec.specs.Batches.{is_batch, is_nothing}
use Rattle.pg_spec.proofs.MessageLaws.{messages-append, bytes_left-append}
use Rattle.pg_wire.specs.Decode.{Decodes, CutsOff, CutsBatch}
use Rattle.pg_wire.specs.Cuttings.{Event, Came, Gave, came, Becomes, GivesOne, Gives, GaveAllBut, GaveAll, TellsItsEnd}
use Rattle.pg_wire.specs.declared.codec.BackendMessage.{BackendMessage}
use Rattle.pg_wire.specs.declared.codec.BackendMessage.TheVariants as cut
use Rattle.pg_types.specs.declared.faults.WireFault.{WireFault}
use Rattle.pg_types.specs.declared.faults.WireFault.TheVariants as fault

-- these messages were taken off the front, whatever comes behind
record TookOff (old left : List ℕ) (first : List RawMessage) : Type 0 where
  front : messages old ≡ first ++ messages left
  behind : bytes_left old ≡ bytes_left left

-- what one answer gives, and that it was taken off
record GaveOne (old left : List ℕ) (answer : Result (Option BackendMessage) WireFault) : Type 0 where
  first : List RawMessage
  gives : GivesOne answer first
  took : TookOff old left first

took_none : (old left : List ℕ) → left ≡ old → TookOff old left []
took_none old left same = record { front = ap messages (sym same); behind = ap bytes_left (sym same) }

took_off : (old left : List ℕ) (first : List RawMessage) → CutsOff old left first → TookOff old left first
took_off old left first cuts = record { front = cuts.messages; behind = cuts.left }

gave_one : (old left : List ℕ) (answer : Result (Option BackendMessage) WireFault) → Decodes old left answer → GaveOne old left answer
gave_one old left (Ok None) was = record { first = []; gives = refl; took = took_none old left was.same }
gave_one old left (Ok (Some (cut.Normal batch complete))) was = record { first = batch; gives = refl; took = took_off old left batch was.cuts }
gave_one old left (Ok (Some (cut.Async message))) was = record {
  first = was.raw ∷ [];
  gives = (was.raw, refl, record { aside = was.aside; means = was.means });
  took = took_off old left (was.raw ∷ []) was.cuts;
}
gave_one old left (Err fault.BadLength) was = record { first = []; gives = refl; took = took_none old left was.same }
gave_one old left (Err fault.Layout) was = record { first = []; gives = refl; took = took_none old left was.same }
gave_one old left (Err fault.OutOfMemory) was = record { first = []; gives = refl; took = took_none old left was }
gave_one old left (Err fault.UnknownTag) was = absurd was
gave_one old left (Err fault.NotUtf8) was = absurd was

-- the same with more bytes behind
messages_behind : (old left more : List ℕ) (first : List RawMessage) → TookOff old left first → messages (old ++ more) ≡ first ++ messages (left ++ more)
messages_behind old left more first took =
    messages-append old more
    ∙ ap (λ (ms : List RawMessage). ms ++ messages (bytes_left old ++ more)) took.front
    ∙ ap (λ (b : List ℕ). (first ++ messages left) ++ messages (b ++ more)) took.behind
    ∙ append_assoc first (messages left) (messages (bytes_left left ++ more))
    ∙ ap (λ (ms : List RawMessage). first ++ ms) (sym (messages-append left more))

left_behind : (old left more : List ℕ) (first : List RawMessage) → TookOff old left first → bytes_left (old ++ more) ≡ bytes_left (left ++ more)
left_behind old left more first took =
    bytes_left-append old more ∙ ap (λ (b : List ℕ). bytes_left (b ++ more)) took.behind ∙ sym (bytes_left-append left more)

-- what the answers give from a buffer on
record GaveFrom (old : List ℕ) (events : List Event) (new : List ℕ) : Type 0 where
  given : List RawMessage
  gives : Gives events given
  joined : messages (old ++ came events) ≡ given ++ messages new
  left : bytes_left (old ++ came events) ≡ bytes_left new

gave_from : (old : List ℕ) (events : List Event) (new : List ℕ) → Becomes old events new → GaveFrom old events new
gave_from old [] new same = record {
  given = [];
  gives = refl;
  joined = ap messages (append-nil old ∙ same);
  left = ap bytes_left (append-nil old ∙ same);
}
gave_from old (Came bytes ∷ events) new becomes =
    let later = gave_from (old ++ bytes) events new becomes in
    record {
      given = later.given;
      gives = later.gives;
      joined = ap messages (sym (append_assoc old bytes (came events))) ∙ later.joined;
      left = ap bytes_left (sym (append_assoc old bytes (came events))) ∙ later.left;
    }
gave_from old (Gave answer ∷ events) new becomes =
    let left : List ℕ = becomes.0 in
    let one = gave_one old left answer becomes.1 in
    let later = gave_from left events new becomes.2 in
    record {
      given = one.first ++ later.given;
      gives = (one.first, later.given, one.gives, later.gives, refl);
      joined = messages_behind old left (came events) one.first one.took
          ∙ ap (λ (ms : List RawMessage). one.first ++ ms) later.joined
          ∙ sym (append_assoc one.first later.given (messages new));
      left = left_behind old left (came events) one.first one.took ∙ later.left;
    }

pub gave_all_but : (events : List Event) (held : List ℕ) → Becomes [] events held → GaveAllBut events held
gave_all_but events held becomes =
    let all = gave_from [] events held becomes in
    record { given = all.given; gives = all.gives; joined = all.joined; left = all.left }

pub gave_all : (events : List Event) (held left : List ℕ) → Becomes [] events held → Decodes held left (Ok None) → GaveAll events left
gave_all events held left becomes none =
    let all = gave_from [] events held becomes in
    record {
      given = all.given;
      gives = all.gives;
      joined = all.joined ∙ ap (λ (ms : List RawMessage). all.given ++ ms) none.none ∙ append-nil all.given;
      left = all.left ∙ none.left ∙ sym none.same;
    }

-- ---- the end of a batch

pub ends_by : (complete : Bool) (ms : List RawMessage) → is_batch complete ms ≡ true → TellsItsEnd ms complete
ends_by true [] batch = absurd cc
ends_by false [] batch = record { ends = refl; only = refl }
ends_by complete (m ∷ ms) batch = by_first (is_aside m) (is_ready m) (ends_by complete ms) refl batch
  where
    -- the last one is ready
    last_is : (ready : Bool) (rest : List RawMessage) → is_ready m ≡ ready → ready ≡ true → is_nothing rest ≡ true → complete ≡ true → TellsItsEnd (m ∷ rest) complete
    last_is ready [] is holds nothing all = record {
      ends = all ∙ sym (is ∙ holds);
      only = ap (λ b. length (cond b (m ∷ []) [])) (is ∙ holds) ∙ ap (λ b. cond b 1 0) (sym all);
    }
    last_is ready (x ∷ xs) is holds nothing all = absurd cc

    more_follow : (rest : List RawMessage) → is_ready m ≡ false → TellsItsEnd rest complete → TellsItsEnd (m ∷ rest) complete
    more_follow [] waits later = record { ends = later.ends ∙ sym waits; only = ap (λ b. length (cond b (m ∷ []) [])) waits ∙ later.only }
    more_follow (x ∷ xs) waits later = record { ends = later.ends; only = ap (λ b. length (cond b (m ∷ filter is_ready (x ∷ xs)) (filter is_ready (x ∷ xs)))) waits ∙ later.only }

    both : (a b : Bool) → (a && b) ≡ true → (a ≡ true) × (b ≡ true)
    both true true e = (refl, refl)
    both true false e = absurd cc
    both false b e = absurd cc

    by_first : (aside ready : Bool) → (is_batch complete ms ≡ true → TellsItsEnd ms complete) → is_ready m ≡ ready → (if aside then false else (if ready then complete && is_nothing ms else is_batch complete ms)) ≡ true → TellsItsEnd (m ∷ ms) complete
    by_first true ready later is e = absurd cc
    by_first false true later is e = let parts = both complete (is_nothing ms) e in last_is true ms is refl parts.1 parts.0
    by_first false false later is e = more_follow ms is (later e)

pub tells_its_end : (old new : List ℕ) (batch : List RawMessage) (complete : Bool) → CutsBatch old new batch complete → TellsItsEnd batch complete
tells_its_end old new batch complete cuts = ends_by complete batch cuts.batch
