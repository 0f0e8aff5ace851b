-- A copy is a command that the core takes.
use Rattle.std.proofs.Common.{◌≡◌, ℕ, List, [], ◌∷◌, length, Bool, true, Option, Some, None, is_some, Result, Ok, Err, refl, subst}
use Rattle.std.specs.List.{list_any}
use Rattle.pg_spec.specs.RawMessages.{RawMessage, is_ready, ends_in}
use Rattle.pg_types.specs.declared.error.Error.{Error}
use Rattle.pg_query.specs.Dialogue.{Dialogue, Finish, Put, Read}
use Rattle.pg_query.specs.Reading.{reads}
use Rattle.pg_query.specs.declared.desk_call.Cleanup.{Cleanup}
use Rattle.pg_spec.specs.Copies.{is_opened}
use Rattle.pg_spec.specs.Dialogues.{decided_after}
use Rattle.pg_core.specs.Copying.{copies, once_opened, puts}
use Rattle.pg_core.specs.Runs.{IsTidy}
use Rattle.pg_core.specs.Times.{IsCommand, IsFaithful, IsInTime, IsSane, Open, ReadsNo}
use Rattle.pg_core.proofs.Answering.{opening-in-time}
use Rattle.pg_core.proofs.Requests.{reads-so}

-- an open copy is read behind no number of parts
none-read : {T : Type 0} (failing : List ℕ) (left : List Cleanup) (decides : List RawMessage → Bool) (next : List RawMessage → Dialogue T) (parts : List (List ℕ)) → IsSane Open (puts failing parts (Read left decides next)) → ⊥
none-read failing left decides next [] h = h
none-read failing left decides next (part ∷ parts) h = none-read failing left decides next parts h.2

pub open-read : {T : Type 0} (failing : List ℕ) (left : List Cleanup) (decides : List RawMessage → Bool) (next : List RawMessage → Dialogue T) (parts : List (List ℕ)) (d : Dialogue T) → d ≡ puts failing parts (Read left decides next) → IsSane Open d → ⊥
open-read {T} failing left decides next parts d is h = none-read failing left decides next parts (subst (λ (x : Dialogue T). IsSane Open x) is h)

-- and gets no part behind its end
pub ended-put : {T : Type 0} (ending part : List ℕ) (left : List Cleanup) (d e : Dialogue T) → e ≡ Finish ending (Put left part d) → IsSane Open e → ⊥
ended-put {T} ending part left d e is h = (subst (λ (x : Dialogue T). IsSane Open x) is h).1.0

module _ {T : Type 0} (failing ending : List ℕ) (parts : List (List ℕ)) (reading : List RawMessage → Option (Result T Error)) (decides : (ms : List RawMessage) → ends_in is_ready ms ≡ true → is_some (reading ms) ≡ true) where
  tidy-puts : (ps : List (List ℕ)) → IsTidy (puts failing ps (Finish ending (reads true reading)))
  tidy-puts [] = (reads-so true reading decides).tidy
  tidy-puts (p ∷ ps) = tidy-puts ps

  sane-puts : (ps : List (List ℕ)) → IsSane Open (puts failing ps (Finish ending (reads true reading)))
  sane-puts [] = (tt, (reads-so true reading decides).sane)
  sane-puts (p ∷ ps) = (tt, tt, sane-puts ps)

  time-puts : (ps : List (List ℕ)) → IsInTime (puts failing ps (Finish ending (reads true reading)))
  time-puts [] = (reads-so true reading decides).in_time
  time-puts (p ∷ ps) = time-puts ps

  faithful-puts : (ps : List (List ℕ)) → IsFaithful (puts failing ps (Finish ending (reads true reading)))
  faithful-puts [] = (reads-so true reading decides).faithful
  faithful-puts (p ∷ ps) = faithful-puts ps

  tidy-opened : (o : Option (Result (Unit {0}) Error)) → IsTidy (once_opened failing ending parts reading o)
  tidy-opened (Some (Ok x)) = tidy-puts parts
  tidy-opened (Some (Err e)) = (tt, tt)
  tidy-opened None = (tt, tt)

  sane-opened : (o : Option (Result (Unit {0}) Error)) → IsSane Open (once_opened failing ending parts reading o)
  sane-opened (Some (Ok x)) = sane-puts parts
  sane-opened (Some (Err e)) = (tt, tt, (tt, tt, tt))
  sane-opened None = (tt, tt, (tt, tt, tt))

  time-opened : (o : Option (Result (Unit {0}) Error)) → IsInTime (once_opened failing ending parts reading o)
  time-opened (Some (Ok x)) = time-puts parts
  time-opened (Some (Err e)) = tt
  time-opened None = tt

  faithful-opened : (o : Option (Result (Unit {0}) Error)) → IsFaithful (once_opened failing ending parts reading o)
  faithful-opened (Some (Ok x)) = faithful-puts parts
  faithful-opened (Some (Err e)) = tt
  faithful-opened None = tt

  refused-reads : (o : Option (Result (Unit {0}) Error)) → ((x : Unit {0}) → o ≡ Some (Ok x) → ⊥) → ReadsNo (once_opened failing ending parts reading o)
  refused-reads (Some (Ok x)) not = absurd (not x refl)
  refused-reads (Some (Err e)) not = tt
  refused-reads None not = tt

  pub copy-so : (opening : List ℕ) (opened : List RawMessage → Option (Result (Unit {0}) Error)) → ((ms : List RawMessage) → decided_after (λ l. is_some (opened l)) ms ≡ decided_after is_opened ms) →
      ((ms : List RawMessage) (x : Unit {0}) → decided_after (λ l. is_some (opened l)) ms ≡ Some (length ms) → list_any is_ready ms ≡ true → opened ms ≡ Some (Ok x) → ⊥) →
      IsCommand (copies opening failing ending parts opened reading)
  copy-so opening opened exact closed = record {
    tidy = (tt, λ ms e. tidy-opened (opened ms));
    nothing = tt;
    sane = (tt, (tt, exact, λ ms e. sane-opened (opened ms)));
    in_time = (opening-in-time (λ ms. is_some (opened ms)) exact, λ ms e. (λ any. refused-reads (opened ms) (λ x is. closed ms x e any is), time-opened (opened ms)));
    faithful = λ ms. faithful-opened (opened ms);
  }
