-- A reply that is read for its end is decided by its ReadyForQuery, and a Sync is a whole request.
use Rattle.std.proofs.Common.{◌≡◌, ◌<◌, ◌+◌, ◌^◌, ℕ, List, [], ◌∷◌, ◌++◌, length, Bool, true, false, Option, Some, None, Result, refl, sym, ap, subst, ◌∙◌, append-nil, arith}
use Rattle.std.specs.Prelude.{is_some}
use Rattle.std.specs.Str.{byte}
use Rattle.std.proofs.lemmas.Bool.{eqb-true}
use Rattle.pg_spec.specs.Frames.{sync_frame}
use Rattle.pg_spec.specs.RawMessages.{RawMessage, is_ready, ends_in, message_at, message_bytes, messages, bytes_left}
use Rattle.pg_spec.proofs.MessageLaws.{messages-front, message_at_front, message_at-Shrinks}
use Rattle.pg_spec.proofs.Readers.{items_of-some}
use Rattle.pg_types.specs.declared.error.Error.{Error}
use Rattle.pg_client.specs.Done.{done_next, done_reading}
use Rattle.pg_session.specs.Speeches.{EndsAlone, IsWholeRequest}

abbrev Told : Type 0
Told = Option (Result (Unit {0}) Error)

-- a ReadyForQuery tells an answer, whatever its body
ready-body : (results : Bool) (body : List ℕ) → is_some (done_next results (record { tag = 90; body = body })) ≡ true
ready-body true [] = refl
ready-body true (b ∷ []) = refl
ready-body true (b ∷ c ∷ rest) = refl
ready-body false [] = refl
ready-body false (b ∷ []) = refl
ready-body false (b ∷ c ∷ rest) = refl

ready-tells : (results : Bool) (m : RawMessage) → is_ready m ≡ true → is_some (done_next results m) ≡ true
ready-tells results m h =
    subst (λ (n : ℕ). is_some (done_next results (record { tag = n; body = m.body })) ≡ true) (sym (eqb-true m.tag 90 h)) (ready-body results m.body)

-- the first answer, where the later messages tell this
abbrev first_of : Told → Told → Told
first_of later o = elim o as (λ _. Told) [ None ↦ later | Some r ↦ Some r ]

here : (later o : Told) → is_some o ≡ true → is_some (first_of later o) ≡ true
here later None h = absurd cc
here later (Some r) h = refl

there : (later o : Told) → is_some later ≡ true → is_some (first_of later o) ≡ true
there later None h = h
there later (Some r) h = refl

-- a group that ended is decided
pub done-decides : (results : Bool) (ms : List RawMessage) → ends_in is_ready ms ≡ true → is_some (done_reading results ms) ≡ true
done-decides results [] h = absurd cc
done-decides results (m ∷ []) h = here None (done_next results m) (ready-tells results m h)
done-decides results (m ∷ n ∷ ms) h = there (done_reading results (n ∷ ms)) (done_next results m) (done-decides results (n ∷ ms) h)

-- ---- a Sync

abbrev a_sync : RawMessage
a_sync = record { tag = byte "S"; body = [] }

sync-fits : 4 + length a_sync.body < 2 ^ 31
sync-fits = omega arith

pub whole-sync : IsWholeRequest sync_frame
whole-sync = record {
  whole =
      ap bytes_left (sym (append-nil (message_bytes a_sync)))
      ∙ ap (λ (p : List RawMessage × List ℕ). p.1) (items_of-some message_at message_at-Shrinks (message_bytes a_sync ++ []) a_sync [] (message_at_front a_sync [] sync-fits));
  frames = subst EndsAlone (sym (ap messages (sym (append-nil (message_bytes a_sync))) ∙ messages-front a_sync [] sync-fits)) refl;
}
