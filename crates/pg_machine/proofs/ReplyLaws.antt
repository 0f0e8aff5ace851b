-- Whether a reply may be given, by its tags.
use Rattle.std.proofs.Common.{◌≡◌, ℕ, ◌+◌, ◌^◌, Bool, true, false, not, ◌&&◌, ◌||◌, List, [], ◌∷◌, refl, sym, ap, ◌∙◌, length}
use Rattle.std.specs.Prelude.{if◌then◌else◌}
use Rattle.std.specs.List.{list_any, list_all, AllByRecursion}
use Rattle.std.proofs.lemmas.Bool.{lt-ltb}
use Rattle.pg_spec.specs.Batches.{is_nothing}
use Rattle.pg_spec.specs.RawMessages.{RawMessage, messages, bytes_left, is_ready, ends_in}
use Rattle.pg_spec.proofs.MessageLaws.{Fits}
use Rattle.pg_machine.specs.declared.tags.Tags.{Tags}
use Rattle.pg_machine.specs.Serving.{is_error}
use Rattle.pg_machine.specs.Requests.{is_copy_in, is_execute, fits, is_sound}
use Rattle.pg_machine.specs.Tags.{sounds, AreBytes}
use Rattle.pg_machine.proofs.Spelled.{messages-Fit}

-- messages of bytes fit, so none is ReadyForQuery is all that is left to ask
all-fit : (ms : List RawMessage) → AllByRecursion Fits ms → list_all (λ m. fits m && not (is_ready m)) ms ≡ not (list_any is_ready ms)
all-fit [] h = refl
all-fit (m ∷ ms) h =
    ap (λ b. (b && not (is_ready m)) && list_all (λ m. fits m && not (is_ready m)) ms) (lt-ltb (4 + length m.body) (2 ^ 31) h.0)
    ∙ ap (λ b. not (is_ready m) && b) (all-fit ms h.1)
    ∙ neither (is_ready m) (list_any is_ready ms)
  where
    neither : (a b : Bool) → (not a && not b) ≡ not (a || b)
    neither true b = refl
    neither false b = refl

-- these are the tags of a reply
pub record AreTagsOf (reply : List ℕ) (t : Tags) : Type 0 where
  pub bytes : AreBytes reply
  pub whole : t.whole ≡ is_nothing (bytes_left reply)
  pub ready : t.ready ≡ list_any is_ready (messages reply)
  pub error : t.error ≡ list_any is_error (messages reply)
  pub copy_in : t.copy_in ≡ list_any is_copy_in (messages reply)
  pub ends : t.ends ≡ ends_in is_copy_in (messages reply)

-- a reply whose tags may be given is whole and sound, and the other way round
pub reply-sounds : (frame : RawMessage) (reply : List ℕ) (opens : Bool) (t : Tags) → AreTagsOf reply t →
    sounds t (is_execute frame) opens ≡ (is_nothing (bytes_left reply) && is_sound frame (record { reply = messages reply; opens = opens }))
reply-sounds frame reply opens t are = with_parts are.bytes are.whole are.ready are.error are.copy_in are.ends
  where
    with_parts : AreBytes reply → t.whole ≡ is_nothing (bytes_left reply) → t.ready ≡ list_any is_ready (messages reply) → t.error ≡ list_any is_error (messages reply) →
        t.copy_in ≡ list_any is_copy_in (messages reply) → t.ends ≡ ends_in is_copy_in (messages reply) →
        sounds t (is_execute frame) opens ≡ (is_nothing (bytes_left reply) && is_sound frame (record { reply = messages reply; opens = opens }))
    with_parts bytes whole ready error copy_in ends =
        ap (λ b. b && (not t.ready && (if opens then is_execute frame && t.ends && not t.error else not t.copy_in))) whole
        ∙ ap (λ b. is_nothing (bytes_left reply) && (not b && (if opens then is_execute frame && t.ends && not t.error else not t.copy_in))) ready
        ∙ ap (λ b. is_nothing (bytes_left reply) && (b && (if opens then is_execute frame && t.ends && not t.error else not t.copy_in)))
        (sym (all-fit (messages reply) (messages-Fit reply bytes)))
        ∙ ap (λ b. is_nothing (bytes_left reply) && (list_all (λ m. fits m && not (is_ready m)) (messages reply) && (if opens then is_execute frame && b && not t.error else not t.copy_in))) ends
        ∙ ap (λ b. is_nothing (bytes_left reply) && (list_all (λ m. fits m && not (is_ready m)) (messages reply) && (if opens then is_execute frame && ends_in is_copy_in (messages reply) && not b else not t.copy_in))) error
        ∙ ap (λ b. is_nothing (bytes_left reply) && (list_all (λ m. fits m && not (is_ready m)) (messages reply) && (if opens then is_execute frame && ends_in is_copy_in (messages reply) && not (list_any is_error (messages reply)) else not b))) copy_in
