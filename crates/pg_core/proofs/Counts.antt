-- What had come at a turn, as a trace counts it.
use Rattle.std.proofs.Common.{◌≡◌, ℕ, zero, suc, ◌-◌, List, [], ◌∷◌, length, take, filter, Bool, true, false, not, if◌then◌else◌, refl, sym, ap, ◌∙◌, unwrap_or, slice_get}
use Rattle.std.proofs.lemmas.List.{take_at}
use Rattle.pg_spec.specs.RawMessages.{RawMessage, is_aside, is_ready, sync_of, cut_after, groups}
use Rattle.pg_spec.specs.Turns.{delivered_before}
use Rattle.pg_spec.proofs.GroupLaws as cuts
use Rattle.pg_desk.specs.History.{State, IsFrontOf, IsSound, received, reply}
use Rattle.pg_query.specs.declared.desk_call.DeskCall.{DeskCall}
use Rattle.pg_query.specs.declared.desk_call.Reply.{Reply}
use Rattle.pg_spec.specs.Courses.{Course}
use Rattle.pg_core.specs.Lists.{came_of}
use Rattle.pg_core.specs.Trails.{CameBy}

filter-take : {X : Type 0} (p : X → Bool) (n : ℕ) (xs : List X) → filter p (take n (filter p xs)) ≡ take n (filter p xs)
filter-take p zero xs = refl
filter-take p (suc n) [] = refl
filter-take {X} p (suc n) (x ∷ xs) = by (p x) refl (filter-take p n xs) (filter-take p (suc n) xs)
  where
    by : (b : Bool) → p x ≡ b → filter p (take n (filter p xs)) ≡ take n (filter p xs) → filter p (take (suc n) (filter p xs)) ≡ take (suc n) (filter p xs) →
        filter p (take (suc n) (if b then x ∷ filter p xs else filter p xs)) ≡ take (suc n) (if b then x ∷ filter p xs else filter p xs)
    by true e h k = ap (λ (c : Bool). if c then x ∷ filter p (take n (filter p xs)) else filter p (take n (filter p xs))) e ∙ ap (λ (l : List X). x ∷ l) h
    by false e h k = k

pub came-by : (course : Course DeskCall Reply) (place : ℕ) (s : State) (later : List RawMessage) → IsSound s → IsFrontOf (received s.deliveries) (sync_of later) → course.replies ≡ groups later →
    delivered_before course.trace place ≡ length (received s.deliveries) → CameBy course place (came_of s)
came-by course place s later sound front are counted = by
  where
    all : List RawMessage
    all = sync_of later

    n : ℕ
    n = length (received s.deliveries)

    is_take : received s.deliveries ≡ take n all
    is_take = sym (take_at (received s.deliveries) front.0 n refl) ∙ ap (take n) front.1

    by : CameBy course place (came_of s)
    by k =
        sound.given_is_group k ∙ ap (reply k) is_take
        ∙ ap (λ (ms : List RawMessage). unwrap_or (slice_get (cut_after is_ready ms) k) []) (filter-take (λ m. not (is_aside m)) n later)
        ∙ cuts.piece-take is_ready all n k
        ∙ ap (λ (x : ℕ). take (x - cuts.before k (groups later)) (unwrap_or (slice_get (groups later) k) [])) (sym counted)
        ∙ ap (λ (gs : List (List RawMessage)). take (delivered_before course.trace place - cuts.before k gs) (unwrap_or (slice_get gs k) [])) (sym are)
