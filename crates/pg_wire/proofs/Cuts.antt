-- Where bytes are cut between whole messages.
use Rattle.std.proofs.Common.{◌≡◌, ℕ, zero, suc, ◌+◌, ◌-◌, ◌<◌, ◌≤◌, Bool, true, false, List, [], ◌∷◌, ◌++◌, length, take, drop, get_or, Some, None, refl, sym, ap, subst, ◌∙◌, arith, if◌then◌else◌, ◌==◌, ◌&&◌}
use Rattle.std.proofs.Math.Seq.{take-add, take-length}
use Rattle.std.proofs.lemmas.List.{take-append-drop, length-drop, get_or-drop}
use Rattle.std.specs.Str.{byte}
use Rattle.pg_spec.specs.RawMessages.{RawMessage, message_at, messages, bytes_left, is_aside, is_ready, has_bad_header}
use Rattle.pg_spec.proofs.Readers.{items_of-some, items_of-none}
use Rattle.pg_spec.proofs.MessageLaws.{message_at-Shrinks, messages-append, bytes_left-append}
use Rattle.pg_spec.specs.Batches.{is_batch, StopsAt, is_nothing}
use Rattle.pg_wire.specs.Fronts.{IsWhole, IsCut, message_of_bytes, is_aside_tag}
use Rattle.pg_wire.specs.Decode.{CutsOff, CutsNothing, CutsBatch}

-- ---- batches

skip : (a r f g : Bool) → f ≡ false → (if a then false else (if r then f else g)) ≡ true → (a ≡ false) × (r ≡ false) × (g ≡ true)
skip true r f g is_no e = absurd cc
skip false true f g is_no e = absurd cc
skip false false f g is_no e = (refl, refl, e)

one_more : (complete : Bool) (m : RawMessage) → is_aside m ≡ false → is_ready m ≡ complete → is_batch complete (m ∷ []) ≡ true
one_more true m calm ready = ap (λ a. if a then false else (if is_ready m then true else false)) calm ∙ ap (λ r. if r then true else false) ready
one_more false m calm ready = ap (λ a. if a then false else (if is_ready m then false else true)) calm ∙ ap (λ r. if r then false else true) ready

-- a batch that isn't complete, and one message more
pub batch_then : (complete : Bool) (ms : List RawMessage) (m : RawMessage) → is_batch false ms ≡ true → is_aside m ≡ false → is_ready m ≡ complete →
    is_batch complete (ms ++ m ∷ []) ≡ true
batch_then complete [] m was calm ready = one_more complete m calm ready
batch_then complete (x ∷ xs) m was calm ready =
    let first = skip (is_aside x) (is_ready x) false (is_batch false xs) refl was in
    ap (λ a. if a then false else (if is_ready x then complete && is_nothing (xs ++ m ∷ []) else is_batch complete (xs ++ m ∷ []))) first.0
    ∙ ap (λ r. if r then complete && is_nothing (xs ++ m ∷ []) else is_batch complete (xs ++ m ∷ [])) first.1
    ∙ batch_then complete xs m first.2 calm ready

-- ---- bytes

pub messages_of_one : (s : List ℕ) (m : RawMessage) (rest : List ℕ) → message_at s ≡ Some (m, rest) → messages s ≡ m ∷ messages rest
messages_of_one s m rest e = ap (λ (p : List RawMessage × List ℕ). p.0) (items_of-some message_at message_at-Shrinks s m rest e)

pub left_of_one : (s : List ℕ) (m : RawMessage) (rest : List ℕ) → message_at s ≡ Some (m, rest) → bytes_left s ≡ bytes_left rest
left_of_one s m rest e = ap (λ (p : List RawMessage × List ℕ). p.1) (items_of-some message_at message_at-Shrinks s m rest e)

pub messages_of_none : (s : List ℕ) → message_at s ≡ None → messages s ≡ []
messages_of_none s e = ap (λ (p : List RawMessage × List ℕ). p.0) (items_of-none message_at message_at-Shrinks s e)

pub left_of_none : (s : List ℕ) → message_at s ≡ None → bytes_left s ≡ s
left_of_none s e = ap (λ (p : List RawMessage × List ℕ). p.1) (items_of-none message_at message_at-Shrinks s e)

-- behind whole messages
pub messages-behind : (a b : List ℕ) → bytes_left a ≡ [] → messages (a ++ b) ≡ messages a ++ messages b
messages-behind a b none = messages-append a b ∙ ap (λ x. messages a ++ messages (x ++ b)) none

pub bytes_left-behind : (a b : List ℕ) → bytes_left a ≡ [] → bytes_left (a ++ b) ≡ bytes_left b
bytes_left-behind a b none = bytes_left-append a b ∙ ap (λ x. bytes_left (x ++ b)) none

-- the bytes are cut there
pub cuts_off : (s : List ℕ) (at : ℕ) → at ≤ length s → 0 < at → bytes_left (take at s) ≡ [] → CutsOff s (drop at s) (messages (take at s))
cuts_off s at fits some none = record {
  messages = ap messages (sym (take-append-drop at s)) ∙ messages-behind (take at s) (drop at s) none;
  left = ap bytes_left (sym (take-append-drop at s)) ∙ bytes_left-behind (take at s) (drop at s) none;
  shorter = omega (arith, length-drop at s);
}

pub cuts_one : (s : List ℕ) (n : ℕ) → IsWhole s n → CutsOff s (drop n s) (message_of_bytes n s ∷ [])
cuts_one s n whole = record {
  messages = messages_of_one s _ _ whole.front;
  left = left_of_one s _ _ whole.front;
  shorter = omega (arith, length-drop n s, whole.some, whole.fits);
}

pub cuts_nothing : (s : List ℕ) (bad : Bool) → message_at s ≡ None → has_bad_header s ≡ bad → CutsNothing s s bad
cuts_nothing s bad none header = record { same = refl; none = messages_of_none s none; left = left_of_none s none; header = header }

-- the cut so far is behind whole messages that are a batch
pub record IsCutSoFar (s : List ℕ) (at : ℕ) (complete : Bool) : Type 0 where
  pub fits : at ≤ length s
  pub whole : bytes_left (take at s) ≡ []
  pub batch : is_batch complete (messages (take at s)) ≡ true

pub cut_further : (s : List ℕ) (at n : ℕ) (complete : Bool) → IsCutSoFar s at false → IsWhole (drop at s) n →
    is_aside_tag (get_or (drop at s) 0 0) ≡ false → (get_or (drop at s) 0 0 == byte "Z") ≡ complete → IsCutSoFar s (at + n) complete
cut_further s at n complete was whole calm ready =
    let piece = take n (drop at s) in
    let m = message_of_bytes n (drop at s) in
    let split : take (at + n) s ≡ take at s ++ piece = take-add at n s in
    let ms : messages (take (at + n) s) ≡ messages (take at s) ++ m ∷ [] =
    ap messages split ∙ messages-behind (take at s) piece was.whole ∙ ap (λ x. messages (take at s) ++ x) (messages_of_one piece m [] whole.alone) in
    record {
      fits = omega (arith, length-drop at s, whole.fits, was.fits);
      whole = ap bytes_left split ∙ bytes_left-behind (take at s) piece was.whole ∙ left_of_one piece m [] whole.alone;
      batch = ap (is_batch complete) ms ∙ batch_then complete (messages (take at s)) m was.batch calm ready;
    }

pub cut_before_aside : (s : List ℕ) (at n : ℕ) → IsCutSoFar s at false → IsWhole (drop at s) n → is_aside_tag (get_or (drop at s) 0 0) ≡ true → IsCut s at false
cut_before_aside s at n was whole aside = record {
  fits = was.fits;
  whole = was.whole;
  batch = was.batch;
  stops = subst (StopsAt false) (sym (messages_of_one (drop at s) _ _ whole.front)) aside;
}

pub cut_at_end : (s : List ℕ) (at : ℕ) → IsCutSoFar s at false → message_at (drop at s) ≡ None → IsCut s at false
cut_at_end s at was none = record {
  fits = was.fits;
  whole = was.whole;
  batch = was.batch;
  stops = subst (StopsAt false) (sym (messages_of_none (drop at s) none)) tt;
}

pub cut_complete : (s : List ℕ) (at : ℕ) → IsCutSoFar s at true → IsCut s at true
cut_complete s at was = record { fits = was.fits; whole = was.whole; batch = was.batch; stops = tt }

stops_beyond : (s : List ℕ) (complete : Bool) (m : RawMessage) (ms : List RawMessage) → is_aside m ≡ false → is_batch complete [] ≡ true → StopsAt complete (m ∷ ms) → ⊥
stops_beyond s true m ms calm batch stops = cc
stops_beyond s false m ms calm batch stops = cc

-- a message that isn't aside is in the batch
pub cut_has_first : (s : List ℕ) (n at : ℕ) (complete : Bool) → IsWhole s n → is_aside_tag (get_or s 0 0) ≡ false → IsCut s at complete → 0 < at
cut_has_first s n zero complete whole calm is =
    absurd (stops_beyond s complete (message_of_bytes n s) (messages (drop n s)) calm is.batch
    (subst (StopsAt complete) (messages_of_one s _ _ whole.front) is.stops))
cut_has_first s n (suc at) complete whole calm is = omega arith

-- ---- as the code has them

rest_is : (s : List ℕ) (at : ℕ) → take (length s - at) (drop at s) ≡ drop at s
rest_is s at = ap (λ k. take k (drop at s)) (sym (length-drop at s)) ∙ take-length (drop at s)

head_is : (s : List ℕ) (at : ℕ) → get_or s at 0 ≡ get_or (drop at s) 0 0
head_is s at = sym (get_or-drop at s 0 0 ∙ ap (λ k. get_or s k 0) (omega arith))

pub cut_in_loop : (s : List ℕ) (at n : ℕ) (complete : Bool) → IsCutSoFar s at false → IsWhole (take (length s - at) (drop at s)) n →
    false ≡ is_aside_tag (get_or s at 0) → (get_or s at 0 == byte "Z") ≡ complete → IsCutSoFar s (at + n) complete
cut_in_loop s at n complete was whole calm ready =
    cut_further s at n complete was (subst (λ (x : List ℕ). IsWhole x n) (rest_is s at) whole)
    (sym (calm ∙ ap is_aside_tag (head_is s at))) (sym (ap (λ t. t == byte "Z") (head_is s at)) ∙ ready)

pub decoded_batch : (old new seen looked cut_at bytes : List ℕ) (n at : ℕ) (complete : Bool) (batch : List RawMessage) → seen ≡ old → looked ≡ old → cut_at ≡ old →
    IsWhole seen n → false ≡ is_aside_tag (get_or looked 0 0) → IsCut cut_at at complete →
    bytes ≡ take at old → batch ≡ messages bytes → new ≡ drop at old → CutsBatch old new batch complete
decoded_batch old new seen looked cut_at bytes n at complete batch same also too whole calm cut front read left =
    let whole' : IsWhole old n = subst (λ (x : List ℕ). IsWhole x n) same whole in
    let cut' : IsCut old at complete = subst (λ (x : List ℕ). IsCut x at complete) too cut in
    let calm' : is_aside_tag (get_or old 0 0) ≡ false = sym (calm ∙ ap (λ (x : List ℕ). is_aside_tag (get_or x 0 0)) also) in
    let some : 0 < at = cut_has_first old n at complete whole' calm' cut' in
    let is : messages (take at old) ≡ batch = sym (read ∙ ap messages front) in
    record {
      cuts = subst (λ (x : List ℕ). CutsOff old x batch) (sym left)
          (subst (λ (x : List RawMessage). CutsOff old (drop at old) x) is (cuts_off old at cut'.fits some cut'.whole));
      batch = sym (ap (is_batch complete) is) ∙ cut'.batch;
      stops = subst (λ (x : List ℕ). StopsAt complete (messages x)) (sym left) cut'.stops;
    }
