-- How messages lead a dialogue on.
use Rattle.std.proofs.Common.{◌≡◌, ℕ, suc, ◌+◌, ◌≤◌, List, [], ◌∷◌, ◌++◌, length, Bool, true, false, take, drop, Option, Some, None, option_map, Result, refl, ap, subst, ◌∙◌, arith, if◌then◌else◌}
use Rattle.std.proofs.lemmas.Option.{same_Some}
use Rattle.pg_spec.specs.RawMessages.{RawMessage}
use Rattle.pg_types.specs.declared.error.Error.{Error}
use Rattle.pg_query.specs.declared.desk_call.Cleanup.{Cleanup}
use Rattle.pg_query.specs.declared.desk_call.DeskCall.{DeskCall}
use Rattle.pg_query.specs.declared.desk_call.Reply.{Reply}
use Rattle.pg_query.specs.Dialogue.{Dialogue, Answer, Ask, Send, Leave, Read, Put, Finish, Close, HangUp, Call, Hear, feed, feed_one}
use Rattle.pg_spec.specs.Dialogues.{decided_after}

pub feed-answer : {T : Type 0} (ms : List RawMessage) (r : Result T Error) → feed ms (Answer r) ≡ Answer r
feed-answer [] r = refl
feed-answer (m ∷ ms) r = feed-answer ms r

pub feed-ask : {T : Type 0} (ms : List RawMessage) (copying : Bool) (part : List ℕ) (d : Dialogue T) → feed ms (Ask copying part d) ≡ Ask copying part d
feed-ask [] copying part d = refl
feed-ask (m ∷ ms) copying part d = feed-ask ms copying part d

pub feed-send : {T : Type 0} (ms : List RawMessage) (part : List ℕ) (refused : Error → Dialogue T) (d : Dialogue T) → feed ms (Send part refused d) ≡ Send part (λ e. feed ms (refused e)) (feed ms d)
feed-send [] part refused d = refl
feed-send (m ∷ ms) part refused d = feed-send ms part (λ e. feed_one m (refused e)) (feed_one m d)

pub feed-leave : {T : Type 0} (ms : List RawMessage) (id : ℕ) (d : Dialogue T) → feed ms (Leave id d) ≡ Leave id (feed ms d)
feed-leave [] id d = refl
feed-leave (m ∷ ms) id d = feed-leave ms id (feed_one m d)

pub feed-put : {T : Type 0} (ms : List RawMessage) (cleanup : List Cleanup) (part : List ℕ) (d : Dialogue T) → feed ms (Put cleanup part d) ≡ Put cleanup part (feed ms d)
feed-put [] cleanup part d = refl
feed-put (m ∷ ms) cleanup part d = feed-put ms cleanup part (feed_one m d)

pub feed-finish : {T : Type 0} (ms : List RawMessage) (part : List ℕ) (d : Dialogue T) → feed ms (Finish part d) ≡ Finish part (feed ms d)
feed-finish [] part d = refl
feed-finish (m ∷ ms) part d = feed-finish ms part (feed_one m d)

pub feed-close : {T : Type 0} (ms : List RawMessage) (part : List ℕ) (d : Dialogue T) → feed ms (Close part d) ≡ Close part (feed ms d)
feed-close [] part d = refl
feed-close (m ∷ ms) part d = feed-close ms part (feed_one m d)

pub feed-hang-up : {T : Type 0} (ms : List RawMessage) (d : Dialogue T) → feed ms (HangUp d) ≡ HangUp d
feed-hang-up [] d = refl
feed-hang-up (m ∷ ms) d = feed-hang-up ms d

pub feed-call : {T : Type 0} (ms : List RawMessage) (q : DeskCall) (refused : Error → Dialogue T) (next : Reply → Dialogue T) → feed ms (Call q refused next) ≡ Call q (λ e. feed ms (refused e)) (λ r. feed ms (next r))
feed-call [] q refused next = refl
feed-call (m ∷ ms) q refused next = feed-call ms q (λ e. feed_one m (refused e)) (λ r. feed_one m (next r))

pub feed-hear : {T : Type 0} (ms : List RawMessage) (next : Reply → Dialogue T) → feed ms (Hear next) ≡ Hear (λ r. feed ms (next r))
feed-hear [] next = refl
feed-hear (m ∷ ms) next = feed-hear ms (λ r. feed_one m (next r))

pub feed-joined : {T : Type 0} (ms ns : List RawMessage) (d : Dialogue T) → feed (ms ++ ns) d ≡ feed ns (feed ms d)
feed-joined [] ns d = refl
feed-joined (m ∷ ms) ns d = feed-joined ms ns (feed_one m d)

-- behind these messages, of which so many decided
abbrev pub read_so : {T : Type 0} → List Cleanup → (List RawMessage → Bool) → (List RawMessage → Dialogue T) → List RawMessage → Option ℕ → Dialogue T
read_so cleanup decides next ms (Some n) = feed (drop n ms) (next (take n ms))
read_so cleanup decides next ms None = Read cleanup (λ later. decides (ms ++ later)) (λ later. next (ms ++ later))

later-so : {T : Type 0} (cleanup : List Cleanup) (decides : List RawMessage → Bool) (next : List RawMessage → Dialogue T) (m : RawMessage) (ms : List RawMessage) (o : Option ℕ) →
    read_so cleanup (λ l. decides (m ∷ l)) (λ l. next (m ∷ l)) ms o ≡ read_so cleanup decides next (m ∷ ms) (option_map (λ n. n + 1) o)
later-so cleanup decides next m ms None = refl
later-so {T} cleanup decides next m ms (Some n) =
    let e : suc n ≡ n + 1 = omega arith in
    ap (λ (k : ℕ). feed (drop k (m ∷ ms)) (next (take k (m ∷ ms)))) e

pub fed : {T : Type 0} (cleanup : List Cleanup) (decides : List RawMessage → Bool) (next : List RawMessage → Dialogue T) (ms : List RawMessage) →
    feed ms (Read cleanup decides next) ≡ read_so cleanup decides next ms (decided_after decides ms)
fed cleanup decides next [] = refl
fed {T} cleanup decides next (m ∷ ms) = by (decides (m ∷ [])) (fed cleanup (λ l. decides (m ∷ l)) (λ l. next (m ∷ l)) ms)
  where
    by : (b : Bool) → feed ms (Read cleanup (λ l. decides (m ∷ l)) (λ l. next (m ∷ l))) ≡ read_so cleanup (λ l. decides (m ∷ l)) (λ l. next (m ∷ l)) ms (decided_after (λ l. decides (m ∷ l)) ms) →
        feed ms (if b then next (m ∷ []) else Read cleanup (λ l. decides (m ∷ l)) (λ l. next (m ∷ l)))
        ≡ read_so cleanup decides next (m ∷ ms) (if b then Some 1 else option_map (λ n. n + 1) (decided_after (λ l. decides (m ∷ l)) ms))
    by true h = refl
    by false h = h ∙ later-so cleanup decides next m ms (decided_after (λ l. decides (m ∷ l)) ms)

-- a front that decides decides of all that comes behind it
pub record StillDecides (decides : List RawMessage → Bool) (ms more : List RawMessage) (k : ℕ) : Type 0 where
  pub within : k ≤ length ms
  pub still : decided_after decides (ms ++ more) ≡ Some k

pub still-decides : (decides : List RawMessage → Bool) (ms more : List RawMessage) (k : ℕ) → decided_after decides ms ≡ Some k → StillDecides decides ms more k
still-decides decides [] more k e = absurd cc
still-decides decides (m ∷ ms) more k e = record {
  within = (by (decides (m ∷ [])) (decided_after (λ l. decides (m ∷ l)) ms) e (λ j is. still-decides (λ l. decides (m ∷ l)) ms more j is)).0;
  still = (by (decides (m ∷ [])) (decided_after (λ l. decides (m ∷ l)) ms) e (λ j is. still-decides (λ l. decides (m ∷ l)) ms more j is)).1;
}
  where
    by : (b : Bool) (o : Option ℕ) → (if b then Some 1 else option_map (λ n. n + 1) o) ≡ Some k →
        ((j : ℕ) → o ≡ Some j → StillDecides (λ l. decides (m ∷ l)) ms more j) →
        (k ≤ suc (length ms)) × ((if b then Some 1 else option_map (λ n. n + 1) (decided_after (λ l. decides (m ∷ l)) (ms ++ more))) ≡ Some k)
    by true o e ih = (let one : 1 ≡ k = same_Some 1 k e in omega (arith, one), e)
    by false None e ih = absurd cc
    by false (Some j) e ih =
        let is : j + 1 ≡ k = same_Some (j + 1) k e in
        let h = ih j refl in
        let le : j ≤ length ms = h.within in
        (omega (arith, is, le), ap (option_map (λ n. n + 1)) h.still ∙ ap (λ (n : ℕ). Some n) is)

-- that front alone decides
pub front-decides : (decides : List RawMessage → Bool) (ms : List RawMessage) (k : ℕ) → decided_after decides ms ≡ Some k → decided_after decides (take k ms) ≡ Some k
front-decides decides [] k e = absurd cc
front-decides decides (m ∷ ms) k e = by (decides (m ∷ [])) refl (decided_after (λ l. decides (m ∷ l)) ms) e (λ j is. front-decides (λ l. decides (m ∷ l)) ms j is)
  where
    by : (b : Bool) → decides (m ∷ []) ≡ b → (o : Option ℕ) → (if b then Some 1 else option_map (λ n. n + 1) o) ≡ Some k →
        ((j : ℕ) → o ≡ Some j → decided_after (λ l. decides (m ∷ l)) (take j ms) ≡ Some j) → decided_after decides (take k (m ∷ ms)) ≡ Some k
    by true d o e ih =
        let one : 1 ≡ k = same_Some 1 k e in
        subst (λ (n : ℕ). decided_after decides (take n (m ∷ ms)) ≡ Some n) one (ap (λ (b : Bool). if b then Some 1 else option_map (λ n. n + 1) (decided_after (λ l. decides (m ∷ l)) (take 0 ms))) d)
    by false d None e ih = absurd cc
    by false d (Some j) e ih =
        let is : j + 1 ≡ k = same_Some (j + 1) k e in
        let more : suc j ≡ k = omega (arith, is) in
        subst (λ (n : ℕ). decided_after decides (take n (m ∷ ms)) ≡ Some n) more
        (ap (λ (b : Bool). if b then Some 1 else option_map (λ n. n + 1) (decided_after (λ l. decides (m ∷ l)) (take j ms))) d
        ∙ ap (option_map (λ n. n + 1)) (ih j refl) ∙ ap (λ (n : ℕ). Some n) (let back : j + 1 ≡ suc j = omega arith in back))
