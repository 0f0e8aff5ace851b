-- Where the reply to a copy's opening is read, and where that is answered.
use Rattle.std.specs.Str.{byte}
use Rattle.std.proofs.Common.{◌≡◌, ℕ, ◌+◌, ◌==◌, ◌&&◌, not, length, List, [], ◌∷◌, ◌++◌, Bool, true, false, if◌then◌else◌, Option, Some, None, option_map, refl, ap, ◌∙◌, arith}
use Rattle.std.proofs.lemmas.Bool.Decides.{nat_tests}
use Rattle.pg_spec.specs.RawMessages.{RawMessage, is_ready, ends_in}
use Rattle.pg_spec.specs.Copies.{is_opened}
use Rattle.pg_spec.specs.Dialogues.{decided_after}
use Rattle.pg_core.specs.Times.{DecidesInTime}
use Rattle.pg_core.proofs.Requests.{in-time-by}

-- what says the same of all fronts decides at the same place
pub decided-alike : (f g : List RawMessage → Bool) → ((ms : List RawMessage) → f ms ≡ g ms) → (ms : List RawMessage) → decided_after f ms ≡ decided_after g ms
decided-alike f g h [] = refl
decided-alike f g h (m ∷ ms) =
    ap (λ (b : Bool). if b then Some 1 else option_map (λ n. n + 1) (decided_after (λ l. f (m ∷ l)) ms)) (h (m ∷ []))
    ∙ ap (λ (o : Option ℕ). if g (m ∷ []) then Some 1 else option_map (λ n. n + 1) o) (decided-alike (λ l. f (m ∷ l)) (λ l. g (m ∷ l)) (λ l. h (m ∷ l)) ms)

-- how many messages are read, where the first decides or doesn't
abbrev decided-by : Bool → Option ℕ → Option ℕ
decided-by first behind = if first then Some 1 else option_map (λ n. n + 1) behind

one-less : (x y : Option ℕ) → option_map (λ n. n + 1) x ≡ option_map (λ n. n + 1) y → x ≡ y
one-less None None e = refl
one-less None (Some y) e = absurd cc
one-less (Some x) None e = absurd cc
one-less (Some x) (Some y) e = let more : x + 1 ≡ y + 1 = cc in let same : x ≡ y = omega (arith, more) in ap (λ (n : ℕ). Some n) same

later : (b c : Bool) (x y : Option ℕ) → b ≡ false → c ≡ false → decided-by b x ≡ decided-by c y → x ≡ y
later false false x y off none e = one-less x y e
later true c x y off none e = absurd cc
later false true x y off none e = absurd cc

-- where one doesn't decide at a message, what decides at the same place doesn't, and where it does that does
pub decides-as : (f g : List RawMessage → Bool) (m : RawMessage) → ((ms : List RawMessage) → decided_after f ms ≡ decided_after g ms) → g (m ∷ []) ≡ f (m ∷ [])
decides-as f g m same = by (f (m ∷ [])) (g (m ∷ [])) (same (m ∷ []))
  where
    by : (b c : Bool) → decided-by b None ≡ decided-by c None → c ≡ b
    by true true e = refl
    by false false e = refl
    by true false e = absurd cc
    by false true e = absurd cc

-- behind a message at which neither decides, what decides at the same place goes on so
pub decided-behind : (f g : List RawMessage → Bool) (m : RawMessage) → ((ms : List RawMessage) → decided_after f ms ≡ decided_after g ms) → f (m ∷ []) ≡ false →
    (ms : List RawMessage) → decided_after (λ l. f (m ∷ l)) ms ≡ decided_after (λ l. g (m ∷ l)) ms
decided-behind f g m same e ms =
    later (f (m ∷ [])) (g (m ∷ [])) (decided_after (λ l. f (m ∷ l)) ms) (decided_after (λ l. g (m ∷ l)) ms) e (decides-as f g m same ∙ e) (same (m ∷ ms))

-- more that comes leaves an opening answered
pub opened-more : (ms more : List RawMessage) → is_opened ms ≡ true → is_opened (ms ++ more) ≡ true
opened-more [] more h = absurd cc
opened-more (m ∷ []) [] h = h
opened-more (m ∷ []) (x ∷ more) h = refl
opened-more (m ∷ n ∷ ms) more h = refl

-- a ReadyForQuery is no BindComplete
ready-isnt-bound : (tag : ℕ) → (tag == byte "Z") ≡ true → (tag == byte "2") ≡ false
ready-isnt-bound tag e = grind (arith, nat_tests)

-- a ReadyForQuery answers the opening
opened-ready : (ms : List RawMessage) → ends_in is_ready ms ≡ true → is_opened ms ≡ true
opened-ready [] e = absurd cc
opened-ready (m ∷ []) e = ap (λ (b : Bool). not (b && length m.body == 0)) (ready-isnt-bound m.tag e)
opened-ready (m ∷ n ∷ ms) e = refl

-- what decides where the opening is answered decides in time
pub opening-in-time : (decides : List RawMessage → Bool) → ((ms : List RawMessage) → decided_after decides ms ≡ decided_after is_opened ms) → DecidesInTime decides
opening-in-time decides exact ms e = let h = in-time-by is_opened opened-ready ms e in (h.0, exact ms ∙ h.1)
