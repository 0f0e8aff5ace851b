-- The turns that a startup's frames, and more behind them, give the server.
use Rattle.std.proofs.Common.{◌≡◌, ◌≤◌, ◌<◌, ◌+◌, ◌^◌, ℕ, List, [], ◌∷◌, ◌++◌, length, map, drop, Bool, true, false, ◌==◌, Option, Some, None, Ok, inl, inr, refl, sym, ap, ◌∙◌, append_assoc, append-nil, arith, if◌then◌else◌}
use Rattle.std.specs.Prelude.{count_by}
use Rattle.std.specs.List.{concat}
use Rattle.std.specs.Int.{w32, byte_at, to_be_bytes}
use Rattle.std.proofs.lemmas.Bool.{lt-ltb, true≢false, and_right}
use Rattle.std.proofs.lemmas.List.{length-append, drop_all}
use Rattle.pg_promises.specs.Promises.{IsFront}
use Rattle.pg_spec.specs.Bytes.{number_at}
use Rattle.pg_spec.specs.Frames.{ssl_request, untagged, startup_body}
use Rattle.pg_spec.specs.RawMessages.{messages}
use Rattle.pg_spec.specs.Sent.{asked_for_tls, after_ssl_request, behind_length, after_startup_frame, gives_turn, turns_given}
use Rattle.pg_spec.specs.Settings.{Settings, startup_parameters}
use Rattle.pg_spec.proofs.Readers.{number_at-Reader, number_at_front}
use Rattle.pg_startup.specs.Steps.{frame_of}
use Rattle.pg_session.proofs.Caused.Frames.{Written, written, sent-behind}
use Rattle.pg_session.proofs.Opening.Passwords.{ArePasswords, each-turn, few-turns-in, front-passwords, reads-passwords}
use Rattle.pg_session.proofs.Opening.Sent.{cut-front}

-- ---- before a frame is whole

-- a frame that is sent in part has nothing behind it
none-behind : (body t rest : List ℕ) (x : ℕ) → t ++ x ∷ rest ≡ untagged body → 4 + length body < 2 ^ 32 → behind_length t (number_at w32 t) ≡ None
none-behind body t rest x e fits = by (number_at w32 t) refl
  where
    number_in : Option (ℕ × List ℕ) → ℕ
    number_in None = 0
    number_in (Some n) = n.0

    short : length t < 4 + length body
    short = omega (arith, ap length e, length-append t (x ∷ rest), length-append (to_be_bytes w32 (4 + length body)) body)

    by : (o : Option (ℕ × List ℕ)) → number_at w32 t ≡ o → behind_length t o ≡ None
    by None at = refl
    by (Some n) at =
        let whole : number_at w32 (t ++ x ∷ rest) ≡ Some (4 + length body, body) = ap (number_at w32) e ∙ number_at_front (4 + length body) body fits in
        let same : n.0 ≡ 4 + length body = ap number_in (sym (number_at-Reader t n.0 n.1 (x ∷ rest) at) ∙ whole) in
        let low : length t < n.0 = omega (arith, same, short) in
        ap (λ (b : Bool). if b then None else Some (drop n.0 t)) (lt-ltb (length t) n.0 low)

-- a startup frame doesn't go on as an SSLRequest
no-request : (a b c d : ℕ) (body t rest : List ℕ) → t ++ rest ≡ a ∷ b ∷ c ∷ d ∷ 0 ∷ body → asked_for_tls t ≡ false
no-request a b c d body [] rest e = refl
no-request a b c d body (p ∷ []) rest e = and_right (0 == p) _ refl
no-request a b c d body (p ∷ q ∷ []) rest e = and_right (0 == p) _ (and_right (0 == q) _ refl)
no-request a b c d body (p ∷ q ∷ r ∷ []) rest e = and_right (0 == p) _ (and_right (0 == q) _ (and_right (0 == r) _ refl))
no-request a b c d body (p ∷ q ∷ r ∷ s ∷ []) rest e = and_right (0 == p) _ (and_right (0 == q) _ (and_right (0 == r) _ (and_right (8 == s) _ refl)))
no-request a b c d body (p ∷ q ∷ r ∷ s ∷ u ∷ t) rest e =
    let five : u ≡ 0 = cc in
    ap (λ (n : ℕ). asked_for_tls (p ∷ q ∷ r ∷ s ∷ n ∷ t)) five ∙ and_right (0 == p) _ (and_right (0 == q) _ (and_right (0 == r) _ (and_right (8 == s) _ refl)))

-- ---- the turns

-- the turns, by what was asked for and what stands behind the startup frame
abbrev turns_by : Bool → Option (List ℕ) → ℕ
turns_by asked behind = (if asked then 1 else 0) + elim behind [ None ↦ 0 | Some rest ↦ 1 + count_by gives_turn (messages rest) ]

-- without an SSLRequest in front
pub plain-turns : (t : List ℕ) (behind : Option (List ℕ)) → asked_for_tls t ≡ false → behind_length t (number_at w32 t) ≡ behind → turns_given t ≡ turns_by false behind
plain-turns t behind plain is =
    let after : after_ssl_request t ≡ t = ap (λ (b : Bool). if b then drop 8 t else t) plain in
    ap (λ (b : Bool). turns_by b (after_startup_frame t)) plain
    ∙ ap (λ (o : Option (List ℕ)). turns_by false o) (ap (λ (l : List ℕ). behind_length l (number_at w32 l)) after ∙ is)

-- a front of the SSLRequest gives one turn at most
pub request-turns : (t : List ℕ) → IsFront t ssl_request → turns_given t ≤ 1
request-turns t front = by (asked_for_tls t) refl
  where
    low : length t ≤ 8
    low = omega (arith, ap length front.1, length-append t front.0)

    unasked : (rest : List ℕ) → t ++ rest ≡ ssl_request → asked_for_tls t ≡ false → turns_given t ≤ 1
    unasked [] is plain =
        let whole : t ≡ ssl_request = sym (append-nil t) ∙ is in
        absurd (true≢false (ap asked_for_tls (sym whole) ∙ plain))
    unasked (x ∷ rest) is plain =
        let none = plain-turns t None plain (none-behind (4 ∷ 210 ∷ 22 ∷ 47 ∷ []) t rest x is (omega arith)) in omega (arith, none)

    by : (b : Bool) → asked_for_tls t ≡ b → turns_given t ≤ 1
    by true asked =
        let after : after_ssl_request t ≡ [] = ap (λ (b : Bool). if b then drop 8 t else t) asked ∙ drop_all 8 t low in
        let one : turns_given t ≡ 1 =
        ap (λ (b : Bool). turns_by b (after_startup_frame t)) asked ∙ ap (λ (l : List ℕ). turns_by true (behind_length l (number_at w32 l))) after in
        omega (arith, one)
    by false plain = unasked front.0 front.1 plain

-- ---- behind the startup frame

module _ (settings : Settings) (frame : List ℕ) (made : frame_of settings ≡ Ok frame) where
  abbrev body : List ℕ
  body = startup_body (startup_parameters settings)

  frame-is : Written (4 + length body) (untagged body) frame
  frame-is =
      let pairs = startup_parameters settings in
      written (map (λ pair. pair.0) pairs ++ map (λ pair. pair.1) pairs) [] (4 + length body) (untagged body) frame made

  -- a front of the startup frame and more isn't begun by an SSLRequest
  frame-plain : (t rest more : List ℕ) → t ++ rest ≡ frame ++ more → asked_for_tls t ≡ false
  frame-plain t rest more is =
      let n = 4 + length body in
      no-request (byte_at 3 n) (byte_at 2 n) (byte_at 1 n) (byte_at 0 n) (drop 1 body ++ more) t rest
      (is ∙ ap (λ (l : List ℕ). l ++ more) frame-is.same)

  -- a part of the startup frame gives no turn
  part-turns : (t rest : List ℕ) (x : ℕ) → t ++ x ∷ rest ≡ frame → turns_given t ≤ 1
  part-turns t rest x is =
      let plain = frame-plain t (x ∷ rest) [] (is ∙ sym (append-nil frame)) in
      let short = frame-is.short in
      let none = plain-turns t None plain (none-behind body t rest x (is ∙ frame-is.same) (omega (arith, short))) in omega (arith, none)

  -- the startup frame gives one, and each request behind it one more
  behind-turns : (t more : List ℕ) → t ≡ frame ++ more → turns_given t ≡ 1 + count_by gives_turn (messages more)
  behind-turns t more is =
      let plain = frame-plain t [] more (append-nil t ∙ is) in
      let after : after_startup_frame t ≡ Some more = ap after_startup_frame is ∙ sent-behind settings frame more made in
      let turns : turns_given t ≡ turns_by false (Some more) =
      ap (λ (b : Bool). turns_by b (after_startup_frame t)) plain ∙ ap (λ (o : Option (List ℕ)). turns_by false o) after in
      omega (arith, turns)

  -- a front of the startup frame
  pub front-turns : (t : List ℕ) → IsFront t frame → turns_given t ≤ 1
  front-turns t front = by front.0 front.1
    where
      by : (rest : List ℕ) → t ++ rest ≡ frame → turns_given t ≤ 1
      by [] is =
          let one : turns_given t ≡ 1 + count_by gives_turn (messages []) = behind-turns t [] (sym (append-nil t) ∙ is ∙ sym (append-nil frame)) in
          omega (arith, one)
      by (x ∷ rest) is = part-turns t rest x is

  -- ---- and passwords behind it

  module _ (passwords : List (List ℕ)) (all : ArePasswords passwords) where
    -- each frame gives one, and each request behind them one more
    pub opening-turns : (t more : List ℕ) → t ≡ (frame ++ concat passwords) ++ more → turns_given t ≡ 1 + (length passwords + count_by gives_turn (messages more))
    opening-turns t more is =
        let one = behind-turns t (concat passwords ++ more) (is ∙ append_assoc frame (concat passwords) more) in
        let said = ap (count_by gives_turn) (reads-passwords passwords more all) ∙ each-turn passwords all (messages more) in
        omega (arith, one, said)

    -- a front of the frames gives no more than there are
    pub startup-turns : (t : List ℕ) → IsFront t (frame ++ concat passwords) → turns_given t ≤ 1 + length passwords
    startup-turns t front = elim (cut-front t front.0 frame (concat passwords) front.1) [
      | inl part ↦ let one = front-turns t part in omega (arith, one)
      | inr w ↦
          let turns = behind-turns t w.0 w.1 in
          let few = few-turns-in (messages w.0) in
          let most = (front-passwords passwords w.0 front.0 all w.2).count in
          omega (arith, turns, few, most)
    ]
