-- What the bytes of a startup's frames, and of more behind them, are cut into.
use Rattle.std.proofs.Common.{◌≡◌, ◌≤◌, ℕ, List, [], ◌∷◌, ◌++◌, length, true, false, not, ◌==◌, ◌⊎◌, inl, inr, refl, sym, ap, ◌∙◌, append_assoc, append-nil, arith}
use Rattle.std.specs.Prelude.{filter}
use Rattle.std.specs.List.{concat, list_all}
use Rattle.std.specs.Str.{byte}
use Rattle.std.proofs.lemmas.Bool.{eqb-true}
use Rattle.pg_promises.specs.Promises.{IsFront}
use Rattle.pg_spec.specs.RawMessages.{RawMessage, messages, cut_after, ends_in}
use Rattle.pg_spec.specs.Sent.{tagged_frames, units, ends_unit, is_password, is_terminate, said_terminate}
use Rattle.pg_spec.specs.Settings.{Settings}
use Rattle.pg_session.proofs.Caused.Frames.{frames-behind, cut-short, filter-short}
use Rattle.pg_session.proofs.Caused.StartSent.{silent_front}
use Rattle.pg_session.proofs.Crossing.Groups.{both-true}
use Rattle.pg_session.proofs.Opening.{IsOpening}
use Rattle.pg_session.proofs.Opening.Passwords.{all-passwords, front-passwords, none-asked, passwords-in, reads-passwords}

-- a front of joined lists is a front of the first, or the first and a front of the second
pub cut-front : (t rest a b : List ℕ) → t ++ rest ≡ a ++ b → IsFront t a ⊎ ((more : List ℕ) × (t ≡ a ++ more) × (more ++ rest ≡ b))
cut-front t rest [] b e = inr (t, refl, e)
cut-front [] rest (x ∷ a) b e = inl (x ∷ a, refl)
cut-front (y ∷ t) rest (x ∷ a) b e =
    let head : y ≡ x = cc in
    let tail : t ++ rest ≡ a ++ b = cc in
    elim (cut-front t rest a b tail) [
      | inl w ↦ inl (w.0, cc (head, w.1))
      | inr w ↦ inr (w.0, cc (head, w.1), w.2)
    ]

-- ---- a password isn't Terminate

no-end : (tag : ℕ) → (tag == byte "p") ≡ true → (tag == byte "X") ≡ false
no-end tag e = ap (λ (x : ℕ). x == byte "X") (eqb-true tag (byte "p") e)

-- behind passwords what was said last is what was said behind them
ends-behind : (ms more : List RawMessage) → list_all is_password ms ≡ true → ends_in is_terminate more ≡ false → ends_in is_terminate (ms ++ more) ≡ false
ends-behind [] more all none = none
ends-behind (m ∷ []) [] all none = no-end m.tag (both-true (is_password m) true all).0
ends-behind (m ∷ []) (x ∷ more) all none = none
ends-behind (m ∷ n ∷ ms) more all none = ends-behind (n ∷ ms) more (both-true (is_password m) (list_all is_password (n ∷ ms)) all).1 none

module _ (settings : Settings) (opening : List ℕ) (o : IsOpening settings opening) where
  abbrev said : List RawMessage
  said = passwords-in o.passwords o.all

  -- ---- the startup's frames, and more behind them

  -- the tagged frames
  pub opening-frames : (more : List ℕ) → tagged_frames (opening ++ more) ≡ said ++ messages more
  opening-frames more =
      ap (λ (x : List ℕ). tagged_frames (x ++ more)) o.bytes ∙ ap tagged_frames (append_assoc o.frame (concat o.passwords) more)
      ∙ frames-behind settings o.frame (concat o.passwords ++ more) o.made ∙ reads-passwords o.passwords more o.all

  -- the units are those behind
  pub opening-units : (more : List ℕ) → units (opening ++ more) ≡ cut_after ends_unit (filter (λ frame. not (is_password frame)) (messages more))
  opening-units more =
      ap (λ (ms : List RawMessage). cut_after ends_unit (filter (λ frame. not (is_password frame)) ms)) (opening-frames more)
      ∙ ap (λ (ms : List RawMessage). cut_after ends_unit ms) (none-asked said (messages more) (all-passwords o.passwords o.all))

  -- no more of them than frames behind
  pub few-units : (more : List ℕ) → length (units (opening ++ more)) ≤ length (messages more)
  few-units more = omega (
    arith,
    ap length (opening-units more),
    cut-short ends_unit (filter (λ frame. not (is_password frame)) (messages more)),
    filter-short (λ frame. not (is_password frame)) (messages more),
  )

  pub silent-behind : (more : List ℕ) → ends_in is_terminate (messages more) ≡ false → said_terminate (opening ++ more) ≡ false
  silent-behind more none = ap (ends_in is_terminate) (opening-frames more) ∙ ends-behind said (messages more) (all-passwords o.passwords o.all) none

  -- ---- a front of the startup's frames

  -- it says no Terminate
  pub silent-front : (t more : List ℕ) → t ++ more ≡ opening → said_terminate t ≡ false
  silent-front t more is = elim (cut-front t more o.frame (concat o.passwords) (is ∙ o.bytes)) [
    | inl part ↦ silent_front settings o.frame t part.0 o.made part.1
    | inr w ↦
        ap said_terminate w.1 ∙ ap (ends_in is_terminate) (frames-behind settings o.frame w.0 o.made ∙ sym (append-nil (messages w.0)))
        ∙ ends-behind (messages w.0) [] (front-passwords o.passwords w.0 more o.all w.2).all refl
  ]
