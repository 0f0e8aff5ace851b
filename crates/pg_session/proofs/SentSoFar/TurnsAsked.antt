-- What was sent gives no more turns than frames were written and units sent.
use Rattle.std.proofs.Common.{◌≡◌, ◌≤◌, ◌+◌, ℕ, List, [], ◌∷◌, ◌++◌, length, Bool, true, false, not, cond, ◌||◌, ◌==◌, Option, Some, None, Result, Ok, Err, ◌⊎◌, inl, inr, refl, sym, ap, subst, ◌∙◌, append_assoc, append-nil, arith}
use Rattle.std.specs.Prelude.{count_by, filter}
use Rattle.std.specs.List.{concat, list_all, list_any, AllByRecursion}
use Rattle.std.specs.Str.{byte}
use Rattle.std.proofs.lemmas.Bool.{eqb-true}
use Rattle.std.proofs.lemmas.List.Sums.{sum_by-cons}
use Rattle.pg_spec.specs.Book.{wire}
use Rattle.pg_spec.specs.Settings.{Settings}
use Rattle.pg_spec.specs.Faults.{FrameFault}
use Rattle.pg_spec.specs.RawMessages.{RawMessage, messages, cut_after, ends_in}
use Rattle.pg_spec.specs.Sent.{after_startup_frame, asked_for_tls, ends_unit, gives_turn, is_password, messages_if, turns_given, units, whole_units}
use Rattle.pg_spec.specs.Startup.{Startup, Done, First, begun_by, dialogue, plain_login}
use Rattle.pg_promises.specs.Causes.{NeedsNoTls, startup_after}
use Rattle.pg_promises.specs.Promises.{IsFront}
use Rattle.pg_promises.specs.Calls.{Call, apart}
use Rattle.pg_promises.specs.FailedCauses.{is_flush}
use Rattle.pg_promises.specs.FailedLanded.{has_flush}
use Rattle.pg_promises.specs.Sent.{SentInOrder, goodbye}
use Rattle.pg_startup.specs.Steps.{frame_of}
use Rattle.pg_session.specs.Speeches.{BookWhole, Speech, meaning_of}
use Rattle.pg_session.proofs.Caused.Frames.{frames-behind}
use Rattle.pg_session.proofs.Complete.Bytes.{none-front}
use Rattle.pg_session.proofs.Complete.Groups.{ended-pieces, few-ends, few-units-whole}
use Rattle.pg_session.proofs.Crossing.Groups.{both-true}
use Rattle.pg_session.proofs.Opening.Passwords.{ArePasswords, all-passwords, dialogue-passwords, front-passwords, none-asked, passwords-in, reads-passwords}
use Rattle.pg_session.proofs.Opening.Sent.{cut-front, opening-units}
use Rattle.pg_session.proofs.Opening.Turns.{opening-turns, startup-turns, front-turns}
use Rattle.pg_session.proofs.SentSoFar.TurnsCounted.{front-fair, is_fair, turns-in-units}
use Rattle.pg_session.proofs.SentSoFar.Whole.{IsOneRequest, booked-whole}

-- No more turns than frames and units; where a unit was sent whole, each frame gave a turn, and each unit; and no Flush was sent.
pub record HasFewTurns (t : List ℕ) (frames : ℕ) : Type 0 where
  pub units : turns_given t ≤ frames + length (units t)
  pub whole : (whole_units t ≡ 0) ⊎ (frames + whole_units t ≤ turns_given t)
  pub no_flush : has_flush t ≡ false

-- a Flush gives a turn
flush-turns : (ms : List RawMessage) → count_by gives_turn ms ≡ 0 → list_any is_flush ms ≡ false
flush-turns [] none = refl
flush-turns (m ∷ ms) none = by (is_flush m) refl (flush-turns ms)
  where
    counts : count_by gives_turn (m ∷ ms) ≡ cond (gives_turn m) 1 0 + count_by gives_turn ms
    counts = sum_by-cons (λ (x : RawMessage). cond (gives_turn x) 1 0) m ms

    last : (a b : Bool) → is_flush m ≡ true → (a || b || (m.tag == byte "H")) ≡ true
    last true b is = refl
    last false true is = refl
    last false false is = is

    by : (b : Bool) → is_flush m ≡ b → (count_by gives_turn ms ≡ 0 → list_any is_flush ms ≡ false) → (b || list_any is_flush ms) ≡ false
    by true is rest = absurd (let one : ◌≡◌ {A = ℕ} (cond (gives_turn m) 1 0) 1 = ap (λ (b : Bool). let n : ℕ = cond b 1 0 in n) (last (is_password m) (ends_unit m) is) in omega (arith, none, counts, one))
    by false is rest = rest (omega (arith, none, counts))

-- where at most the startup's frame was sent, none was
few-flush : (t : List ℕ) → turns_given t ≤ 1 → has_flush t ≡ false
few-flush t few = by (after_startup_frame t) refl
  where
    by : (o : Option (List ℕ)) → after_startup_frame t ≡ o → list_any is_flush (messages_if o) ≡ false
    by None is = refl
    by (Some rest) is =
        let turns : turns_given t ≡ cond (asked_for_tls t) 1 0 + (1 + count_by gives_turn (messages rest)) =
        ap (λ (o : Option (List ℕ)). cond (asked_for_tls t) 1 0 + elim o as (λ _. ℕ) [ None ↦ 0 | Some rest ↦ 1 + count_by gives_turn (messages rest) ]) is in
        flush-turns (messages rest) (omega (arith, few, turns))

-- passwords are none
password-flush : (ms : List RawMessage) → list_all is_password ms ≡ true → list_any is_flush ms ≡ false
password-flush [] all = refl
password-flush (m ∷ ms) all =
    let b = both-true (is_password m) (list_all is_password ms) all in
    ap (λ (x : Bool). x || list_any is_flush ms) (ap (λ (tag : ℕ). tag == byte "H") (eqb-true m.tag (byte "p") b.0)) ∙ password-flush ms b.1

-- nor is any frame of a whole request, or Terminate
fair-flush : (ms : List RawMessage) → list_all is_fair ms ≡ true → list_any is_flush ms ≡ false
fair-flush [] all = refl
fair-flush (m ∷ ms) all =
    let b = both-true (is_fair m) (list_all is_fair ms) all in
    ap (λ (x : Bool). x || list_any is_flush ms) (by (is_flush m) refl b.0) ∙ fair-flush ms b.1
  where
    by : (b : Bool) → is_flush m ≡ b → is_fair m ≡ true → is_flush m ≡ false
    by false is fair = is
    by true is fair =
        let tag : m.tag ≡ byte "H" = eqb-true m.tag (byte "H") is in
        absurd (let no : false ≡ true = ap (λ (n : ℕ). is_fair (record { tag = n; body = m.body })) (sym tag) ∙ fair in cc)

both-flush : (xs ys : List RawMessage) → list_any is_flush xs ≡ false → list_any is_flush ys ≡ false → list_any is_flush (xs ++ ys) ≡ false
both-flush [] ys a b = b
both-flush (x ∷ xs) ys a b = by (is_flush x) a (λ rest. both-flush xs ys rest b)
  where
    by : (t : Bool) → (t || list_any is_flush xs) ≡ false → (list_any is_flush xs ≡ false → list_any is_flush (xs ++ ys) ≡ false) → (t || list_any is_flush (xs ++ ys)) ≡ false
    by true a rest = absurd cc
    by false a rest = rest a

no-turn : (t : List ℕ) (frames : ℕ) → turns_given t ≡ 0 → HasFewTurns t frames
no-turn t frames none =
    let few = few-units-whole t in
    record { units = omega (arith, none); whole = inl (omega (arith, few, none)); no_flush = few-flush t (omega (arith, none)) }

-- the units of some messages, which are sent behind the startup's frames
abbrev units_of : List RawMessage → List (List RawMessage)
units_of ms = cut_after ends_unit (filter (λ frame. not (is_password frame)) ms)

module _ (settings : Settings) (frame : List ℕ) (made : frame_of settings ≡ Ok frame) (passwords : List (List ℕ)) (all : ArePasswords passwords) where
  -- a front of the startup's frames
  in-startup : (t : List ℕ) → IsFront t (frame ++ concat passwords) → HasFewTurns t (1 + length passwords)
  in-startup t front =
      let most = startup-turns settings frame made passwords all t front in
      record { units = omega (arith, most); whole = inl none; no_flush = silent }
    where
      silent : has_flush t ≡ false
      silent = elim (cut-front t front.0 frame (concat passwords) front.1) [
        | inl part ↦ few-flush t (front-turns settings frame made t part)
        | inr w ↦
            let said = (front-passwords passwords w.0 front.0 all w.2).all in
            ap has_flush w.1 ∙ ap (list_any is_flush) (frames-behind settings frame w.0 made) ∙ password-flush (messages w.0) said
      ]

      none : whole_units t ≡ 0
      none = elim (cut-front t front.0 frame (concat passwords) front.1) [
        | inl part ↦ let one = front-turns settings frame made t part in let few = few-units-whole t in omega (arith, one, few)
        | inr w ↦
            let said = (front-passwords passwords w.0 front.0 all w.2).all in
            ap whole_units w.1 ∙ ap (λ (ms : List RawMessage). count_by (ends_in ends_unit) (units_of ms)) (frames-behind settings frame w.0 made ∙ sym (append-nil (messages w.0)))
            ∙ ap (λ (ms : List RawMessage). count_by (ends_in ends_unit) (cut_after ends_unit ms)) (none-asked (messages w.0) [] said)
      ]

  -- all of them, and a front of requests and Terminate
  behind-startup : (t more : List ℕ) → t ≡ (frame ++ concat passwords) ++ more → list_all is_fair (messages more) ≡ true → HasFewTurns t (1 + length passwords)
  behind-startup t more is fair =
      let ms = messages more in
      let turns = opening-turns settings frame made passwords all t more is in
      let said : units t ≡ units_of ms =
      ap units is ∙ opening-units settings (frame ++ concat passwords) (record { frame = frame; made = made; passwords = passwords; all = all; bytes = refl }) more in
      let whole : whole_units t ≡ count_by ends_unit (filter (λ f. not (is_password f)) ms) =
      ap (λ (us : List (List RawMessage)). count_by (ends_in ends_unit) us) said ∙ ended-pieces ends_unit (filter (λ f. not (is_password f)) ms) in
      record {
        units = omega (arith, turns, ap length said, turns-in-units ms fair);
        whole = inr (omega (arith, turns, whole, few-ends ms));
        no_flush = ap has_flush (is ∙ append_assoc frame (concat passwords) more) ∙ ap (list_any is_flush) (frames-behind settings frame (concat passwords ++ more) made ∙ reads-passwords passwords more all)
            ∙ both-flush (passwords-in passwords all) ms (password-flush (passwords-in passwords all) (all-passwords passwords all)) (fair-flush ms fair);
      }

-- ---- all that was sent

module _ {C T A E : Type 0} (speech : Speech C T A E) (requests : BookWhole speech) (call : Call C) (settings : Settings) (g t : List ℕ) (plain : NeedsNoTls settings) (h : SentInOrder (meaning_of speech) call settings g t) where
  abbrev behind : Startup
  behind = dialogue (plain_login settings call.nonce) First (messages g)

  abbrev begun : Result (List ℕ) FrameFault → Startup
  begun r = begun_by r behind

  abbrev frames : List (List ℕ)
  frames = (startup_after (apart call) settings g).frames

  booked : AllByRecursion (λ b. IsOneRequest b.parts) h.book
  booked = booked-whole speech requests call.scripts _ h.order

  no-turns : t ≡ [] → HasFewTurns t (length frames)
  no-turns none = no-turn t (length frames) (ap turns_given none)

  module _ (frame : List ℕ) (made : frame_of settings ≡ Ok frame) where
    passwords-are : ArePasswords behind.frames
    passwords-are = dialogue-passwords (plain_login settings call.nonce) First (messages g)

    frames-are : frames ≡ frame ∷ behind.frames
    frames-are = ap (λ (r : Result (List ℕ) FrameFault). (begun r).frames) made

    in-front : IsFront t (concat frames) → HasFewTurns t (1 + length behind.frames)
    in-front front = in-startup settings frame made behind.frames passwords-are t (front.0, front.1 ∙ ap concat frames-are)

    later : IsFront t (concat frames ++ wire h.book ++ goodbye h.book) → HasFewTurns t (1 + length behind.frames)
    later front =
        let opening = frame ++ concat behind.frames in
        let behind-them = wire h.book ++ goodbye h.book in
        let is : t ++ front.0 ≡ opening ++ behind-them = front.1
        ∙ ap (λ (l : List (List ℕ)). (concat l ++ wire h.book) ++ goodbye h.book) frames-are ∙ append_assoc opening (wire h.book) (goodbye h.book) in
        elim (cut-front t front.0 opening behind-them is) [
          | inl part ↦ in-startup settings frame made behind.frames passwords-are t part
          | inr w ↦ behind-startup settings frame made behind.frames passwords-are t w.0 w.1 (front-fair h.book w.0 front.0 booked w.2)
        ]

    written : HasFewTurns t (1 + length behind.frames)
    written = elim h.front [
      | inl none ↦ no-turn t (1 + length behind.frames) (ap turns_given none)
      | inr (inl tls) ↦ absurd (plain tls.0.0)
      | inr (inr (free, inl front)) ↦ in-front front
      | inr (inr (free, inr w)) ↦ later w.1
    ]

  -- the frame was refused: nothing was sent
  unwritten : (fault : FrameFault) → frame_of settings ≡ Err fault → HasFewTurns t (length frames)
  unwritten fault refused = elim h.front [
    | inl none ↦ no-turns none
    | inr (inl tls) ↦ absurd (plain tls.0.0)
    | inr (inr (free, inl front)) ↦ no-turns (none-front t front.0 (front.1 ∙ ap (λ (r : Result (List ℕ) FrameFault). concat (begun r).frames) refused))
    | inr (inr (free, inr w)) ↦ absurd (let no : (begun (Err fault)).outcome ≡ Done w.0.0 = sym (ap (λ (r : Result (List ℕ) FrameFault). (begun r).outcome) refused) ∙ w.0.1 in cc)
  ]

  pub few-turns : HasFewTurns t (length (startup_after (apart call) settings g).frames)
  few-turns = by (frame_of settings) refl
    where
      by : (r : Result (List ℕ) FrameFault) → frame_of settings ≡ r → HasFewTurns t (length frames)
      by (Ok frame) made =
          let count : 1 + length behind.frames ≡ length frames = omega (arith, ap length (frames-are frame made)) in
          subst (λ (n : ℕ). HasFewTurns t n) count (written frame made)
      by (Err fault) refused = unwritten fault refused
