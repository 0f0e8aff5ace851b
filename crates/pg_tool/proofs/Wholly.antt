-- What commands that book whole requests sent gives no more turns than frames were written and requests booked.
use Rattle.std.proofs.Common.{◌≡◌, ◌≤◌, ◌+◌, ◌⊎◌, ℕ, List, [], ◌∷◌, ◌++◌, length, Bool, true, false, cond, if◌then◌else◌, Result, Ok, Err, inl, inr, refl, sym, ap, subst, ◌∙◌, append_assoc, append-nil, arith}
use Rattle.std.specs.Prelude.{count_by}
use Rattle.std.specs.List.{concat, list_all, AllByRecursion}
use Rattle.std.proofs.lemmas.List.Sums.{sum_by-append, sum_by-cons}
use Rattle.pg_spec.specs.Book.{Booking, wire}
use Rattle.pg_spec.specs.Faults.{FrameFault}
use Rattle.pg_spec.specs.Frames.{terminate_frame}
use Rattle.pg_spec.specs.RawMessages.{RawMessage, messages, bytes_left}
use Rattle.pg_spec.specs.Sent.{gives_turn, turns_given}
use Rattle.pg_spec.specs.Settings.{Settings}
use Rattle.pg_spec.specs.Startup.{Startup, Done, First, begun_by, dialogue, plain_login}
use Rattle.pg_spec.proofs.MessageLaws.{messages-append}
use Rattle.pg_promises.specs.Calls.{Call, apart}
use Rattle.pg_promises.specs.Causes.{NeedsNoTls, startup_after}
use Rattle.pg_promises.specs.Promises.{IsFront}
use Rattle.pg_promises.specs.Sent.{SentInOrder, goodbye, is_ended}
use Rattle.pg_startup.specs.Steps.{frame_of}
use Rattle.pg_session.specs.Speeches.{BookWhole, EndsAlone, EndsInSync, Speech, meaning_of}
use Rattle.pg_session.proofs.Complete.Bytes.{none-front}
use Rattle.pg_session.proofs.Opening.Passwords.{ArePasswords, dialogue-passwords}
use Rattle.pg_session.proofs.Opening.Sent.{cut-front}
use Rattle.pg_session.proofs.Opening.Turns.{opening-turns, startup-turns}
use Rattle.pg_session.proofs.SentSoFar.Whole.{IsOneRequest, booked-whole}

-- ---- the turns of a book

counts : (m : RawMessage) (ms : List RawMessage) → count_by gives_turn (m ∷ ms) ≡ cond (gives_turn m) 1 0 + count_by gives_turn ms
counts m ms = sum_by-cons (λ (x : RawMessage). cond (gives_turn x) 1 0) m ms

one-turn : (b : Bool) → cond b 1 0 ≤ 1
one-turn true = omega arith
one-turn false = omega arith

single : (m : RawMessage) → count_by gives_turn (m ∷ []) ≤ 1
single m = let one = one-turn (gives_turn m) in omega (arith, one, counts m [])

-- where its first message gives none
behind-quiet : (m : RawMessage) (ms : List RawMessage) → gives_turn m ≡ false → count_by gives_turn ms ≤ 1 → count_by gives_turn (m ∷ ms) ≤ 1
behind-quiet m ms quiet few =
    let none : ◌≡◌ {A = ℕ} (cond (gives_turn m) 1 0) 0 = ap (λ (b : Bool). let n : ℕ = cond b 1 0 in n) quiet in
    omega (arith, none, few, counts m ms)

synced-turns : (ms : List RawMessage) → EndsInSync ms → count_by gives_turn ms ≤ 1
synced-turns [] h = absurd h
synced-turns (m ∷ []) h = single m
synced-turns (m ∷ n ∷ ms) h = behind-quiet m (n ∷ ms) h.0 (synced-turns (n ∷ ms) h.3)

-- a whole request gives one
request-turns : (ms : List RawMessage) → EndsAlone ms → count_by gives_turn ms ≤ 1
request-turns [] h = absurd h
request-turns (m ∷ []) h = single m
request-turns (m ∷ n ∷ ms) h = synced-turns (m ∷ n ∷ ms) h

goodbye-turns : (said : Bool) → count_by gives_turn (messages (if said then terminate_frame else [])) ≡ 0
goodbye-turns true = refl
goodbye-turns false = refl

book-turns : (book : List Booking) (behind : List ℕ) → AllByRecursion (λ b. IsOneRequest b.parts) book → count_by gives_turn (messages behind) ≡ 0 →
    count_by gives_turn (messages (wire book ++ behind)) ≤ length book
book-turns [] behind h none = omega (arith, none)
book-turns (b ∷ book) behind (one, h) none =
    let others = wire book ++ behind in
    let bytes : concat b.parts ≡ one.part = ap concat one.alone ∙ append-nil one.part in
    let read : messages (wire (b ∷ book) ++ behind) ≡ messages one.part ++ messages others =
    ap (λ (x : List ℕ). messages ((x ++ wire book) ++ behind)) bytes ∙ ap messages (append_assoc one.part (wire book) behind)
    ∙ messages-append one.part others ∙ ap (λ (x : List ℕ). messages one.part ++ messages (x ++ others)) one.is.whole in
    let first = request-turns (messages one.part) one.is.frames in
    let rest = book-turns book behind h none in
    omega (arith, first, rest, ap (λ (ms : List RawMessage). count_by gives_turn ms) read, sum_by-append (λ (x : RawMessage). cond (gives_turn x) 1 0) (messages one.part) (messages others))

-- what was taken of it
front-turns : (book : List Booking) (more unsent : List ℕ) → AllByRecursion (λ b. IsOneRequest b.parts) book → more ++ unsent ≡ wire book ++ goodbye book →
    count_by gives_turn (messages more) ≤ length book
front-turns book more unsent h is =
    let others = messages (bytes_left more ++ unsent) in
    let cut : messages (wire book ++ goodbye book) ≡ messages more ++ others = ap messages (sym is) ∙ messages-append more unsent in
    let all = book-turns book (goodbye book) h (goodbye-turns (list_all is_ended book)) in
    omega (arith, all, ap (λ (ms : List RawMessage). count_by gives_turn ms) cut, sum_by-append (λ (x : RawMessage). cond (gives_turn x) 1 0) (messages more) others)

-- ---- all that was sent

-- Each turn is a frame's of the startup; or the startup is done, and a turn is a frame's or a request's.
abbrev pub HasFew : (turns frames requests : ℕ) → (over : Type 0) → Type 0
HasFew turns frames requests over = (turns ≤ frames) ⊎ (over × (turns ≤ frames + requests))

module _ {C T A E : Type 0} (speech : Speech C T A E) (requests : BookWhole speech) (call : Call C) (settings : Settings) (g t : List ℕ) (plain : NeedsNoTls settings) (h : SentInOrder (meaning_of speech) call settings g t) where
  abbrev behind : Startup
  behind = dialogue (plain_login settings call.nonce) First (messages g)

  abbrev begun : Result (List ℕ) FrameFault → Startup
  begun r = begun_by r behind

  abbrev frames : List (List ℕ)
  frames = (startup_after (apart call) settings g).frames

  abbrev pub IsOver : Type 0
  IsOver = (used : ℕ) × ((startup_after (apart call) settings g).outcome ≡ Done used)

  whole-book : AllByRecursion (λ b. IsOneRequest b.parts) h.book
  whole-book = booked-whole speech requests call.scripts _ h.order

  no-turn : (n : ℕ) → t ≡ [] → HasFew (turns_given t) n (length h.book) IsOver
  no-turn n none = inl (let turns : turns_given t ≡ 0 = ap turns_given none in omega (arith, turns))

  module _ (frame : List ℕ) (made : frame_of settings ≡ Ok frame) where
    passwords-are : ArePasswords behind.frames
    passwords-are = dialogue-passwords (plain_login settings call.nonce) First (messages g)

    frames-are : frames ≡ frame ∷ behind.frames
    frames-are = ap (λ (r : Result (List ℕ) FrameFault). (begun r).frames) made

    in-startup : IsFront t (frame ++ concat behind.frames) → HasFew (turns_given t) (1 + length behind.frames) (length h.book) IsOver
    in-startup front = inl (startup-turns settings frame made behind.frames passwords-are t front)

    later : IsOver → IsFront t (concat frames ++ wire h.book ++ goodbye h.book) → HasFew (turns_given t) (1 + length behind.frames) (length h.book) IsOver
    later over front =
        let opening = frame ++ concat behind.frames in
        let behind-them = wire h.book ++ goodbye h.book in
        let is : t ++ front.0 ≡ opening ++ behind-them = front.1
        ∙ ap (λ (l : List (List ℕ)). (concat l ++ wire h.book) ++ goodbye h.book) frames-are ∙ append_assoc opening (wire h.book) (goodbye h.book) in
        elim (cut-front t front.0 opening behind-them is) [
          | inl part ↦ in-startup part
          | inr w ↦
              let turns = opening-turns settings frame made behind.frames passwords-are t w.0 w.1 in
              let few = front-turns h.book w.0 front.0 whole-book w.2 in
              inr (over, omega (arith, turns, few))
        ]

    written : HasFew (turns_given t) (1 + length behind.frames) (length h.book) IsOver
    written = elim h.front [
      | inl none ↦ no-turn (1 + length behind.frames) none
      | inr (inl tls) ↦ absurd (plain tls.0.0)
      | inr (inr (free, inl front)) ↦ in-startup (front.0, front.1 ∙ ap concat frames-are)
      | inr (inr (free, inr w)) ↦ later w.0 w.1
    ]

  -- the frame was refused: nothing was sent
  unwritten : (fault : FrameFault) → frame_of settings ≡ Err fault → HasFew (turns_given t) (length frames) (length h.book) IsOver
  unwritten fault refused = elim h.front [
    | inl none ↦ no-turn (length frames) none
    | inr (inl tls) ↦ absurd (plain tls.0.0)
    | inr (inr (free, inl front)) ↦ no-turn (length frames) (none-front t front.0 (front.1 ∙ ap (λ (r : Result (List ℕ) FrameFault). concat (begun r).frames) refused))
    | inr (inr (free, inr w)) ↦ absurd (let no : (begun (Err fault)).outcome ≡ Done w.0.0 = sym (ap (λ (r : Result (List ℕ) FrameFault). (begun r).outcome) refused) ∙ w.0.1 in cc)
  ]

  pub wholly-few : HasFew (turns_given t) (length (startup_after (apart call) settings g).frames) (length h.book) IsOver
  wholly-few = by (frame_of settings) refl
    where
      by : (r : Result (List ℕ) FrameFault) → frame_of settings ≡ r → HasFew (turns_given t) (length frames) (length h.book) IsOver
      by (Ok frame) made =
          let count : 1 + length behind.frames ≡ length frames = omega (arith, ap length (frames-are frame made)) in
          subst (λ (n : ℕ). HasFew (turns_given t) n (length h.book) IsOver) count (written frame made)
      by (Err fault) refused = unwritten fault refused
