-- What simple queries sent gives no more turns than frames were written and requests asked.
use Rattle.std.proofs.Common.{◌≡◌, ◌<◌, ◌≤◌, ◌+◌, ℕ, List, [], ◌∷◌, ◌++◌, length, Result, Ok, Err, inl, inr, refl, sym, ap, subst, ◌∙◌, append_assoc, arith}
use Rattle.std.specs.List.{concat, AllByRecursion}
use Rattle.std.proofs.lemmas.List.Elements.{recursion_from_All}
use Rattle.pg_spec.specs.Book.{Booking, wire}
use Rattle.pg_promises.specs.Causes.{Call, NeedsNoTls, startup_after}
use Rattle.pg_spec.specs.Settings.{Settings}
use Rattle.pg_spec.specs.Faults.{FrameFault}
use Rattle.pg_spec.specs.Frames.{terminate_frame}
use Rattle.pg_promises.specs.Promises.{IsFront, SentInOrder, requests_in}
use Rattle.pg_spec.specs.RawMessages.{messages}
use Rattle.pg_spec.specs.Sent.{turns_given}
use Rattle.pg_spec.specs.Startup.{Startup, Done, First, begun_by, dialogue, plain_login}
use Rattle.pg_startup.specs.Steps.{frame_of}
use Rattle.pg_session.proofs.Complete.Bytes.{none-front}
use Rattle.pg_session.proofs.Opening.Passwords.{ArePasswords, dialogue-passwords}
use Rattle.pg_session.proofs.Opening.Sent.{cut-front}
use Rattle.pg_session.proofs.Opening.Turns.{opening-turns, startup-turns}
use Rattle.pg_table.proofs.Counted.{SaysFew, booked-queries, few-booked, front-few}

module _ (settings : Settings) (frame : List ℕ) (made : frame_of settings ≡ Ok frame) (passwords : List (List ℕ)) (all : ArePasswords passwords) where
  -- a front of the startup's frames
  in-startup : (t : List ℕ) (n : ℕ) → IsFront t (frame ++ concat passwords) → turns_given t ≤ (1 + length passwords) + n
  in-startup t n front = let most = startup-turns settings frame made passwords all t front in omega (arith, most)

  -- all of them, and a front of requests and Terminate
  behind-startup : (t more : List ℕ) (many asked : ℕ) → t ≡ (frame ++ concat passwords) ++ more → SaysFew many (messages more) → many ≤ asked → turns_given t ≤ (1 + length passwords) + asked
  behind-startup t more many asked is few low = let turns = opening-turns settings frame made passwords all t more is in let most = few.turns in omega (arith, turns, most, low)

module _ (call : Call) (settings : Settings) (g t : List ℕ) (plain : NeedsNoTls settings) (h : SentInOrder call settings g t) where
  abbrev behind : Startup
  behind = dialogue (plain_login settings call.nonce) First (messages g)

  abbrev begun : Result (List ℕ) FrameFault → Startup
  begun r = begun_by r behind

  abbrev frames : List (List ℕ)
  frames = (startup_after call settings g).frames

  abbrev most : ℕ
  most = requests_in call.scripts

  owners : AllByRecursion (λ (b : Booking). b.stamp.owner < length call.scripts) h.book
  owners = recursion_from_All (λ (b : Booking). b.stamp.owner < length call.scripts) h.book h.owners

  no-turn : (n : ℕ) → t ≡ [] → turns_given t ≤ n + most
  no-turn n none = let turns : turns_given t ≡ 0 = ap turns_given none in omega (arith, turns)

  asked : length h.book ≤ most
  asked = few-booked call.scripts h.book owners h.order

  module _ (frame : List ℕ) (made : frame_of settings ≡ Ok frame) where
    passwords-are : ArePasswords behind.frames
    passwords-are = dialogue-passwords (plain_login settings call.nonce) First (messages g)

    frames-are : frames ≡ frame ∷ behind.frames
    frames-are = ap (λ (r : Result (List ℕ) FrameFault). (begun r).frames) made

    in-front : IsFront t (concat frames) → turns_given t ≤ (1 + length behind.frames) + most
    in-front front = in-startup settings frame made behind.frames passwords-are t most (front.0, front.1 ∙ ap concat frames-are)

    later : IsFront t (concat frames ++ wire h.book ++ terminate_frame) → turns_given t ≤ (1 + length behind.frames) + most
    later front =
        let opening = frame ++ concat behind.frames in
        let behind-them = wire h.book ++ terminate_frame in
        let is : t ++ front.0 ≡ opening ++ behind-them = front.1
        ∙ ap (λ (l : List (List ℕ)). (concat l ++ wire h.book) ++ terminate_frame) frames-are ∙ append_assoc opening (wire h.book) terminate_frame in
        elim (cut-front t front.0 opening behind-them is) [
          | inl part ↦ in-startup settings frame made behind.frames passwords-are t most part
          | inr w ↦
              behind-startup settings frame made behind.frames passwords-are t w.0 (length h.book) most w.1
              (front-few h.book w.0 front.0 (booked-queries call.scripts h.book owners h.order) w.2) asked
        ]

    written : turns_given t ≤ (1 + length behind.frames) + most
    written = elim h.front [
      | inl none ↦ no-turn (1 + length behind.frames) none
      | inr (inl tls) ↦ absurd (plain tls.0.0)
      | inr (inr (free, inl front)) ↦ in-front front
      | inr (inr (free, inr w)) ↦ later w.1
    ]

  -- the frame was refused: nothing was sent
  unwritten : (fault : FrameFault) → frame_of settings ≡ Err fault → turns_given t ≤ length frames + most
  unwritten fault refused = elim h.front [
    | inl none ↦ no-turn (length frames) none
    | inr (inl tls) ↦ absurd (plain tls.0.0)
    | inr (inr (free, inl front)) ↦ no-turn (length frames) (none-front t front.0 (front.1 ∙ ap (λ (r : Result (List ℕ) FrameFault). concat (begun r).frames) refused))
    | inr (inr (free, inr w)) ↦ absurd (let no : (begun (Err fault)).outcome ≡ Done w.0.0 = sym (ap (λ (r : Result (List ℕ) FrameFault). (begun r).outcome) refused) ∙ w.0.1 in cc)
  ]

  pub asks-few : turns_given t ≤ length (startup_after call settings g).frames + requests_in call.scripts
  asks-few = by (frame_of settings) refl
    where
      by : (r : Result (List ℕ) FrameFault) → frame_of settings ≡ r → turns_given t ≤ length frames + most
      by (Ok frame) made =
          let count : 1 + length behind.frames ≡ length frames = omega (arith, ap length (frames-are frame made)) in
          subst (λ (n : ℕ). turns_given t ≤ n + most) count (written frame made)
      by (Err fault) refused = unwritten fault refused
