-- One turn of a command: the function of what came is that of the session.
use Rattle.std.proofs.Common.{◌≡◌, inl, inr, ℕ, zero, suc, ◌+◌, ◌-◌, ◌≤◌, nat_le, List, [], ◌∷◌, ◌++◌, length, take, drop, Bool, true, false, if◌then◌else◌, Option, Some, None, Result, Ok, Err, refl, sym, ap, subst, ◌∙◌, arith}
use Rattle.std.proofs.lemmas.Bool.Decides.{nat_tests}
use Rattle.std.proofs.lemmas.List.{take-append-drop, drop-take, length-drop}
use Rattle.std.proofs.Math.Seq.{drop-nil}
use Rattle.pg_spec.specs.declared.stamps.Stamp.{Stamp}
use Rattle.pg_spec.specs.RawMessages.{RawMessage}
use Rattle.pg_types.specs.declared.error.Error.{Error}
use Rattle.pg_query.specs.Dialogue.{Dialogue, Answer, Ask, Send, Leave, Read, Put, Finish, Close, HangUp, Call, Hear}
use Rattle.pg_query.specs.declared.desk_call.Cleanup.{Cleanup}
use Rattle.pg_query.specs.declared.desk_call.DeskCall.{DeskCall}
use Rattle.pg_query.specs.declared.desk_call.Reply.{Reply}
use Rattle.pg_spec.specs.Dialogues as said
use Rattle.pg_spec.specs.Dialogues.{decided_after}
use Rattle.pg_spec.specs.Courses.{Asked, Course, Request, Point, unread, reply_to, delivered_to, Who, stamp_of}
use Rattle.pg_core.proofs.Walk.{Step, goes, stands, books, sends, puts, asks, is_delivered}
use Rattle.pg_core.specs.Runs.{Ran, of_request, stays, run, of_question}
use Rattle.pg_core.specs.Deeds.{Addition, granted, AreGranted}
use Rattle.pg_core.specs.Outcomes.{asked}
use Rattle.pg_core.specs.Trails.{point_of, CameBy, AreNumbered, AreToldIn, IsSettled}
use Rattle.pg_core.proofs.Fed.{still-decides, front-decides}

-- where it stands in this turn, in the words of the law on turns
abbrev pub step_of : {T : Type 0} → (turn : ℕ) → Ran T → Step DeskCall Reply (Result T Error)
step_of turn s = record { parts = s.parts; requests = s.whole; asked = s.asked; at = point_of turn s; left = asked s.left }

le-true : (a b : ℕ) → a ≤ b → nat_le a b ≡ true
le-true a b e = grind (arith, nat_tests, e)

true-le : (a b : ℕ) → nat_le a b ≡ true → a ≤ b
true-le a b e = grind (arith, nat_tests, e)

-- a front of some messages: if it decides, they decide so; if they decide within it, it does
record Fronts (decides : List RawMessage → Bool) (xs : List RawMessage) (m : ℕ) : Type 0 where
  front : (j : ℕ) → decided_after decides (take m xs) ≡ Some j → (j ≤ m) × (decided_after decides xs ≡ Some j) × (take j (take m xs) ≡ take j xs) × (j ≤ length (take m xs))
  back : (j : ℕ) → decided_after decides xs ≡ Some j → j ≤ m → decided_after decides (take m xs) ≡ Some j

take-take : (j m : ℕ) (xs : List RawMessage) → j ≤ m → take j (take m xs) ≡ take j xs
take-take zero m xs le = refl
take-take (suc j) zero xs le = absurd (omega (arith, le))
take-take (suc j) (suc m) [] le = refl
take-take (suc j) (suc m) (x ∷ xs) le = ap (λ (l : List RawMessage). x ∷ l) (take-take j m xs (omega (arith, le)))

short : (m : ℕ) (xs : List RawMessage) → length (take m xs) ≤ m
short zero xs = omega arith
short (suc m) [] = omega arith
short (suc m) (x ∷ xs) = let h = short m xs in omega (arith, h)

fronts : (decides : List RawMessage → Bool) (xs : List RawMessage) (m : ℕ) → Fronts decides xs m
fronts decides xs m = record {
  front = λ j e.
      (let h = still-decides decides (take m xs) (drop m xs) j e in
      let w : j ≤ length (take m xs) = h.within in
      let s = short m xs in
      let le : j ≤ m = omega (arith, w, s) in
      (le, ap (decided_after decides) (sym (take-append-drop m xs)) ∙ h.still, take-take j m xs le, w));
  back = λ j e le.
      (let one : decided_after decides (take j (take m xs)) ≡ Some j = ap (decided_after decides) (take-take j m xs le) ∙ front-decides decides xs j e in
      let h = still-decides decides (take j (take m xs)) (drop j (take m xs)) j one in
      ap (decided_after decides) (sym (take-append-drop j (take m xs))) ∙ h.still);
}

abbrev Here : (turn : ℕ) → Option ℕ → ℕ → Point
Here turn at n = record { turn = turn; request = at; read = n; parts = [] }

module _ {T : Type 0} (tells : List DeskCall → DeskCall → Reply) (course : Course DeskCall Reply) (who : Who) (turn : ℕ) (came : ℕ → List RawMessage) (is_came : CameBy course turn came) where
  -- with some room for parts
  abbrev Goes-so : ℕ → List DeskCall → Option ℕ → ℕ → Dialogue T → List (Result Request Error) → List (Result (Asked DeskCall Reply) Error) → List (Result Addition Error) → Type 0
  Goes-so number before at n d rs qs ps = (room : ℕ) × (goes tells course who number before (Here turn at n) (asked d) room ≡ step_of turn (run came at n d rs qs ps))

  abbrev chosen : Option ℕ → ℕ → List Cleanup → (List RawMessage → Bool) → (List RawMessage → Dialogue T) → List (Result Request Error) → List (Result (Asked DeskCall Reply) Error) → List (Result Addition Error) → Option ℕ → Ran T
  chosen at n cleanup decides next rs qs ps o = elim o [ None ↦ stays at n (Read cleanup decides next) | Some k ↦ run came at (n + k) (next (take k (drop n (of_request came at)))) rs qs ps ]

  abbrev said_so : ℕ → List DeskCall → Option ℕ → ℕ → (List RawMessage → Bool) → (List RawMessage → Dialogue T) → (room : ℕ) → Option ℕ → Step DeskCall Reply (Result T Error)
  said_so number before at n decides next room o = elim o [
    | None ↦ stands (Here turn at n) (said.Reads decides (λ ms. asked (next ms)))
    | Some j ↦ if is_delivered course (Here turn at n) turn (Some j)
        then goes tells course who number before (Here turn at (n + j)) (asked (next (take j (unread course (Here turn at n))))) room
        else stands (Here turn at n) (said.Reads decides (λ ms. asked (next ms)))
  ]

  -- a reading of a request
  reads-so : (number : ℕ) (before : List DeskCall) (k n : ℕ) (cleanup : List Cleanup) (decides : List RawMessage → Bool) (next : List RawMessage → Dialogue T) (rs : List (Result Request Error)) (qs : List (Result (Asked DeskCall Reply) Error)) (ps : List (Result Addition Error)) →
      n ≤ length (came k) →
      ((ms : List RawMessage) (m : ℕ) → m ≤ length (came k) → (run came (Some k) m (next ms) rs qs ps).asked ≡ granted qs → IsSettled (run came (Some k) m (next ms) rs qs ps).left → Goes-so number before (Some k) m (next ms) rs qs ps) →
      (run came (Some k) n (Read cleanup decides next) rs qs ps).asked ≡ granted qs → IsSettled (run came (Some k) n (Read cleanup decides next) rs qs ps).left →
      Goes-so number before (Some k) n (Read cleanup decides next) rs qs ps
  reads-so number before k n cleanup decides next rs qs ps within ih same settled = by (decided_after decides (drop n (came k))) refl same settled
    where
      m : ℕ
      m = delivered_to course (Some k) turn

      xs : List RawMessage
      xs = reply_to course (Some k)

      le : n ≤ m
      le = let s = short m xs in let e = ap length (is_came k) in omega (arith, s, e, within)

      cut : drop n (came k) ≡ take (m - n) (drop n xs)
      cut = let e : m ≡ n + (m - n) = omega (arith, le) in
          ap (drop n) (is_came k) ∙ ap (λ (x : ℕ). drop n (take x xs)) e ∙ drop-take n (m - n) xs

      f : Fronts decides (drop n xs) (m - n)
      f = fronts decides (drop n xs) (m - n)

      by : (o : Option ℕ) → decided_after decides (drop n (came k)) ≡ o → (chosen (Some k) n cleanup decides next rs qs ps o).asked ≡ granted qs → IsSettled (chosen (Some k) n cleanup decides next rs qs ps o).left →
          (room : ℕ) × (said_so number before (Some k) n decides next room (decided_after decides (drop n xs)) ≡ step_of turn (chosen (Some k) n cleanup decides next rs qs ps (decided_after decides (drop n (came k)))))
      by (Some j) e same settled =
          let h = f.front j (ap (decided_after decides) (sym cut) ∙ e) in
          let j_le : j ≤ m - n = h.0 in
          let all : n + j ≤ m = omega (arith, le, j_le) in
          let front : take j (drop n (came k)) ≡ take j (drop n xs) = ap (take j) cut ∙ h.2 in
          let size : length (drop n (came k)) ≡ length (came k) - n = length-drop n (came k) in
          let w : j ≤ length (take (m - n) (drop n xs)) = h.3 in
          let w2 = ap length cut in
          let more : n + j ≤ length (came k) = omega (arith, size, w, w2, within) in
          let i = ih (take j (drop n (came k))) (n + j) more same settled in (
            i.0,
            ap (λ (o : Option ℕ). said_so number before (Some k) n decides next i.0 o) h.1
                ∙ ap (λ (b : Bool). if b then goes tells course who number before (Here turn (Some k) (n + j)) (asked (next (take j (drop n xs)))) i.0 else stands (Here turn (Some k) n) (said.Reads decides (λ ms. asked (next ms)))) (le-true (n + j) m all)
                ∙ ap (λ (ms : List RawMessage). goes tells course who number before (Here turn (Some k) (n + j)) (asked (next ms)) i.0) (sym front)
                ∙ i.1
                ∙ ap (λ (o : Option ℕ). step_of turn (chosen (Some k) n cleanup decides next rs qs ps o)) (sym e),
          )
      by None e same settled = (0, whole (decided_after decides (drop n xs)) refl ∙ ap (λ (o : Option ℕ). step_of turn (chosen (Some k) n cleanup decides next rs qs ps o)) (sym e))
        where
          late : (j : ℕ) (b : Bool) → decided_after decides (drop n xs) ≡ Some j → nat_le (n + j) m ≡ b →
              (if b then goes tells course who number before (Here turn (Some k) (n + j)) (asked (next (take j (drop n xs)))) 0 else stands (Here turn (Some k) n) (said.Reads decides (λ ms. asked (next ms))))
              ≡ stands (Here turn (Some k) n) (said.Reads decides (λ ms. asked (next ms)))
          late j false d t = refl
          late j true d t =
              let up : n + j ≤ m = true-le (n + j) m t in
              let now : Some j ≡ None = sym (f.back j d (omega (arith, le, up))) ∙ ap (decided_after decides) (sym cut) ∙ e in
              absurd cc

          whole : (o : Option ℕ) → decided_after decides (drop n xs) ≡ o → said_so number before (Some k) n decides next 0 o ≡ stands (Here turn (Some k) n) (said.Reads decides (λ ms. asked (next ms)))
          whole None d = refl
          whole (Some j) d = late j (nat_le (n + j) m) d refl

  pub goes-so : (number : ℕ) (before : List DeskCall) (at : Option ℕ) (n : ℕ) (d : Dialogue T) (rs : List (Result Request Error)) (qs : List (Result (Asked DeskCall Reply) Error)) (ps : List (Result Addition Error)) → n ≤ length (of_request came at) →
      AreGranted rs → AreGranted qs → AreGranted ps → AreNumbered who turn number (granted rs) → AreToldIn tells who turn before (granted qs) → (run came at n d rs qs ps).asked ≡ granted qs → IsSettled (run came at n d rs qs ps).left → Goes-so number before at n d rs qs ps
  goes-so number before at n (Answer r) rs qs ps within gr gq gp numbered told same settled = (0, refl)
  goes-so number before at n (Ask copying part d) [] qs ps within gr gq gp numbered told same (inl (inl h)) = absurd h
  goes-so number before at n (Ask copying part d) [] qs ps within gr gq gp numbered told same (inl (inr h)) = absurd h
  goes-so number before at n (Ask copying part d) [] qs ps within gr gq gp numbered told same (inr (r, e)) = absurd cc
  goes-so number before at n (Ask copying part d) (Ok r ∷ rs) qs ps within gr gq gp (is, stamp, numbered) told same settled =
      let h = goes-so (number + 1) before (Some number) 0 d rs qs ps (omega arith) gr gq gp numbered told
      (subst (λ (x : ℕ). (run came (Some x) 0 d rs qs ps).asked ≡ granted qs) is same) (subst (λ (x : ℕ). IsSettled (run came (Some x) 0 d rs qs ps).left) is settled) in (
        h.0,
        ap (books number (stamp_of who turn) part) h.1
            ∙ ap (λ (x : ℕ). books x (stamp_of who turn) part (step_of turn (run came (Some x) 0 d rs qs ps))) (sym is)
            ∙ ap (λ (x : Stamp). books r.number x part (step_of turn (run came (Some r.number) 0 d rs qs ps))) (sym stamp),
      )
  goes-so number before at n (Ask copying part d) (Err e ∷ rs) qs ps within gr gq gp numbered told same settled = absurd gr
  goes-so number before at n (Send part refused d) [] qs ps within gr gq gp numbered told same (inl (inl h)) = absurd h
  goes-so number before at n (Send part refused d) [] qs ps within gr gq gp numbered told same (inl (inr h)) = absurd h
  goes-so number before at n (Send part refused d) [] qs ps within gr gq gp numbered told same (inr (r, e)) = absurd cc
  goes-so number before at n (Send part refused d) (Ok r ∷ rs) qs ps within gr gq gp (is, stamp, numbered) told same settled =
      let h = goes-so (number + 1) before at n d rs qs ps within gr gq gp numbered told same settled in (
        h.0,
        ap (sends number (stamp_of who turn) part) h.1
            ∙ ap (λ (x : ℕ). sends x (stamp_of who turn) part (step_of turn (run came at n d rs qs ps))) (sym is)
            ∙ ap (λ (x : Stamp). sends r.number x part (step_of turn (run came at n d rs qs ps))) (sym stamp),
      )
  goes-so number before at n (Send part refused d) (Err e ∷ rs) qs ps within gr gq gp numbered told same settled = absurd gr
  goes-so number before at n (Leave id d) rs qs ps within gr gq gp numbered told same settled = goes-so number before at n d rs qs ps within gr gq gp numbered told same settled
  goes-so number before None n (Read cleanup decides next) rs qs ps within gr gq gp numbered told same settled =
      let none : decided_after decides (drop n []) ≡ None = ap (decided_after decides) (drop-nil n) in
      (0, ap (λ (o : Option ℕ). said_so number before None n decides next 0 o) none ∙ ap (λ (o : Option ℕ). step_of turn (chosen None n cleanup decides next rs qs ps o)) (sym none))
  goes-so number before (Some k) n (Read cleanup decides next) rs qs ps within gr gq gp numbered told same settled =
      reads-so number before k n cleanup decides next rs qs ps within (λ ms m le same settled. goes-so number before (Some k) m (next ms) rs qs ps le gr gq gp numbered told same settled) same settled
  goes-so number before None n (Put cleanup part d) rs qs ps within gr gq gp numbered told same settled = (0, refl)
  goes-so number before (Some k) n (Put cleanup part d) rs qs [] within gr gq gp numbered told same settled = (0, refl)
  goes-so number before (Some k) n (Put cleanup part d) rs qs (Ok a ∷ ps) within gr gq gp numbered told same settled =
      let h = goes-so number before (Some k) n d rs qs ps within gr gq gp numbered told same settled in (suc h.0, ap (puts part) h.1)
  goes-so number before (Some k) n (Put cleanup part d) rs qs (Err e ∷ ps) within gr gq gp numbered told same settled = absurd gp
  goes-so number before None n (Finish part d) rs qs ps within gr gq gp numbered told same (inl (inl h)) = absurd h
  goes-so number before None n (Finish part d) rs qs ps within gr gq gp numbered told same (inl (inr h)) = absurd h
  goes-so number before None n (Finish part d) rs qs ps within gr gq gp numbered told same (inr (r, e)) = absurd cc
  goes-so number before (Some k) n (Finish part d) rs qs [] within gr gq gp numbered told same (inl (inl h)) = absurd h
  goes-so number before (Some k) n (Finish part d) rs qs [] within gr gq gp numbered told same (inl (inr h)) = absurd h
  goes-so number before (Some k) n (Finish part d) rs qs [] within gr gq gp numbered told same (inr (r, e)) = absurd cc
  goes-so number before (Some k) n (Finish part d) rs qs (Ok a ∷ ps) within gr gq gp numbered told same settled =
      let h = goes-so number before (Some k) n d rs qs ps within gr gq gp numbered told same settled in (h.0, ap (puts part) h.1)
  goes-so number before (Some k) n (Finish part d) rs qs (Err e ∷ ps) within gr gq gp numbered told same settled = absurd gp
  goes-so number before None n (Close part d) rs qs ps within gr gq gp numbered told same (inl (inl h)) = absurd h
  goes-so number before None n (Close part d) rs qs ps within gr gq gp numbered told same (inl (inr h)) = absurd h
  goes-so number before None n (Close part d) rs qs ps within gr gq gp numbered told same (inr (r, e)) = absurd cc
  goes-so number before (Some k) n (Close part d) rs qs [] within gr gq gp numbered told same (inl (inl h)) = absurd h
  goes-so number before (Some k) n (Close part d) rs qs [] within gr gq gp numbered told same (inl (inr h)) = absurd h
  goes-so number before (Some k) n (Close part d) rs qs [] within gr gq gp numbered told same (inr (r, e)) = absurd cc
  goes-so number before (Some k) n (Close part d) rs qs (Ok a ∷ ps) within gr gq gp numbered told same settled =
      let h = goes-so number before (Some k) n d rs qs ps within gr gq gp numbered told same settled in (h.0, ap (puts part) h.1)
  goes-so number before (Some k) n (Close part d) rs qs (Err e ∷ ps) within gr gq gp numbered told same settled = absurd gp
  goes-so number before at n (HangUp d) rs qs ps within gr gq gp numbered told same settled = goes-so number before at n d rs qs ps within gr gq gp numbered told same settled
  goes-so number before at n (Call q refused next) rs [] ps within gr gq gp numbered told same (inl (inl h)) = absurd h
  goes-so number before at n (Call q refused next) rs [] ps within gr gq gp numbered told same (inl (inr h)) = absurd h
  goes-so number before at n (Call q refused next) rs [] ps within gr gq gp numbered told same (inr (r, e)) = absurd cc
  goes-so number before at n (Call q refused next) rs (Ok a ∷ qs) ps within gr gq gp numbered (stamp, reply, told) same settled =
      let one : of_question a q ≡ a = cc in
      let rest : (run came at n (next a.reply) rs qs ps).asked ≡ granted qs = cc in
      let is : a.question ≡ q = ap (λ (x : Asked DeskCall Reply). x.question) (sym one) in
      let reply_is : a.reply ≡ tells before q = reply ∙ ap (tells before) is in
      let h = goes-so number (before ++ a.question ∷ []) at n (next a.reply) rs qs ps within gr gq gp numbered told rest settled in (
        h.0,
        ap (λ (x : Reply). asks (record { stamp = stamp_of who turn; question = q; reply = x }) (goes tells course who number (before ++ q ∷ []) (Here turn at n) (asked (next x)) h.0)) (sym reply_is)
            ∙ ap (λ (x : DeskCall). asks (record { stamp = stamp_of who turn; question = q; reply = a.reply }) (goes tells course who number (before ++ x ∷ []) (Here turn at n) (asked (next a.reply)) h.0)) (sym is)
            ∙ ap (asks (record { stamp = stamp_of who turn; question = q; reply = a.reply })) h.1
            ∙ ap (λ (x : Stamp). asks (record { stamp = x; question = q; reply = a.reply }) (step_of turn (run came at n (next a.reply) rs qs ps))) (sym stamp),
      )
  goes-so number before at n (Call q refused next) rs (Err e ∷ qs) ps within gr gq gp numbered told same settled = absurd gq
  goes-so number before at n (Hear next) rs qs ps within gr gq gp numbered told same (inl (inl h)) = absurd h
  goes-so number before at n (Hear next) rs qs ps within gr gq gp numbered told same (inl (inr h)) = absurd h
  goes-so number before at n (Hear next) rs qs ps within gr gq gp numbered told same (inr (r, e)) = absurd cc
