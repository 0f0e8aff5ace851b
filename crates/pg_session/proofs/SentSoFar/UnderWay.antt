-- A command that runs booked a front of what comes of it, and asked all of it.
use Rattle.std.proofs.Common.{◌≡◌, ℕ, ◌+◌, ◌≤◌, List, [], ◌∷◌, ◌++◌, length, take, drop, Bool, Option, Some, None, Result, refl, sym, ap, subst, ◌∙◌, arith, append_assoc, append-nil}
use Rattle.std.proofs.lemmas.List.{drop-drop, length-drop, map-append, take-append-drop, drop-append-le, take-append-le}
use Rattle.pg_spec.specs.RawMessages.{RawMessage}
use Rattle.pg_types.specs.declared.error.Error.{Error}
use Rattle.pg_desk.specs.History.{IsFrontOf}
use Rattle.pg_query.specs.Dialogue as code
use Rattle.pg_query.specs.declared.desk_call.DeskCall.{DeskCall}
use Rattle.pg_query.specs.declared.desk_call.Reply.{Reply}
use Rattle.pg_spec.specs.Courses.{Asked, Course, Outcome, Request, Who, delivered_to, nothing_yet, outcome, reply_to}
use Rattle.pg_spec.specs.Dialogues.{decided_after}
use Rattle.pg_core.specs.Counters.{tells}
use Rattle.pg_core.specs.Deeds.{Addition, AreGranted, granted}
use Rattle.pg_core.specs.Outcomes.{asked, met_by, parts_in, questions_in}
use Rattle.pg_core.specs.Runs.{Ran, of_request, run, stays}
use Rattle.pg_core.specs.Trails.{AreMet, AreTurnsOf, CameBy, Moment, goes_on, ran_by}
use Rattle.pg_core.proofs.Fed.{still-decides}
use Rattle.pg_core.proofs.Fitting.{AreFitting, AreMatched, first-asked, turn-fitting}
use Rattle.pg_core.proofs.Outcome.{all-granted, as_granted}
use Rattle.pg_session.proofs.SentSoFar.Outcomes.{asks-nothing}

pub none-told : (qs : List DeskCall) → AreMatched qs []
none-told [] = tt
none-told (q ∷ qs) = tt

-- ---- one stretch

-- All that comes of it is what it did in a stretch, and then what comes of what was left to do: the parts that come then go to the request
-- that it read at the end of the stretch.
record Follows {T : Type 0} (s : Ran T) (all rest : Outcome DeskCall (Result T Error)) : Type 0 where
  parts : all.parts ≡ s.parts rest.parts
  requests : all.requests ≡ parts_in (s.whole rest.parts) ++ rest.requests
  asks : all.asked ≡ questions_in s.asked ++ rest.asked

none-of : {X : Type 0} (xs : List X) → 0 ≡ length xs → xs ≡ []
none-of [] e = refl
none-of (x ∷ xs) e = absurd (omega (arith, e))

-- what was read of a front of the reply decides of all that is left of it
still : (decides : List RawMessage → Bool) (came all : List RawMessage) (n k : ℕ) → IsFrontOf came all → n ≤ length came → decided_after decides (drop n came) ≡ Some k →
    (n + k ≤ length came) × ((decided_after decides (drop n all) ≡ Some k) × (take k (drop n all) ≡ take k (drop n came)))
still decides came all n k (more, is) low e =
    let h = still-decides decides (drop n came) more k e in
    let within = h.within in
    let all-left : drop n all ≡ drop n came ++ more = ap (drop n) (sym is) ∙ drop-append-le n came more low in (
      omega (arith, within, low, length-drop n came),
      (ap (decided_after decides) all-left ∙ h.still, ap (take k) all-left ∙ take-append-le k (drop n came) more within),
    )

-- the same of the request that is read
fronts : (came reply : ℕ → List RawMessage) → ((k : ℕ) → IsFrontOf (came k) (reply k)) → (at : Option ℕ) → IsFrontOf (of_request came at) (of_request reply at)
fronts came reply front None = ([], refl)
fronts came reply front (Some k) = front k

module _ {T : Type 0} (came reply : ℕ → List RawMessage) (front : (k : ℕ) → IsFrontOf (came k) (reply k)) (later : List Request) (others : List (Asked DeskCall Reply)) where
  -- what comes of a dialogue that stands there, where it books these requests and asks these questions first
  abbrev from : Option ℕ → ℕ → code.Dialogue T → List Request → List (Asked DeskCall Reply) → Outcome DeskCall (Result T Error)
  from at n d rs qs = outcome (asked d) (met_by reply (rs ++ later) (qs ++ others)) (drop n (of_request reply at))

  stays-there : (at : Option ℕ) (n : ℕ) (d : code.Dialogue T) (rs : List Request) (qs : List (Asked DeskCall Reply)) → 0 ≡ length rs → 0 ≡ length qs →
      Follows (stays at n d) (from at n d rs qs) (from at n d [] [])
  stays-there at n d rs qs none-booked none-asked =
      let same : from at n d rs qs ≡ from at n d [] [] =
      ap (λ (l : List Request). from at n d l qs) (none-of rs none-booked) ∙ ap (λ (l : List (Asked DeskCall Reply)). from at n d [] l) (none-of qs none-asked) in
      record {
        parts = ap (λ (o : Outcome DeskCall (Result T Error)). o.parts) same;
        requests = ap (λ (o : Outcome DeskCall (Result T Error)). o.requests) same;
        asks = ap (λ (o : Outcome DeskCall (Result T Error)). o.asked) same;
      }

  -- what is left to do behind a stretch
  abbrev rest : Ran T → Outcome DeskCall (Result T Error)
  rest s = from s.at s.read s.left [] []

  goes : (at : Option ℕ) (n : ℕ) (d : code.Dialogue T) (rs : List Request) (qs : List (Asked DeskCall Reply)) (ps : List Addition) → AreFitting qs → n ≤ length (of_request came at) →
      length (run came at n d (as_granted rs) (as_granted qs) (as_granted ps)).requests ≡ length rs → (run came at n d (as_granted rs) (as_granted qs) (as_granted ps)).asked ≡ qs →
      Follows (run came at n d (as_granted rs) (as_granted qs) (as_granted ps)) (from at n d rs qs) (rest (run came at n d (as_granted rs) (as_granted qs) (as_granted ps)))
  goes at n (code.Answer r) rs qs ps fit low e f = stays-there at n (code.Answer r) rs qs e (ap length f)
  goes at n (code.Ask copying part d) [] qs ps fit low e f = stays-there at n (code.Ask copying part d) [] qs e (ap length f)
  goes at n (code.Ask copying part d) (x ∷ rs) qs ps fit low e f =
      let s = run came (Some x.number) 0 d (as_granted rs) (as_granted qs) (as_granted ps) in
      let g = goes (Some x.number) 0 d rs qs ps fit (omega arith) (omega (arith, e)) f in
      let o = from (Some x.number) 0 d rs qs in
      record {
        parts = refl;
        requests = ap (λ (l : List (List ℕ)). (part ∷ l) ∷ o.requests) g.parts ∙ ap (λ (l : List (List (List ℕ))). (part ∷ s.parts (rest s).parts) ∷ l) g.requests;
        asks = g.asks;
      }
  goes at n (code.Send part refused d) [] qs ps fit low e f = stays-there at n (code.Send part refused d) [] qs e (ap length f)
  goes at n (code.Send part refused d) (x ∷ rs) qs ps fit low e f =
      let g = goes at n d rs qs ps fit low (omega (arith, e)) f in
      record { parts = g.parts; requests = ap (λ (l : List (List (List ℕ))). (part ∷ []) ∷ l) g.requests; asks = g.asks }
  goes at n (code.Leave id d) rs qs ps fit low e f = let g = goes at n d rs qs ps fit low e f in record { parts = g.parts; requests = g.requests; asks = g.asks }
  goes at n (code.Read cleanup decides next) rs qs ps fit low e f =
      by (decided_after decides (drop n (of_request came at))) refl (λ k. goes at (n + k) (next (take k (drop n (of_request came at)))) rs qs ps fit) e f
    where
      xs : List RawMessage
      xs = drop n (of_request came at)

      ys : List RawMessage
      ys = drop n (of_request reply at)

      chosen : Option ℕ → Ran T
      chosen o = elim o as (λ _. Ran T) [ None ↦ stays at n (code.Read cleanup decides next) | Some k ↦ run came at (n + k) (next (take k xs)) (as_granted rs) (as_granted qs) (as_granted ps) ]

      met : Option ℕ → Outcome DeskCall (Result T Error)
      met o = elim o as (λ _. Outcome DeskCall (Result T Error)) [ None ↦ nothing_yet | Some k ↦ outcome (asked (next (take k ys))) (met_by reply (rs ++ later) (qs ++ others)) (drop k ys) ]

      decided : (k : ℕ) → decided_after decides xs ≡ Some k → met (decided_after decides ys) ≡ from at (n + k) (next (take k xs)) rs qs
      decided k is =
          let s = still decides (of_request came at) (of_request reply at) n k (fronts came reply front at) low is in
          ap met s.1.0 ∙ ap (λ (l : List RawMessage). outcome (asked (next l)) (met_by reply (rs ++ later) (qs ++ others)) (drop k ys)) s.1.1
          ∙ ap (outcome (asked (next (take k xs))) (met_by reply (rs ++ later) (qs ++ others))) (drop-drop k n (of_request reply at))

      by : (o : Option ℕ) → decided_after decides xs ≡ o →
          ((k : ℕ) → n + k ≤ length (of_request came at) → length (run came at (n + k) (next (take k xs)) (as_granted rs) (as_granted qs) (as_granted ps)).requests ≡ length rs →
          (run came at (n + k) (next (take k xs)) (as_granted rs) (as_granted qs) (as_granted ps)).asked ≡ qs →
          Follows (run came at (n + k) (next (take k xs)) (as_granted rs) (as_granted qs) (as_granted ps)) (from at (n + k) (next (take k xs)) rs qs) (rest (run came at (n + k) (next (take k xs)) (as_granted rs) (as_granted qs) (as_granted ps)))) →
          length (chosen o).requests ≡ length rs → (chosen o).asked ≡ qs → Follows (chosen o) (met (decided_after decides ys)) (rest (chosen o))
      by None is g e f = stays-there at n (code.Read cleanup decides next) rs qs e (ap length f)
      by (Some k) is g e f =
          subst (λ (x : Outcome DeskCall (Result T Error)). Follows (chosen (Some k)) x (rest (chosen (Some k)))) (sym (decided k is))
          (g k (still decides (of_request came at) (of_request reply at) n k (fronts came reply front at) low is).0 e f)
  goes None n (code.Put cleanup part d) rs qs ps fit low e f = stays-there None n (code.Put cleanup part d) rs qs e (ap length f)
  goes (Some k) n (code.Put cleanup part d) rs qs [] fit low e f = stays-there (Some k) n (code.Put cleanup part d) rs qs e (ap length f)
  goes (Some k) n (code.Put cleanup part d) rs qs (a ∷ ps) fit low e f =
      let g = goes (Some k) n d rs qs ps fit low e f in record { parts = ap (λ (l : List (List ℕ)). part ∷ l) g.parts; requests = g.requests; asks = g.asks }
  goes None n (code.Finish part d) rs qs ps fit low e f = stays-there None n (code.Finish part d) rs qs e (ap length f)
  goes (Some k) n (code.Finish part d) rs qs [] fit low e f = stays-there (Some k) n (code.Finish part d) rs qs e (ap length f)
  goes (Some k) n (code.Finish part d) rs qs (a ∷ ps) fit low e f =
      let g = goes (Some k) n d rs qs ps fit low e f in record { parts = ap (λ (l : List (List ℕ)). part ∷ l) g.parts; requests = g.requests; asks = g.asks }
  goes None n (code.Close part d) rs qs ps fit low e f = stays-there None n (code.Close part d) rs qs e (ap length f)
  goes (Some k) n (code.Close part d) rs qs [] fit low e f = stays-there (Some k) n (code.Close part d) rs qs e (ap length f)
  goes (Some k) n (code.Close part d) rs qs (a ∷ ps) fit low e f =
      let g = goes (Some k) n d rs qs ps fit low e f in record { parts = ap (λ (l : List (List ℕ)). part ∷ l) g.parts; requests = g.requests; asks = g.asks }
  goes at n (code.HangUp d) rs qs ps fit low e f = let g = goes at n d rs qs ps fit low e f in record { parts = g.parts; requests = g.requests; asks = g.asks }
  goes at n (code.Call q refused next) rs [] ps fit low e f = stays-there at n (code.Call q refused next) rs [] e refl
  goes at n (code.Call q refused next) rs (a ∷ qs) ps fit low e f =
      let k = first-asked q a (run came at n (next a.reply) (as_granted rs) (as_granted qs) (as_granted ps)).asked qs f fit.0 in
      let g = goes at n (next a.reply) rs qs ps fit.1 low e k.1 in
      record { parts = g.parts; requests = g.requests; asks = ap (λ (l : List DeskCall). q ∷ l) g.asks }
  goes at n (code.Hear next) rs qs ps fit low e f = stays-there at n (code.Hear next) rs qs e (ap length f)

  -- the same by supplies of which none was refused
  went : (at : Option ℕ) (n : ℕ) (d : code.Dialogue T) (bs : List (Result Request Error)) (answers : List (Result (Asked DeskCall Reply) Error)) (ps : List (Result Addition Error)) → AreGranted bs → AreGranted answers → AreGranted ps → AreFitting (granted answers) → n ≤ length (of_request came at) →
      (run came at n d bs answers ps).requests ≡ granted bs → (run came at n d bs answers ps).asked ≡ granted answers →
      Follows (run came at n d bs answers ps) (from at n d (run came at n d bs answers ps).requests (run came at n d bs answers ps).asked) (rest (run came at n d bs answers ps))
  went at n d bs answers ps booked answered added fit low e f =
      subst (λ (l : List Request). Follows (run came at n d bs answers ps) (from at n d l (run came at n d bs answers ps).asked) (rest (run came at n d bs answers ps))) (sym e)
      (subst (λ (l : List (Asked DeskCall Reply)). Follows (run came at n d bs answers ps) (from at n d (granted bs) l) (rest (run came at n d bs answers ps))) (sym f)
      (so e f))
    where
      By : List (Result Request Error) → List (Result (Asked DeskCall Reply) Error) → List (Result Addition Error) → Type 0
      By bs' answers' ps' = (run came at n d bs' answers' ps').requests ≡ granted bs → (run came at n d bs' answers' ps').asked ≡ granted answers →
          Follows (run came at n d bs' answers' ps') (from at n d (granted bs) (granted answers)) (rest (run came at n d bs' answers' ps'))

      so : By bs answers ps
      so = subst (λ (l : List (Result Request Error)). By l answers ps) (sym (all-granted bs booked))
          (subst (λ (l : List (Result (Asked DeskCall Reply) Error)). By (as_granted (granted bs)) l ps) (sym (all-granted answers answered))
          (subst (λ (l : List (Result Addition Error)). By (as_granted (granted bs)) (as_granted (granted answers)) l) (sym (all-granted ps added))
          (λ e f. goes at n d (granted bs) (granted answers) (granted ps) fit low (ap length e) f)))

-- ---- all turns so far

-- what came by a turn is a front of the reply
came-front : (course : Course DeskCall Reply) (place : ℕ) (came : ℕ → List RawMessage) → CameBy course place came → (k : ℕ) → IsFrontOf (came k) (reply_to course (Some k))
came-front course place came by k =
    let n = delivered_to course (Some k) place in
    let all = reply_to course (Some k) in
    (drop n all, ap (λ (l : List RawMessage). l ++ drop n all) (by k) ∙ take-append-drop n all)

module _ {T : Type 0} (course : Course DeskCall Reply) (who : Who) (d : code.Dialogue T) where
  abbrev pub reply : ℕ → List RawMessage
  reply k = reply_to course (Some k)

  -- what comes of the command, by these requests and questions, and what is left of it behind its turns
  abbrev pub all-of : List Request → List (Asked DeskCall Reply) → Outcome DeskCall (Result T Error)
  all-of rs qs = outcome (asked d) (met_by reply rs qs) []

  abbrev pub left-of : Ran T → List Request → List (Asked DeskCall Reply) → Outcome DeskCall (Result T Error)
  left-of s rs qs = outcome (asked s.left) (met_by reply rs qs) (drop s.read (of_request reply s.at))

  turns : (trail : List Moment) → AreTurnsOf tells course who d trail → AreMet d trail → (rs : List Request) (qs : List (Asked DeskCall Reply)) →
      Follows (ran_by d trail) (all-of ((ran_by d trail).requests ++ rs) ((ran_by d trail).asked ++ qs)) (left-of (ran_by d trail) rs qs)
  turns [] made met rs qs = record { parts = refl; requests = refl; asks = refl }
  turns (m ∷ before) (number, former, t, ts) (requests, same, added, met) rs qs =
      let s = ran_by d before in
      let r = goes_on s m in
      let o = left-of r rs qs in
      let fit = turn-fitting who m.place former (granted m.answers) t.told in
      let now = went m.came reply (came-front course m.place m.came t.came) rs qs s.at s.read s.left m.bookings m.answers m.additions t.booked t.answered t.all_added fit t.within requests same in
      let one = turns before ts met (r.requests ++ rs) (r.asked ++ qs) in
      subst (λ (l : List Request). Follows (ran_by d (m ∷ before)) (all-of l ((s.asked ++ r.asked) ++ qs)) o) (sym (append_assoc s.requests r.requests rs))
      (subst (λ (l : List (Asked DeskCall Reply)). Follows (ran_by d (m ∷ before)) (all-of (s.requests ++ (r.requests ++ rs)) l) o) (sym (append_assoc s.asked r.asked qs))
      (record {
        parts = one.parts ∙ ap s.parts now.parts;
        requests = one.requests ∙ ap (λ (l : List (List ℕ)). parts_in (s.whole l) ++ (left-of s (r.requests ++ rs) (r.asked ++ qs)).requests) now.parts
            ∙ ap (λ (l : List (List (List ℕ))). parts_in (s.whole (r.parts o.parts)) ++ l) now.requests
            ∙ sym (append_assoc (parts_in (s.whole (r.parts o.parts))) (parts_in (r.whole o.parts)) o.requests)
            ∙ ap (λ (l : List (List (List ℕ))). l ++ o.requests) (sym (map-append (λ (x : Request). x.booking.parts) (s.whole (r.parts o.parts)) (r.whole o.parts)));
        asks = one.asks ∙ ap (λ (l : List DeskCall). questions_in s.asked ++ l) now.asks
            ∙ sym (append_assoc (questions_in s.asked) (questions_in r.asked) o.asked)
            ∙ ap (λ (l : List DeskCall). l ++ o.asked) (sym (map-append (λ (x : Asked DeskCall Reply). x.question) s.asked r.asked));
      }))

  -- Of the requests that come of it these are the first ones, with the parts that the last that it read has yet to get, and these are all
  -- its questions.
  pub record AsFar (trail : List Moment) : Type 0 where
    pub requests : parts_in ((ran_by d trail).whole (left-of (ran_by d trail) [] []).parts) ++ (left-of (ran_by d trail) [] []).requests ≡ (all-of (ran_by d trail).requests (ran_by d trail).asked).requests
    pub asks : questions_in (ran_by d trail).asked ≡ (all-of (ran_by d trail).requests (ran_by d trail).asked).asked

  pub as-far : (trail : List Moment) → AreTurnsOf tells course who d trail → AreMet d trail → AsFar trail
  as-far trail made met =
      let s = ran_by d trail in
      let f = subst (λ (l : List Request). Follows s (all-of l (s.asked ++ [])) (left-of s [] [])) (append-nil s.requests) (turns trail made met [] []) in
      let g = subst (λ (l : List (Asked DeskCall Reply)). Follows s (all-of s.requests l) (left-of s [] [])) (append-nil s.asked) f in
      record {
        requests = sym g.requests;
        asks = sym (g.asks ∙ ap (λ (l : List DeskCall). questions_in s.asked ++ l) (asks-nothing (asked s.left) [] (drop s.read (of_request reply s.at))) ∙ append-nil (questions_in s.asked));
      }
