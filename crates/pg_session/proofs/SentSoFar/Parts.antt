-- A command that copies: each of its requests as far as it was booked.
use Rattle.std.proofs.Common.{◌≡◌, ℕ, ◌+◌, ◌⊎◌, inl, inr, List, [], ◌∷◌, ◌++◌, map, take, drop, Bool, true, false, Option, Some, None, Result, Ok, Err, refl, sym, ap, subst, ◌∙◌, append_assoc, append-nil}
use Rattle.std.specs.Prelude.{IsFalse}
use Rattle.std.specs.List.{concat}
use Rattle.std.proofs.lemmas.List.{map-append}
use Rattle.pg_spec.specs.RawMessages.{RawMessage, bytes_left, ends_in, messages}
use Rattle.pg_spec.specs.Sent.{ends_unit, is_terminate}
use Rattle.pg_spec.proofs.MessageLaws.{messages-append}
use Rattle.pg_spec.specs.declared.stamps.Stamp.{Stamp}
use Rattle.pg_types.specs.declared.error.Error.{Error}
use Rattle.pg_types.specs.declared.error.Error.TheVariants.{Closed}
use Rattle.pg_query.specs.Dialogue as code
use Rattle.pg_query.specs.Dialogue.{fits}
use Rattle.pg_query.specs.declared.desk_call.DeskCall.{DeskCall}
use Rattle.pg_query.specs.declared.desk_call.Reply.{Reply}
use Rattle.pg_spec.specs.Courses.{Asked, Course, Met, Outcome, Request, Who, nothing_yet, outcome, past_reply, with_question as with_query}
use Rattle.pg_spec.specs.Dialogues.{decided_after}
use Rattle.pg_core.specs.Counters.{tells}
use Rattle.pg_core.specs.Deeds.{Addition, AreGranted, granted}
use Rattle.pg_core.specs.Outcomes.{asked, met_by, parts_in, questions_in}
use Rattle.pg_core.specs.Runs.{Ran, of_request, run, stays}
use Rattle.pg_core.specs.Trails.{AreMet, AreTurnsOf, Moment, goes_on, ran_by}
use Rattle.pg_core.proofs.Fitting.{AreFitting, AreMatched, first-asked, turn-fitting}
use Rattle.pg_promises.specs.Sent.{AreBegun, IsBegun, are_ended}
use Rattle.pg_session.specs.Speeches.{BookWhole, BooksWhole, IsWholeRequest, Speech}
use Rattle.pg_session.proofs.SentSoFar.UnderWay.{all-of, as-far, left-of, none-told, reply}

-- ---- what is booked by parts

-- none of these frames ends a unit or is Terminate: an opening's Flush gives the server the turn, and ends nothing
abbrev pub EndNone : List RawMessage → Type 0
EndNone [] = Unit {0}
EndNone (frame ∷ frames) = IsFalse (ends_unit frame) × IsFalse (is_terminate frame) × EndNone frames

-- a part behind which its request goes on
pub record IsOpenPart (part : List ℕ) : Type 0 where
  pub whole : bytes_left part ≡ []
  pub frames : EndNone (messages part)

-- the first part of a request: a copy's is open, and any other is all of it
abbrev pub IsFirstPart : (copying : Bool) → List ℕ → Type 0
IsFirstPart true part = IsOpenPart part
IsFirstPart false part = IsWholeRequest part

-- Every request of a dialogue is booked so, where the request that is read is a copy that is open, or isn't: a copy's end holds one frame that
-- ends it, the last.
abbrev pub BooksParts : {T : Type 0} → (opened : Bool) → code.Dialogue T → Type 0
BooksParts opened (code.Answer r) = Unit {0}
BooksParts opened (code.Ask copying part d) = (opened ≡ false) × IsFirstPart copying part × BooksParts copying d
BooksParts opened (code.Send part refused d) = IsWholeRequest part × ((e : Error) → BooksParts opened (refused e)) × BooksParts opened d
BooksParts opened (code.Leave id d) = BooksParts opened d
BooksParts opened (code.Read cleanup decides next) = (ms : List RawMessage) → BooksParts opened (next ms)
BooksParts opened (code.Put cleanup part d) = (opened ≡ true) × IsOpenPart part × BooksParts true d
BooksParts opened (code.Finish part d) = (opened ≡ true) × IsWholeRequest part × BooksParts false d
BooksParts opened (code.Close part d) = (opened ≡ true) × IsWholeRequest part × BooksParts false d
BooksParts opened (code.HangUp d) = BooksParts opened d
BooksParts opened (code.Call q refused next) = ((e : Error) → BooksParts opened (refused e)) × ((r : Reply) → fits q r ≡ true → BooksParts opened (next r))
BooksParts opened (code.Hear next) = (r : Reply) → BooksParts opened (next r)

-- and so of each command
abbrev pub BookParts : {C T A E : Type 0} → Speech C T A E → Type 0
BookParts {C} {T} {A} {E} speech = (own : E) (c : C) → BooksParts false (speech.says own c)

-- ---- without copies

-- none of its requests is a copy
abbrev pub CopiesNone : {T : Type 0} → code.Dialogue T → Type 0
CopiesNone (code.Answer r) = Unit {0}
CopiesNone (code.Ask copying part d) = (copying ≡ false) × CopiesNone d
CopiesNone (code.Send part refused d) = ((e : Error) → CopiesNone (refused e)) × CopiesNone d
CopiesNone (code.Leave id d) = CopiesNone d
CopiesNone (code.Read cleanup decides next) = (ms : List RawMessage) → CopiesNone (next ms)
CopiesNone (code.Put cleanup part d) = CopiesNone d
CopiesNone (code.Finish part d) = CopiesNone d
CopiesNone (code.Close part d) = CopiesNone d
CopiesNone (code.HangUp d) = CopiesNone d
CopiesNone (code.Call q refused next) = ((e : Error) → CopiesNone (refused e)) × ((r : Reply) → fits q r ≡ true → CopiesNone (next r))
CopiesNone (code.Hear next) = (r : Reply) → CopiesNone (next r)

first-whole : (copying : Bool) (part : List ℕ) → copying ≡ false → IsWholeRequest part → IsFirstPart copying part
first-whole true part e h = absurd cc
first-whole false part e h = h

-- whole requests are booked so
pub whole-parts : {T : Type 0} (d : code.Dialogue T) → BooksWhole d → BooksParts false d
whole-parts (code.Answer r) h = tt
whole-parts (code.Ask copying part d) h = (refl, first-whole copying part h.1 h.0, subst (λ (c : Bool). BooksParts c d) (sym h.1) (whole-parts d h.2))
whole-parts (code.Send part refused d) h = (h.0, λ e. whole-parts (refused e) (h.1 e), whole-parts d h.2)
whole-parts (code.Leave id d) h = whole-parts d h
whole-parts (code.Read cleanup decides next) h = λ ms. whole-parts (next ms) (h ms)
whole-parts (code.Put cleanup part d) h = absurd h
whole-parts (code.Finish part d) h = absurd h
whole-parts (code.Close part d) h = absurd h
whole-parts (code.HangUp d) h = whole-parts d h
whole-parts (code.Call q refused next) h = (λ e. whole-parts (refused e) (h.0 e), λ r fit. whole-parts (next r) (h.1 r fit))
whole-parts (code.Hear next) h = λ r. whole-parts (next r) (h r)

pub book-parts : {C T A E : Type 0} (speech : Speech C T A E) → BookWhole speech → BookParts speech
book-parts speech whole own c = whole-parts (speech.says own c) (whole own c)

first-is : (copying : Bool) (part : List ℕ) → copying ≡ false → IsFirstPart copying part → IsWholeRequest part
first-is true part e h = absurd cc
first-is false part e h = h

-- and where none is a copy, each that is booked so is whole
pub parts-whole : {T : Type 0} (d : code.Dialogue T) → CopiesNone d → BooksParts false d → BooksWhole d
parts-whole (code.Answer r) none h = tt
parts-whole (code.Ask copying part d) none h = (first-is copying part none.0 h.1, none.0, parts-whole d none.1 (subst (λ (c : Bool). BooksParts c d) none.0 h.2))
parts-whole (code.Send part refused d) none h = (h.0, λ e. parts-whole (refused e) (none.0 e) (h.1 e), parts-whole d none.1 h.2)
parts-whole (code.Leave id d) none h = parts-whole d none h
parts-whole (code.Read cleanup decides next) none h = λ ms. parts-whole (next ms) (none ms) (h ms)
parts-whole (code.Put cleanup part d) none h = absurd (let no : false ≡ true = h.0 in cc)
parts-whole (code.Finish part d) none h = absurd (let no : false ≡ true = h.0 in cc)
parts-whole (code.Close part d) none h = absurd (let no : false ≡ true = h.0 in cc)
parts-whole (code.HangUp d) none h = parts-whole d none h
parts-whole (code.Call q refused next) none h = (λ e. parts-whole (refused e) (none.0 e) (h.0 e), λ r fit. parts-whole (next r) (none.1 r fit) (h.1 r fit))
parts-whole (code.Hear next) none h = λ r. parts-whole (next r) (none r) (h r)

-- ---- a request as far as it was booked

abbrev AreOpen : List (List ℕ) → Type 0
AreOpen [] = Unit {0}
AreOpen (part ∷ parts) = IsOpenPart part × AreOpen parts

none-both : (xs ys : List RawMessage) → EndNone xs → EndNone ys → EndNone (xs ++ ys)
none-both [] ys h k = k
none-both (x ∷ xs) ys h k = (h.0, h.1, none-both xs ys h.2 k)

-- the frames of open parts end no unit
open-frames : (parts : List (List ℕ)) → AreOpen parts → EndNone (messages (concat parts))
open-frames [] h = tt
open-frames (part ∷ parts) h =
    subst EndNone (sym (messages-append part (concat parts) ∙ ap (λ (x : List ℕ). messages part ++ messages (x ++ concat parts)) h.0.whole))
    (none-both (messages part) (messages (concat parts)) h.0.frames (open-frames parts h.1))

none-ends : (ms : List RawMessage) → EndNone ms → ends_in ends_unit ms ≡ false
none-ends [] h = refl
none-ends (m ∷ []) h = h.0
none-ends (m ∷ n ∷ ms) h = none-ends (n ∷ ms) h.2

-- These parts were added to the request that is read, of all that it gets: no more come, or none of them ends it.
abbrev Added : (opened : Bool) → (parts all : List (List ℕ)) → Type 0
Added true parts all = (more : List (List ℕ)) × (parts ++ more ≡ all) × ((more ≡ []) ⊎ AreOpen parts)
Added false parts all = (parts ≡ []) × (all ≡ [])

one-more : (part : List ℕ) (parts all : List (List ℕ)) → IsOpenPart part → Added true parts all → Added true (part ∷ parts) (part ∷ all)
one-more part parts all h (more, is, inl none) = (more, ap (λ (l : List (List ℕ)). part ∷ l) is, inl none)
one-more part parts all h (more, is, inr open_) = (more, ap (λ (l : List (List ℕ)). part ∷ l) is, inr (h, open_))

last-one : (part : List ℕ) (parts all : List (List ℕ)) → Added false parts all → Added true (part ∷ parts) (part ∷ all)
last-one part parts all h = ([], append-nil (part ∷ parts) ∙ ap (λ (l : List (List ℕ)). part ∷ l) (h.0 ∙ sym h.1), inl refl)

-- one that is whole
begun-whole : (ended : Bool) (part : List ℕ) (parts : List (List ℕ)) → IsBegun ended (part ∷ parts) (part ∷ parts)
begun-whole true part parts = refl
begun-whole false part parts = ([], append-nil (part ∷ parts))

begun-first : (copying : Bool) (part : List ℕ) (parts all : List (List ℕ)) → IsFirstPart copying part → Added copying parts all → IsBegun (are_ended (part ∷ parts)) (part ∷ parts) (part ∷ all)
begun-first false part parts all first h =
    subst (λ (l : List (List ℕ)). IsBegun (are_ended (part ∷ parts)) (part ∷ parts) (part ∷ l)) (h.0 ∙ sym h.1) (begun-whole (are_ended (part ∷ parts)) part parts)
begun-first true part parts all first (more, is, inl none) =
    subst (λ (l : List (List ℕ)). IsBegun (are_ended (part ∷ parts)) (part ∷ parts) (part ∷ l)) (sym (append-nil parts) ∙ ap (λ (l : List (List ℕ)). parts ++ l) (sym none) ∙ is) (begun-whole (are_ended (part ∷ parts)) part parts)
begun-first true part parts all first (more, is, inr open_) =
    subst (λ (b : Bool). IsBegun b (part ∷ parts) (part ∷ all)) (sym (none-ends (messages (concat (part ∷ parts))) (open-frames (part ∷ parts) (first, open_))))
    (more, ap (λ (l : List (List ℕ)). part ∷ l) is)

-- ---- one stretch

-- Where it stands, and what was booked of the requests of a stretch, whatever parts come later.
record Begins {T : Type 0} (opened : Bool) (r : Ran T) : Type 0 where
  now : Bool
  left : BooksParts now r.left
  parts : (xs ys : List (List ℕ)) → Added now xs ys → Added opened (r.parts xs) (r.parts ys)
  requests : (xs ys : List (List ℕ)) → Added now xs ys → (more all : List (List (List ℕ))) → AreBegun more all → AreBegun (parts_in (r.whole xs) ++ more) (parts_in (r.whole ys) ++ all)

still-begins : {T : Type 0} (opened : Bool) (at : Option ℕ) (n : ℕ) (d : code.Dialogue T) → BooksParts opened d → Begins opened (stays at n d)
still-begins opened at n d h = record { now = opened; left = h; parts = λ xs ys a. a; requests = λ xs ys a more all b. b }

asks-begins : {T : Type 0} (copying : Bool) (x : Request) (part : List ℕ) (s : Ran T) (opened : Bool) (h : Begins copying s) → opened ≡ false → IsFirstPart copying part →
    (xs ys : List (List ℕ)) → Added h.now xs ys → (more all : List (List (List ℕ))) → AreBegun more all →
    AreBegun ((part ∷ s.parts xs) ∷ (parts_in (s.whole xs) ++ more)) ((part ∷ s.parts ys) ∷ (parts_in (s.whole ys) ++ all))
asks-begins copying x part s opened h none first xs ys a more all b = (begun-first copying part (s.parts xs) (s.parts ys) first (h.parts xs ys a), h.requests xs ys a more all b)

begins : {T : Type 0} (came : ℕ → List RawMessage) (opened : Bool) (at : Option ℕ) (n : ℕ) (d : code.Dialogue T) (bs : List (Result Request Error)) (answers : List (Result (Asked DeskCall Reply) Error)) (ps : List (Result Addition Error)) →
    AreGranted ps → AreFitting (granted answers) → (run came at n d bs answers ps).asked ≡ granted answers → BooksParts opened d → Begins opened (run came at n d bs answers ps)
begins came opened at n (code.Answer r) bs answers ps g fit e h = still-begins opened at n (code.Answer r) tt
begins came opened at n (code.Ask copying part d) [] answers ps g fit e h = still-begins opened at n (code.Ask copying part d) h
begins came opened at n (code.Ask copying part d) (Ok x ∷ bs) answers ps g fit e h =
    let s = run came (Some x.number) 0 d bs answers ps in
    let b = begins came copying (Some x.number) 0 d bs answers ps g fit e h.2 in
    record {
      now = b.now;
      left = b.left;
      parts = λ xs ys a. subst (λ (o : Bool). Added o [] []) (sym h.0) (refl, refl);
      requests = asks-begins copying x part s opened b h.0 h.1;
    }
begins came opened at n (code.Ask copying part d) (Err f ∷ bs) answers ps g fit e h = still-begins opened at n (code.Answer (Err f)) tt
begins came opened at n (code.Send part refused d) [] answers ps g fit e h = still-begins opened at n (code.Send part refused d) h
begins came opened at n (code.Send part refused d) (Ok x ∷ bs) answers ps g fit e h =
    let b = begins came opened at n d bs answers ps g fit e h.2 in
    record {
      now = b.now;
      left = b.left;
      parts = b.parts;
      requests = λ xs ys a more all k. (begun-whole (are_ended (part ∷ [])) part [], b.requests xs ys a more all k);
    }
begins came opened at n (code.Send part refused d) (Err f ∷ bs) answers ps g fit e h = begins came opened at n (refused f) bs answers ps g fit e (h.1 f)
begins came opened at n (code.Leave id d) bs answers ps g fit e h = begins came opened at n d bs answers ps g fit e h
begins {T} came opened at n (code.Read cleanup decides next) bs answers ps g fit e h =
    by (decided_after decides (drop n (of_request came at))) (λ k e. begins came opened at (n + k) (next (take k (drop n (of_request came at)))) bs answers ps g fit e (h (take k (drop n (of_request came at))))) e
  where
    chosen : Option ℕ → Ran T
    chosen o = elim o as (λ _. Ran T) [ None ↦ stays at n (code.Read cleanup decides next) | Some k ↦ run came at (n + k) (next (take k (drop n (of_request came at)))) bs answers ps ]

    by : (o : Option ℕ) →
        ((k : ℕ) → (run came at (n + k) (next (take k (drop n (of_request came at)))) bs answers ps).asked ≡ granted answers → Begins opened (run came at (n + k) (next (take k (drop n (of_request came at)))) bs answers ps)) →
        (chosen o).asked ≡ granted answers → Begins opened (chosen o)
    by None later e = still-begins opened at n (code.Read cleanup decides next) h
    by (Some k) later e = later k e
begins came opened None n (code.Put cleanup part d) bs answers ps g fit e h = still-begins opened None n (code.Put cleanup part d) h
begins came opened (Some k) n (code.Put cleanup part d) bs answers [] g fit e h = still-begins opened (Some k) n (code.Put cleanup part d) h
begins came opened (Some k) n (code.Put cleanup part d) bs answers (Ok x ∷ ps) g fit e h =
    let b = begins came true (Some k) n d bs answers ps g fit e h.2 in
    record {
      now = b.now;
      left = b.left;
      parts = λ xs ys a. subst (λ (o : Bool). Added o (part ∷ (run came (Some k) n d bs answers ps).parts xs) (part ∷ (run came (Some k) n d bs answers ps).parts ys)) (sym h.0) (one-more part _ _ h.1 (b.parts xs ys a));
      requests = b.requests;
    }
begins came opened (Some k) n (code.Put cleanup part d) bs answers (Err f ∷ ps) g fit e h = absurd g
begins came opened None n (code.Finish part d) bs answers ps g fit e h = still-begins opened None n (code.Finish part d) h
begins came opened (Some k) n (code.Finish part d) bs answers [] g fit e h = still-begins opened (Some k) n (code.Finish part d) h
begins came opened (Some k) n (code.Finish part d) bs answers (Ok x ∷ ps) g fit e h =
    let b = begins came false (Some k) n d bs answers ps g fit e h.2 in
    record {
      now = b.now;
      left = b.left;
      parts = λ xs ys a. subst (λ (o : Bool). Added o (part ∷ (run came (Some k) n d bs answers ps).parts xs) (part ∷ (run came (Some k) n d bs answers ps).parts ys)) (sym h.0) (last-one part _ _ (b.parts xs ys a));
      requests = b.requests;
    }
begins came opened (Some k) n (code.Finish part d) bs answers (Err f ∷ ps) g fit e h = absurd g
begins came opened None n (code.Close part d) bs answers ps g fit e h = still-begins opened None n (code.Close part d) h
begins came opened (Some k) n (code.Close part d) bs answers [] g fit e h = still-begins opened (Some k) n (code.Close part d) h
begins came opened (Some k) n (code.Close part d) bs answers (Ok x ∷ ps) g fit e h =
    let b = begins came false (Some k) n d bs answers ps g fit e h.2 in
    record {
      now = b.now;
      left = b.left;
      parts = λ xs ys a. subst (λ (o : Bool). Added o (part ∷ (run came (Some k) n d bs answers ps).parts xs) (part ∷ (run came (Some k) n d bs answers ps).parts ys)) (sym h.0) (last-one part _ _ (b.parts xs ys a));
      requests = b.requests;
    }
begins came opened (Some k) n (code.Close part d) bs answers (Err f ∷ ps) g fit e h = absurd g
begins came opened at n (code.HangUp d) bs answers ps g fit e h = begins came opened at n d bs answers ps g fit e h
begins came opened at n (code.Call q refused next) bs [] ps g fit e h = still-begins opened at n (code.Call q refused next) h
begins came opened at n (code.Call q refused next) bs (Ok a ∷ answers) ps g fit e h =
    let k = first-asked q a (run came at n (next a.reply) bs answers ps).asked (granted answers) e fit.0 in
    let b = begins came opened at n (next a.reply) bs answers ps g fit.1 k.1 (h.1 a.reply k.0) in
    record { now = b.now; left = b.left; parts = b.parts; requests = b.requests }
begins came opened at n (code.Call q refused next) bs (Err f ∷ answers) ps g fit e h = begins came opened at n (refused f) bs answers ps g fit e (h.0 f)
begins came opened at n (code.Hear next) bs answers ps g fit e h = still-begins opened at n (code.Hear next) h

-- what is said of each request by its number and its stamp is said of it with all its parts
named : {T X : Type 0} (g : ℕ → Stamp → X) (came : ℕ → List RawMessage) (at : Option ℕ) (n : ℕ) (d : code.Dialogue T) (bs : List (Result Request Error)) (answers : List (Result (Asked DeskCall Reply) Error)) (ps : List (Result Addition Error)) →
    AreGranted ps → (later : List (List ℕ)) → map (λ r. g r.number r.booking.stamp) ((run came at n d bs answers ps).whole later) ≡ map (λ r. g r.number r.booking.stamp) (run came at n d bs answers ps).requests
named g came at n (code.Answer r) bs answers ps a later = refl
named g came at n (code.Ask copying part d) [] answers ps a later = refl
named {T} {X} g came at n (code.Ask copying part d) (Ok x ∷ bs) answers ps a later = ap (λ (l : List X). g x.number x.booking.stamp ∷ l) (named g came (Some x.number) 0 d bs answers ps a later)
named g came at n (code.Ask copying part d) (Err f ∷ bs) answers ps a later = refl
named g came at n (code.Send part refused d) [] answers ps a later = refl
named {T} {X} g came at n (code.Send part refused d) (Ok x ∷ bs) answers ps a later = ap (λ (l : List X). g x.number x.booking.stamp ∷ l) (named g came at n d bs answers ps a later)
named g came at n (code.Send part refused d) (Err f ∷ bs) answers ps a later = named g came at n (refused f) bs answers ps a later
named g came at n (code.Leave id d) bs answers ps a later = named g came at n d bs answers ps a later
named {T} g came at n (code.Read cleanup decides next) bs answers ps a later =
    by (decided_after decides (drop n (of_request came at))) (λ k. named g came at (n + k) (next (take k (drop n (of_request came at)))) bs answers ps a later)
  where
    chosen : Option ℕ → Ran T
    chosen o = elim o as (λ _. Ran T) [ None ↦ stays at n (code.Read cleanup decides next) | Some k ↦ run came at (n + k) (next (take k (drop n (of_request came at)))) bs answers ps ]

    by : (o : Option ℕ) →
        ((k : ℕ) → map (λ r. g r.number r.booking.stamp) ((run came at (n + k) (next (take k (drop n (of_request came at)))) bs answers ps).whole later)
        ≡ map (λ r. g r.number r.booking.stamp) (run came at (n + k) (next (take k (drop n (of_request came at)))) bs answers ps).requests) →
        map (λ r. g r.number r.booking.stamp) ((chosen o).whole later) ≡ map (λ r. g r.number r.booking.stamp) (chosen o).requests
    by None h = refl
    by (Some k) h = h k
named g came None n (code.Put cleanup part d) bs answers ps a later = refl
named g came (Some k) n (code.Put cleanup part d) bs answers [] a later = refl
named g came (Some k) n (code.Put cleanup part d) bs answers (Ok x ∷ ps) a later = named g came (Some k) n d bs answers ps a later
named g came (Some k) n (code.Put cleanup part d) bs answers (Err f ∷ ps) a later = absurd a
named g came None n (code.Finish part d) bs answers ps a later = refl
named g came (Some k) n (code.Finish part d) bs answers [] a later = refl
named g came (Some k) n (code.Finish part d) bs answers (Ok x ∷ ps) a later = named g came (Some k) n d bs answers ps a later
named g came (Some k) n (code.Finish part d) bs answers (Err f ∷ ps) a later = absurd a
named g came None n (code.Close part d) bs answers ps a later = refl
named g came (Some k) n (code.Close part d) bs answers [] a later = refl
named g came (Some k) n (code.Close part d) bs answers (Ok x ∷ ps) a later = named g came (Some k) n d bs answers ps a later
named g came (Some k) n (code.Close part d) bs answers (Err f ∷ ps) a later = absurd a
named g came at n (code.HangUp d) bs answers ps a later = named g came at n d bs answers ps a later
named g came at n (code.Call q refused next) bs [] ps a later = refl
named g came at n (code.Call q refused next) bs (Ok x ∷ answers) ps a later = named g came at n (next x.reply) bs answers ps a later
named g came at n (code.Call q refused next) bs (Err f ∷ answers) ps a later = named g came at n (refused f) bs answers ps a later
named g came at n (code.Hear next) bs answers ps a later = refl

-- where no copy is open, the request that is read gets no part more
none-more : {T : Type 0} (d : code.Dialogue T) (met : Met Reply) (left : List RawMessage) → BooksParts false d → AreMatched (outcome (asked d) met left).asked met.told → (outcome (asked d) met left).parts ≡ []
none-more (code.Answer r) met left h m = refl
none-more (code.Ask copying part d) met left h m = refl
none-more (code.Send part refused d) met left h m = none-more d (past_reply met) left h.2 m
none-more (code.Leave id d) met left h m = none-more d met left h m
none-more {T} (code.Read cleanup decides next) met left h m = by (decided_after decides left) (λ k m. none-more (next (take k left)) met (drop k left) (h (take k left)) m) m
  where
    so : Option ℕ → Outcome DeskCall (Result T Error)
    so o = elim o as (λ _. Outcome DeskCall (Result T Error)) [ None ↦ nothing_yet | Some k ↦ outcome (asked (next (take k left))) met (drop k left) ]

    by : (o : Option ℕ) → ((k : ℕ) → AreMatched (outcome (asked (next (take k left))) met (drop k left)).asked met.told → (outcome (asked (next (take k left))) met (drop k left)).parts ≡ []) →
        AreMatched (so o).asked met.told → (so o).parts ≡ []
    by None h m = refl
    by (Some k) h m = h k m
none-more (code.Put cleanup part d) met left h m = absurd (let no : false ≡ true = h.0 in cc)
none-more (code.Finish part d) met left h m = absurd (let no : false ≡ true = h.0 in cc)
none-more (code.Close part d) met left h m = absurd (let no : false ≡ true = h.0 in cc)
none-more (code.HangUp d) met left h m = none-more d met left h m
none-more {T} (code.Call q refused next) met left h m = by met.told (λ r told fit m. none-more (next r) (record { replies = met.replies; told = told }) left (h.1 r fit) m) m
  where
    so : List Reply → Outcome DeskCall (Result T Error)
    so l = elim l as (λ _. Outcome DeskCall (Result T Error)) [ [] ↦ nothing_yet | r ∷ told ↦ with_query q (outcome (asked (next r)) (record { replies = met.replies; told = told }) left) ]

    by : (l : List Reply) →
        ((r : Reply) (told : List Reply) → fits q r ≡ true → AreMatched (outcome (asked (next r)) (record { replies = met.replies; told = told }) left).asked told →
        (outcome (asked (next r)) (record { replies = met.replies; told = told }) left).parts ≡ []) →
        AreMatched (so l).asked l → (so l).parts ≡ []
    by [] h m = refl
    by (r ∷ told) h m = h r told m.0 m.1
none-more {T} (code.Hear next) met left h m = by (decided_after (λ (ms : List RawMessage). false) left)
  where
    so : Option ℕ → Outcome DeskCall (Result T Error)
    so o = elim o as (λ _. Outcome DeskCall (Result T Error)) [ None ↦ nothing_yet | Some k ↦ record { parts = []; requests = []; asked = []; answer = Some (Err Closed); left = drop k left } ]

    by : (o : Option ℕ) → (so o).parts ≡ []
    by None = refl
    by (Some k) = refl

-- ---- all turns so far

none-named : {X : Type 0} (g : ℕ → Stamp → X) (rs : List Request) → [] ≡ map (λ r. g r.number r.booking.stamp) rs → rs ≡ []
none-named g [] e = refl
none-named g (r ∷ rs) e = absurd cc

module _ {T : Type 0} (course : Course DeskCall Reply) (who : Who) (d : code.Dialogue T) where
  pub named-all : {X : Type 0} (g : ℕ → Stamp → X) (trail : List Moment) → AreTurnsOf tells course who d trail → (later : List (List ℕ)) →
      map (λ r. g r.number r.booking.stamp) ((ran_by d trail).whole later) ≡ map (λ r. g r.number r.booking.stamp) (ran_by d trail).requests
  named-all g [] made later = refl
  named-all {X} g (m ∷ before) (number, former, t, ts) later =
      let s = ran_by d before in
      let r = goes_on s m in
      map-append (λ (x : Request). g x.number x.booking.stamp) (s.whole (r.parts later)) (r.whole later)
      ∙ ap (λ (l : List X). l ++ map (λ x. g x.number x.booking.stamp) (r.whole later)) (named-all g before ts (r.parts later))
      ∙ ap (λ (l : List X). map (λ x. g x.number x.booking.stamp) s.requests ++ l) (named g m.came s.at s.read s.left m.bookings m.answers m.additions t.all_added later)
      ∙ sym (map-append (λ (x : Request). g x.number x.booking.stamp) s.requests r.requests)

  -- none is booked where none is with all its parts
  pub no-request : (trail : List Moment) → AreTurnsOf tells course who d trail → (ran_by d trail).whole [] ≡ [] → (ran_by d trail).requests ≡ []
  no-request trail made e =
      none-named (λ n stamp. n) (ran_by d trail).requests (ap (λ (rs : List Request). map (λ r. r.number) rs) (sym e) ∙ named-all (λ n stamp. n) trail made [])

module _ {T : Type 0} (course : Course DeskCall Reply) (who : Who) (d : code.Dialogue T) (h : BooksParts false d) where
  begins-all : (trail : List Moment) → AreTurnsOf tells course who d trail → AreMet d trail → Begins false (ran_by d trail)
  begins-all [] made met = still-begins false None 0 d h
  begins-all (m ∷ before) (number, former, t, ts) (requests, same, added, met) =
      let s = ran_by d before in
      let r = goes_on s m in
      let a = begins-all before ts met in
      let b = begins m.came a.now s.at s.read s.left m.bookings m.answers m.additions t.all_added (turn-fitting who m.place former (granted m.answers) t.told) same a.left in
      record {
        now = b.now;
        left = b.left;
        parts = λ xs ys k. a.parts (r.parts xs) (r.parts ys) (b.parts xs ys k);
        requests = λ xs ys k more all q.
            subst (λ (l : List (List (List ℕ))). AreBegun l (parts_in (s.whole (r.parts ys) ++ r.whole ys) ++ all)) (sym (split s r xs more))
            (subst (λ (l : List (List (List ℕ))). AreBegun (parts_in (s.whole (r.parts xs)) ++ (parts_in (r.whole xs) ++ more)) l) (sym (split s r ys all))
            (a.requests (r.parts xs) (r.parts ys) (b.parts xs ys k) (parts_in (r.whole xs) ++ more) (parts_in (r.whole ys) ++ all) (b.requests xs ys k more all q)));
      }
    where
      split : (s r : Ran T) (xs : List (List ℕ)) (more : List (List (List ℕ))) → parts_in (s.whole (r.parts xs) ++ r.whole xs) ++ more ≡ parts_in (s.whole (r.parts xs)) ++ (parts_in (r.whole xs) ++ more)
      split s r xs more =
          ap (λ (l : List (List (List ℕ))). l ++ more) (map-append (λ (x : Request). x.booking.parts) (s.whole (r.parts xs)) (r.whole xs))
          ∙ append_assoc (parts_in (s.whole (r.parts xs))) (parts_in (r.whole xs)) more

  now-added : (now : Bool) (s : Ran T) → BooksParts now s.left → Added now [] (left-of course who d s [] []).parts
  now-added true s k = ((left-of course who d s [] []).parts, refl, inr tt)
  now-added false s k =
      (refl, none-more s.left (met_by (reply course who d) [] []) (drop s.read (of_request (reply course who d) s.at)) k (none-told (left-of course who d s [] []).asked))

  -- each of its requests is one that comes of it, as far as it was booked, and these are all its questions
  pub record SoFar (trail : List Moment) : Type 0 where
    pub requests : AreBegun (parts_in ((ran_by d trail).whole [])) (all-of course who d ((ran_by d trail).whole []) (ran_by d trail).asked).requests
    pub asks : questions_in (ran_by d trail).asked ≡ (all-of course who d ((ran_by d trail).whole []) (ran_by d trail).asked).asked

  pub booked-so-far : (trail : List Moment) → AreTurnsOf tells course who d trail → AreMet d trail → SoFar trail
  booked-so-far trail made met =
      let s = ran_by d trail in
      let o = left-of course who d s [] [] in
      let b = begins-all trail made met in
      let f = as-far course who d trail made met in
      let same : all-of course who d s.requests s.asked ≡ all-of course who d (s.whole []) s.asked =
      ap (λ (gs : List (List RawMessage)). let m : Met Reply = record { replies = gs; told = map (λ a. a.reply) s.asked } in outcome (asked d) m []) (sym (named-all course who d (λ n stamp. reply course who d n) trail made [])) in
      let begun : AreBegun (parts_in (s.whole [])) (all-of course who d s.requests s.asked).requests =
      subst (λ (l : List (List (List ℕ))). AreBegun (parts_in (s.whole [])) l) f.requests
      (subst (λ (l : List (List (List ℕ))). AreBegun l (parts_in (s.whole o.parts) ++ o.requests)) (append-nil (parts_in (s.whole [])))
      (b.requests [] o.parts (now-added b.now s b.left) [] o.requests tt)) in
      record {
        requests = subst (λ (x : Outcome DeskCall (Result T Error)). AreBegun (parts_in (s.whole [])) x.requests) same begun;
        asks = f.asks ∙ ap (λ (x : Outcome DeskCall (Result T Error)). x.asked) same;
      }
