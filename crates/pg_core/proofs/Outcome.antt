-- The function of a walk against the outcome of a dialogue.
use Rattle.std.proofs.Common.{◌≡◌, ◌⊎◌, ℕ, ◌+◌, List, [], ◌∷◌, ◌++◌, length, map, take, drop, Bool, true, false, if◌then◌else◌, Option, Some, None, Result, Ok, Err, is_ok, refl, sym, ap, subst, ◌∙◌, inl, inr}
use Rattle.std.proofs.lemmas.List.{drop-drop, length-take-le}
use Rattle.pg_spec.specs.RawMessages.{RawMessage}
use Rattle.pg_types.specs.declared.error.Error.{Error}
use Rattle.pg_types.specs.declared.error.Error.TheVariants.{Closed, OutOfMemory}
use Rattle.pg_spec.specs.declared.stamps.Stamp.{Stamp}
use Rattle.pg_desk.specs.History.{IsFrontOf}
use Rattle.pg_desk.specs.declared.event.DeskFault.{DeskFault}
use Rattle.pg_desk.specs.declared.event.DeskFault.TheVariants as fault
use Rattle.pg_desk.specs.declared.event.Put.TheVariants as putting
use Rattle.pg_desk.specs.declared.event.Event.{Event}
use Rattle.pg_desk.specs.declared.event.Event.TheVariants as call
use Rattle.pg_query.specs.Dialogue.{Dialogue, Answer, Ask, Send, Leave, Read, Put, Finish, Close, HangUp, Call, Hear, fits, question_of, reply_of}
use Rattle.pg_query.specs.Lives.{Deed, Turn, Leads, Lives, deeds}
use Rattle.pg_query.specs.Meaning.{Place}
use Rattle.pg_query.specs.Scripts.{IsRead, IsPut}
use Rattle.pg_query.specs.declared.desk_call.DeskCall.{DeskCall}
use Rattle.pg_query.specs.declared.desk_call.Reply.{Reply}
use Rattle.pg_spec.specs.Courses.{Asked, Request, Met, Outcome, outcome, nothing_yet, past_reply, with_request, with_sent, with_part, with_question as with_query}
use Rattle.pg_spec.specs.Dialogues.{decided_after}
use Rattle.pg_query.proofs.RequestLaws.{lives-lead}
use Rattle.pg_core.specs.Deeds.{Addition, booked_by, bookings_in, added_by, additions_in, told_as, told_by, answers_in, granted, AreGranted, requests_in, added_in, whole_in, copies_in, asked_in, taken_from, Serves, EndsRefused}
use Rattle.pg_core.specs.Runs.{AddsNone, AddsTo, MayWait, Ran, of_request, stays, run, ReadsNothing, IsTidy, Holds, Answered, Stands, Gave, Rests, Refused, Comes}
use Rattle.pg_core.specs.Outcomes.{asked, met_by, parts_in, questions_in, IsOutcome, IsBegun, AreBegun, IsUnderWay, is_granted, unrefused, AnswersSo, LivesSo}
use Rattle.pg_core.proofs.Core.{adds-none, comes}
use Rattle.pg_core.proofs.Fed.{still-decides, front-decides}
use Rattle.pg_core.proofs.Later.{none-added}
use Rattle.pg_core.proofs.Fitting.{AreFitting, AreMatched, first-asked, matched, told-fitting}

abbrev told_so : {T : Type 0} → (ℕ → List RawMessage) → Ran T → Result T Error → Outcome DeskCall (Result T Error)
told_so came s r = record { parts = s.parts []; requests = parts_in (s.whole []); asked = questions_in s.asked; answer = Some r; left = drop s.read (of_request came s.at) }

-- supplies that weren't refused
abbrev pub as_granted : {A : Type 0} → List A → List (Result A Error)
as_granted [] = []
as_granted (x ∷ xs) = Ok x ∷ as_granted xs

granted-all : {A : Type 0} (xs : List A) → granted (as_granted xs) ≡ xs
granted-all [] = refl
granted-all {A} (x ∷ xs) = ap (λ (l : List A). x ∷ l) (granted-all xs)

pub all-granted : {A : Type 0} (xs : List (Result A Error)) → AreGranted xs → xs ≡ as_granted (granted xs)
all-granted [] h = refl
all-granted {A} (Ok x ∷ xs) h = ap (λ (l : List (Result A Error)). Ok x ∷ l) (all-granted xs h)
all-granted (Err e ∷ xs) h = absurd h

-- where the function comes to an answer, it is the outcome
pub run-outcome : {T : Type 0} (came : ℕ → List RawMessage) (r : Result T Error) (at : Option ℕ) (n : ℕ) (d : Dialogue T) (rs : List Request) (qs : List (Asked DeskCall Reply)) (ps : List Addition) →
    (run came at n d (as_granted rs) (as_granted qs) (as_granted ps)).left ≡ Answer r →
    outcome (asked d) (met_by came rs qs) (drop n (of_request came at)) ≡ told_so came (run came at n d (as_granted rs) (as_granted qs) (as_granted ps)) r
run-outcome {T} came r at n (Answer x) rs qs ps e =
    let same : x ≡ r = cc in
    ap (λ (y : Result T Error). let o : Outcome DeskCall (Result T Error) = record { parts = []; requests = []; asked = []; answer = Some y; left = drop n (of_request came at) } in o) same
run-outcome came r at n (Ask copying part d) [] qs ps e = absurd cc
run-outcome came r at n (Ask copying part d) (x ∷ rs) qs ps e = ap (with_request part) (run-outcome came r (Some x.number) 0 d rs qs ps e)
run-outcome came r at n (Send part refused d) [] qs ps e = absurd cc
run-outcome came r at n (Send part refused d) (x ∷ rs) qs ps e = ap (with_sent part) (run-outcome came r at n d rs qs ps e)
run-outcome came r at n (Leave id d) rs qs ps e = run-outcome came r at n d rs qs ps e
run-outcome {T} came r at n (Read cleanup decides next) rs qs ps e =
    by (decided_after decides (drop n (of_request came at))) (λ k. run-outcome came r at (n + k) (next (take k (drop n (of_request came at)))) rs qs ps) e
  where
    chosen : Option ℕ → Ran T
    chosen o = elim o [ None ↦ stays at n (Read cleanup decides next) | Some k ↦ run came at (n + k) (next (take k (drop n (of_request came at)))) (as_granted rs) (as_granted qs) (as_granted ps) ]

    met : Option ℕ → Outcome DeskCall (Result T Error)
    met o = elim o [ None ↦ nothing_yet | Some k ↦ outcome (asked (next (take k (drop n (of_request came at))))) (met_by came rs qs) (drop k (drop n (of_request came at))) ]

    by : (o : Option ℕ) →
        ((k : ℕ) → (run came at (n + k) (next (take k (drop n (of_request came at)))) (as_granted rs) (as_granted qs) (as_granted ps)).left ≡ Answer r →
        outcome (asked (next (take k (drop n (of_request came at))))) (met_by came rs qs) (drop (n + k) (of_request came at)) ≡ told_so came (run came at (n + k) (next (take k (drop n (of_request came at)))) (as_granted rs) (as_granted qs) (as_granted ps)) r) →
        (chosen o).left ≡ Answer r → met o ≡ told_so came (chosen o) r
    by None h e = absurd cc
    by (Some k) h e = ap (outcome (asked (next (take k (drop n (of_request came at))))) (met_by came rs qs)) (drop-drop k n (of_request came at)) ∙ h k e
run-outcome came r None n (Put cleanup part d) rs qs ps e = absurd cc
run-outcome came r (Some k) n (Put cleanup part d) rs qs [] e = absurd cc
run-outcome came r (Some k) n (Put cleanup part d) rs qs (a ∷ ps) e = ap (with_part part) (run-outcome came r (Some k) n d rs qs ps e)
run-outcome came r None n (Finish part d) rs qs ps e = absurd cc
run-outcome came r (Some k) n (Finish part d) rs qs [] e = absurd cc
run-outcome came r (Some k) n (Finish part d) rs qs (a ∷ ps) e = ap (with_part part) (run-outcome came r (Some k) n d rs qs ps e)
run-outcome came r None n (Close part d) rs qs ps e = absurd cc
run-outcome came r (Some k) n (Close part d) rs qs [] e = absurd cc
run-outcome came r (Some k) n (Close part d) rs qs (a ∷ ps) e = ap (with_part part) (run-outcome came r (Some k) n d rs qs ps e)
run-outcome came r at n (HangUp d) rs qs ps e = run-outcome came r at n d rs qs ps e
run-outcome came r at n (Call q refused next) rs [] ps e = absurd cc
run-outcome came r at n (Call q refused next) rs (a ∷ qs) ps e = ap (with_query q) (run-outcome came r at n (next a.reply) rs qs ps e)
run-outcome came r at n (Hear next) rs qs ps e = absurd cc

-- where nothing more is told, nothing more is asked
asks-nothing : {T : Type 0} (d : Dialogue T) (replies : List (List RawMessage)) (left : List RawMessage) → (outcome (asked d) (record { replies = replies; told = [] }) left).asked ≡ []
asks-nothing (Answer r) replies left = refl
asks-nothing (Ask copying part d) [] left = asks-nothing d [] []
asks-nothing (Ask copying part d) (g ∷ gs) left = asks-nothing d gs g
asks-nothing (Send part refused d) [] left = asks-nothing d [] left
asks-nothing (Send part refused d) (g ∷ gs) left = asks-nothing d gs left
asks-nothing (Leave id d) replies left = asks-nothing d replies left
asks-nothing {T} (Read cleanup decides next) replies left = by (decided_after decides left) (λ k. asks-nothing (next (take k left)) replies (drop k left))
  where
    met : Option ℕ → Outcome DeskCall (Result T Error)
    met o = elim o [ None ↦ nothing_yet | Some k ↦ outcome (asked (next (take k left))) (record { replies = replies; told = [] }) (drop k left) ]

    by : (o : Option ℕ) → ((k : ℕ) → (outcome (asked (next (take k left))) (record { replies = replies; told = [] }) (drop k left)).asked ≡ []) → (met o).asked ≡ []
    by None h = refl
    by (Some k) h = h k
asks-nothing (Put cleanup part d) replies left = asks-nothing d replies left
asks-nothing (Finish part d) replies left = asks-nothing d replies left
asks-nothing (Close part d) replies left = asks-nothing d replies left
asks-nothing (HangUp d) replies left = asks-nothing d replies left
asks-nothing (Call q refused next) replies left = refl
asks-nothing {T} (Hear next) replies left = by (decided_after (λ (ms : List RawMessage). false) left)
  where
    met : Option ℕ → Outcome DeskCall (Result T Error)
    met o = elim o [ None ↦ nothing_yet | Some k ↦ record { parts = []; requests = []; asked = []; answer = Some (Err Closed); left = drop k left } ]

    by : (o : Option ℕ) → (met o).asked ≡ []
    by None = refl
    by (Some k) = refl

-- what the outcome books and adds, as far as it went, and all that it asks
record Front {T : Type 0} (came : ℕ → List RawMessage) (s : Ran T) (o : Outcome DeskCall (Result T Error)) : Type 0 where
  parts : IsFrontOf (s.parts []) o.parts
  requests : AreBegun s.copies (parts_in (s.whole [])) o.requests
  asks : questions_in s.asked ≡ o.asked

nothing-told : {A : Type 0} (xs : List A) → 0 ≡ length xs → xs ≡ []
nothing-told [] e = refl
nothing-told (x ∷ xs) e = absurd cc

stays-front : {T : Type 0} (came : ℕ → List RawMessage) (at : Option ℕ) (n : ℕ) (d : Dialogue T) (rs : List Request) (qs : List (Asked DeskCall Reply)) → 0 ≡ length qs →
    Front came (stays at n d) (outcome (asked d) (met_by came rs qs) (drop n (of_request came at)))
stays-front came at n d rs qs e = record {
  parts = ((outcome (asked d) (met_by came rs qs) (drop n (of_request came at))).parts, refl);
  requests = tt;
  asks = sym (ap (λ (x : List (Asked DeskCall Reply)). (outcome (asked d) (met_by came rs x) (drop n (of_request came at))).asked) (nothing-told qs e)
      ∙ asks-nothing d (map (λ r. came r.number) rs) (drop n (of_request came at)));
}

-- behind the messages that decide it goes on tidily
tidy-next : {T : Type 0} (decides : List RawMessage → Bool) (next : List RawMessage → Dialogue T) → ((ms : List RawMessage) → decided_after decides ms ≡ Some (length ms) → IsTidy (next ms)) →
    (left : List RawMessage) (k : ℕ) → decided_after decides left ≡ Some k → IsTidy (next (take k left))
tidy-next decides next tidy left k e =
    tidy (take k left) (front-decides decides left k e ∙ ap (λ (x : ℕ). Some x) (sym (length-take-le k left (still-decides decides left [] k e).within)))

-- a dialogue that adds none before its next request gives the request that it reads no part more, where what it is told fits
no-parts : {T : Type 0} (d : Dialogue T) (met : Met Reply) (left : List RawMessage) → AddsNone d → AreMatched (outcome (asked d) met left).asked met.told → (outcome (asked d) met left).parts ≡ []
no-parts (Answer r) met left none m = refl
no-parts (Ask copying part d) met left none m = refl
no-parts (Send part refused d) met left none m = no-parts d (past_reply met) left none.1 m
no-parts (Leave id d) met left none m = no-parts d met left none m
no-parts {T} (Read cleanup decides next) met left none m = by (decided_after decides left) refl (λ k e m. no-parts (next (take k left)) met (drop k left) (behind-it k e) m) m
  where
    so : Option ℕ → Outcome DeskCall (Result T Error)
    so o = elim o [ None ↦ nothing_yet | Some k ↦ outcome (asked (next (take k left))) met (drop k left) ]

    behind-it : (k : ℕ) → decided_after decides left ≡ Some k → AddsNone (next (take k left))
    behind-it k e = none (take k left) (front-decides decides left k e ∙ ap (λ (x : ℕ). Some x) (sym (length-take-le k left (still-decides decides left [] k e).within)))

    by : (o : Option ℕ) → decided_after decides left ≡ o →
        ((k : ℕ) → decided_after decides left ≡ Some k → AreMatched (outcome (asked (next (take k left))) met (drop k left)).asked met.told → (outcome (asked (next (take k left))) met (drop k left)).parts ≡ []) →
        AreMatched (so o).asked met.told → (so o).parts ≡ []
    by None e h m = refl
    by (Some k) e h m = h k e m
no-parts (Put cleanup part d) met left none m = absurd none
no-parts (Finish part d) met left none m = absurd none
no-parts (Close part d) met left none m = absurd none
no-parts (HangUp d) met left none m = no-parts d met left none m
no-parts {T} (Call q refused next) met left none m = by met.told (λ r told fit m. no-parts (next r) (record { replies = met.replies; told = told }) left (none.1 r fit) m) m
  where
    so : List Reply → Outcome DeskCall (Result T Error)
    so l = elim l [ [] ↦ nothing_yet | r ∷ told ↦ with_query q (outcome (asked (next r)) (record { replies = met.replies; told = told }) left) ]

    by : (l : List Reply) →
        ((r : Reply) (told : List Reply) → fits q r ≡ true → AreMatched (outcome (asked (next r)) (record { replies = met.replies; told = told }) left).asked told →
        (outcome (asked (next r)) (record { replies = met.replies; told = told }) left).parts ≡ []) →
        AreMatched (so l).asked l → (so l).parts ≡ []
    by [] h m = refl
    by (r ∷ told) h m = h r told m.0 m.1
no-parts {T} (Hear next) met left none m = by (decided_after (λ (ms : List RawMessage). false) left)
  where
    so : Option ℕ → Outcome DeskCall (Result T Error)
    so o = elim o [ None ↦ nothing_yet | Some k ↦ record { parts = []; requests = []; asked = []; answer = Some (Err Closed); left = drop k left } ]

    by : (o : Option ℕ) → (so o).parts ≡ []
    by None = refl
    by (Some k) = refl

-- the request that is booked, as far as it went
begun-first : (copying : Bool) (part : List ℕ) (ps qs : List (List ℕ)) → IsFrontOf ps qs → (copying ≡ false → (ps ≡ []) × (qs ≡ [])) → IsBegun copying (part ∷ ps) (part ∷ qs)
begun-first true part ps qs front none = (front.0, ap (λ (l : List (List ℕ)). part ∷ l) front.1)
begun-first false part ps qs front none = ap (λ (l : List (List ℕ)). part ∷ l) ((none refl).0 ∙ sym (none refl).1)

run-front : {T : Type 0} (came : ℕ → List RawMessage) (at : Option ℕ) (n : ℕ) (d : Dialogue T) (rs : List Request) (qs : List (Asked DeskCall Reply)) (ps : List Addition) → IsTidy d → AreFitting qs →
    (run came at n d (as_granted rs) (as_granted qs) (as_granted ps)).asked ≡ qs →
    Front came (run came at n d (as_granted rs) (as_granted qs) (as_granted ps)) (outcome (asked d) (met_by came rs qs) (drop n (of_request came at)))
run-front came at n (Answer r) rs qs ps tidy fit e = record { parts = ([], refl); requests = tt; asks = refl }
run-front came at n (Ask copying part d) [] qs ps tidy fit e = stays-front came at n (Ask copying part d) [] qs (ap length e)
run-front {T} came at n (Ask copying part d) (x ∷ rs) qs ps tidy fit e =
    let s : Ran T = run came (Some x.number) 0 d (as_granted rs) (as_granted qs) (as_granted ps) in
    let f = run-front came (Some x.number) 0 d rs qs ps tidy.1 fit e in
    let o = outcome (asked d) (met_by came rs qs) (came x.number) in
    let all : questions_in qs ≡ o.asked = ap questions_in (sym e) ∙ f.asks in
    let granted_all : granted (as_granted qs) ≡ qs = granted-all qs in
    let none : (copying ≡ false → (s.parts [] ≡ []) × (o.parts ≡ [])) = λ no. (
      adds-none came (Some x.number) 0 d (as_granted rs) (as_granted qs) (as_granted ps) (subst AreFitting (sym granted_all) fit) (e ∙ sym granted_all) (subst (λ (b : Bool). AddsTo b d) no tidy.0),
      no-parts d (met_by came rs qs) (came x.number) (subst (λ (b : Bool). AddsTo b d) no tidy.0) (subst (λ (l : List DeskCall). AreMatched l (map (λ a. a.reply) qs)) all (matched qs fit)),
    ) in
    record { parts = ([], refl); requests = (begun-first copying part (s.parts []) o.parts f.parts none, f.requests); asks = f.asks }
run-front came at n (Send part refused d) [] qs ps tidy fit e = stays-front came at n (Send part refused d) [] qs (ap length e)
run-front came at n (Send part refused d) (x ∷ rs) qs ps tidy fit e =
    let f = run-front came at n d rs qs ps tidy.1 fit e in
    record { parts = f.parts; requests = (refl, f.requests); asks = f.asks }
run-front came at n (Leave id d) rs qs ps tidy fit e = let f = run-front came at n d rs qs ps tidy fit e in record { parts = f.parts; requests = f.requests; asks = f.asks }
run-front {T} came at n (Read cleanup decides next) rs qs ps tidy fit e =
    by (decided_after decides xs) refl (λ k is e. run-front came at (n + k) (next (take k xs)) rs qs ps (tidy-next decides next tidy xs k is) fit e) e
  where
    xs : List RawMessage
    xs = drop n (of_request came at)

    chosen : Option ℕ → Ran T
    chosen o = elim o [ None ↦ stays at n (Read cleanup decides next) | Some k ↦ run came at (n + k) (next (take k xs)) (as_granted rs) (as_granted qs) (as_granted ps) ]

    met : Option ℕ → Outcome DeskCall (Result T Error)
    met o = elim o [ None ↦ nothing_yet | Some k ↦ outcome (asked (next (take k xs))) (met_by came rs qs) (drop k xs) ]

    by : (o : Option ℕ) → decided_after decides xs ≡ o →
        ((k : ℕ) → decided_after decides xs ≡ Some k → (run came at (n + k) (next (take k xs)) (as_granted rs) (as_granted qs) (as_granted ps)).asked ≡ qs →
        Front came (run came at (n + k) (next (take k xs)) (as_granted rs) (as_granted qs) (as_granted ps)) (outcome (asked (next (take k xs))) (met_by came rs qs) (drop (n + k) (of_request came at)))) →
        (chosen o).asked ≡ qs → Front came (chosen o) (met o)
    by None is h e = record { parts = ([], refl); requests = tt; asks = refl }
    by (Some k) is h e =
        subst (λ (l : List RawMessage). Front came (run came at (n + k) (next (take k xs)) (as_granted rs) (as_granted qs) (as_granted ps)) (outcome (asked (next (take k xs))) (met_by came rs qs) l))
        (sym (drop-drop k n (of_request came at))) (h k is e)
run-front came None n (Put cleanup part d) rs qs ps tidy fit e = stays-front came None n (Put cleanup part d) rs qs (ap length e)
run-front came (Some k) n (Put cleanup part d) rs qs [] tidy fit e = stays-front came (Some k) n (Put cleanup part d) rs qs (ap length e)
run-front came (Some k) n (Put cleanup part d) rs qs (a ∷ ps) tidy fit e =
    let f = run-front came (Some k) n d rs qs ps tidy fit e in record { parts = (f.parts.0, ap (λ (l : List (List ℕ)). part ∷ l) f.parts.1); requests = f.requests; asks = f.asks }
run-front came None n (Finish part d) rs qs ps tidy fit e = stays-front came None n (Finish part d) rs qs (ap length e)
run-front came (Some k) n (Finish part d) rs qs [] tidy fit e = stays-front came (Some k) n (Finish part d) rs qs (ap length e)
run-front came (Some k) n (Finish part d) rs qs (a ∷ ps) tidy fit e =
    let f = run-front came (Some k) n d rs qs ps tidy fit e in record { parts = (f.parts.0, ap (λ (l : List (List ℕ)). part ∷ l) f.parts.1); requests = f.requests; asks = f.asks }
run-front came None n (Close part d) rs qs ps tidy fit e = stays-front came None n (Close part d) rs qs (ap length e)
run-front came (Some k) n (Close part d) rs qs [] tidy fit e = stays-front came (Some k) n (Close part d) rs qs (ap length e)
run-front came (Some k) n (Close part d) rs qs (a ∷ ps) tidy fit e =
    let f = run-front came (Some k) n d rs qs ps tidy fit e in record { parts = (f.parts.0, ap (λ (l : List (List ℕ)). part ∷ l) f.parts.1); requests = f.requests; asks = f.asks }
run-front came at n (HangUp d) rs qs ps tidy fit e = let f = run-front came at n d rs qs ps tidy.1 fit e in record { parts = f.parts; requests = f.requests; asks = f.asks }
run-front came at n (Call q refused next) rs [] ps tidy fit e = stays-front came at n (Call q refused next) rs [] refl
run-front came at n (Call q refused next) rs (a ∷ qs) ps tidy fit e =
    let k = first-asked q a (run came at n (next a.reply) (as_granted rs) (as_granted qs) (as_granted ps)).asked qs e fit.0 in
    let f = run-front came at n (next a.reply) rs qs ps (tidy.1 a.reply k.0) fit.1 k.1 in
    record { parts = f.parts; requests = f.requests; asks = ap (λ (l : List DeskCall). q ∷ l) f.asks }
run-front came at n (Hear next) rs qs ps tidy fit e = stays-front came at n (Hear next) rs qs (ap length e)

-- ---- up to the first booking, part or question that was refused

booked-granted : (e : Event) → is_granted e ≡ true → (xs : List (Result Request Error)) → AreGranted xs → AreGranted (booked_by e ++ xs)
booked-granted (call.Book stamp part copying (Ok id)) h xs g = g
booked-granted (call.Book stamp part copying (Err f)) h xs g = absurd cc
booked-granted e h xs g = g

as-granted : (stamp : Stamp) (q : DeskCall) (r : Result Reply DeskFault) → is_ok r ≡ true → (xs : List (Result (Asked DeskCall Reply) Error)) → AreGranted xs → AreGranted (told_as stamp q r ++ xs)
as-granted stamp q (Ok r) h xs g = g
as-granted stamp q (Err f) h xs g = absurd cc

told-granted : (stamp : Stamp) (e : Event) → is_granted e ≡ true → (xs : List (Result (Asked DeskCall Reply) Error)) → AreGranted xs → AreGranted (told_by stamp e ++ xs)
told-granted stamp (call.NextStatement (Ok n)) h xs g = g
told-granted stamp (call.NextStatement (Err fault.Encode)) h xs g = g
told-granted stamp (call.NextStatement (Err fault.Closed)) h xs g = absurd cc
told-granted stamp (call.NextStatement (Err fault.OutOfMemory)) h xs g = absurd cc
told-granted stamp (call.NextPortal (Ok n)) h xs g = g
told-granted stamp (call.NextPortal (Err fault.Encode)) h xs g = g
told-granted stamp (call.NextPortal (Err fault.Closed)) h xs g = absurd cc
told-granted stamp (call.NextPortal (Err fault.OutOfMemory)) h xs g = absurd cc
told-granted stamp (call.Catalog c) h xs g = as-granted stamp (question_of c) (reply_of c) h xs g
told-granted stamp e h xs g = g

added-granted : (e : Event) → is_granted e ≡ true → (xs : List (Result Addition Error)) → AreGranted xs → AreGranted (added_by e ++ xs)
added-granted (call.Put id part putting.Took) h xs g = g
added-granted (call.Put id part (putting.Gone back)) h xs g = absurd cc
added-granted (call.Put id part (putting.OutOfMemory back)) h xs g = absurd cc
added-granted (call.EndCopy id part putting.Took) h xs g = g
added-granted (call.EndCopy id part (putting.Gone back)) h xs g = absurd cc
added-granted (call.EndCopy id part (putting.OutOfMemory back)) h xs g = absurd cc
added-granted e h xs g = g

-- what stands before it leads somewhere, is served, and nothing of it was refused
record Unrefused {T : Type 0} (came got : ℕ → List RawMessage) (d : Dialogue T) (id : ℕ) (ds : List Deed) : Type 0 where
  mid : Dialogue T
  at : ℕ
  leads : Leads d id ds mid at
  serves : Serves came got ds
  bookings : AreGranted (bookings_in ds)
  answers : AreGranted (answers_in ds)
  additions : AreGranted (additions_in ds)

up-to : {T : Type 0} (came got : ℕ → List RawMessage) (d : Dialogue T) (id : ℕ) (ds : List Deed) (q : Dialogue T) (end : ℕ) → Leads d id ds q end → Serves came got ds → Unrefused came got d id (unrefused ds)
up-to came got d id [] q end l serves = record { mid = d; at = id; leads = (refl, refl); serves = tt; bookings = tt; answers = tt; additions = tt }
up-to {T} came got d id (a ∷ ds) q end (mid, n, s, l) (served, serves) = by (is_granted a.event) refl (up-to came (λ j. got j ++ taken_from j a.event) mid n ds q end l serves)
  where
    by : (b : Bool) → is_granted a.event ≡ b → Unrefused came (λ j. got j ++ taken_from j a.event) mid n (unrefused ds) → Unrefused came got d id (if b then a ∷ unrefused ds else [])
    by true e h = record {
      mid = h.mid;
      at = h.at;
      leads = (mid, n, s, h.leads);
      serves = (served, h.serves);
      bookings = booked-granted a.event e (bookings_in (unrefused ds)) h.bookings;
      answers = told-granted a.stamp a.event e (answers_in (unrefused ds)) h.answers;
      additions = added-granted a.event e (additions_in (unrefused ds)) h.additions;
    }
    by false e h = record { mid = d; at = id; leads = (refl, refl); serves = tt; bookings = tt; answers = tt; additions = tt }

-- ---- a whole life

nothing-yet : (came : ℕ → List RawMessage) → Holds came (λ k. []) None 0 []
nothing-yet came = record { read = []; count = refl; took = refl; more = []; all = refl }

-- supplies of which none was refused
supplied : {T : Type 0} (came : ℕ → List RawMessage) (d : Dialogue T) (ds : List Deed) → AreGranted (bookings_in ds) → AreGranted (answers_in ds) → AreGranted (additions_in ds) →
    run came None 0 d (bookings_in ds) (answers_in ds) (additions_in ds) ≡ run came None 0 d (as_granted (requests_in ds)) (as_granted (asked_in ds)) (as_granted (added_in ds))
supplied came d ds b a p =
    ap (λ (x : List (Result Request Error)). run came None 0 d x (answers_in ds) (additions_in ds)) (all-granted (bookings_in ds) b)
    ∙ ap (λ (x : List (Result (Asked DeskCall Reply) Error)). run came None 0 d (as_granted (requests_in ds)) x (additions_in ds)) (all-granted (answers_in ds) a)
    ∙ ap (run came None 0 d (as_granted (requests_in ds)) (as_granted (asked_in ds))) (all-granted (additions_in ds) p)

-- where nothing was refused, an answer is the outcome
outcome-so : {T : Type 0} (came : ℕ → List RawMessage) (d : Dialogue T) (ds : List Deed) (r : Result T Error) → AreGranted (bookings_in ds) → AreGranted (answers_in ds) → AreGranted (additions_in ds) →
    (run came None 0 d (bookings_in ds) (answers_in ds) (additions_in ds)).whole [] ≡ whole_in ds → (run came None 0 d (bookings_in ds) (answers_in ds) (additions_in ds)).asked ≡ asked_in ds →
    (run came None 0 d (bookings_in ds) (answers_in ds) (additions_in ds)).left ≡ Answer r → IsOutcome came d ds r
outcome-so {T} came d ds r b a p whole asks left =
    let same = supplied came d ds b a p in
    let s = run came None 0 d (as_granted (requests_in ds)) (as_granted (asked_in ds)) (as_granted (added_in ds)) in
    let rs : s.whole [] ≡ whole_in ds = sym (ap (λ (x : Ran T). x.whole []) same) ∙ whole in
    let qs : s.asked ≡ asked_in ds = sym (ap (λ (x : Ran T). x.asked) same) ∙ asks in
    let none : s.parts [] ≡ [] = none-added came 0 d (as_granted (requests_in ds)) (as_granted (asked_in ds)) (as_granted (added_in ds)) in
    record {
      left = drop s.read (of_request came s.at);
      is = run-outcome came r None 0 d (requests_in ds) (asked_in ds) (added_in ds) (sym (ap (λ (x : Ran T). x.left) same) ∙ left)
          ∙ ap (λ (l : List (List ℕ)). let o : Outcome DeskCall (Result T Error) = record { parts = l; requests = parts_in (s.whole []); asked = questions_in s.asked; answer = Some r; left = drop s.read (of_request came s.at) } in o) none
          ∙ ap (λ (l : List Request). let o : Outcome DeskCall (Result T Error) = record { parts = []; requests = parts_in l; asked = questions_in s.asked; answer = Some r; left = drop s.read (of_request came s.at) } in o) rs
          ∙ ap (λ (l : List (Asked DeskCall Reply)). let o : Outcome DeskCall (Result T Error) = record { parts = []; requests = parts_in (whole_in ds); asked = questions_in l; answer = Some r; left = drop s.read (of_request came s.at) } in o) qs;
    }

-- what nothing was refused of is a front of the outcome
front-so : {T : Type 0} (came : ℕ → List RawMessage) (d : Dialogue T) (id : ℕ) (ds : List Deed) → IsTidy d → ReadsNothing d → Unrefused came (λ k. []) d id ds → IsUnderWay came d ds
front-so {T} came d id ds tidy nothing u =
    let all = comes came (λ k. []) None 0 [] d id ds u.mid u.at tidy nothing (nothing-yet came) u.leads u.serves in
    let same = supplied came d ds u.bookings u.answers u.additions in
    let s = run came None 0 d (as_granted (requests_in ds)) (as_granted (asked_in ds)) (as_granted (added_in ds)) in
    let rs : s.whole [] ≡ whole_in ds = sym (ap (λ (x : Ran T). x.whole []) same) ∙ all.whole in
    let qs : s.asked ≡ asked_in ds = sym (ap (λ (x : Ran T). x.asked) same) ∙ all.asked in
    let cs : s.copies ≡ copies_in ds = sym (ap (λ (x : Ran T). x.copies) same) ∙ all.copies in
    let f = run-front came None 0 d (requests_in ds) (asked_in ds) (added_in ds) tidy (told-fitting ds) qs in
    let o = outcome (asked d) (met_by came (requests_in ds) (asked_in ds)) [] in
    record {
      requests = subst (λ (l : List Bool). AreBegun l (parts_in (whole_in ds)) o.requests) cs (subst (λ (l : List Request). AreBegun s.copies (parts_in l) o.requests) rs f.requests);
      asked = ap questions_in (sym qs) ∙ f.asks;
    }

pub life : {T : Type 0} (came : ℕ → List RawMessage) (p : Place T) (ts : List Turn) (q : Place T) (r : Result T Error) → IsTidy p.dialogue → ReadsNothing p.dialogue → Lives p ts q →
    Serves came (λ k. []) (deeds ts) → (q.dialogue ≡ Answer r) ⊎ (r ≡ Err OutOfMemory) → LivesSo came p.dialogue (deeds ts) q.dialogue r
life {T} came p ts q r tidy nothing l serves answers = (front-so came p.dialogue p.reads (unrefused (deeds ts)) tidy nothing front, by answers)
  where
    leads : Leads p.dialogue p.reads (deeds ts) q.dialogue q.reads
    leads = lives-lead p ts q l

    s : Ran T
    s = run came None 0 p.dialogue (bookings_in (deeds ts)) (answers_in (deeds ts)) (additions_in (deeds ts))

    all : Comes came (λ k. []) s (deeds ts) q.dialogue q.reads
    all = comes came (λ k. []) None 0 [] p.dialogue p.reads (deeds ts) q.dialogue q.reads tidy nothing (nothing-yet came) leads serves

    front : Unrefused came (λ k. []) p.dialogue p.reads (unrefused (deeds ts))
    front = up-to came (λ k. []) p.dialogue p.reads (deeds ts) q.dialogue q.reads leads serves

    settled : (d : Dialogue T) (x : Result T Error) → d ≡ Answer x → MayWait d → ⊥
    settled d x e (inl reads) = subst IsRead e reads
    settled d x e (inr puts) = subst IsPut e puts

    stood : q.dialogue ≡ Answer r → Stands came (λ k. []) s (deeds ts) q.dialogue q.reads → AnswersSo came p.dialogue (deeds ts) r ⊎ ((EndsRefused (deeds ts) q.dialogue × (q.dialogue ≡ Answer r)) ⊎ (r ≡ Err OutOfMemory))
    stood e (Gave x is left) =
        let same : Answer x ≡ Answer r = sym is ∙ e in
        inl (record {
          ran = left ∙ same;
          outcome = λ none.
              outcome-so came p.dialogue (deeds ts) r (subst (λ (L : List Deed). AreGranted (bookings_in L)) none front.bookings) (subst (λ (L : List Deed). AreGranted (answers_in L)) none front.answers)
              (subst (λ (L : List Deed). AreGranted (additions_in L)) none front.additions) all.whole all.asked (left ∙ same);
        })
    stood e (Rests here there reads t le is) = absurd (settled q.dialogue r e there)
    stood e (Refused h) = inr (inl (h, e))

    by : (q.dialogue ≡ Answer r) ⊎ (r ≡ Err OutOfMemory) → AnswersSo came p.dialogue (deeds ts) r ⊎ ((EndsRefused (deeds ts) q.dialogue × (q.dialogue ≡ Answer r)) ⊎ (r ≡ Err OutOfMemory))
    by (inl e) = stood e (all.stands (Answered r e))
    by (inr e) = inr (inr e)
