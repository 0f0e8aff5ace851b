-- A desk tells what fits the question.
use Rattle.std.proofs.Common.{◌≡◌, ℕ, nat_lt, List, [], ◌∷◌, ◌++◌, map, Bool, true, false, cond, if◌then◌else◌, Ok, Err, refl, sym, ap, subst, ◌∙◌, ◌^◌, ◌-◌}
use Rattle.std.specs.Prelude.{filter}
use Rattle.pg_spec.specs.declared.stamps.Stamp.{Stamp}
use Rattle.pg_desk.specs.declared.event.DeskFault.TheVariants as fault
use Rattle.pg_desk.specs.declared.event.CatalogCall.{CatalogCall}
use Rattle.pg_desk.specs.declared.event.CatalogCall.TheVariants as catalog
use Rattle.pg_desk.specs.declared.event.Event.{Event}
use Rattle.pg_desk.specs.declared.event.Event.TheVariants as call
use Rattle.pg_query.specs.Dialogue.{fits, question_of, reply_of}
use Rattle.pg_query.specs.Lives.{Deed}
use Rattle.pg_query.specs.declared.desk_call.DeskCall.{DeskCall}
use Rattle.pg_query.specs.declared.desk_call.DeskCall.TheVariants as desk_call
use Rattle.pg_query.specs.declared.desk_call.Reply.{Reply}
use Rattle.pg_query.specs.declared.desk_call.Reply.TheVariants as reply
use Rattle.pg_spec.specs.Courses.{Asked, Who}
use Rattle.pg_spec.specs.Meanings.{AreTold}
use Rattle.pg_core.specs.Counters.{number_to, portals_in, statements_in, tells}
use Rattle.pg_core.specs.Deeds.{answers_in, asked_in, granted, told_as, told_by}
use Rattle.pg_core.specs.Outcomes.{questions_in}
use Rattle.pg_core.specs.Runs.{of_question}
use Rattle.pg_core.specs.Trails.{AreToldIn}
use Rattle.pg_core.proofs.Granted.{granted-append}

-- each reply is of a kind that is told to its question
abbrev pub AreFitting : List (Asked DeskCall Reply) → Type 0
AreFitting [] = Unit {0}
AreFitting (a ∷ qs) = (fits a.question a.reply ≡ true) × AreFitting qs

-- the same of questions and what is told in their order, as far as both go
abbrev pub AreMatched : List DeskCall → List Reply → Type 0
AreMatched [] told = Unit {0}
AreMatched (q ∷ qs) [] = Unit {0}
AreMatched (q ∷ qs) (r ∷ told) = (fits q r ≡ true) × AreMatched qs told

pub matched : (qs : List (Asked DeskCall Reply)) → AreFitting qs → AreMatched (questions_in qs) (map (λ a. a.reply) qs)
matched [] h = tt
matched (a ∷ qs) h = (h.0, matched qs h.1)

pub fitting-joined : (xs ys : List (Asked DeskCall Reply)) → AreFitting xs → AreFitting ys → AreFitting (xs ++ ys)
fitting-joined [] ys h k = k
fitting-joined (x ∷ xs) ys h k = (h.0, fitting-joined xs ys h.1 k)

pub fitting-filter : (test : Asked DeskCall Reply → Bool) (qs : List (Asked DeskCall Reply)) → AreFitting qs → AreFitting (filter test qs)
fitting-filter test [] h = tt
fitting-filter test (a ∷ qs) h = by (test a) (fitting-filter test qs h.1)
  where
    by : (b : Bool) → AreFitting (filter test qs) → AreFitting (cond b (a ∷ filter test qs) (filter test qs))
    by true k = (h.0, k)
    by false k = k

-- where a stretch asked what it was told, its first question is the one that was
pub first-asked : (q : DeskCall) (a : Asked DeskCall Reply) (xs qs : List (Asked DeskCall Reply)) → of_question a q ∷ xs ≡ a ∷ qs → fits a.question a.reply ≡ true → (fits q a.reply ≡ true) × (xs ≡ qs)
first-asked q a xs qs e fit = (ap (λ (x : Asked DeskCall Reply). fits x.question a.reply) (heads (of_question a q) a xs qs e) ∙ fit, tails (of_question a q) a xs qs e)
  where
    heads : (x y : Asked DeskCall Reply) (xs ys : List (Asked DeskCall Reply)) → x ∷ xs ≡ y ∷ ys → x ≡ y
    heads x y xs ys e = cc

    tails : (x y : Asked DeskCall Reply) (xs ys : List (Asked DeskCall Reply)) → x ∷ xs ≡ y ∷ ys → xs ≡ ys
    tails x y xs ys e = cc

-- ---- by events

catalog-fitting : (stamp : Stamp) (c : CatalogCall) → AreFitting (granted (told_as stamp (question_of c) (reply_of c)))
catalog-fitting stamp (catalog.TypeOf oid (Ok found)) = (refl, tt)
catalog-fitting stamp (catalog.TypeOf oid (Err f)) = tt
catalog-fitting stamp (catalog.SetType oid ty (Ok x)) = (refl, tt)
catalog-fitting stamp (catalog.SetType oid ty (Err f)) = tt
catalog-fitting stamp (catalog.ClearTypes (Ok x)) = (refl, tt)
catalog-fitting stamp (catalog.ClearTypes (Err f)) = tt
catalog-fitting stamp (catalog.LookupOf which (Ok found)) = (refl, tt)
catalog-fitting stamp (catalog.LookupOf which (Err f)) = tt
catalog-fitting stamp (catalog.SetLookup which s (Ok x)) = (refl, tt)
catalog-fitting stamp (catalog.SetLookup which s (Err f)) = tt

event-fitting : (stamp : Stamp) (e : Event) → AreFitting (granted (told_by stamp e))
event-fitting stamp (call.NextStatement (Ok n)) = (refl, tt)
event-fitting stamp (call.NextStatement (Err fault.Encode)) = (refl, tt)
event-fitting stamp (call.NextStatement (Err fault.Closed)) = tt
event-fitting stamp (call.NextStatement (Err fault.OutOfMemory)) = tt
event-fitting stamp (call.NextPortal (Ok n)) = (refl, tt)
event-fitting stamp (call.NextPortal (Err fault.Encode)) = (refl, tt)
event-fitting stamp (call.NextPortal (Err fault.Closed)) = tt
event-fitting stamp (call.NextPortal (Err fault.OutOfMemory)) = tt
event-fitting stamp (call.Catalog c) = catalog-fitting stamp c
event-fitting stamp e = tt

-- what was told by events fits
pub told-fitting : (ds : List Deed) → AreFitting (asked_in ds)
told-fitting [] = tt
told-fitting (a ∷ ds) =
    subst AreFitting (sym (granted-append (told_by a.stamp a.event) (answers_in ds)))
    (fitting-joined (granted (told_by a.stamp a.event)) (asked_in ds) (event-fitting a.stamp a.event) (told-fitting ds))

-- ---- as the headline tells

number-fits : (q : DeskCall) (top n : ℕ) → ((k : ℕ) → fits q (reply.Number k) ≡ true) → fits q reply.Spent ≡ true → fits q (number_to top n) ≡ true
number-fits q top n number spent = by (nat_lt n top)
  where
    by : (b : Bool) → fits q (if b then reply.Number n else reply.Spent) ≡ true
    by true = number n
    by false = spent

pub tells-fits : (before : List DeskCall) (q : DeskCall) → fits q (tells before q) ≡ true
tells-fits before desk_call.NextStatement = number-fits desk_call.NextStatement (2 ^ 32 - 1) (statements_in before) (λ k. refl) refl
tells-fits before desk_call.NextPortal = number-fits desk_call.NextPortal (2 ^ 32 - 1) (portals_in before) (λ k. refl) refl
tells-fits before (desk_call.TypeOf oid) = refl
tells-fits before (desk_call.SetType oid ty) = refl
tells-fits before desk_call.ClearTypes = refl
tells-fits before (desk_call.LookupOf which) = refl
tells-fits before (desk_call.SetLookup which s) = refl

reply-fits : (before : List DeskCall) (a : Asked DeskCall Reply) → a.reply ≡ tells before a.question → fits a.question a.reply ≡ true
reply-fits before a e = ap (fits a.question) e ∙ tells-fits before a.question

-- what is told in a turn, and in a whole session
pub turn-fitting : (who : Who) (turn : ℕ) (before : List DeskCall) (qs : List (Asked DeskCall Reply)) → AreToldIn tells who turn before qs → AreFitting qs
turn-fitting who turn before [] h = tt
turn-fitting who turn before (a ∷ qs) (stamp, reply, h) = (reply-fits before a reply, turn-fitting who turn (before ++ a.question ∷ []) qs h)

pub session-fitting : (before : List DeskCall) (qs : List (Asked DeskCall Reply)) → AreTold tells before qs → AreFitting qs
session-fitting before [] h = tt
session-fitting before (a ∷ qs) (reply, h) = (reply-fits before a reply, session-fitting (before ++ a.question ∷ []) qs h)
