-- A command whose requests are whole puts no part, whatever its desk tells.
use Rattle.std.proofs.Common.{◌≡◌, ◌^◌, List, Bool, true, false, if◌then◌else◌, nat_lt, ◌-◌, refl}
use Rattle.pg_spec.specs.Dialogues as spec
use Rattle.pg_query.specs.Dialogue.{Dialogue, Answer, Ask, Send, Leave, Read, Put, Finish, Close, HangUp, Call, Hear, fits}
use Rattle.pg_query.specs.declared.desk_call.DeskCall.{DeskCall}
use Rattle.pg_query.specs.declared.desk_call.DeskCall.TheVariants.{ClearTypes, LookupOf, NextPortal, NextStatement, SetLookup, SetType, TypeOf}
use Rattle.pg_query.specs.declared.desk_call.Reply.TheVariants as reply
use Rattle.pg_core.specs.Counters.{portals_in, statements_in, tells}
use Rattle.pg_core.specs.Outcomes.{asked}
use Rattle.pg_session.specs.Speeches.{BooksWhole, Speech}
use Rattle.pg_query_laws.specs.OneWay.{PutsNone}

-- what a desk tells fits what it is asked
told-fits : (before : List DeskCall) (q : DeskCall) → fits q (tells before q) ≡ true
told-fits before NextStatement = by (nat_lt (statements_in before) (2 ^ 32 - 1))
  where
    by : (b : Bool) → fits NextStatement (if b then reply.Number (statements_in before) else reply.Spent) ≡ true
    by true = refl
    by false = refl
told-fits before NextPortal = by (nat_lt (portals_in before) (2 ^ 32 - 1))
  where
    by : (b : Bool) → fits NextPortal (if b then reply.Number (portals_in before) else reply.Spent) ≡ true
    by true = refl
    by false = refl
told-fits before (TypeOf oid) = refl
told-fits before (SetType oid ty) = refl
told-fits before ClearTypes = refl
told-fits before (LookupOf which) = refl
told-fits before (SetLookup which s) = refl

whole-puts-none : {T : Type 0} (d : Dialogue T) → BooksWhole d → PutsNone tells (asked d)
whole-puts-none (Answer r) h = tt
whole-puts-none (Ask copying part d) h = whole-puts-none d h.2
whole-puts-none (Send part refused d) h = whole-puts-none d h.2
whole-puts-none (Leave id d) h = whole-puts-none d h
whole-puts-none (Read cleanup decides next) h = λ ms. whole-puts-none (next ms) (h ms)
whole-puts-none (Put cleanup part d) h = absurd h
whole-puts-none (Finish part d) h = absurd h
whole-puts-none (Close part d) h = absurd h
whole-puts-none (HangUp d) h = whole-puts-none d h
whole-puts-none (Call q refused next) h = λ before. whole-puts-none (next (tells before q)) (h.1 (tells before q) (told-fits before q))
whole-puts-none (Hear next) h = λ ms. tt

-- an answer told in other words
answered-puts-none : {Q R A B : Type 0} (tell : List Q → Q → R) (f : A → B) (d : spec.Dialogue Q R A) → PutsNone tell d → PutsNone tell (spec.behind d (λ a. spec.Answers (f a)))
answered-puts-none tell f (spec.Answers a) h = tt
answered-puts-none tell f (spec.Asks copying part d) h = answered-puts-none tell f d h
answered-puts-none tell f (spec.Sends part d) h = answered-puts-none tell f d h
answered-puts-none tell f (spec.Reads decides next) h = λ ms. answered-puts-none tell f (next ms) (h ms)
answered-puts-none tell f (spec.Puts part d) h = absurd h
answered-puts-none tell f (spec.Closes part d) h = answered-puts-none tell f d h
answered-puts-none tell f (spec.Calls q next) h = λ before. answered-puts-none tell f (next (tell before q)) (h before)

pub speech-puts-none : {C T A E : Type 0} (speech : Speech C T A E) → ((own : E) (c : C) → BooksWhole (speech.says own c)) → (own : E) (c : C) →
    PutsNone tells (spec.behind (asked (speech.says own c)) (λ r. spec.Answers (speech.ends own c r)))
speech-puts-none speech whole own c = answered-puts-none tells (speech.ends own c) (asked (speech.says own c)) (whole-puts-none (speech.says own c) (whole own c))
