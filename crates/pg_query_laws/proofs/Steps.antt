-- Readings by steps: a reading owes that a ReadyForQuery ends it, and that its value is told by a ReadyForQuery alone, or not by one.
use Rattle.std.proofs.Common.{◌≡◌, ℕ, suc, ◌+◌, List, [], ◌∷◌, length, Bool, true, false, ◌||◌, ◌==◌, if◌then◌else◌, Option, Some, None, option_map, Result, Ok, Err, refl, sym, ap, subst, ◌∙◌, arith}
use Rattle.std.specs.Prelude.{is_some}
use Rattle.std.specs.List.{list_any}
use Rattle.std.specs.Str.{is_utf8}
use Rattle.std.proofs.lemmas.Bool.{eqb-true}
use Rattle.std.proofs.lemmas.Option.{same_Some}
use Rattle.pg_spec.specs.Bodies.{cells_of}
use Rattle.pg_spec.specs.Dialogues.{decided_after}
use Rattle.pg_spec.specs.Faults as spec
use Rattle.pg_spec.specs.Messages.{Message, BindComplete, CommandComplete, DataRow, EmptyQueryResponse, ErrorResponse, PortalSuspended, ReadyForQuery, message_of}
use Rattle.pg_spec.specs.RawMessages.{RawMessage, is_ready, ends_in}
use Rattle.pg_spec.specs.Readings.{Next, GoesOn, Answers, Decision, decision, decided_by, one_later}
use Rattle.pg_spec.specs.SimpleQuery.{affected}
use Rattle.pg_desk.proofs.ReadyTags.{is_ready_message}
use Rattle.pg_types.specs.declared.error.Error.{Error}
use Rattle.pg_query.specs.Dialogue.{Dialogue}
use Rattle.pg_query.specs.Leaving.{Holds, IsLetGo, LetsGo, Nothing, Request, after_reading, request_behind}
use Rattle.pg_query.specs.Reading.{ends, reads}
use Rattle.pg_core.specs.Behind.{behind}
use Rattle.pg_core.specs.Cells.{Cells}
use Rattle.pg_core.specs.QueryReplies.{Said, Row, Complete, Ready, Fails, query_said, row_said, said_by, told_by}
use Rattle.pg_core.specs.Sequences.{or_answer, then_do}
use Rattle.pg_core.specs.Times.{ReadsNo}
use Rattle.pg_query_laws.proofs.Taken.{IsReadOn, ReadsWell, answers, ends-no, ends-well, hung-behind, reading, well-of}

-- ---- what a reading owes

-- a message is the end of a reading
abbrev pub IsLast : {S A : Type 0} → Next S A → Type 0
IsLast (GoesOn state) = ⊥
IsLast (Answers a) = Unit {0}

-- a message is refused
abbrev pub IsRefused : {S A : Type 0} → Next S (Result A Error) → Type 0
IsRefused (Answers (Err e)) = Unit {0}
IsRefused _ = ⊥

-- a ReadyForQuery is the end, whatever its body
abbrev pub AnswersAtReady : {S A : Type 0} → (S → RawMessage → Next S A) → Type 0
AnswersAtReady {S} next = (state : S) (body : List ℕ) → IsLast (next state (record { tag = 90; body = body }))

-- it is refused
abbrev pub RefusesAtReady : {S A : Type 0} → (S → RawMessage → Next S (Result A Error)) → Type 0
RefusesAtReady {S} next = (state : S) (body : List ℕ) → IsRefused (next state (record { tag = 90; body = body }))

-- a value is told by a ReadyForQuery alone
abbrev pub TellsAtReady : {S A : Type 0} → (S → RawMessage → Next S (Result A Error)) → Type 0
TellsAtReady {S} {A} next = (state : S) (m : RawMessage) (x : A) → next state m ≡ Answers (Ok x) → is_ready m ≡ true

at-ready : {S A : Type 0} (P : Next S A → Type 0) (next : S → RawMessage → Next S A) (state : S) → ((body : List ℕ) → P (next state (record { tag = 90; body = body }))) → (m : RawMessage) → is_ready m ≡ true → P (next state m)
at-ready P next state each m h = subst (λ (n : ℕ). P (next state (record { tag = n; body = m.body }))) (sym (eqb-true m.tag 90 h)) (each m.body)

-- ---- what the messages tell, by what the first of them does

abbrev told : {A : Type 0} → Option (Decision A) → Option A
told o = option_map (λ d. d.answer) o

later-same : {A : Type 0} (o : Option (Decision A)) → told (option_map one_later o) ≡ told o
later-same None = refl
later-same (Some d) = refl

told-first : {S A : Type 0} (next : S → RawMessage → Next S (Result A Error)) (state : S) (m : RawMessage) (ms : List RawMessage) (n : Next S (Result A Error)) → next state m ≡ n →
    told_by next state (m ∷ ms) ≡ told (decided_by n (λ later. decision (λ s. None) next later ms))
told-first {S} {A} next state m ms n e = ap (λ (k : Next S (Result A Error)). told (decided_by k (λ later. decision (λ s. None) next later ms))) e

told-on : {S A : Type 0} (next : S → RawMessage → Next S (Result A Error)) (state later : S) (m : RawMessage) (ms : List RawMessage) → next state m ≡ GoesOn later → told_by next state (m ∷ ms) ≡ told_by next later ms
told-on next state later m ms e = told-first next state m ms (GoesOn later) e ∙ later-same (decision (λ s. None) next later ms)

-- a reply that ended is decided
told-some : {S A : Type 0} (next : S → RawMessage → Next S (Result A Error)) → AnswersAtReady next → (state : S) (ms : List RawMessage) → ends_in is_ready ms ≡ true → is_some (told_by next state ms) ≡ true
told-some next last state [] h = absurd cc
told-some {S} {A} next last state (m ∷ []) h = by (next state m) refl
  where
    by : (n : Next S (Result A Error)) → next state m ≡ n → is_some (told_by next state (m ∷ [])) ≡ true
    by (GoesOn later) e = absurd (subst IsLast e (at-ready IsLast next state (last state) m h))
    by (Answers a) e = ap (λ (o : Option (Result A Error)). is_some o) (told-first next state m [] (Answers a) e)
told-some {S} {A} next last state (m ∷ x ∷ ms) h = by (next state m) refl (λ later. told-some next last later (x ∷ ms) h)
  where
    by : (n : Next S (Result A Error)) → next state m ≡ n → ((later : S) → is_some (told_by next later (x ∷ ms)) ≡ true) → is_some (told_by next state (m ∷ x ∷ ms)) ≡ true
    by (GoesOn later) e k = ap (λ (o : Option (Result A Error)). is_some o) (told-on next state later m (x ∷ ms) e) ∙ k later
    by (Answers a) e k = ap (λ (o : Option (Result A Error)). is_some o) (told-first next state m (x ∷ ms) (Answers a) e)

-- ---- a value at the ReadyForQuery

either : (b d : Bool) → (b ≡ true) → (b || d) ≡ true
either true d h = refl
either false d h = absurd cc

or-later : (b d : Bool) → (d ≡ true) → (b || d) ≡ true
or-later true d h = refl
or-later false d h = h

told-ready : {S A : Type 0} (next : S → RawMessage → Next S (Result A Error)) → TellsAtReady next → (state : S) (ms : List RawMessage) (x : A) → told_by next state ms ≡ Some (Ok x) → list_any is_ready ms ≡ true
told-ready next tells state [] x h = absurd cc
told-ready {S} {A} next tells state (m ∷ ms) x h = by (next state m) refl (λ later. told-ready next tells later ms x)
  where
    by : (n : Next S (Result A Error)) → next state m ≡ n → ((later : S) → told_by next later ms ≡ Some (Ok x) → list_any is_ready ms ≡ true) → (is_ready m || list_any is_ready ms) ≡ true
    by (Answers a) e f =
        let same : a ≡ Ok x = same_Some a (Ok x) (sym (told-first next state m ms (Answers a) e) ∙ h) in
        either (is_ready m) (list_any is_ready ms) (tells state m x (e ∙ ap (λ (y : Result A Error). let n : Next S (Result A Error) = Answers y in n) same))
    by (GoesOn later) e f = or-later (is_ready m) (list_any is_ready ms) (f later (sym (told-on next state later m ms e) ∙ h))

-- so the request is let go there
pub reads-last : {S A : Type 0} (next : S → RawMessage → Next S (Result A Error)) (state : S) → AnswersAtReady next → TellsAtReady next → IsReadOn (reads false (told_by next state))
reads-last {S} {A} next state last tells =
    reading (λ ms. is_some (told_by next state ms)) (λ ms. ends false (told_by next state ms)) (told-some next last state) (λ ms. ends-well false (told_by next state ms)) (λ ms e any. ends-no false (told_by next state ms))
    (λ h ms e. by h ms (told_by next state ms) refl e)
  where
    by : (h : Holds) (ms : List RawMessage) (o : Option (Result A Error)) → told_by next state ms ≡ o → is_some o ≡ true → LetsGo (after_reading h ms) (ends false o)
    by Nothing ms (Some (Ok x)) e some = tt
    by Request ms (Some (Ok x)) e some = subst (λ (b : Bool). IsLetGo (request_behind b)) (sym (told-ready next tells state ms x e)) tt
    by h ms (Some (Err failure)) e some = tt
    by h ms None e some = absurd cc

-- ---- a value at which it is hung up

pub reads-stop : {S A : Type 0} (next : S → RawMessage → Next S (Result A Error)) (state : S) → AnswersAtReady next → IsReadOn (reads true (told_by next state))
reads-stop {S} {A} next state last =
    reading (λ ms. is_some (told_by next state ms)) (λ ms. ends true (told_by next state ms)) (told-some next last state) (λ ms. ends-well true (told_by next state ms)) (λ ms e any. ends-no true (told_by next state ms))
    (λ h ms e. by (after_reading h ms) (told_by next state ms) e)
  where
    by : (h : Holds) (o : Option (Result A Error)) → is_some o ≡ true → LetsGo h (ends true o)
    by h (Some (Ok x)) some = tt
    by h (Some (Err failure)) some = tt
    by h None some = absurd cc

-- ---- a value before the ReadyForQuery, behind which the reply is read on

-- how many messages decide, by whether the first does
after-by : (decides : List RawMessage → Bool) (m : RawMessage) (ms : List RawMessage) (b : Bool) → decides (m ∷ []) ≡ b →
    decided_after decides (m ∷ ms) ≡ (if b then Some 1 else option_map (λ n. n + 1) (decided_after (λ l. decides (m ∷ l)) ms))
after-by decides m ms b e = ap (λ (x : Bool). if x then Some 1 else option_map (λ n. n + 1) (decided_after (λ l. decides (m ∷ l)) ms)) e

none-behind : (ms : List RawMessage) → Some 1 ≡ Some (suc (length ms)) → list_any is_ready ms ≡ false
none-behind [] e = refl
none-behind (m ∷ ms) e = let same : 1 ≡ suc (suc (length ms)) = same_Some 1 (suc (suc (length ms))) e in absurd (omega (arith, same))

one-less : (o : Option ℕ) (n : ℕ) → option_map (λ k. k + 1) o ≡ Some (suc n) → o ≡ Some n
one-less (Some k) n e = let more : k + 1 ≡ suc n = same_Some (k + 1) (suc n) e in let same : k ≡ n = omega (arith, more) in ap (λ (x : ℕ). let o : Option ℕ = Some x in o) same
one-less None n e = absurd cc

neither : (b d : Bool) → b ≡ false → d ≡ false → (b || d) ≡ false
neither true d h k = absurd cc
neither false d h k = k

-- no ReadyForQuery is among messages of which the last one tells such a value
unready : {S A : Type 0} (next : S → RawMessage → Next S (Result A Error)) → RefusesAtReady next → (state : S) (ms : List RawMessage) (x : A) → told_by next state ms ≡ Some (Ok x) →
    decided_after (λ l. is_some (told_by next state l)) ms ≡ Some (length ms) → list_any is_ready ms ≡ false
unready next refuses state [] x h d = absurd cc
unready {S} {A} next refuses state (m ∷ ms) x h d = by (is_ready m) refl (next state m) refl (λ later. unready next refuses later ms x)
  where
    decides : List RawMessage → Bool
    decides l = is_some (told_by next state l)

    some-of : (o : Option (Result A Error)) → told_by next state (m ∷ []) ≡ o → decides (m ∷ []) ≡ is_some o
    some-of o e = ap (λ (o : Option (Result A Error)). is_some o) e

    by : (b : Bool) → is_ready m ≡ b → (n : Next S (Result A Error)) → next state m ≡ n →
        ((later : S) → told_by next later ms ≡ Some (Ok x) → decided_after (λ l. is_some (told_by next later l)) ms ≡ Some (length ms) → list_any is_ready ms ≡ false) → (is_ready m || list_any is_ready ms) ≡ false
    by true r (GoesOn later) e ih = absurd (subst IsRefused e (at-ready IsRefused next state (refuses state) m r))
    by true r (Answers (Ok y)) e ih = absurd (subst IsRefused e (at-ready IsRefused next state (refuses state) m r))
    by b r (Answers (Err failure)) e ih = let two : Some (Err failure) ≡ Some (Ok x) = sym (told-first next state m ms (Answers (Err failure)) e) ∙ h in absurd cc
    by false r (Answers (Ok y)) e ih =
        neither (is_ready m) (list_any is_ready ms) r (none-behind ms (sym (after-by decides m ms true (some-of (Some (Ok y)) (told-first next state m [] (Answers (Ok y)) e))) ∙ d))
    by false r (GoesOn later) e ih =
        let same : (λ (l : List RawMessage). decides (m ∷ l)) ≡ (λ l. is_some (told_by next later l)) = λ i l. is_some (told-on next state later m l e i) in
        neither (is_ready m) (list_any is_ready ms) r
        (ih later (sym (told-on next state later m ms e) ∙ h)
        (ap (λ (f : List RawMessage → Bool). decided_after f ms) (sym same)
        ∙ one-less (decided_after (λ l. decides (m ∷ l)) ms) (length ms) (sym (after-by decides m ms false (some-of None (told-on next state later m [] e))) ∙ d)))

refused-last : {S A : Type 0} (n : Next S (Result A Error)) → IsRefused n → IsLast n
refused-last (GoesOn state) h = h
refused-last (Answers a) h = tt

module _ {S A T : Type 0} (next : S → RawMessage → Next S (Result A Error)) (state : S) (refuses : RefusesAtReady next) (f : A → Dialogue T) (h : (x : A) → IsReadOn (f x)) where
  abbrev tail : Option (Result A Error) → Dialogue T
  tail o = behind [] (ends false o) (or_answer f)

  tail-well : (o : Option (Result A Error)) → ReadsWell (tail o)
  tail-well (Some (Ok x)) = (h x).well
  tail-well (Some (Err e)) = (hung-behind (or_answer f (Err e)) (answers (Err e))).well
  tail-well None = well-of _ (answers _)

  tail-lets : (k : Holds) (o : Option (Result A Error)) → is_some o ≡ true → LetsGo k (tail o)
  tail-lets k (Some (Ok x)) e = (h x).lets_go k
  tail-lets k (Some (Err failure)) e = tt
  tail-lets k None e = absurd cc

  tail-no : (ms : List RawMessage) → decided_after (λ l. is_some (told_by next state l)) ms ≡ Some (length ms) → list_any is_ready ms ≡ true → ReadsNo (tail (told_by next state ms))
  tail-no ms d any = by (told_by next state ms) refl
    where
      by : (o : Option (Result A Error)) → told_by next state ms ≡ o → ReadsNo (tail o)
      by (Some (Ok x)) e = let two : true ≡ false = sym any ∙ unready next refuses state ms x e d in absurd cc
      by (Some (Err failure)) e = tt
      by None e = tt

  pub reads-then : IsReadOn (then_do (reads false (told_by next state)) f)
  reads-then =
      reading (λ ms. is_some (told_by next state ms)) (λ ms. tail (told_by next state ms)) (told-some next (λ s body. refused-last (next s (record { tag = 90; body = body })) (refuses s body)) state) (λ ms. tail-well (told_by next state ms)) tail-no
      (λ k ms e. tail-lets (after_reading k ms) (told_by next state ms) e)

-- ---- steps by messages

-- a step tells no value
abbrev pub TellsNone : {S A : Type 0} → Next S (Result A Error) → Type 0
TellsNone (GoesOn state) = Unit {0}
TellsNone (Answers (Ok x)) = ⊥
TellsNone (Answers (Err e)) = Unit {0}

-- what is malformed is refused
abbrev pub message_next : {S A : Type 0} → (S → Message → Next S (Result A Error)) → S → RawMessage → Next S (Result A Error)
message_next {S} {A} by state raw = elim (message_of raw) as (λ _. Next S (Result A Error)) [ Ok m ↦ by state m | Err fault ↦ Answers (Err (spec.Parse (spec.Wire fault))) ]

-- a message but ReadyForQuery tells no value
abbrev pub TellsAlone : {S A : Type 0} → Message → Next S (Result A Error) → Type 0
TellsAlone (ReadyForQuery status) n = Unit {0}
TellsAlone _ n = TellsNone n

pub message-answers : {S A : Type 0} (by : S → Message → Next S (Result A Error)) → ((state : S) (status : ℕ) → IsLast (by state (ReadyForQuery status))) → AnswersAtReady (message_next by)
message-answers by ready state [] = tt
message-answers by ready state (b ∷ []) = ready state b
message-answers by ready state (b ∷ d ∷ rest) = tt

pub message-refuses : {S A : Type 0} (by : S → Message → Next S (Result A Error)) → ((state : S) (status : ℕ) → IsRefused (by state (ReadyForQuery status))) → RefusesAtReady (message_next by)
message-refuses by ready state [] = tt
message-refuses by ready state (b ∷ []) = ready state b
message-refuses by ready state (b ∷ d ∷ rest) = tt

pub message-tells : {S A : Type 0} (by : S → Message → Next S (Result A Error)) → ((state : S) (message : Message) → TellsAlone message (by state message)) → TellsAtReady (message_next by)
message-tells {S} {A} by alone state m x h = go (message_of m) refl h
  where
    read : (message : Message) → message_of m ≡ Ok message → TellsAlone message (by state message) → by state message ≡ Answers (Ok x) → is_ready m ≡ true
    read (ReadyForQuery status) e none k = is_ready_message m status e
    read other e none k = absurd (subst TellsNone k none)

    go : (r : Result Message spec.WireFault) → message_of m ≡ r → elim r as (λ _. Next S (Result A Error)) [ Ok message ↦ by state message | Err fault ↦ Answers (Err (spec.Parse (spec.Wire fault))) ] ≡ Answers (Ok x) → is_ready m ≡ true
    go (Ok message) e k = read message e (alone state message) k
    go (Err fault) e k = absurd cc

-- ---- steps by what a message of a query says

abbrev pub said_next : {S A : Type 0} → (S → Bool) → (columns : ℕ) → (S → Said → Next S A) → S → RawMessage → Next S A
said_next bound columns by state raw = by state (said_by (bound state) columns raw)

pub said-answers : {S A : Type 0} (bound : S → Bool) (columns : ℕ) (by : S → Said → Next S A) → ((state : S) → IsLast (by state Ready)) → ((state : S) (e : Error) → IsLast (by state (Fails e))) → AnswersAtReady (said_next bound columns by)
said-answers bound columns by ready fails state body = go (bound state) body
  where
    go : (b : Bool) (body : List ℕ) → IsLast (by state (said_by b columns (record { tag = 90; body = body })))
    go true [] = fails state _
    go true (b ∷ []) = ready state
    go true (b ∷ d ∷ rest) = fails state _
    go false [] = fails state _
    go false (b ∷ []) = fails state _
    go false (b ∷ d ∷ rest) = fails state _

-- it says that the reply has ended
abbrev pub SaysReady : Said → Type 0
SaysReady Ready = Unit {0}
SaysReady _ = ⊥

row-not-ready : (columns : ℕ) (r : Result Cells spec.WireFault) → SaysReady (row_said columns r) → ⊥
row-not-ready columns (Ok cells) h = by (length cells == columns) h
  where
    by : (b : Bool) → SaysReady (if b then Row cells else Fails (spec.Parse spec.FieldCount)) → ⊥
    by true h = h
    by false h = h
row-not-ready columns (Err fault) h = h

complete-not-ready : (b : Bool) (n : ℕ) → SaysReady (if b then Complete n else Fails (spec.Parse spec.NotText)) → ⊥
complete-not-ready true n h = h
complete-not-ready false n h = h

ready-says : (bound : Bool) (columns : ℕ) (m : RawMessage) → SaysReady (said_by bound columns m) → is_ready m ≡ true
ready-says bound columns m h = by (message_of m) refl h
  where
    read : (b : Bool) (x : Message) → message_of m ≡ Ok x → SaysReady (query_said b columns x) → is_ready m ≡ true
    read true (ReadyForQuery status) e k = is_ready_message m status e
    read true (DataRow count cells) e k = absurd (row-not-ready columns (cells_of count cells) k)
    read true (CommandComplete tag) e k = absurd (complete-not-ready (is_utf8 tag) (affected tag) k)
    read true EmptyQueryResponse e k = absurd k
    read true PortalSuspended e k = absurd k
    read true (ErrorResponse fields) e k = absurd k
    read true other e k = absurd k
    read false BindComplete e k = absurd k
    read false (ErrorResponse fields) e k = absurd k
    read false other e k = absurd k

    by : (r : Result Message spec.WireFault) → message_of m ≡ r → SaysReady (elim r as (λ _. Said) [ Ok message ↦ query_said bound columns message | Err fault ↦ Fails (spec.Parse (spec.Wire fault)) ]) → is_ready m ≡ true
    by (Ok message) e k = read bound message e k
    by (Err fault) e k = absurd k

pub said-tells : {S A : Type 0} (bound : S → Bool) (columns : ℕ) (by : S → Said → Next S (Result A Error)) → ((state : S) (s : Said) → (SaysReady s → ⊥) → TellsNone (by state s)) → TellsAtReady (said_next bound columns by)
said-tells bound columns by alone state m x h = go (said_by (bound state) columns m) refl h
  where
    none : (s : Said) → (SaysReady s → ⊥) → by state s ≡ Answers (Ok x) → is_ready m ≡ true
    none s not k = absurd (subst TellsNone k (alone state s not))

    go : (s : Said) → said_by (bound state) columns m ≡ s → by state s ≡ Answers (Ok x) → is_ready m ≡ true
    go Ready e k = ready-says (bound state) columns m (subst SaysReady (sym e) tt)
    go other e k = none other (λ y. y) k
