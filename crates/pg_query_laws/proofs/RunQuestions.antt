-- What holds of each question that the commands of scripts ask holds of each that a session of them asks; and what it is told of types.
use Rattle.std.proofs.Common.{◌≡◌, ℕ, ◌+◌, ◌==◌, List, [], ◌∷◌, ◌++◌, map, take, Bool, true, false, if◌then◌else◌, Option, Some, None, Result, refl, sym, ap, subst, ◌∙◌, append-nil, append_assoc}
use Rattle.std.proofs.lemmas.Bool.{eqb-true}
use Rattle.std.proofs.lemmas.List.Elements.{All-cons, All-head, All-map, All-nil, All-tail}
use Rattle.std.proofs.lemmas.Option.{same_Some}
use Rattle.std.specs.Prelude.{All}
use Rattle.pg_spec.specs.Courses.{Asked, Course, Given, Point, Request, Unfolds, begun_in, nowhere, questions_of, requests_of, unread}
use Rattle.pg_spec.specs.Dialogues.{Answers, behind}
use Rattle.pg_spec.specs.Meanings.{AreTold, HasRun}
use Rattle.pg_types.specs.declared.error.Error.{Error}
use Rattle.pg_types.specs.declared.pg_type.PgType.{PgType}
use Rattle.pg_query.specs.Dialogue.{Dialogue, Answer, Ask, Send, Leave, Read, Put, Finish, Close, HangUp, Call, Hear}
use Rattle.pg_query.specs.declared.desk_call.DeskCall.{DeskCall}
use Rattle.pg_query.specs.declared.desk_call.DeskCall.TheVariants.{ClearTypes, SetType, TypeOf}
use Rattle.pg_query.specs.declared.desk_call.Reply.{Reply}
use Rattle.pg_query.specs.declared.desk_call.Reply.TheVariants as reply
use Rattle.pg_core.specs.Counters.{last_type, tells, type_behind}
use Rattle.pg_core.specs.Outcomes.{asked}
use Rattle.pg_session.specs.Speeches.{Speech, meaning_of}
use Rattle.pg_query_laws.specs.Kept.{EachAsked, IsOwn}
use Rattle.pg_query_laws.proofs.OneAsked.{all-before, all-behind}
use Rattle.pg_query_laws.proofs.OneRun.{did-in, given_of, its-command, kept-first, split}

-- ---- what is asked

abbrev pub Question : Type 0
Question = Asked DeskCall Reply

-- how a dialogue unfolds whose answer is told in other words
abbrev Goes : {T B : Type 0} → (Result T Error → B) → Course DeskCall Reply → (handle : ℕ) → Point → Dialogue T → List Request → List Question → Given B → Type 0
Goes f course handle at d requests qs given = Unfolds course handle at (behind (asked d) (λ r. Answers (f r))) requests qs given

module _ (P : DeskCall → Type 0) where
  abbrev pub Holds : Question → Type 0
  Holds a = P a.question

  none-asked : (qs : List Question) → qs ≡ [] → All Holds qs
  none-asked qs e = subst (All Holds) (sym e) (All-nil Holds)

  each-holds : {T B : Type 0} (f : Result T Error → B) (course : Course DeskCall Reply) (handle : ℕ) (at : Point) (d : Dialogue T) (requests : List Request) (qs : List Question) (given : Given B) → EachAsked P d →
      Goes f course handle at d requests qs given → All Holds qs
  each-holds f course handle at (Answer r) requests qs given h (none, nothing, whole, is) = none-asked qs nothing
  each-holds f course handle at (Ask copying part d) [] qs given h k = absurd k
  each-holds f course handle at (Ask copying part d) (r ∷ requests) qs given h (whole, turn, more, parts, k) =
      each-holds f course handle (record { turn = at.turn; request = Some r.number; read = 0; parts = more }) d requests qs given h k
  each-holds f course handle at (Send part refused d) [] qs given h k = absurd k
  each-holds f course handle at (Send part refused d) (r ∷ requests) qs given h (turn, parts, k) = each-holds f course handle at d requests qs given h.1 k
  each-holds f course handle at (Leave id d) requests qs given h k = each-holds f course handle at d requests qs given h k
  each-holds f course handle at (Read cleanup decides next) requests qs given h (n, decided, turn, first, k) =
      each-holds f course handle (record at { turn = turn; read = at.read + n }) (next (take n (unread course at))) requests qs given (h (take n (unread course at))) k
  each-holds f course handle at (Put cleanup part d) requests qs given h (turn, mine, more, parts, k) = each-holds f course handle (record at { turn = turn; parts = more }) d requests qs given h k
  each-holds f course handle at (Finish part d) requests qs given h (more, parts, k) = each-holds f course handle (record at { parts = more }) d requests qs given h k
  each-holds f course handle at (Close part d) requests qs given h (more, parts, k) = each-holds f course handle (record at { parts = more }) d requests qs given h k
  each-holds f course handle at (HangUp d) requests qs given h k = each-holds f course handle at d requests qs given h k
  each-holds f course handle at (Call q refused next) requests [] given h k = absurd k
  each-holds f course handle at (Call q refused next) requests (a ∷ qs) given h (turn, question, k) =
      All-cons Holds a qs (subst P (sym question) h.0) (each-holds f course handle at (next a.reply) requests qs given (h.2 a.reply) k)
  each-holds f course handle at (Hear next) requests qs given h (n, decided, turn, first, k) = none-asked qs k.1

  -- in a session
  module _ {C T A E : Type 0} (speech : Speech C T A E) (each : (own : E) (c : C) → EachAsked P (speech.says own c)) (scripts : List (List C)) (turns : List ℕ) (answers : List (List A))
      (course : Course DeskCall Reply) (x : HasRun (meaning_of speech) scripts turns answers course) where
    last-hold : (former rest : List Question) → course.asked ≡ former ++ rest → All Holds rest
    last-hold former [] parts = All-nil Holds
    last-hold former (a ∷ rest) parts =
        let c = its-command (meaning_of speech) scripts turns answers course x former a rest parts in
        let d = did-in (meaning_of speech) scripts turns answers course x a.stamp.owner a.stamp.command c.0 c.1 in
        let all = each-holds (λ r. speech.ends d.did.before c.0 r) course a.stamp.owner (begun_in nowhere d.times.begins) (speech.says d.did.before c.0) (requests_of course.book a.stamp.owner a.stamp.command)
        (questions_of course.asked a.stamp.owner a.stamp.command) (given_of (meaning_of speech) scripts turns answers course x a.stamp.owner a.stamp.command c.0 d) (each d.did.before c.0) d.did.unfolds in
        let mine = all-behind Holds (questions_of former a.stamp.owner a.stamp.command) (questions_of (a ∷ rest) a.stamp.owner a.stamp.command)
        (subst (All Holds) (split (meaning_of speech) scripts turns answers course x former (a ∷ rest) parts a.stamp.owner a.stamp.command) all) in
        All-cons Holds a rest
        (All-head Holds a (questions_of rest a.stamp.owner a.stamp.command) (subst (All Holds) (kept-first (meaning_of speech) scripts turns answers course x former a rest parts) mine))
        (last-hold (former ++ a ∷ []) rest (parts ∙ sym (append_assoc former (a ∷ []) rest)))

    pub all-hold : All Holds course.asked
    all-hold = last-hold [] course.asked refl

-- ---- what is told of types

behind-own : (q : DeskCall) (oid : ℕ) (known : Option PgType) → ((ty : PgType) → known ≡ Some ty → ty.oid ≡ oid) → IsOwn q → (ty : PgType) → type_behind q oid known ≡ Some ty → ty.oid ≡ oid
behind-own (SetType set kept) oid known k own ty e = by (set == oid) refl e
  where
    by : (b : Bool) → (set == oid) ≡ b → (if b then Some kept else known) ≡ Some ty → ty.oid ≡ oid
    by true same f = ap (λ (z : PgType). z.oid) (sym (same_Some kept ty f)) ∙ own ∙ eqb-true set oid same
    by false other f = k ty f
behind-own ClearTypes oid known k own ty e = absurd cc
behind-own other oid known k own ty e = k ty e

last-own : (qs : List DeskCall) (oid : ℕ) (known : Option PgType) → ((ty : PgType) → known ≡ Some ty → ty.oid ≡ oid) → All IsOwn qs → (ty : PgType) → last_type qs oid known ≡ Some ty → ty.oid ≡ oid
last-own [] oid known k own ty e = k ty e
last-own (q ∷ qs) oid known k own ty e = last-own qs oid (type_behind q oid known) (behind-own q oid known k (All-head IsOwn q qs own)) (All-tail IsOwn q qs own) ty e

told-own : (before : List DeskCall) → All IsOwn before → (oid : ℕ) (ty : PgType) → tells before (TypeOf oid) ≡ reply.Type (Some ty) → ty.oid ≡ oid
told-own before own oid ty e =
    last-own before oid None (λ ty e. absurd cc) own ty (ap (λ (r : Reply). elim r as (λ _. Option PgType) [ reply.Type o ↦ o | other ↦ None ]) e)

told-at : {Q R : Type 0} (tell : List Q → Q → R) (former : List Q) (before : List (Asked Q R)) (ask : Asked Q R) (rest : List (Asked Q R)) → AreTold tell former (before ++ ask ∷ rest) →
    ask.reply ≡ tell (former ++ map (λ a. a.question) before) ask.question
told-at {Q} tell former [] ask rest h = h.0 ∙ ap (λ (l : List Q). tell l ask.question) (sym (append-nil former))
told-at {Q} tell former (x ∷ before) ask rest h =
    told-at tell (former ++ x.question ∷ []) before ask rest h.1 ∙ ap (λ (l : List Q). tell l ask.question) (append_assoc former (x.question ∷ []) (map (λ a. a.question) before))

module _ {C T A E : Type 0} (speech : Speech C T A E) (each : (own : E) (c : C) → EachAsked IsOwn (speech.says own c)) (scripts : List (List C)) (turns : List ℕ) (answers : List (List A))
    (course : Course DeskCall Reply) (x : HasRun (meaning_of speech) scripts turns answers course) where
  pub types-own : (before rest : List Question) (ask : Question) (oid : ℕ) (ty : PgType) → course.asked ≡ before ++ ask ∷ rest → ask.question ≡ TypeOf oid → ask.reply ≡ reply.Type (Some ty) → ty.oid ≡ oid
  types-own before rest ask oid ty parts question told =
      let own = all-before (λ (a : Question). IsOwn a.question) before (ask ∷ rest) (subst (All (λ (a : Question). IsOwn a.question)) parts (all-hold IsOwn speech each scripts turns answers course x)) in
      let so = told-at tells [] before ask rest (subst (AreTold tells []) parts x.told) in
      told-own (map (λ a. a.question) before) (All-map IsOwn (λ (a : Question). a.question) before own) oid ty (ap (tells (map (λ a. a.question) before)) (sym question) ∙ sym so ∙ told)
