-- What a session's desk tells its commands.
use Rattle.std.proofs.Common.{◌≡◌, ◌<◌, ◌≤◌, ◌+◌, ◌-◌, ◌^◌, ◌==◌, ℕ, arith, nat_lt, decimal, IsFalse, List, [], ◌∷◌, ◌++◌, Bool, true, false, if◌then◌else◌, Option, Some, None, refl, sym, ap, subst, ◌∙◌, append_assoc}
use Rattle.std.proofs.lemmas.Bool.Decides.{nat_tests}
use Rattle.std.proofs.lemmas.Fmt.{decimal_injective}
use Rattle.std.proofs.lemmas.List.{append-nil, map-append}
use Rattle.pg_types.specs.declared.pg_type.PgType.{PgType}
use Rattle.pg_desk.specs.declared.statement.Described.{Described as Statement}
use Rattle.pg_desk.specs.declared.statement.Lookup.{Lookup}
use Rattle.pg_desk.specs.declared.statement.Lookup.TheVariants.{Info, Enum, Composite}
use Rattle.pg_query.specs.declared.desk_call.DeskCall.{DeskCall}
use Rattle.pg_query.specs.declared.desk_call.DeskCall.TheVariants.{ClearTypes, LookupOf, NextPortal, NextStatement, SetLookup, SetType, TypeOf}
use Rattle.pg_query.specs.declared.desk_call.Reply.TheVariants as reply
use Rattle.pg_spec.specs.Meanings.{AreTold}
use Rattle.pg_core.specs.Prepares.{statement_name}
use Rattle.pg_core.specs.Counters.{last_statement, last_type, number_to, statement_behind, statements_in, tells, type_behind}
use Rattle.pg_table.specs.Told.{DeskTells, LookupsTold, NoneClears, NoneSets, NoneSetsLookup, NumbersTold, Question, TypesTold, questions}

-- ---- what is told behind these questions

told-at : (former : List DeskCall) (before behind : List Question) (ask : Question) → AreTold tells former (before ++ ask ∷ behind) → ask.reply ≡ tells (former ++ questions before) ask.question
told-at former [] behind ask h = h.0 ∙ ap (λ (qs : List DeskCall). tells qs ask.question) (sym (append-nil former))
told-at former (x ∷ before) behind ask h =
    told-at (former ++ x.question ∷ []) before behind ask h.1 ∙ ap (λ (qs : List DeskCall). tells qs ask.question) (append_assoc former (x.question ∷ []) (questions before))

-- the same behind one of them
told-behind : (before between behind : List Question) (one ask : Question) → AreTold tells [] (before ++ one ∷ (between ++ ask ∷ behind)) →
    ask.reply ≡ tells (questions before ++ one.question ∷ questions between) ask.question
told-behind before between behind one ask h =
    told-at [] (before ++ one ∷ between) behind ask (subst (AreTold tells []) (sym (append_assoc before (one ∷ between) (ask ∷ behind))) h)
    ∙ ap (λ (qs : List DeskCall). tells qs ask.question) (map-append (λ (a : Question). a.question) before (one ∷ between))

-- ---- types

type-append : (qs rs : List DeskCall) (oid : ℕ) (t : Option PgType) → last_type (qs ++ rs) oid t ≡ last_type rs oid (last_type qs oid t)
type-append [] rs oid t = refl
type-append (q ∷ qs) rs oid t = type-append qs rs oid (type_behind q oid t)

is-other : (set oid : ℕ) (a b : Option PgType) → IsFalse (set == oid) → (if set == oid then a else b) ≡ b
is-other set oid a b h = by (set == oid) h
  where
    by : (e : Bool) → IsFalse e → (if e then a else b) ≡ b
    by true h = absurd cc
    by false h = refl

type-left : (qs : List DeskCall) (oid : ℕ) (t : Option PgType) → NoneSets oid qs → NoneClears qs → last_type qs oid t ≡ t
type-left [] oid t none stays = refl
type-left (SetType set ty ∷ qs) oid t none stays = ap (last_type qs oid) (is-other set oid (Some ty) t none.0) ∙ type-left qs oid t none.1 stays
type-left (ClearTypes ∷ qs) oid t none stays = absurd stays
type-left (TypeOf other ∷ qs) oid t none stays = type-left qs oid t none stays
type-left (NextStatement ∷ qs) oid t none stays = type-left qs oid t none stays
type-left (NextPortal ∷ qs) oid t none stays = type-left qs oid t none stays
type-left (LookupOf which ∷ qs) oid t none stays = type-left qs oid t none stays
type-left (SetLookup which s ∷ qs) oid t none stays = type-left qs oid t none stays

none-left : (qs : List DeskCall) (oid : ℕ) → NoneSets oid qs → last_type qs oid None ≡ None
none-left [] oid none = refl
none-left (SetType set ty ∷ qs) oid none = ap (last_type qs oid) (is-other set oid (Some ty) None none.0) ∙ none-left qs oid none.1
none-left (ClearTypes ∷ qs) oid none = none-left qs oid none
none-left (TypeOf other ∷ qs) oid none = none-left qs oid none
none-left (NextStatement ∷ qs) oid none = none-left qs oid none
none-left (NextPortal ∷ qs) oid none = none-left qs oid none
none-left (LookupOf which ∷ qs) oid none = none-left qs oid none
none-left (SetLookup which s ∷ qs) oid none = none-left qs oid none

is-same : (oid : ℕ) (a b : Option PgType) → (if oid == oid then a else b) ≡ a
is-same oid a b = ap (λ (e : Bool). if e then a else b) (let e : (oid == oid) ≡ true = grind (arith, nat_tests) in e)

types-told : (asked : List Question) → AreTold tells [] asked → TypesTold asked
types-told asked told = record {
  last = λ before between behind kept ask oid ty is set asks none stays.
      told-behind before between behind kept ask (subst (AreTold tells []) is told)
      ∙ ap (tells (questions before ++ kept.question ∷ questions between)) asks
      ∙ ap reply.Type (
      type-append (questions before) (kept.question ∷ questions between) oid None
      ∙ ap (λ (q : DeskCall). last_type (questions between) oid (type_behind q oid (last_type (questions before) oid None))) set
      ∙ type-left (questions between) oid (if oid == oid then Some ty else last_type (questions before) oid None) none stays
      ∙ is-same oid (Some ty) (last_type (questions before) oid None)
      );
  behind_a_clear = λ before between behind clear ask oid is clears asks none.
      told-behind before between behind clear ask (subst (AreTold tells []) is told)
      ∙ ap (tells (questions before ++ clear.question ∷ questions between)) asks
      ∙ ap reply.Type (
      type-append (questions before) (clear.question ∷ questions between) oid None
      ∙ ap (λ (q : DeskCall). last_type (questions between) oid (type_behind q oid (last_type (questions before) oid None))) clears
      ∙ none-left (questions between) oid none
      );
  at_first = λ before behind ask oid is asks none.
      told-at [] before behind ask (subst (AreTold tells []) is told)
      ∙ ap (tells (questions before)) asks
      ∙ ap reply.Type (none-left (questions before) oid none);
  handed_back = λ before behind kept oid ty is set.
      told-at [] before behind kept (subst (AreTold tells []) is told) ∙ ap (tells (questions before)) set;
}

-- ---- statements that look types up

statement-append : (qs rs : List DeskCall) (which : Lookup) (t : Option Statement) → last_statement (qs ++ rs) which t ≡ last_statement rs which (last_statement qs which t)
statement-append [] rs which t = refl
statement-append (q ∷ qs) rs which t = statement-append qs rs which (statement_behind q which t)

other-lookup : (kept which : Lookup) (s : Statement) (t : Option Statement) → (kept ≡ which → ⊥) → statement_behind (SetLookup kept s) which t ≡ t
other-lookup Info Info s t other = absurd (other refl)
other-lookup Info Enum s t other = refl
other-lookup Info Composite s t other = refl
other-lookup Enum Info s t other = refl
other-lookup Enum Enum s t other = absurd (other refl)
other-lookup Enum Composite s t other = refl
other-lookup Composite Info s t other = refl
other-lookup Composite Enum s t other = refl
other-lookup Composite Composite s t other = absurd (other refl)

same-lookup : (which : Lookup) (s : Statement) (t : Option Statement) → statement_behind (SetLookup which s) which t ≡ Some s
same-lookup Info s t = refl
same-lookup Enum s t = refl
same-lookup Composite s t = refl

statement-left : (qs : List DeskCall) (which : Lookup) (t : Option Statement) → NoneSetsLookup which qs → last_statement qs which t ≡ t
statement-left [] which t none = refl
statement-left (SetLookup kept s ∷ qs) which t none = ap (last_statement qs which) (other-lookup kept which s t none.0) ∙ statement-left qs which t none.1
statement-left (SetType set ty ∷ qs) which t none = statement-left qs which t none
statement-left (ClearTypes ∷ qs) which t none = statement-left qs which t none
statement-left (TypeOf other ∷ qs) which t none = statement-left qs which t none
statement-left (NextStatement ∷ qs) which t none = statement-left qs which t none
statement-left (NextPortal ∷ qs) which t none = statement-left qs which t none
statement-left (LookupOf other ∷ qs) which t none = statement-left qs which t none

lookups-told : (asked : List Question) → AreTold tells [] asked → LookupsTold asked
lookups-told asked told = record {
  last = λ before between behind kept ask which s is set asks none.
      told-behind before between behind kept ask (subst (AreTold tells []) is told)
      ∙ ap (tells (questions before ++ kept.question ∷ questions between)) asks
      ∙ ap reply.Statement (
      statement-append (questions before) (kept.question ∷ questions between) which None
      ∙ ap (λ (q : DeskCall). last_statement (questions between) which (statement_behind q which (last_statement (questions before) which None))) set
      ∙ statement-left (questions between) which (statement_behind (SetLookup which s) which (last_statement (questions before) which None)) none
      ∙ same-lookup which s (last_statement (questions before) which None)
      );
  at_first = λ before behind ask which is asks none.
      told-at [] before behind ask (subst (AreTold tells []) is told)
      ∙ ap (tells (questions before)) asks
      ∙ ap reply.Statement (statement-left (questions before) which None none);
  handed_back = λ before behind kept which s is set.
      told-at [] before behind kept (subst (AreTold tells []) is told) ∙ ap (tells (questions before)) set;
}

-- ---- numbers

pub statements-append : (qs rs : List DeskCall) → statements_in (qs ++ rs) ≡ statements_in qs + statements_in rs
statements-append [] rs = omega arith
statements-append (NextStatement ∷ qs) rs = let h = statements-append qs rs in omega (arith, h)
statements-append (NextPortal ∷ qs) rs = statements-append qs rs
statements-append (TypeOf oid ∷ qs) rs = statements-append qs rs
statements-append (SetType oid ty ∷ qs) rs = statements-append qs rs
statements-append (ClearTypes ∷ qs) rs = statements-append qs rs
statements-append (LookupOf which ∷ qs) rs = statements-append qs rs
statements-append (SetLookup which s ∷ qs) rs = statements-append qs rs

is-number : (top n : ℕ) → n < top → number_to top n ≡ reply.Number n
is-number top n lt = ap (λ (b : Bool). if b then reply.Number n else reply.Spent) (let e : nat_lt n top ≡ true = grind (arith, nat_tests, lt) in e)

is-spent : (top n : ℕ) → top ≤ n → number_to top n ≡ reply.Spent
is-spent top n le = ap (λ (b : Bool). if b then reply.Number n else reply.Spent) (let e : nat_lt n top ≡ false = grind (arith, nat_tests, le) in e)

pub was-number : (top c n : ℕ) → number_to top c ≡ reply.Number n → c ≡ n
was-number top c n h = by (nat_lt c top) h
  where
    by : (b : Bool) → (if b then reply.Number c else reply.Spent) ≡ reply.Number n → c ≡ n
    by true h = cc
    by false h = absurd cc

pub number-below : (top c n : ℕ) → number_to top c ≡ reply.Number n → n < top
number-below top c n h = by (nat_lt c top) refl h
  where
    by : (b : Bool) → nat_lt c top ≡ b → (if b then reply.Number c else reply.Spent) ≡ reply.Number n → n < top
    by true e h = let is : c ≡ n = cc in let less : c < top = grind (arith, nat_tests, e) in omega (arith, is, less)
    by false e h = absurd cc

-- names of different numbers differ
pub names-differ : (n m : ℕ) → n < m → m < 2 ^ 32 - 1 → statement_name n ≡ statement_name m → ⊥
names-differ n m less few same =
    let tail : decimal n ≡ decimal m = cc in
    let is = decimal_injective n m (omega (arith, less, few)) (omega (arith, few)) tail in
    omega (arith, is, less)

numbers-told : (asked : List Question) → AreTold tells [] asked → NumbersTold asked
numbers-told asked told = record {
  drawn = λ before behind ask is asks few.
      told-at [] before behind ask (subst (AreTold tells []) is told)
      ∙ ap (tells (questions before)) asks
      ∙ is-number (2 ^ 32 - 1) (statements_in (questions before)) few;
  spent = λ before behind ask is asks many.
      told-at [] before behind ask (subst (AreTold tells []) is told)
      ∙ ap (tells (questions before)) asks
      ∙ is-spent (2 ^ 32 - 1) (statements_in (questions before)) many;
  fresh = λ before between behind one two n m is asks also said more.
      let told_here = subst (AreTold tells []) is told in
      let first : statements_in (questions before) ≡ n =
      was-number (2 ^ 32 - 1) (statements_in (questions before)) n (sym (told-at [] before (between ++ two ∷ behind) one told_here ∙ ap (tells (questions before)) asks) ∙ said) in
      let qs = questions before ++ one.question ∷ questions between in
      let second : statements_in qs ≡ m =
      was-number (2 ^ 32 - 1) (statements_in qs) m (sym (told-behind before between behind one two told_here ∙ ap (tells qs) also) ∙ more) in
      let count : statements_in qs ≡ statements_in (questions before) + (statements_in (questions between) + 1) =
      statements-append (questions before) (one.question ∷ questions between) ∙ ap (λ (q : DeskCall). statements_in (questions before) + statements_in (q ∷ questions between)) asks in
      let less : n < m = omega (arith, first, second, count) in
      let few = number-below (2 ^ 32 - 1) (statements_in qs) m (sym (told-behind before between behind one two told_here ∙ ap (tells qs) also) ∙ more) in
      (less, names-differ n m less few);
}

-- ---- all of it

pub desk-tells : (asked : List Question) → AreTold tells [] asked → DeskTells asked
desk-tells asked told = record { types = types-told asked told; lookups = lookups-told asked told; numbers = numbers-told asked told }
