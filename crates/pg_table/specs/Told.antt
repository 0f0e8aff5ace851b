-- What a session's desk tells its commands: of types, of the statements that look them up, and the numbers of statements.
use Rattle.std.specs.Prelude.{◌≡◌, ◌<◌, ◌≤◌, ◌-◌, ◌^◌, ◌==◌, ℕ, IsFalse, List, [], ◌∷◌, ◌++◌, map, Some, None}
use Rattle.pg_types.specs.declared.pg_type.PgType.{PgType}
use Rattle.pg_desk.specs.declared.statement.Described.{Described as Statement}
use Rattle.pg_desk.specs.declared.statement.Lookup.{Lookup}
use Rattle.pg_query.specs.declared.desk_call.DeskCall.{DeskCall}
use Rattle.pg_query.specs.declared.desk_call.DeskCall.TheVariants.{ClearTypes, LookupOf, NextStatement, SetLookup, SetType, TypeOf}
use Rattle.pg_query.specs.declared.desk_call.Reply.{Reply}
use Rattle.pg_query.specs.declared.desk_call.Reply.TheVariants as reply
use Rattle.pg_spec.specs.Courses.{Asked}
use Rattle.pg_core.specs.Counters.{statements_in}
use Rattle.pg_core.specs.Prepares.{statement_name}

-- a question that a command asked of the desk of a session, and what it was told
abbrev pub Question : Type 0
Question = Asked DeskCall Reply

-- without what was told
abbrev pub questions : List Question → List DeskCall
questions qs = map (λ a. a.question) qs

-- ---- questions that leave what is kept

-- none of these keeps a type of this oid
abbrev pub NoneSets : (oid : ℕ) → List DeskCall → Type 0
NoneSets oid [] = Unit {0}
NoneSets oid (SetType set ty ∷ qs) = IsFalse (set == oid) × NoneSets oid qs
NoneSets oid (q ∷ qs) = NoneSets oid qs

-- none drops the types that are kept
abbrev pub NoneClears : List DeskCall → Type 0
NoneClears [] = Unit {0}
NoneClears (ClearTypes ∷ qs) = ⊥
NoneClears (q ∷ qs) = NoneClears qs

-- none keeps a statement that looks this up
abbrev pub NoneSetsLookup : Lookup → List DeskCall → Type 0
NoneSetsLookup which [] = Unit {0}
NoneSetsLookup which (SetLookup kept s ∷ qs) = (kept ≡ which → ⊥) × NoneSetsLookup which qs
NoneSetsLookup which (q ∷ qs) = NoneSetsLookup which qs

-- ---- what is told, where these were the questions of a session, in the order of their turns

-- Of the type of an oid: the one that the last lookup before it kept, if no clear stands between; none behind a clear and at first.
pub record TypesTold (asked : List Question) : Type 0 where
  pub last : (before between behind : List Question) (kept ask : Question) (oid : ℕ) (ty : PgType) → asked ≡ before ++ kept ∷ (between ++ ask ∷ behind) →
      kept.question ≡ SetType oid ty → ask.question ≡ TypeOf oid → NoneSets oid (questions between) → NoneClears (questions between) → ask.reply ≡ reply.Type (Some ty)
  pub behind_a_clear : (before between behind : List Question) (clear ask : Question) (oid : ℕ) → asked ≡ before ++ clear ∷ (between ++ ask ∷ behind) →
      clear.question ≡ ClearTypes → ask.question ≡ TypeOf oid → NoneSets oid (questions between) → ask.reply ≡ reply.Type None
  pub at_first : (before behind : List Question) (ask : Question) (oid : ℕ) → asked ≡ before ++ ask ∷ behind →
      ask.question ≡ TypeOf oid → NoneSets oid (questions before) → ask.reply ≡ reply.Type None
  -- a type that is to be kept is handed back
  pub handed_back : (before behind : List Question) (kept : Question) (oid : ℕ) (ty : PgType) → asked ≡ before ++ kept ∷ behind →
      kept.question ≡ SetType oid ty → kept.reply ≡ reply.Type (Some ty)

-- Of the statement that looks something up: the one that was kept last, which a clear leaves; none at first.
pub record LookupsTold (asked : List Question) : Type 0 where
  pub last : (before between behind : List Question) (kept ask : Question) (which : Lookup) (s : Statement) → asked ≡ before ++ kept ∷ (between ++ ask ∷ behind) →
      kept.question ≡ SetLookup which s → ask.question ≡ LookupOf which → NoneSetsLookup which (questions between) → ask.reply ≡ reply.Statement (Some s)
  pub at_first : (before behind : List Question) (ask : Question) (which : Lookup) → asked ≡ before ++ ask ∷ behind →
      ask.question ≡ LookupOf which → NoneSetsLookup which (questions before) → ask.reply ≡ reply.Statement None
  -- so is such a statement
  pub handed_back : (before behind : List Question) (kept : Question) (which : Lookup) (s : Statement) → asked ≡ before ++ kept ∷ behind →
      kept.question ≡ SetLookup which s → kept.reply ≡ reply.Statement (Some s)

-- The numbers of statements are drawn in order from 0, each once, up to 2^32 - 2; then they are spent. So the names of two of them differ.
pub record NumbersTold (asked : List Question) : Type 0 where
  pub drawn : (before behind : List Question) (ask : Question) → asked ≡ before ++ ask ∷ behind → ask.question ≡ NextStatement →
      statements_in (questions before) < 2 ^ 32 - 1 → ask.reply ≡ reply.Number (statements_in (questions before))
  pub spent : (before behind : List Question) (ask : Question) → asked ≡ before ++ ask ∷ behind → ask.question ≡ NextStatement →
      2 ^ 32 - 1 ≤ statements_in (questions before) → ask.reply ≡ reply.Spent
  pub fresh : (before between behind : List Question) (one two : Question) (n m : ℕ) → asked ≡ before ++ one ∷ (between ++ two ∷ behind) →
      one.question ≡ NextStatement → two.question ≡ NextStatement → one.reply ≡ reply.Number n → two.reply ≡ reply.Number m →
      (n < m) × (statement_name n ≡ statement_name m → ⊥)

-- all of it
pub record DeskTells (asked : List Question) : Type 0 where
  pub types : TypesTold asked
  pub lookups : LookupsTold asked
  pub numbers : NumbersTold asked
