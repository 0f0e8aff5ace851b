-- No two Parse frames of a session give a statement the same name, where its commands use the names that they were told.
use Rattle.std.proofs.Common.{◌≡◌, ◌<◌, ◌≤◌, ◌+◌, ◌-◌, ◌^◌, ◌⊎◌, inl, inr, ℕ, arith, List, [], ◌∷◌, ◌++◌, map, Some, None, Option, false, true, refl, sym, ap, subst, ◌∙◌, append-nil}
use Rattle.std.specs.Prelude.{IsSome, filter_map, flat_map}
use Rattle.std.specs.List.{concat, AllByRecursion}
use Rattle.std.specs.Str.{byte}
use Rattle.std.proofs.lemmas.List.Elements.{filter_map-append, recursion_from_All}
use Rattle.pg_spec.specs.Book.{Booking, bookings_of, is_of, wire}
use Rattle.pg_spec.specs.Courses.{Course, Request, begun_in, nowhere, questions_of, requests_of}
use Rattle.pg_spec.specs.Meanings.{AreTold, HasRun}
use Rattle.pg_spec.specs.RawMessages.{messages}
use Rattle.pg_spec.specs.Turns.{entry_at}
use Rattle.pg_spec.proofs.MessageLaws.{messages-append}
use Rattle.pg_spec.proofs.Simple.{bookings}
use Rattle.pg_query.specs.declared.desk_call.DeskCall.{DeskCall}
use Rattle.pg_query.specs.declared.desk_call.DeskCall.TheVariants.{ClearTypes, LookupOf, NextPortal, NextStatement, SetLookup, SetType, TypeOf}
use Rattle.pg_query.specs.declared.desk_call.Reply.{Reply}
use Rattle.pg_query.specs.declared.desk_call.Reply.TheVariants as reply
use Rattle.pg_core.specs.Counters.{number_to, statements_in, tells}
use Rattle.pg_core.specs.Prepares.{statement_name}
use Rattle.pg_core.proofs.Fitting.{fitting-filter, session-fitting}
use Rattle.pg_session.specs.Speeches.{BookWhole, Speech, meaning_of}
use Rattle.pg_session.proofs.SentSoFar.Whole.{IsOneRequest}
use Rattle.pg_table.specs.FreshNames.{AreDistinct, name_by, parse_names, statement_names}
use Rattle.pg_table.specs.Told.{Question}
use Rattle.pg_table.proofs.NamesTold.{IsFresh, names_told}
use Rattle.pg_table.proofs.Distinct.{AreApart, IsAmong, IsSubsequence, all-pairs, among-either, apart-by-owners, each-by-owners, filter-subsequence, one-owner, some-among, some-apart}
use Rattle.pg_table.proofs.Entries.{other-entry}
use Rattle.pg_table.proofs.NamesUsed.{used}
use Rattle.pg_table.proofs.Told.{names-differ, number-below, statements-append, was-number}

-- ---- what a desk tells names of is apart

-- the names that were told
abbrev told : Question → List (List ℕ)
told a = names_told a.question a.reply

-- of one reply: no name, or that of the next number
record IsNext (former : List DeskCall) (q : DeskCall) (r : Reply) : Type 0 where
  names : names_told q r ≡ statement_name (statements_in former) ∷ []
  few : statements_in former < 2 ^ 32 - 1
  later : statements_in former < statements_in (former ++ q ∷ [])

next-name : (former : List DeskCall) (r : Reply) → r ≡ number_to (2 ^ 32 - 1) (statements_in former) → (names_told NextStatement r ≡ []) ⊎ IsNext former NextStatement r
next-name former (reply.Number n) is =
    let same : statements_in former ≡ n = was-number (2 ^ 32 - 1) (statements_in former) n (sym is) in
    let more : statements_in (former ++ NextStatement ∷ []) ≡ statements_in former + 1 = statements-append former (NextStatement ∷ []) in
    let few : n < 2 ^ 32 - 1 = number-below (2 ^ 32 - 1) (statements_in former) n (sym is) in
    inr (record {
      names = ap (λ (k : ℕ). statement_name k ∷ []) (sym same);
      few = omega (arith, few, same);
      later = omega (arith, more);
    })
next-name former other is = inl refl

told-names : (former : List DeskCall) (q : DeskCall) (r : Reply) → r ≡ tells former q → (names_told q r ≡ []) ⊎ IsNext former q r
told-names former NextStatement r is = next-name former r is
told-names former NextPortal r is = inl refl
told-names former (TypeOf oid) r is = inl refl
told-names former (SetType oid ty) r is = inl refl
told-names former ClearTypes r is = inl refl
told-names former (LookupOf which) r is = inl refl
told-names former (SetLookup which s) r is = inl refl

-- a name that was told later
record IsLater (former : List DeskCall) (name : List ℕ) : Type 0 where
  number : ℕ
  from : statements_in former ≤ number
  few : number < 2 ^ 32 - 1
  is : statement_name number ≡ name

told-later : (former : List DeskCall) (asked : List Question) → AreTold tells former asked → (name : List ℕ) → IsAmong name (flat_map told asked) → IsLater former name
told-later former [] h name m = absurd m
told-later former (a ∷ asked) h name m = by (λ k. told-later (former ++ a.question ∷ []) asked h.1 name k) (told-names former a.question a.reply h.0) (among-either name (told a) (flat_map told asked) m)
  where
    behind-it : IsLater (former ++ a.question ∷ []) name → IsLater former name
    behind-it y =
        let more : statements_in (former ++ a.question ∷ []) ≡ statements_in former + statements_in (a.question ∷ []) = statements-append former (a.question ∷ []) in
        let from = y.from in
        record { number = y.number; from = omega (arith, more, from); few = y.few; is = y.is }

    only : IsNext former a.question a.reply → IsAmong name (statement_name (statements_in former) ∷ []) → IsLater former name
    only next (inl same) = record { number = statements_in former; from = omega arith; few = next.few; is = same }
    only next (inr never) = absurd never

    first : (told a ≡ []) ⊎ IsNext former a.question a.reply → IsAmong name (told a) → IsLater former name
    first (inl none) m = absurd (subst (λ (l : List (List ℕ)). IsAmong name l) none m)
    first (inr next) m = only next (subst (λ (l : List (List ℕ)). IsAmong name l) next.names m)

    by : (IsAmong name (flat_map told asked) → IsLater (former ++ a.question ∷ []) name) → (told a ≡ []) ⊎ IsNext former a.question a.reply → IsAmong name (told a) ⊎ IsAmong name (flat_map told asked) → IsLater former name
    by rest one (inl m) = first one m
    by rest one (inr m) = behind-it (rest m)

told-apart : (former : List DeskCall) (asked : List Question) → AreTold tells former asked → AreApart (flat_map told asked)
told-apart former [] h = tt
told-apart former (a ∷ asked) h = by (told-names former a.question a.reply h.0) (told-apart (former ++ a.question ∷ []) asked h.1)
  where
    never : IsNext former a.question a.reply → IsAmong (statement_name (statements_in former)) (flat_map told asked) → ⊥
    never next m =
        let y = told-later (former ++ a.question ∷ []) asked h.1 (statement_name (statements_in former)) m in
        let later = next.later in
        let from = y.from in
        names-differ (statements_in former) y.number (omega (arith, later, from)) y.few (sym y.is)

    by : (told a ≡ []) ⊎ IsNext former a.question a.reply → AreApart (flat_map told asked) → AreApart (told a ++ flat_map told asked)
    by (inl none) k = subst (λ (l : List (List ℕ)). AreApart (l ++ flat_map told asked)) (sym none) k
    by (inr next) k = subst (λ (l : List (List ℕ)). AreApart (l ++ flat_map told asked)) (sym next.names) (never next, k)

-- ---- the names in a book

-- the names in a request
abbrev names_in : Booking → List (List ℕ)
names_in b = statement_names (concat b.parts)

-- where each request is whole, they are those of its requests
names-of-book : (book : List Booking) → AllByRecursion (λ b. IsOneRequest b.parts) book → parse_names book ≡ flat_map names_in book
names-of-book [] h = refl
names-of-book (b ∷ book) (one, h) =
    let bytes : concat b.parts ≡ one.part = ap concat one.alone ∙ append-nil one.part in
    ap (λ (x : List ℕ). statement_names (x ++ wire book)) bytes
    ∙ ap (filter_map (name_by (byte "P"))) (messages-append one.part (wire book) ∙ ap (λ (x : List ℕ). messages one.part ++ messages (x ++ wire book)) one.is.whole)
    ∙ filter_map-append (name_by (byte "P")) (messages one.part) (messages (wire book))
    ∙ ap (λ (l : List (List ℕ)). l ++ parse_names book) (ap statement_names (sym bytes))
    ∙ ap (λ (l : List (List ℕ)). names_in b ++ l) (names-of-book book h)

-- ---- a session

flat-mapped : {X Y Z : Type 0} (g : Y → List Z) (f : X → Y) (xs : List X) → flat_map g (map f xs) ≡ flat_map (λ x. g (f x)) xs
flat-mapped g f [] = refl
flat-mapped g f (x ∷ xs) = ap (λ l. g (f x) ++ l) (flat-mapped g f xs)

all-mapped : {X Y : Type 0} (P : Y → Type 0) (f : X → Y) (xs : List X) → AllByRecursion (λ x. P (f x)) xs → AllByRecursion P (map f xs)
all-mapped P f [] h = tt
all-mapped P f (x ∷ xs) h = (h.0, all-mapped P f xs h.1)

module _ {C T A E : Type 0} (speech : Speech C T A E) (booked : BookWhole speech) (fresh : (own : E) (c : C) → IsFresh (speech.says own c)) (scripts : List (List C)) (turns : List ℕ) (given : List (List A))
    (course : Course DeskCall Reply) (run : HasRun (meaning_of speech) scripts turns given course) where
  -- a command stands there
  abbrev Known : ℕ → ℕ → Type 0
  Known handle place = IsSome (entry_at scripts handle place)

  -- the commands that ask and book
  known : AllByRecursion (λ b. Known b.stamp.owner b.stamp.command) course.book
  known = recursion_from_All (λ (b : Booking). IsSome (entry_at scripts b.stamp.owner b.stamp.command)) course.book run.no_other

  -- what one did
  one-command : (handle place : ℕ) (c : C) → entry_at scripts handle place ≡ Some c → (requests : List Request) → requests_of course.book handle place ≡ requests →
      (AllByRecursion (λ r. IsOneRequest r.booking.parts) requests) × IsSubsequence (flat_map (λ r. names_in r.booking) requests) (flat_map told (questions_of course.asked handle place))
  one-command handle place c is requests same =
      let timed = other-entry scripts run.schedule run.one_time_each handle place c is in
      let did = run.did handle place c timed.0 is timed.1 in
      let fit = fitting-filter (λ a. is_of handle place (record { stamp = a.stamp; parts = [] })) course.asked (session-fitting [] course.asked run.told) in
      let u = used statement_names names_told course handle (speech.ends did.before c) (begun_in nowhere timed.0.begins) (speech.says did.before c) (requests_of course.book handle place) (questions_of course.asked handle place)
      (record { at = did.at; answer = did.ending }) [] (booked did.before c) (fresh did.before c) fit did.unfolds in
      subst (λ (rs : List Request). (AllByRecursion (λ r. IsOneRequest r.booking.parts) rs) × IsSubsequence (flat_map (λ r. names_in r.booking) rs) (flat_map told (questions_of course.asked handle place))) same (u.whole, u.names)

  -- what the command that stands there did
  record DidAt (handle place : ℕ) : Type 0 where
    whole : AllByRecursion (λ b. IsOneRequest b.parts) (bookings_of course.book handle place)
    names : IsSubsequence (flat_map names_in (bookings_of course.book handle place)) (flat_map told (questions_of course.asked handle place))

  did-at : (handle place : ℕ) → Known handle place → DidAt handle place
  did-at handle place some = by (entry_at scripts handle place) refl some
    where
      by : (o : Option C) → entry_at scripts handle place ≡ o → IsSome o → DidAt handle place
      by None is some = absurd (let no : false ≡ true = some in cc)
      by (Some c) is some =
          let y = one-command handle place c is (requests_of course.book handle place) refl in
          let same = bookings course.book 0 handle place in
          record {
            whole = subst (λ (bs : List Booking). AllByRecursion (λ b. IsOneRequest b.parts) bs) same (all-mapped (λ (b : Booking). IsOneRequest b.parts) (λ (r : Request). r.booking) (requests_of course.book handle place) y.0);
            names = subst (λ (bs : List Booking). IsSubsequence (flat_map names_in bs) (flat_map told (questions_of course.asked handle place))) same
                (subst (λ (l : List (List ℕ)). IsSubsequence l (flat_map told (questions_of course.asked handle place))) (sym (flat-mapped names_in (λ (r : Request). r.booking) (requests_of course.book handle place))) y.1);
          }

  all-apart : AreApart (flat_map told course.asked)
  all-apart = told-apart [] course.asked run.told

  book-apart : AreApart (flat_map names_in course.book)
  book-apart = apart-by-owners (λ (b : Booking). b.stamp) names_in Known (λ handle place name. IsAmong name (flat_map told (questions_of course.asked handle place)))
      (one-owner (λ (a : Question). a.stamp) told course.asked all-apart) course.book known
      (λ handle place some. some-apart (did-at handle place some).names
      (some-apart (filter-subsequence told (λ a. is_of handle place (record { stamp = a.stamp; parts = [] })) course.asked) all-apart))
      (λ handle place some name m. some-among (did-at handle place some).names name m)

  pub fresh-names : AreDistinct (parse_names course.book)
  fresh-names =
      let whole = each-by-owners (λ (b : Booking). b.stamp) (λ (b : Booking). IsOneRequest b.parts) Known course.book known (λ handle place some. (did-at handle place some).whole) in
      subst AreDistinct (sym (names-of-book course.book whole)) (all-pairs (flat_map names_in course.book) book-apart)
