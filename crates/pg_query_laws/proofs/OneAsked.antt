-- Two runs of the same commands in the same turns, by the same requests and replies, asked the desk the same and answered the same.
use Rattle.std.proofs.Common.{◌≡◌, ◌⊎◌, inl, inr, ℕ, zero, suc, ◌+◌, ◌<◌, ◌≤◌, ◌==◌, ◌&&◌, arith, List, [], ◌∷◌, ◌++◌, length, map, take, drop, Bool, true, false, if◌then◌else◌, Option, Some, None, refl, sym, ap, subst, ◌∙◌}
use Rattle.std.proofs.lemmas.Bool.{eq-eqb}
use Rattle.std.proofs.lemmas.List.Elements.{All-cons, All-head, All-nil, All-tail}
use Rattle.std.proofs.lemmas.Option.{same_Some}
use Rattle.std.specs.List.Sorted.{IsNonDecreasingBy}
use Rattle.std.specs.Prelude.{All, IsSome, slice_get}
use Rattle.pg_spec.specs.Book.{is_of}
use Rattle.pg_spec.specs.Courses.{Asked, Course, Given, Point, Request, Unfolds, delivered_to, questions_of, reply_to, unread}
use Rattle.pg_spec.specs.Dialogues.{Dialogue, Answers, Asks, Sends, Reads, Puts, Closes, Calls, decided_after}
use Rattle.pg_spec.specs.Meanings.{AreTold}
use Rattle.pg_spec.specs.RawMessages.{RawMessage}
use Rattle.pg_spec.specs.Stamps.{stamped}
use Rattle.pg_spec.specs.declared.stamps.Stamp.{Stamp}
use Rattle.pg_spec.specs.declared.stamps.TurnMark.{TurnMark}
use Rattle.pg_spec.specs.Turns.{IsFirstTurn, IsOwnTurn, entry_at, turn_of}
use Rattle.pg_spec.proofs.OneWay.{first-one}
use Rattle.pg_spec.proofs.Owned.{owned}
use Rattle.pg_query_laws.specs.OneWay.{PutsNone}

-- ---- entries of lists of lists

row-other : {X Y : Type 0} (xs : List X) (ys : List Y) → length ys ≡ length xs → (j : ℕ) (x : X) → slice_get xs j ≡ Some x → (y : Y) × (slice_get ys j ≡ Some y)
row-other [] ys same j x e = absurd cc
row-other (a ∷ xs) [] same j x e = absurd cc
row-other (a ∷ xs) (b ∷ ys) same zero x e = (b, refl)
row-other (a ∷ xs) (b ∷ ys) same (suc j) x e = row-other xs ys (omega (arith, same)) j x e

pub other-entry : {X Y : Type 0} (rows : List (List X)) (others : List (List Y)) → map length others ≡ map length rows → (i j : ℕ) (x : X) → entry_at rows i j ≡ Some x → (y : Y) × (entry_at others i j ≡ Some y)
other-entry [] others same i j x e = absurd cc
other-entry (xs ∷ rows) [] same i j x e = absurd cc
other-entry (xs ∷ rows) (ys ∷ others) same zero j x e = let long : length ys ≡ length xs = cc in row-other xs ys long j x e
other-entry (xs ∷ rows) (ys ∷ others) same (suc i) j x e = let rest : map length others ≡ map length rows = cc in other-entry rows others rest i j x e

row-below : {X : Type 0} (xs : List X) (j i : ℕ) (x : X) → i ≤ j → slice_get xs j ≡ Some x → (y : X) × (slice_get xs i ≡ Some y)
row-below [] j i x le e = absurd cc
row-below (a ∷ xs) j zero x le e = (a, refl)
row-below (a ∷ xs) zero (suc i) x le e = absurd (omega (arith, le))
row-below (a ∷ xs) (suc j) (suc i) x le e = row-below xs j i x (omega (arith, le)) e

pub entry-below : {X : Type 0} (rows : List (List X)) (h j i : ℕ) (x : X) → i ≤ j → entry_at rows h j ≡ Some x → (y : X) × (entry_at rows h i ≡ Some y)
entry-below [] h j i x le e = absurd cc
entry-below (xs ∷ rows) zero j i x le e = row-below xs j i x le e
entry-below (xs ∷ rows) (suc h) j i x le e = entry-below rows h j i x le e

pub entry-handle : {X : Type 0} (rows : List (List X)) (h j : ℕ) (x : X) → entry_at rows h j ≡ Some x → h < length rows
entry-handle [] h j x e = absurd cc
entry-handle (xs ∷ rows) zero j x e = omega arith
entry-handle (xs ∷ rows) (suc h) j x e = let k = entry-handle rows h j x e in omega (arith, k)

pub some-there : {X : Type 0} (o : Option X) → IsSome o → (x : X) × (o ≡ Some x)
some-there None h = absurd cc
some-there (Some x) h = (x, refl)

row-same : {X : Type 0} (xs ys : List X) → length ys ≡ length xs → ((j : ℕ) (x : X) → slice_get xs j ≡ Some x → slice_get ys j ≡ Some x) → ys ≡ xs
row-same [] [] long h = refl
row-same [] (y ∷ ys) long h = absurd (omega (arith, long))
row-same (x ∷ xs) [] long h = absurd (omega (arith, long))
row-same {X} (x ∷ xs) (y ∷ ys) long h =
    let first : y ≡ x = same_Some y x (h 0 x refl) in
    let rest : ys ≡ xs = row-same xs ys (omega (arith, long)) (λ j z e. h (suc j) z e) in
    ap (λ (z : X). z ∷ ys) first ∙ ap (λ (zs : List X). x ∷ zs) rest

pub rows-same : {X : Type 0} (xs ys : List (List X)) → map length ys ≡ map length xs → ((i j : ℕ) (x : X) → entry_at xs i j ≡ Some x → entry_at ys i j ≡ Some x) → ys ≡ xs
rows-same [] [] long h = refl
rows-same [] (y ∷ ys) long h = absurd cc
rows-same (x ∷ xs) [] long h = absurd cc
rows-same {X} (x ∷ xs) (y ∷ ys) long h =
    let one : length y ≡ length x = cc in
    let more : map length ys ≡ map length xs = cc in
    let first : y ≡ x = row-same x y one (h 0) in
    let rest : ys ≡ xs = rows-same xs ys more (λ i j z e. h (suc i) j z e) in
    ap (λ (z : List X). z ∷ ys) first ∙ ap (λ (zs : List (List X)). x ∷ zs) rest

-- ---- order

pub which : (p q : ℕ) → (p < q) ⊎ ((p ≡ q) ⊎ (q < p))
which zero zero = inr (inl refl)
which zero (suc q) = inl (omega arith)
which (suc p) zero = inr (inr (omega arith))
which (suc p) (suc q) = by (which p q)
  where
    by : (p < q) ⊎ ((p ≡ q) ⊎ (q < p)) → (suc p < suc q) ⊎ ((suc p ≡ suc q) ⊎ (suc q < suc p))
    by (inl lt) = inl (omega (arith, lt))
    by (inr (inl e)) = inr (inl (ap suc e))
    by (inr (inr lt)) = inr (inr (omega (arith, lt)))

pub all-before : {X : Type 0} (P : X → Type 0) (xs ys : List X) → All P (xs ++ ys) → All P xs
all-before P [] ys h = All-nil P
all-before P (x ∷ xs) ys h = All-cons P x xs (All-head P x (xs ++ ys) h) (all-before P xs ys (All-tail P x (xs ++ ys) h))

module _ {X : Type 0} (n : X → ℕ) where
  tail-sorted : (x : X) (xs : List X) → IsNonDecreasingBy n (x ∷ xs) → IsNonDecreasingBy n xs
  tail-sorted x xs h i j d le lt = h (suc i) (suc j) d (omega (arith, le)) (omega (arith, lt))

  pub behind-sorted : (xs ys : List X) → IsNonDecreasingBy n (xs ++ ys) → IsNonDecreasingBy n ys
  behind-sorted [] ys h = h
  behind-sorted (x ∷ xs) ys h = behind-sorted xs ys (tail-sorted x (xs ++ ys) h)

  -- the first is the least
  least-rest : (m : ℕ) (y : X) (ys : List X) → m ≤ n y → IsNonDecreasingBy n (y ∷ ys) → All (λ x. m ≤ n x) (y ∷ ys)
  least-rest m y [] le h = All-cons (λ x. m ≤ n x) y [] le (All-nil (λ x. m ≤ n x))
  least-rest m y (z ∷ ys) le h =
      let next : n y ≤ n z = h 0 1 y (omega arith) (omega arith) in
      All-cons (λ x. m ≤ n x) y (z ∷ ys) le (least-rest m z ys (omega (arith, le, next)) (tail-sorted y (z ∷ ys) h))

  pub least-first : (y : X) (ys : List X) → IsNonDecreasingBy n (y ∷ ys) → All (λ x. n y ≤ n x) (y ∷ ys)
  least-first y ys h = least-rest (n y) y ys (omega arith) h

pub all-behind : {X : Type 0} (P : X → Type 0) (xs ys : List X) → All P (xs ++ ys) → All P ys
all-behind P [] ys h = h
all-behind P (x ∷ xs) ys h = all-behind P xs ys (All-tail P x (xs ++ ys) h)

both-true : (b d : Bool) → b ≡ true → d ≡ true → (b && d) ≡ true
both-true true d e f = f
both-true false d e f = absurd cc

same-tail : {X : Type 0} (x : X) (xs : List X) (y : X) (ys : List X) → x ∷ xs ≡ y ∷ ys → xs ≡ ys
same-tail {X} x xs y ys e = ap (λ (l : List X). drop 1 l) e

pub stamp-same : (s t : Stamp) → t.owner ≡ s.owner → t.command ≡ s.command → t.turn ≡ s.turn → t ≡ s
stamp-same s t e f g = ap (λ (x : ℕ). stamped x t.command t.turn) e ∙ ap (λ (x : ℕ). stamped s.owner x t.turn) f ∙ ap (λ (x : ℕ). stamped s.owner s.command x) g

-- a turn of the handle, between these
abbrev pub IsWithin : List TurnMark → (handle from to turn : ℕ) → Type 0
IsWithin trace handle from to turn = (turn_of trace turn ≡ handle) × (from ≤ turn) × (turn ≤ to)

module _ {Q R : Type 0} where
  -- ---- questions

  -- this command asked it
  abbrev pub asked_by : (handle place : ℕ) → Asked Q R → Bool
  asked_by handle place a = is_of handle place (record { stamp = a.stamp; parts = [] })

  abbrev told_so : Stamp → Q → R → Asked Q R
  told_so s q r = record { stamp = s; question = q; reply = r }

  pub asked-same : (a b : Asked Q R) → b.stamp ≡ a.stamp → b.question ≡ a.question → b.reply ≡ a.reply → b ≡ a
  asked-same a b e f g = ap (λ (x : Stamp). told_so x b.question b.reply) e ∙ ap (λ (x : Q). told_so a.stamp x b.reply) f ∙ ap (λ (x : R). told_so a.stamp a.question x) g

  pub is-asked-by : (handle place : ℕ) (a : Asked Q R) → a.stamp.owner ≡ handle → a.stamp.command ≡ place → asked_by handle place a ≡ true
  is-asked-by handle place a e f = both-true (a.stamp.owner == handle) (a.stamp.command == place) (eq-eqb a.stamp.owner handle e) (eq-eqb a.stamp.command place f)

  pub first-kept : (handle place : ℕ) (a : Asked Q R) (rest : List (Asked Q R)) → asked_by handle place a ≡ true → questions_of (a ∷ rest) handle place ≡ a ∷ questions_of rest handle place
  first-kept handle place a rest e = ap (λ (b : Bool). if b then a ∷ questions_of rest handle place else questions_of rest handle place) e

  -- two lists begin with the same question in the same turn, or both are empty, and this holds
  abbrev pub Heads : List (Asked Q R) → List (Asked Q R) → Type 0 → Type 0
  Heads [] [] S = S
  Heads (a ∷ rest) (b ∷ more) S = (b.stamp.turn ≡ a.stamp.turn) × (b.question ≡ a.question)
  Heads _ _ S = ⊥

  none-heads : (rest more : List (Asked Q R)) (S : Type 0) → S → rest ≡ [] → more ≡ [] → Heads rest more S
  none-heads [] [] S s e f = s
  none-heads (a ∷ rest) more S s e f = absurd cc
  none-heads [] (b ∷ more) S s e f = absurd cc

  pub none-other : (rest more : List (Asked Q R)) (S : Type 0) → rest ≡ [] → Heads rest more S → (more ≡ []) × S
  none-other [] [] S e h = (refl, h)
  none-other [] (b ∷ more) S e h = absurd h
  none-other (a ∷ rest) more S e h = absurd cc

  pub mapped-heads : (rest more : List (Asked Q R)) (S T : Type 0) → (S → T) → Heads rest more S → Heads rest more T
  mapped-heads [] [] S T f h = f h
  mapped-heads (a ∷ rest) (b ∷ more) S T f h = h
  mapped-heads [] (b ∷ more) S T f h = absurd h
  mapped-heads (a ∷ rest) [] S T f h = absurd h

  none-behind : (former rest : List (Asked Q R)) → former ++ rest ≡ [] → rest ≡ []
  none-behind [] rest e = e
  none-behind (a ∷ former) rest e = absurd cc

  -- it was told what the desk may tell
  abbrev pub IsTold : (List Q → Q → R) → Asked Q R → Type 0
  IsTold tells a = (before : List Q) × (a.reply ≡ tells before a.question)

  pub all-told : (tells : List Q → Q → R) (former : List Q) (asked : List (Asked Q R)) → AreTold tells former asked → All (IsTold tells) asked
  all-told tells former [] h = All-nil (IsTold tells)
  all-told tells former (a ∷ asked) h = All-cons (IsTold tells) a asked (former, h.0) (all-told tells (former ++ a.question ∷ []) asked h.1)

  -- what was told is the same where the same was asked before
  pub told-same : (tells : List Q → Q → R) (former : List Q) (before : List (Asked Q R)) (a b : Asked Q R) (rest more : List (Asked Q R)) → b.question ≡ a.question →
      AreTold tells former (before ++ a ∷ rest) → AreTold tells former (before ++ b ∷ more) → b.reply ≡ a.reply
  told-same tells former [] a b rest more e h k = k.0 ∙ ap (tells former) e ∙ sym h.0
  told-same tells former (x ∷ before) a b rest more e h k = told-same tells (former ++ x.question ∷ []) before a b rest more e h.1 k.1

  -- ---- how a command unfolds

  -- the same session but for what was asked of the desk
  abbrev pub course_of : Course Q R → List (Asked Q R) → Course Q R
  course_of course asked = record course { asked = asked }

  same-reply : (course : Course Q R) (other : List (Asked Q R)) (o : Option ℕ) → reply_to (course_of course other) o ≡ reply_to course o
  same-reply course other None = refl
  same-reply course other (Some k) = refl

  same-delivered : (course : Course Q R) (other : List (Asked Q R)) (o : Option ℕ) → delivered_to (course_of course other) o ≡ delivered_to course o
  same-delivered course other None = refl
  same-delivered course other (Some k) = refl

  module _ {A : Type 0} where
    -- it unfolds by the same
    pub moved : (course : Course Q R) (other : List (Asked Q R)) (handle : ℕ) (at : Point) (d : Dialogue Q R A) (requests : List Request) (asked : List (Asked Q R)) (given : Given A) →
        Unfolds (course_of course other) handle at d requests asked given → Unfolds course handle at d requests asked given
    moved course other handle at (Answers a) requests asked given h = h
    moved course other handle at (Asks copying part d) [] asked given h = h
    moved course other handle at (Asks copying part d) (r ∷ requests) asked given (whole, turn, more, parts, h) =
        (whole, turn, more, parts, moved course other handle (record { turn = at.turn; request = Some r.number; read = 0; parts = more }) d requests asked given h)
    moved course other handle at (Sends part d) [] asked given h = h
    moved course other handle at (Sends part d) (r ∷ requests) asked given (turn, parts, h) = (turn, parts, moved course other handle at d requests asked given h)
    moved course other handle at (Reads decides next) requests asked given h =
        by (λ n turn k. moved course other handle (record at { turn = turn; read = at.read + n }) (next (take n (unread course at))) requests asked given k)
        (subst (ReadsSo (reply_to course at.request)) (same-delivered course other at.request)
        (subst (λ (reply : List RawMessage). ReadsSo reply (delivered_to (course_of course other) at.request)) (same-reply course other at.request) h))
      where
        ReadsSo : List RawMessage → (ℕ → ℕ) → Type 0
        ReadsSo reply delivered = (n : ℕ) × (decided_after decides (drop at.read reply) ≡ Some n) × (turn : ℕ) × IsFirstTurn course.trace handle at.turn (λ place. at.read + n ≤ delivered place) turn
            × Unfolds (course_of course other) handle (record at { turn = turn; read = at.read + n }) (next (take n (drop at.read reply))) requests asked given

        by : ((n turn : ℕ) → Unfolds (course_of course other) handle (record at { turn = turn; read = at.read + n }) (next (take n (unread course at))) requests asked given →
            Unfolds course handle (record at { turn = turn; read = at.read + n }) (next (take n (unread course at))) requests asked given) →
            ReadsSo (reply_to course at.request) (delivered_to course at.request) → Unfolds course handle at (Reads decides next) requests asked given
        by again (n, decided, turn, first, k) = (n, decided, turn, first, again n turn k)
    moved course other handle at (Puts part d) requests asked given (turn, mine, more, parts, h) =
        (turn, mine, more, parts, moved course other handle (record at { turn = turn; parts = more }) d requests asked given h)
    moved course other handle at (Closes part d) requests asked given (more, parts, h) = (more, parts, moved course other handle (record at { parts = more }) d requests asked given h)
    moved course other handle at (Calls q next) requests [] given h = h
    moved course other handle at (Calls q next) requests (a ∷ asked) given (turn, question, h) = (turn, question, moved course other handle at (next a.reply) requests asked given h)

    goes-on : (tells : List Q → Q → R) (q : Q) (next : R → Dialogue Q R A) → PutsNone tells (Calls q next) → (a : Asked Q R) → a.question ≡ q → IsTold tells a → PutsNone tells (next a.reply)
    goes-on tells q next puts a question told = subst (λ (r : R). PutsNone tells (next r)) (sym (told.1 ∙ ap (tells told.0) question)) (puts told.0)

    -- behind the same questions it asks the same, or nothing more, and then comes to the same
    pub heads : (tells : List Q → Q → R) (course : Course Q R) (handle : ℕ) (at : Point) (d : Dialogue Q R A) (requests : List Request) (former rest more : List (Asked Q R)) (x y : Given A) → PutsNone tells d → All (IsTold tells) former →
        Unfolds course handle at d requests (former ++ rest) x → Unfolds course handle at d requests (former ++ more) y → Heads rest more (y ≡ x)
    heads tells course handle at (Answers a) requests former rest more x y puts told (none, nothing, whole, is) (none', nothing', whole', is') =
        none-heads rest more (y ≡ x) (is' ∙ sym is) (none-behind former rest nothing) (none-behind former more nothing')
    heads tells course handle at (Asks copying part d) [] former rest more x y puts told h k = absurd h
    heads tells course handle at (Asks copying part d) (r ∷ requests) former rest more x y puts told (whole, turn, ps, parts, h) (whole', turn', ps', parts', k) =
        let e : ps' ≡ ps = same-tail part ps' part ps (sym parts' ∙ parts) in
        heads tells course handle (record { turn = at.turn; request = Some r.number; read = 0; parts = ps }) d requests former rest more x y puts told h
        (subst (λ (m : List (List ℕ)). Unfolds course handle (record { turn = at.turn; request = Some r.number; read = 0; parts = m }) d requests (former ++ more) y) e k)
    heads tells course handle at (Sends part d) [] former rest more x y puts told h k = absurd h
    heads tells course handle at (Sends part d) (r ∷ requests) former rest more x y puts told (turn, parts, h) (turn', parts', k) = heads tells course handle at d requests former rest more x y puts told h k
    heads tells course handle at (Reads decides next) requests former rest more x y puts told (n, decided, turn, first, h) (m, decided', turn', first', k) =
        let e : m ≡ n = same_Some m n (sym decided' ∙ decided) in
        let f : turn' ≡ turn = first-one course.trace handle at.turn (λ place. at.read + n ≤ delivered_to course at.request place) turn' turn
        (subst (λ (c : ℕ). IsFirstTurn course.trace handle at.turn (λ place. at.read + c ≤ delivered_to course at.request place) turn') e first') first in
        heads tells course handle (record at { turn = turn; read = at.read + n }) (next (take n (unread course at))) requests former rest more x y (puts (take n (unread course at))) told h
        (subst (λ (c : ℕ). Unfolds course handle (record at { turn = turn; read = at.read + c }) (next (take c (unread course at))) requests (former ++ more) y) e
        (subst (λ (t : ℕ). Unfolds course handle (record at { turn = t; read = at.read + m }) (next (take m (unread course at))) requests (former ++ more) y) f k))
    heads tells course handle at (Puts part d) requests former rest more x y puts told h k = absurd puts
    heads tells course handle at (Closes part d) requests former rest more x y puts told (ps, parts, h) (ps', parts', k) =
        let e : ps' ≡ ps = same-tail part ps' part ps (sym parts' ∙ parts) in
        heads tells course handle (record at { parts = ps }) d requests former rest more x y puts told h
        (subst (λ (m : List (List ℕ)). Unfolds course handle (record at { parts = m }) d requests (former ++ more) y) e k)
    heads tells course handle at (Calls q next) requests [] [] more x y puts told h k = absurd h
    heads tells course handle at (Calls q next) requests [] (a ∷ rest) [] x y puts told h k = absurd k
    heads tells course handle at (Calls q next) requests [] (a ∷ rest) (b ∷ more) x y puts told (turn, question, h) (turn', question', k) = (turn' ∙ sym turn, question' ∙ sym question)
    heads tells course handle at (Calls q next) requests (c ∷ former) rest more x y puts told (turn, question, h) (turn', question', k) =
        heads tells course handle at (next c.reply) requests former rest more x y (goes-on tells q next puts c question (All-head (IsTold tells) c former told)) (All-tail (IsTold tells) c former told) h k

    pub within : (course : Course Q R) (handle from : ℕ) (at : Point) (d : Dialogue Q R A) (requests : List Request) (asked : List (Asked Q R)) (given : Given A) → from ≤ at.turn →
        IsOwnTurn course.trace handle at.turn at.turn → Unfolds course handle at d requests asked given → All (λ a. IsWithin course.trace handle from given.at.turn a.stamp.turn) asked
    within course handle from at (Answers a) requests asked given le own (none, nothing, whole, is) = subst (λ (qs : List (Asked Q R)). All (λ a. IsWithin course.trace handle from given.at.turn a.stamp.turn) qs) (sym nothing) (All-nil (λ (a : Asked Q R). IsWithin course.trace handle from given.at.turn a.stamp.turn))
    within course handle from at (Asks copying part d) [] asked given le own h = absurd h
    within course handle from at (Asks copying part d) (r ∷ requests) asked given le own (whole, turn, more, parts, h) =
        within course handle from (record { turn = at.turn; request = Some r.number; read = 0; parts = more }) d requests asked given le own h
    within course handle from at (Sends part d) [] asked given le own h = absurd h
    within course handle from at (Sends part d) (r ∷ requests) asked given le own (turn, parts, h) = within course handle from at d requests asked given le own h
    within course handle from at (Reads decides next) requests asked given le own (n, decided, turn, first, h) =
        within course handle from (record at { turn = turn; read = at.read + n }) (next (take n (unread course at))) requests asked given (let k = first.no_sooner in omega (arith, le, k))
        (record { made = first.made; own = first.own; no_sooner = omega arith }) h
    within course handle from at (Puts part d) requests asked given le own (turn, mine, more, parts, h) =
        within course handle from (record at { turn = turn; parts = more }) d requests asked given (let k = mine.no_sooner in omega (arith, le, k)) (record { made = mine.made; own = mine.own; no_sooner = omega arith }) h
    within course handle from at (Closes part d) requests asked given le own (more, parts, h) = within course handle from (record at { parts = more }) d requests asked given le own h
    within course handle from at (Calls q next) requests [] given le own h = absurd h
    within course handle from at (Calls q next) requests (a ∷ asked) given le own (turn, question, h) =
        let last : at.turn ≤ given.at.turn = (owned course handle at (next a.reply) requests asked given own h).no_sooner in
        All-cons (λ (x : Asked Q R). IsWithin course.trace handle from given.at.turn x.stamp.turn) a asked (ap (turn_of course.trace) turn ∙ own.own, omega (arith, le, turn), omega (arith, last, turn)) (within course handle from at (next a.reply) requests asked given le own h)
