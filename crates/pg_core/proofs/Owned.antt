-- A command's requests and questions, in a book and a list that grow.
use Rattle.std.proofs.Common.{◌≡◌, ℕ, ◌+◌, ◌==◌, ◌&&◌, List, [], ◌∷◌, ◌++◌, length, map, filter, Bool, true, false, if◌then◌else◌, refl, sym, ap, ◌∙◌, arith}
use Rattle.std.proofs.lemmas.Bool.Decides.{nat_tests}
use Rattle.std.proofs.lemmas.List.{append-nil}
use Rattle.std.proofs.lemmas.List.Elements.{filter-append}
use Rattle.pg_spec.specs.Book.{Booking, is_of}
use Rattle.pg_spec.specs.declared.stamps.Stamp.{Stamp}
use Rattle.pg_query.specs.declared.desk_call.DeskCall.{DeskCall}
use Rattle.pg_query.specs.declared.desk_call.Reply.{Reply}
use Rattle.pg_spec.specs.Courses.{Asked, Request, numbered, requests_of, questions_of, Who, stamp_of}
use Rattle.pg_core.specs.Trails.{AreNumbered, AreToldIn}

numbered-append : (n : ℕ) (bs cs : List Booking) → numbered n (bs ++ cs) ≡ numbered n bs ++ numbered (n + length bs) cs
numbered-append n [] cs = ap (λ (k : ℕ). numbered k cs) (let e : n ≡ n + 0 = omega arith in e)
numbered-append n (b ∷ bs) cs =
    ap (λ (l : List Request). record { number = n; booking = b } ∷ l)
    (numbered-append (n + 1) bs cs ∙ ap (λ (k : ℕ). numbered (n + 1) bs ++ numbered k cs) (let e : n + 1 + length bs ≡ n + length (b ∷ bs) = omega arith in e))

numbered-own : (who : Who) (turn n : ℕ) (rs : List Request) → AreNumbered who turn n rs → numbered n (map (λ r. r.booking) rs) ≡ rs
numbered-own who turn n [] h = refl
numbered-own who turn n (r ∷ rs) (is, stamp, h) =
    ap (λ (k : ℕ). record { number = k; booking = r.booking } ∷ numbered (n + 1) (map (λ r. r.booking) rs)) (sym is) ∙ ap (λ (l : List Request). r ∷ l) (numbered-own who turn (n + 1) rs h)

same-number : (n : ℕ) → (n == n) ≡ true
same-number n = grind (arith, nat_tests)

is-own : (who : Who) (turn : ℕ) (b : Booking) → b.stamp ≡ stamp_of who turn → is_of who.handle who.command b ≡ true
is-own who turn b e =
    ap (λ (s : Stamp). (s.owner == who.handle) && (s.command == who.command)) e
    ∙ ap (λ (x : Bool). x && (who.command == who.command)) (same-number who.handle) ∙ same-number who.command

all-own : (who : Who) (turn n : ℕ) (rs : List Request) → AreNumbered who turn n rs → filter (λ r. is_of who.handle who.command r.booking) rs ≡ rs
all-own who turn n [] h = refl
all-own who turn n (r ∷ rs) (is, stamp, h) =
    ap (λ (b : Bool). if b then r ∷ filter (λ r. is_of who.handle who.command r.booking) rs else filter (λ r. is_of who.handle who.command r.booking) rs) (is-own who turn r.booking stamp)
    ∙ ap (λ (l : List Request). r ∷ l) (all-own who turn (n + 1) rs h)

-- its requests are those before and those of its turn
pub own-requests : (who : Who) (turn : ℕ) (book : List Booking) (rs : List Request) → AreNumbered who turn (length book) rs →
    requests_of (book ++ map (λ r. r.booking) rs) who.handle who.command ≡ requests_of book who.handle who.command ++ rs
own-requests who turn book rs h =
    let p : Request → Bool = λ r. is_of who.handle who.command r.booking in
    ap (filter p) (numbered-append 0 book (map (λ r. r.booking) rs) ∙ ap (λ (k : ℕ). numbered 0 book ++ numbered k (map (λ r. r.booking) rs)) (let e : 0 + length book ≡ length book = omega arith in e)
    ∙ ap (λ (l : List Request). numbered 0 book ++ l) (numbered-own who turn (length book) rs h))
    ∙ filter-append p (numbered 0 book) rs ∙ ap (λ (l : List Request). filter p (numbered 0 book) ++ l) (all-own who turn (length book) rs h)

-- another's bookings are none of its
none-own : (who other : Who) (turn n : ℕ) (rs : List Request) → ((b : Booking) (t : ℕ) → b.stamp ≡ stamp_of other t → is_of who.handle who.command b ≡ false) → AreNumbered other turn n rs →
    filter (λ r. is_of who.handle who.command r.booking) rs ≡ []
none-own who other turn n [] apart h = refl
none-own who other turn n (r ∷ rs) apart (is, stamp, h) =
    ap (λ (b : Bool). if b then r ∷ filter (λ r. is_of who.handle who.command r.booking) rs else filter (λ r. is_of who.handle who.command r.booking) rs) (apart r.booking turn stamp)
    ∙ none-own who other turn (n + 1) rs apart h

pub others-requests : (who other : Who) (turn : ℕ) (book : List Booking) (rs : List Request) → ((b : Booking) (t : ℕ) → b.stamp ≡ stamp_of other t → is_of who.handle who.command b ≡ false) → AreNumbered other turn (length book) rs →
    requests_of (book ++ map (λ r. r.booking) rs) who.handle who.command ≡ requests_of book who.handle who.command
others-requests who other turn book rs apart h =
    let p : Request → Bool = λ r. is_of who.handle who.command r.booking in
    ap (filter p) (numbered-append 0 book (map (λ r. r.booking) rs) ∙ ap (λ (k : ℕ). numbered 0 book ++ numbered k (map (λ r. r.booking) rs)) (let e : 0 + length book ≡ length book = omega arith in e)
    ∙ ap (λ (l : List Request). numbered 0 book ++ l) (numbered-own other turn (length book) rs h))
    ∙ filter-append p (numbered 0 book) rs ∙ ap (λ (l : List Request). filter p (numbered 0 book) ++ l) (none-own who other turn (length book) rs apart h) ∙ append-nil (filter p (numbered 0 book))

-- so too its questions
all-asked : (tells : List DeskCall → DeskCall → Reply) (who : Who) (turn : ℕ) (before : List DeskCall) (qs : List (Asked DeskCall Reply)) → AreToldIn tells who turn before qs → questions_of qs who.handle who.command ≡ qs
all-asked tells who turn before [] h = refl
all-asked tells who turn before (a ∷ qs) (stamp, reply, h) =
    ap (λ (b : Bool). if b then a ∷ questions_of qs who.handle who.command else questions_of qs who.handle who.command) (is-own who turn (record { stamp = a.stamp; parts = [] }) stamp)
    ∙ ap (λ (l : List (Asked DeskCall Reply)). a ∷ l) (all-asked tells who turn (before ++ a.question ∷ []) qs h)

pub own-questions : (tells : List DeskCall → DeskCall → Reply) (who : Who) (turn : ℕ) (before : List DeskCall) (asked qs : List (Asked DeskCall Reply)) → AreToldIn tells who turn before qs →
    questions_of (asked ++ qs) who.handle who.command ≡ questions_of asked who.handle who.command ++ qs
own-questions tells who turn before asked qs h =
    filter-append (λ a. is_of who.handle who.command (record { stamp = a.stamp; parts = [] })) asked qs
    ∙ ap (λ (l : List (Asked DeskCall Reply)). questions_of asked who.handle who.command ++ l) (all-asked tells who turn before qs h)

-- another's are none of its
is-other : (who other : Who) (turn : ℕ) (b : Booking) → ((other.handle == who.handle) && (other.command == who.command)) ≡ false → b.stamp ≡ stamp_of other turn → is_of who.handle who.command b ≡ false
is-other who other turn b apart e = ap (λ (s : Stamp). (s.owner == who.handle) && (s.command == who.command)) e ∙ apart

none-asked : (tells : List DeskCall → DeskCall → Reply) (who other : Who) (turn : ℕ) (before : List DeskCall) (qs : List (Asked DeskCall Reply)) →
    ((other.handle == who.handle) && (other.command == who.command)) ≡ false → AreToldIn tells other turn before qs → questions_of qs who.handle who.command ≡ []
none-asked tells who other turn before [] apart h = refl
none-asked tells who other turn before (a ∷ qs) apart (stamp, reply, h) =
    ap (λ (b : Bool). if b then a ∷ questions_of qs who.handle who.command else questions_of qs who.handle who.command) (is-other who other turn (record { stamp = a.stamp; parts = [] }) apart stamp)
    ∙ none-asked tells who other turn (before ++ a.question ∷ []) qs apart h

pub others-questions : (tells : List DeskCall → DeskCall → Reply) (who other : Who) (turn : ℕ) (before : List DeskCall) (asked qs : List (Asked DeskCall Reply)) →
    ((other.handle == who.handle) && (other.command == who.command)) ≡ false → AreToldIn tells other turn before qs →
    questions_of (asked ++ qs) who.handle who.command ≡ questions_of asked who.handle who.command
others-questions tells who other turn before asked qs apart h =
    filter-append (λ a. is_of who.handle who.command (record { stamp = a.stamp; parts = [] })) asked qs
    ∙ ap (λ (l : List (Asked DeskCall Reply)). questions_of asked who.handle who.command ++ l) (none-asked tells who other turn before qs apart h)
    ∙ append-nil (questions_of asked who.handle who.command)

pub others-requests-apart : (who other : Who) (turn : ℕ) (book : List Booking) (rs : List Request) → ((other.handle == who.handle) && (other.command == who.command)) ≡ false → AreNumbered other turn (length book) rs →
    requests_of (book ++ map (λ r. r.booking) rs) who.handle who.command ≡ requests_of book who.handle who.command
others-requests-apart who other turn book rs apart h = others-requests who other turn book rs (λ b t e. is-other who other t b apart e) h
