-- What simple queries ask and send, counted by messages and by scripts.
use Rattle.std.proofs.Common.{◌≡◌, ◌≤◌, ◌<◌, ◌+◌, ℕ, suc, List, [], ◌∷◌, ◌++◌, length, map, Bool, true, false, cond, ◌||◌, ◌&&◌, ◌==◌, Some, None, Result, Ok, Err, refl, sym, ap, subst, ◌∙◌, append_assoc, append-nil, arith, get_or, slice_get}
use Rattle.std.specs.Prelude.{count_by, filter, filter_map, sum_by, nat_le}
use Rattle.std.specs.List.{concat, cons_option, list_all, AllByRecursion}
use Rattle.std.specs.Str.{byte}
use Rattle.std.proofs.lemmas.Bool.{eq-eqb, true≢false}
use Rattle.std.proofs.lemmas.Bool.Decides.{nat_tests}
use Rattle.std.proofs.lemmas.List.{length-append, length-map}
use Rattle.std.proofs.lemmas.Option.{slice_get-get_or}
use Rattle.std.proofs.lemmas.List.Folds.{list_all-append}
use Rattle.std.proofs.lemmas.List.Sums.{length-filter, sum_by-append, sum_by-cons}
use Rattle.pg_spec.specs.Book.{Booking, wire}
use Rattle.pg_spec.specs.Faults.{FrameFault}
use Rattle.pg_spec.specs.Frames.{query_frame, terminate_frame}
use Rattle.pg_promises.specs.Promises.{InScriptOrder, request_frame, requests_in}
use Rattle.pg_spec.specs.RawMessages.{RawMessage, message_bytes, messages, bytes_left}
use Rattle.pg_spec.specs.Report.{Command, Simple}
use Rattle.pg_spec.specs.Sent.{is_terminate, gives_turn}
use Rattle.pg_spec.proofs.MessageLaws.{messages-front, messages-append}
use Rattle.pg_table.proofs.Queries.{IsQuery, a-query}

-- both are
pub both-true : (a b : Bool) → a && b ≡ true → (a ≡ true) × (b ≡ true)
both-true true true e = (refl, refl)
both-true true false e = absurd cc
both-true false b e = absurd cc

-- what some commands ask
abbrev asked_by : List Command → List (List (List ℕ))
asked_by script = map (λ frame. frame ∷ []) (filter_map request_frame script)

-- what holds of all holds of those in front
front-all : {X : Type 0} (P : X → Type 0) (xs ys : List X) → AllByRecursion P (xs ++ ys) → AllByRecursion P xs
front-all P [] ys h = tt
front-all P (x ∷ xs) ys h = (h.0, front-all P xs ys h.1)

-- ---- each request is a Query

-- the parts of a request are one Query
pub record IsOneQuery (parts : List (List ℕ)) : Type 0 where
  pub frame : List ℕ
  pub alone : parts ≡ frame ∷ []
  pub is : IsQuery frame

asked-queries : (script : List Command) → AllByRecursion IsOneQuery (asked_by script)
asked-queries [] = tt
asked-queries (Simple text wanted ∷ script) = by (query_frame text) refl (asked-queries script)
  where
    asks : Result (List ℕ) FrameFault → List (List (List ℕ))
    asks r = map (λ (frame : List ℕ). frame ∷ []) (cons_option (elim r [ Ok frame ↦ Some frame | Err fault ↦ None ]) (filter_map request_frame script))

    by : (r : Result (List ℕ) FrameFault) → query_frame text ≡ r → AllByRecursion IsOneQuery (asked_by script) → AllByRecursion IsOneQuery (asks (query_frame text))
    by (Ok frame) is rest = subst (λ (r : Result (List ℕ) FrameFault). AllByRecursion IsOneQuery (asks r)) (sym is)
        (record { frame = frame; alone = refl; is = a-query text frame is }, rest)
    by (Err fault) is rest = subst (λ (r : Result (List ℕ) FrameFault). AllByRecursion IsOneQuery (asks r)) (sym is) rest

-- those that pass the test
passing : (test : Booking → Bool) (book : List Booking) → AllByRecursion IsOneQuery (map (λ b. b.parts) (filter test book)) →
    AllByRecursion (λ b. test b ≡ true → IsOneQuery b.parts) book
passing test [] h = tt
passing test (b ∷ book) h = by (test b) refl (passing test book) h
  where
    by : (t : Bool) → test b ≡ t → (AllByRecursion IsOneQuery (map (λ b. b.parts) (filter test book)) → AllByRecursion (λ b. test b ≡ true → IsOneQuery b.parts) book) →
        AllByRecursion IsOneQuery (map (λ b. b.parts) (cond t (b ∷ filter test book) (filter test book))) →
        AllByRecursion (λ b. test b ≡ true → IsOneQuery b.parts) (b ∷ book)
    by true is rest h = (λ passes. h.0, rest h.1)
    by false is rest h = (λ passes. absurd (true≢false (sym passes ∙ is)), rest h)

-- each is its owner's
by-owner : (book : List Booking) (n : ℕ) → AllByRecursion (λ b. b.stamp.owner < n) book →
    ((handle : ℕ) → handle < n → AllByRecursion (λ b. (b.stamp.owner == handle) ≡ true → IsOneQuery b.parts) book) → AllByRecursion (λ b. IsOneQuery b.parts) book
by-owner [] n owners each = tt
by-owner (b ∷ book) n owners each = (
  (each b.stamp.owner owners.0).0 (eq-eqb b.stamp.owner b.stamp.owner refl),
  by-owner book n owners.1 (λ handle low. (each handle low).1),
)

pub booked-queries : (scripts : List (List Command)) (book : List Booking) → AllByRecursion (λ b. b.stamp.owner < length scripts) book → InScriptOrder scripts book →
    AllByRecursion (λ b. IsOneQuery b.parts) book
booked-queries scripts book owners order = by-owner book (length scripts) owners (λ handle low.
    let script = get_or scripts handle [] in
    let own = order handle script (slice_get-get_or scripts handle [] low) in
    passing (λ b. b.stamp.owner == handle) book
    (front-all IsOneQuery (map (λ b. b.parts) (filter (λ b. b.stamp.owner == handle) book)) own.0
    (subst (λ (l : List (List (List ℕ))). AllByRecursion IsOneQuery l) (sym own.1) (asked-queries script))))

-- ---- no more of them than the scripts ask

-- those from a handle on are its own and those from the next on
from-next : (k : ℕ) (book : List Booking) →
    count_by (λ b. nat_le k b.stamp.owner) book ≡ count_by (λ b. b.stamp.owner == k) book + count_by (λ b. nat_le (suc k) b.stamp.owner) book
from-next k [] = refl
from-next k (b ∷ book) =
    let rest = from-next k book in
    let one : cond (nat_le k b.stamp.owner) 1 0 ≡ cond (b.stamp.owner == k) 1 0 + cond (nat_le (suc k) b.stamp.owner) 1 0 = grind (arith, nat_tests) in
    omega (
      arith,
      one,
      rest,
      sum_by-cons (λ (x : Booking). cond (nat_le k x.stamp.owner) 1 0) b book,
      sum_by-cons (λ (x : Booking). cond (x.stamp.owner == k) 1 0) b book,
      sum_by-cons (λ (x : Booking). cond (nat_le (suc k) x.stamp.owner) 1 0) b book,
    )

-- none is of a handle that isn't there
none-from : (k : ℕ) (book : List Booking) → AllByRecursion (λ b. b.stamp.owner < k) book → count_by (λ b. nat_le k b.stamp.owner) book ≡ 0
none-from k [] owners = refl
none-from k (b ∷ book) owners =
    let rest = none-from k book owners.1 in
    let low : b.stamp.owner < k = owners.0 in
    let one : ◌≡◌ {A = ℕ} (cond (nat_le k b.stamp.owner) 1 0) 0 = grind (arith, nat_tests) in
    omega (arith, one, rest, sum_by-cons (λ (x : Booking). cond (nat_le k x.stamp.owner) 1 0) b book)

-- and all are of the first or a later one
all-from : (book : List Booking) → count_by (λ b. nat_le 0 b.stamp.owner) book ≡ length book
all-from [] = refl
all-from (b ∷ book) =
    let rest = all-from book in
    let one : ◌≡◌ {A = ℕ} (cond (nat_le 0 b.stamp.owner) 1 0) 1 = grind (arith, nat_tests) in
    omega (arith, one, rest, sum_by-cons (λ (x : Booking). cond (nat_le 0 x.stamp.owner) 1 0) b book)

-- where each script's are few, all are
few-from : (many : List Command → ℕ) (scripts : List (List Command)) (k : ℕ) (book : List Booking) → AllByRecursion (λ b. b.stamp.owner < k + length scripts) book →
    ((i : ℕ) (script : List Command) → slice_get scripts i ≡ Some script → count_by (λ b. b.stamp.owner == k + i) book ≤ many script) →
    count_by (λ b. nat_le k b.stamp.owner) book ≤ sum_by many scripts
few-from many [] k book owners few =
    let none = none-from k book (subst (λ (n : ℕ). AllByRecursion (λ (b : Booking). b.stamp.owner < n) book) (omega arith) owners) in omega (arith, none)
few-from many (script ∷ scripts) k book owners few =
    let next : k + suc (length scripts) ≡ suc k + length scripts = omega arith in
    let rest = few-from many scripts (suc k) book (subst (λ (n : ℕ). AllByRecursion (λ (b : Booking). b.stamp.owner < n) book) next owners)
    (λ i s at. subst (λ (n : ℕ). count_by (λ (b : Booking). b.stamp.owner == n) book ≤ many s) (omega arith) (few (suc i) s at)) in
    let same : k + 0 ≡ k = omega arith in
    let own : count_by (λ (b : Booking). b.stamp.owner == k) book ≤ many script =
    subst (λ (n : ℕ). count_by (λ (b : Booking). b.stamp.owner == n) book ≤ many script) same (few 0 script refl) in
    omega (arith, rest, own, from-next k book, sum_by-cons many script scripts)

-- a handle's are no more than its script asks
own-few : (script : List Command) (test : Booking → Bool) (book : List Booking) (later : List (List (List ℕ))) →
    map (λ b. b.parts) (filter test book) ++ later ≡ asked_by script → count_by test book ≤ length (filter_map request_frame script)
own-few script test book later is = omega (
  arith,
  ap length is,
  length-append (map (λ (b : Booking). b.parts) (filter test book)) later,
  length-map (filter test book) (λ (b : Booking). b.parts),
  length-map (filter_map request_frame script) (λ (frame : List ℕ). frame ∷ []),
  length-filter test book,
)

pub few-booked : (scripts : List (List Command)) (book : List Booking) → AllByRecursion (λ b. b.stamp.owner < length scripts) book → InScriptOrder scripts book →
    length book ≤ requests_in scripts
few-booked scripts book owners order =
    let start : length scripts ≡ 0 + length scripts = omega arith in
    let few = few-from (λ script. length (filter_map request_frame script)) scripts 0 book
    (subst (λ (n : ℕ). AllByRecursion (λ (b : Booking). b.stamp.owner < n) book) start owners)
    (λ i script at. subst (λ (n : ℕ). count_by (λ (b : Booking). b.stamp.owner == n) book ≤ length (filter_map request_frame script)) (omega arith)
    (own-few script (λ b. b.stamp.owner == i) book (order i script at).0 (order i script at).1)) in
    omega (arith, few, all-from book)

-- ---- the messages of a book

-- a Query, or Terminate
abbrev pub is_said : RawMessage → Bool
is_said m = m.tag == byte "Q" || is_terminate m

-- each gives a turn, and Terminate behind them none
record ReadsBook (n : ℕ) (ms : List RawMessage) : Type 0 where
  pub turns : count_by gives_turn ms ≡ n
  pub all : list_all is_said ms ≡ true

reads-book : (book : List Booking) → AllByRecursion (λ b. IsOneQuery b.parts) book → ReadsBook (length book) (messages (wire book ++ terminate_frame))
reads-book [] h = record { turns = refl; all = refl }
reads-book (b ∷ book) h =
    let m : RawMessage = record { tag = byte "Q"; body = h.0.is.body } in
    let others = messages (wire book ++ terminate_frame) in
    let one : concat b.parts ≡ message_bytes m = ap concat h.0.alone ∙ append-nil h.0.frame ∙ h.0.is.is in
    let front : messages (wire (b ∷ book) ++ terminate_frame) ≡ m ∷ others =
    ap (λ (x : List ℕ). messages ((x ++ wire book) ++ terminate_frame)) one
    ∙ ap messages (append_assoc (message_bytes m) (wire book) terminate_frame) ∙ messages-front m (wire book ++ terminate_frame) h.0.is.fits in
    let rest = reads-book book h.1 in
    record {
      turns = ap (count_by gives_turn) front ∙ sum_by-cons (λ (x : RawMessage). cond (gives_turn x) 1 0) m others ∙ (let e = rest.turns in omega (arith, e));
      all = ap (list_all is_said) front ∙ rest.all;
    }

-- what was taken of them
pub record SaysFew (n : ℕ) (ms : List RawMessage) : Type 0 where
  pub turns : count_by gives_turn ms ≤ n
  pub all : list_all is_said ms ≡ true

pub front-few : (book : List Booking) (more unsent : List ℕ) → AllByRecursion (λ b. IsOneQuery b.parts) book → more ++ unsent ≡ wire book ++ terminate_frame →
    SaysFew (length book) (messages more)
front-few book more unsent h is =
    let others = messages (bytes_left more ++ unsent) in
    let all = reads-book book h in
    let cut : messages (wire book ++ terminate_frame) ≡ messages more ++ others = ap messages (sym is) ∙ messages-append more unsent in
    record {
      turns = let a : count_by gives_turn (messages more ++ others) ≡ length book = ap (count_by gives_turn) (sym cut) ∙ all.turns in
          omega (arith, a, sum_by-append (λ (x : RawMessage). cond (gives_turn x) 1 0) (messages more) others);
      all = (both-true (list_all is_said (messages more)) (list_all is_said others)
          (sym (list_all-append is_said (messages more) others) ∙ ap (list_all is_said) (sym cut) ∙ all.all)).0;
    }
