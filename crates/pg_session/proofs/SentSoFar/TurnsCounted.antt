-- The turns that requests give: one for each that is whole.
use Rattle.std.proofs.Common.{◌≡◌, ◌≤◌, ◌+◌, ◌⊎◌, inl, inr, ℕ, List, [], ◌∷◌, ◌++◌, length, Bool, true, false, not, cond, if◌then◌else◌, ◌&&◌, ◌||◌, ◌==◌, refl, sym, ap, ◌∙◌, append_assoc, append-nil, arith}
use Rattle.std.specs.Prelude.{count_by, filter}
use Rattle.std.specs.List.{concat, list_all, onto_first, AllByRecursion}
use Rattle.std.specs.Str.{byte}
use Rattle.std.proofs.lemmas.Bool.{eqb-true, true≢false}
use Rattle.std.proofs.lemmas.List.Folds.{list_all-append}
use Rattle.std.proofs.lemmas.List.Sums.{sum_by-cons}
use Rattle.pg_spec.specs.Book.{Booking, wire}
use Rattle.pg_spec.specs.Frames.{terminate_frame}
use Rattle.pg_spec.specs.RawMessages.{RawMessage, messages, bytes_left, cut_after}
use Rattle.pg_spec.specs.Sent.{is_password, ends_unit, gives_turn}
use Rattle.pg_spec.proofs.MessageLaws.{messages-append}
use Rattle.pg_promises.specs.Sent.{goodbye, is_ended}
use Rattle.pg_session.specs.Speeches.{EndsAlone}
use Rattle.pg_session.proofs.Caused.Frames.{synced-alone}
use Rattle.pg_session.proofs.Crossing.Groups.{both-true}
use Rattle.pg_session.proofs.SentSoFar.Whole.{IsOneRequest}

-- it ends a unit, or gives no turn
abbrev pub is_fair : RawMessage → Bool
is_fair m = ends_unit m || not (gives_turn m)

-- ---- the messages of a book

fair-end : (m : RawMessage) → ends_unit m ≡ true → is_fair m ≡ true
fair-end m e = ap (λ (b : Bool). b || not (gives_turn m)) e

fair-quiet : (m : RawMessage) → gives_turn m ≡ false → is_fair m ≡ true
fair-quiet m e = ap (λ (b : Bool). ends_unit m || not b) e ∙ always (ends_unit m)
  where
    always : (b : Bool) → (b || true) ≡ true
    always true = refl
    always false = refl

and-so : (a b : Bool) → a ≡ true → b ≡ true → (a && b) ≡ true
and-so a b e f = ap (λ (x : Bool). x && b) e ∙ f

fair-request : (ms : List RawMessage) → EndsAlone ms → list_all is_fair ms ≡ true
fair-request [] e = absurd e
fair-request (m ∷ []) e = and-so (is_fair m) true (fair-end m e) refl
fair-request (m ∷ n ∷ ms) e = and-so (is_fair m) (list_all is_fair (n ∷ ms)) (fair-quiet m e.0) (fair-request (n ∷ ms) (synced-alone (n ∷ ms) e.3))

fair-goodbye : (said : Bool) → list_all is_fair (messages (if said then terminate_frame else [])) ≡ true
fair-goodbye true = refl
fair-goodbye false = refl

-- all that is sent for a book, and what is said behind it
fair-book : (book : List Booking) (behind : List ℕ) → AllByRecursion (λ b. IsOneRequest b.parts) book → list_all is_fair (messages behind) ≡ true → list_all is_fair (messages (wire book ++ behind)) ≡ true
fair-book [] behind h e = e
fair-book (b ∷ book) behind (one, h) e =
    let others = wire book ++ behind in
    let bytes : concat b.parts ≡ one.part = ap concat one.alone ∙ append-nil one.part in
    let read : messages (wire (b ∷ book) ++ behind) ≡ messages one.part ++ messages others =
    ap (λ (x : List ℕ). messages ((x ++ wire book) ++ behind)) bytes ∙ ap messages (append_assoc one.part (wire book) behind)
    ∙ messages-append one.part others ∙ ap (λ (x : List ℕ). messages one.part ++ messages (x ++ others)) one.is.whole in
    ap (list_all is_fair) read ∙ list_all-append is_fair (messages one.part) (messages others)
    ∙ and-so (list_all is_fair (messages one.part)) (list_all is_fair (messages others)) (fair-request (messages one.part) one.is.frames) (fair-book book behind h e)

-- what was taken of them
pub front-fair : (book : List Booking) (more unsent : List ℕ) → AllByRecursion (λ b. IsOneRequest b.parts) book → more ++ unsent ≡ wire book ++ goodbye book → list_all is_fair (messages more) ≡ true
front-fair book more unsent h is =
    let others = messages (bytes_left more ++ unsent) in
    let cut : messages (wire book ++ goodbye book) ≡ messages more ++ others = ap messages (sym is) ∙ messages-append more unsent in
    (both-true (list_all is_fair (messages more)) (list_all is_fair others)
    (sym (list_all-append is_fair (messages more) others) ∙ ap (list_all is_fair) (sym cut) ∙ fair-book book (goodbye book) h (fair-goodbye (list_all is_ended book)))).0

-- ---- each turn ends a unit

-- the units of some messages
abbrev units_of : List RawMessage → List (List RawMessage)
units_of ms = cut_after ends_unit (filter (λ frame. not (is_password frame)) ms)

onto-longer : (m : RawMessage) (pieces : List (List RawMessage)) → length pieces ≤ length (onto_first m pieces)
onto-longer m [] = omega arith
onto-longer m (piece ∷ pieces) = omega arith

-- what ends a unit is no password
end-kept : (m : RawMessage) → ends_unit m ≡ true → is_password m ≡ false
end-kept m e = by (either (m.tag == byte "Q") (m.tag == byte "S") e)
  where
    either : (a b : Bool) → (a || b) ≡ true → (a ≡ true) ⊎ (b ≡ true)
    either true b e = inl refl
    either false b e = inr e

    by : ((m.tag == byte "Q") ≡ true) ⊎ ((m.tag == byte "S") ≡ true) → is_password m ≡ false
    by (inl is) = ap (λ (tag : ℕ). tag == byte "p") (eqb-true m.tag (byte "Q") is)
    by (inr is) = ap (λ (tag : ℕ). tag == byte "p") (eqb-true m.tag (byte "S") is)

pub turns-in-units : (ms : List RawMessage) → list_all is_fair ms ≡ true → count_by gives_turn ms ≤ length (units_of ms)
turns-in-units [] e = omega arith
turns-in-units (m ∷ ms) e =
    let b = both-true (is_fair m) (list_all is_fair ms) e in
    by (ends_unit m) (is_password m) (gives_turn m) refl refl refl b.0 (turns-in-units ms b.1)
  where
    rest : List RawMessage
    rest = filter (λ frame. not (is_password frame)) ms

    counts : (t : Bool) → gives_turn m ≡ t → count_by gives_turn (m ∷ ms) ≡ cond t 1 0 + count_by gives_turn ms
    counts t is = sum_by-cons (λ (x : RawMessage). cond (gives_turn x) 1 0) m ms ∙ ap (λ (t : Bool). cond t 1 0 + count_by gives_turn ms) is

    pieces : (ends pass : Bool) → ends_unit m ≡ ends → is_password m ≡ pass →
        units_of (m ∷ ms) ≡ cond (not pass) (if ends then (m ∷ []) ∷ cut_after ends_unit rest else onto_first m (cut_after ends_unit rest)) (cut_after ends_unit rest)
    pieces ends true is none = ap (λ (b : Bool). cut_after ends_unit (cond (not b) (m ∷ rest) rest)) none
    pieces ends false is none =
        ap (λ (b : Bool). cut_after ends_unit (cond (not b) (m ∷ rest) rest)) none
        ∙ ap (λ (b : Bool). if b then (m ∷ []) ∷ cut_after ends_unit rest else onto_first m (cut_after ends_unit rest)) is

    by : (ends pass turn : Bool) → ends_unit m ≡ ends → is_password m ≡ pass → gives_turn m ≡ turn → is_fair m ≡ true → count_by gives_turn ms ≤ length (units_of ms) →
        count_by gives_turn (m ∷ ms) ≤ length (units_of (m ∷ ms))
    by true true turn is none t fair few = absurd (true≢false (sym none ∙ end-kept m is))
    by true false true is none t fair few = omega (arith, few, counts true t, ap length (pieces true false is none))
    by true false false is none t fair few = omega (arith, few, counts false t, ap length (pieces true false is none))
    by false pass true is none t fair few =
        absurd (true≢false (sym fair ∙ ap (λ (b : Bool). b || not (gives_turn m)) is ∙ ap not t))
    by false true false is none t fair few = omega (arith, few, counts false t, ap length (pieces false true is none))
    by false false false is none t fair few = omega (arith, few, counts false t, ap length (pieces false false is none), onto-longer m (cut_after ends_unit rest))
