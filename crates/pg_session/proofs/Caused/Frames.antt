-- The frames that a session sent.
use Rattle.std.proofs.Common.{◌≡◌, ◌<◌, ◌≤◌, ◌⊎◌, inl, inr, ℕ, suc, ◌+◌, ◌^◌, List, [], ◌∷◌, ◌++◌, length, Bool, true, false, not, cond, ◌||◌, ◌&&◌, ◌==◌, if◌then◌else◌, Some, None, Result, Ok, Err, refl, sym, ap, ◌∙◌, arith, nat_lt, drop, map}
use Rattle.std.specs.Prelude.{filter}
use Rattle.std.specs.List.{list_all, list_any, onto_first}
use Rattle.std.specs.Str.{byte}
use Rattle.std.proofs.lemmas.Bool.{eqb-true}
use Rattle.std.proofs.lemmas.Bool.Decides.{nat_tests}
use Rattle.std.proofs.lemmas.List.{length-map}
use Rattle.std.proofs.lemmas.List.Elements.{filter-append}
use Rattle.std.proofs.lemmas.List.Folds.{list_all-append}
use Rattle.pg_spec.specs.Faults.{FrameFault, ZeroByte, TooMany, TooLong}
use Rattle.pg_spec.specs.Frames.{frame_fault, unless_fault, has_zero, untagged, startup_body}
use Rattle.pg_spec.specs.RawMessages.{RawMessage, messages, bytes_left, cut_after, ends_in}
use Rattle.pg_spec.specs.Sent.{after_startup_frame, messages_if, tagged_frames, is_password, ends_unit, gives_turn, is_terminate}
use Rattle.pg_spec.specs.Settings.{startup_parameters, Settings}
use Rattle.pg_spec.proofs.MessageLaws.{messages-append}
use Rattle.pg_spec.proofs.SentLaws.{after_startup_frame-front}
use Rattle.pg_desk.specs.History.{joined}
use Rattle.pg_startup.specs.Steps.{frame_of}
use Rattle.pg_session.proofs.Crossing.Groups.{both-true}
use Rattle.pg_session.specs.Speeches.{EndsAlone, EndsInSync, IsWholeRequest}

-- ---- frames that were written

-- the frame was written: it is short enough
pub record Written (n : ℕ) (frame x : List ℕ) : Type 0 where
  pub same : x ≡ frame
  pub short : n < 2 ^ 31

-- the frame that was written
abbrev frame-in : Result (List ℕ) FrameFault → List ℕ
frame-in (Ok frame) = frame
frame-in (Err fault) = []

pub written : (texts : List (List ℕ)) (counts : List ℕ) (n : ℕ) (frame x : List ℕ) → unless_fault (frame_fault texts counts n) frame ≡ Ok x → Written n frame x
written texts counts n frame x = by_tests (list_any has_zero texts) (list_any (λ count. nat_lt 65535 count) counts) (nat_lt 2147483647 n) refl
  where
    by_tests : (a b c : Bool) → nat_lt 2147483647 n ≡ c → unless_fault (if a then Some ZeroByte else if b then Some TooMany else if c then Some TooLong else None) frame ≡ Ok x → Written n frame x
    by_tests true b c is e = absurd cc
    by_tests false true c is e = absurd cc
    by_tests false false true is e = absurd cc
    by_tests false false false is e = record { same = sym (ap frame-in e); short = let high : n ≤ 2147483647 = grind (arith, nat_tests) in omega (arith, high) }

-- ---- whole requests

-- each of the parts is one
abbrev pub AreRequests : List (List ℕ) → Type 0
AreRequests [] = Unit {0}
AreRequests (part ∷ parts) = IsWholeRequest part × AreRequests parts

pub front-requests : (xs ys : List (List ℕ)) → AreRequests (xs ++ ys) → AreRequests xs
front-requests [] ys h = tt
front-requests (x ∷ xs) ys h = (h.0, front-requests xs ys h.1)

-- their frames are read off their bytes, request by request
reads-requests : (parts : List (List ℕ)) → AreRequests parts → messages (joined parts) ≡ joined (map messages parts)
reads-requests [] h = refl
reads-requests (part ∷ parts) h =
    messages-append part (joined parts) ∙ ap (λ (x : List ℕ). messages part ++ messages (x ++ joined parts)) h.0.whole
    ∙ ap (λ (ms : List RawMessage). messages part ++ ms) (reads-requests parts h.1)

-- each of these ends alone
abbrev pub AllEndAlone : List (List RawMessage) → Type 0
AllEndAlone [] = Unit {0}
AllEndAlone (g ∷ gs) = EndsAlone g × AllEndAlone gs

pub each-ends : (parts : List (List ℕ)) → AreRequests parts → AllEndAlone (map messages parts)
each-ends [] h = tt
each-ends (part ∷ parts) h = (h.0.frames, each-ends parts h.1)

-- ---- what a request's frames are cut into

-- a frame that isn't a password
abbrev pub is_kept : RawMessage → Bool
is_kept frame = not (is_password frame)

either : (a b : Bool) → (a || b) ≡ true → (a ≡ true) ⊎ (b ≡ true)
either true b e = inl refl
either false b e = inr e

neither : (a b : Bool) → (a || b) ≡ false → (a ≡ false) × (b ≡ false)
neither true b e = absurd cc
neither false b e = (refl, e)

by-tag : (f : ℕ → Bool) (m : RawMessage) → f (byte "Q") ≡ false → f (byte "S") ≡ false → ends_unit m ≡ true → f m.tag ≡ false
by-tag f m q s e = by (either (m.tag == byte "Q") (m.tag == byte "S") e)
  where
    by : ((m.tag == byte "Q") ≡ true) ⊎ ((m.tag == byte "S") ≡ true) → f m.tag ≡ false
    by (inl is) = ap f (eqb-true m.tag (byte "Q") is) ∙ q
    by (inr is) = ap f (eqb-true m.tag (byte "S") is) ∙ s

-- what ends a request is no password and not Terminate
end-kept : (m : RawMessage) → ends_unit m ≡ true → is_password m ≡ false
end-kept m e = by-tag (λ (tag : ℕ). tag == byte "p") m refl refl e

end-stays : (m : RawMessage) → ends_unit m ≡ true → is_terminate m ≡ false
end-stays m e = by-tag (λ (tag : ℕ). tag == byte "X") m refl refl e

-- what gives no turn is no password and ends no request
quiet-kept : (m : RawMessage) → gives_turn m ≡ false → (is_password m ≡ false) × (ends_unit m ≡ false)
quiet-kept m e =
    let a = neither (is_password m || ends_unit m) (m.tag == byte "H") e in
    neither (is_password m) (ends_unit m) a.0

or-true : (b : Bool) → (b || true) ≡ true
or-true true = refl
or-true false = refl

-- frames that end in Sync end alone
pub synced-alone : (g : List RawMessage) → EndsInSync g → EndsAlone g
synced-alone [] e = absurd e
synced-alone (m ∷ []) e = ap (λ (b : Bool). m.tag == byte "Q" || b) e ∙ or-true (m.tag == byte "Q")
synced-alone (m ∷ n ∷ g) e = e

-- a request is one piece
pub unit-cut : (g rest : List RawMessage) → EndsAlone g → cut_after ends_unit (filter is_kept (g ++ rest)) ≡ g ∷ cut_after ends_unit (filter is_kept rest)
unit-cut [] rest e = absurd e
unit-cut (m ∷ []) rest e =
    ap (λ (b : Bool). cut_after ends_unit (cond (not b) (m ∷ filter is_kept rest) (filter is_kept rest))) (end-kept m e)
    ∙ ap (λ (b : Bool). if b then (m ∷ []) ∷ cut_after ends_unit (filter is_kept rest) else onto_first m (cut_after ends_unit (filter is_kept rest))) e
unit-cut (m ∷ n ∷ g) rest e =
    let quiet = quiet-kept m e.0 in
    let others : List RawMessage = filter is_kept ((n ∷ g) ++ rest) in
    ap (λ (b : Bool). cut_after ends_unit (cond (not b) (m ∷ others) others)) quiet.0
    ∙ ap (λ (b : Bool). if b then (m ∷ []) ∷ cut_after ends_unit others else onto_first m (cut_after ends_unit others)) quiet.1
    ∙ ap (onto_first m) (unit-cut (n ∷ g) rest (synced-alone (n ∷ g) e.3))

pub units-cut : (gs : List (List RawMessage)) → AllEndAlone gs → cut_after ends_unit (filter is_kept (joined gs)) ≡ gs
units-cut [] h = refl
units-cut (g ∷ gs) h = unit-cut g (joined gs) h.0 ∙ ap (λ (l : List (List RawMessage)). g ∷ l) (units-cut gs h.1)

pub ends-alone : (g : List RawMessage) → EndsAlone g → ends_in ends_unit g ≡ true
ends-alone [] e = absurd e
ends-alone (m ∷ []) e = e
ends-alone (m ∷ n ∷ g) e = ends-alone (n ∷ g) (synced-alone (n ∷ g) e.3)

-- behind the frames of requests the pieces are as many as these
pub units-of : (parts : List (List ℕ)) → AreRequests parts → cut_after ends_unit (filter is_kept (messages (joined parts))) ≡ map messages parts
units-of parts h =
    ap (λ (ms : List RawMessage). cut_after ends_unit (filter is_kept ms)) (reads-requests parts h)
    ∙ units-cut (map messages parts) (each-ends parts h)

-- ---- a front of them

some-more : {X : Type 0} (x : X) (few many : List (List X)) → length few ≤ length many → length (onto_first x few) ≤ length (onto_first x many)
some-more x [] [] h = omega arith
some-more x [] (g ∷ gs) h = omega arith
some-more x (f ∷ fs) [] h = absurd (omega (arith, h))
some-more x (f ∷ fs) (g ∷ gs) h = omega (arith, h)

-- a front is cut into no more pieces
pub cut-fewer : {X : Type 0} (p : X → Bool) (xs ys : List X) → length (cut_after p xs) ≤ length (cut_after p (xs ++ ys))
cut-fewer p [] ys = omega arith
cut-fewer {X} p (x ∷ xs) ys = by (p x) (cut-fewer p xs ys)
  where
    by : (b : Bool) → length (cut_after p xs) ≤ length (cut_after p (xs ++ ys)) →
        length (if b then (x ∷ []) ∷ cut_after p xs else onto_first x (cut_after p xs)) ≤ length (if b then (x ∷ []) ∷ cut_after p (xs ++ ys) else onto_first x (cut_after p (xs ++ ys)))
    by true h = omega (arith, h)
    by false h = some-more x (cut_after p xs) (cut_after p (xs ++ ys)) h

-- a message that isn't Terminate
abbrev pub goes_on : RawMessage → Bool
goes_on frame = not (is_terminate frame)

alone-goes : (g : List RawMessage) → EndsAlone g → list_all goes_on g ≡ true
alone-goes [] e = absurd e
alone-goes (m ∷ []) e = ap (λ (b : Bool). not b && true) (end-stays m e)
alone-goes (m ∷ n ∷ g) e = ap (λ (b : Bool). not b && list_all goes_on (n ∷ g)) e.1 ∙ alone-goes (n ∷ g) (synced-alone (n ∷ g) e.3)

all-go : (gs : List (List RawMessage)) → AllEndAlone gs → list_all goes_on (joined gs) ≡ true
all-go [] h = refl
all-go (g ∷ gs) h =
    list_all-append goes_on g (joined gs) ∙ ap (λ (b : Bool). b && list_all goes_on (joined gs)) (alone-goes g h.0) ∙ all-go gs h.1

-- what was taken of the parts: pieces no more than these, and the last isn't Terminate
pub record TakesRequests (n : ℕ) (ms : List RawMessage) : Type 0 where
  pub units : length (cut_after ends_unit (filter is_kept ms)) ≤ n
  pub silent : list_all goes_on ms ≡ true

pub front-reads : (parts : List (List ℕ)) (more unsent : List ℕ) → AreRequests parts → more ++ unsent ≡ joined parts → TakesRequests (length parts) (messages more)
front-reads parts more unsent h is =
    let others = messages (bytes_left more ++ unsent) in
    let cut : messages (joined parts) ≡ messages more ++ others = ap messages (sym is) ∙ messages-append more unsent in
    let all : length (cut_after ends_unit (filter is_kept (messages (joined parts)))) ≡ length parts =
    ap (λ (us : List (List RawMessage)). length us) (units-of parts h) ∙ length-map parts messages in
    let apart : cut_after ends_unit (filter is_kept (messages (joined parts))) ≡ cut_after ends_unit (filter is_kept (messages more) ++ filter is_kept others) =
    ap (λ (ms : List RawMessage). cut_after ends_unit (filter is_kept ms)) cut ∙ ap (λ (ms : List RawMessage). cut_after ends_unit ms) (filter-append is_kept (messages more) others) in
    record {
      units = omega (arith, all, ap (λ (us : List (List RawMessage)). length us) apart, cut-fewer ends_unit (filter is_kept (messages more)) (filter is_kept others));
      silent = (both-true (list_all goes_on (messages more)) (list_all goes_on others)
          (sym (list_all-append goes_on (messages more) others) ∙ ap (list_all goes_on) (sym cut) ∙ ap (list_all goes_on) (reads-requests parts h) ∙ all-go (map messages parts) (each-ends parts h))).0;
    }

-- ---- what was said

-- what was sent behind the startup's frame
pub sent-behind : (settings : Settings) (opening more : List ℕ) → frame_of settings ≡ Ok opening → after_startup_frame (opening ++ more) ≡ Some more
sent-behind settings opening more e =
    let pairs = startup_parameters settings in
    let w = written (map (λ pair. pair.0) pairs ++ map (λ pair. pair.1) pairs) [] (4 + length (startup_body pairs)) (untagged (startup_body pairs)) opening e in
    let rest = drop 1 (startup_body pairs) in
    let short : 5 + length rest < 2 ^ 32 = omega (arith, w.short) in
    ap (λ (x : List ℕ). after_startup_frame (x ++ more)) w.same
    ∙ after_startup_frame-front rest more short

-- the frames there
pub frames-behind : (settings : Settings) (opening more : List ℕ) → frame_of settings ≡ Ok opening → tagged_frames (opening ++ more) ≡ messages more
frames-behind settings opening more e = ap messages_if (sent-behind settings opening more e)

not-true : (b : Bool) → not b ≡ true → b ≡ false
not-true true e = absurd cc
not-true false e = refl

pub never-said : (ms : List RawMessage) → list_all goes_on ms ≡ true → ends_in is_terminate ms ≡ false
never-said [] e = refl
never-said (m ∷ []) e = not-true (is_terminate m) (both-true (goes_on m) true e).0
never-said (m ∷ n ∷ ms) e = never-said (n ∷ ms) (both-true (goes_on m) (list_all goes_on (n ∷ ms)) e).1

pub filter-short : {X : Type 0} (p : X → Bool) (xs : List X) → length (filter p xs) ≤ length xs
filter-short p [] = omega arith
filter-short {X} p (x ∷ xs) = by_test (p x) (filter p xs) (filter-short p xs)
  where
    by_test : (b : Bool) (few : List X) → length few ≤ length xs → length (if b then x ∷ few else few) ≤ suc (length xs)
    by_test true few h = omega (arith, h)
    by_test false few h = omega (arith, h)

pub cut-short : {X : Type 0} (p : X → Bool) (xs : List X) → length (cut_after p xs) ≤ length xs
cut-short p [] = omega arith
cut-short {X} p (x ∷ xs) = by_test (p x) (cut_after p xs) (cut-short p xs)
  where
    by_pieces : (pieces : List (List X)) → length pieces ≤ length xs → length (onto_first x pieces) ≤ suc (length xs)
    by_pieces [] h = omega arith
    by_pieces (piece ∷ pieces) h = omega (arith, h)

    by_test : (b : Bool) (few : List (List X)) → length few ≤ length xs → length (if b then (x ∷ []) ∷ few else onto_first x few) ≤ suc (length xs)
    by_test true few h = omega (arith, h)
    by_test false few h = by_pieces few h
