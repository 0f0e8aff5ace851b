-- A message that came where no request was open stands in front of its group.
use Rattle.std.proofs.Common.{◌≡◌, ◌<◌, ◌≤◌, ℕ, List, [], ◌∷◌, ◌++◌, Bool, true, false, ◌&&◌, not, if◌then◌else◌, Some, refl, sym, ap, subst, ◌∙◌, arith, append_assoc}
use Rattle.std.specs.Prelude.{slice_get}
use Rattle.std.specs.List.{list_all, onto_first}
use Rattle.std.proofs.lemmas.List.Elements.{filter-append}
use Rattle.pg_spec.specs.RawMessages.{RawMessage, is_aside, is_ready, sync_of, cut_after, groups, is_whole_group}
use Rattle.pg_desk.specs.declared.event.Deliver.TheVariants as delivering
use Rattle.pg_desk.specs.declared.event.Event.{Event}
use Rattle.pg_desk.specs.declared.event.Event.TheVariants.{Deliver as DeliverEvent}
use Rattle.pg_desk.specs.History.{State, start, started_of, after, after_all, finished, has_open, IsLegal}
use Rattle.pg_connect.specs.Ends.{last_is}
use Rattle.pg_connect.specs.Passed.{delivered_by}
use Rattle.pg_connect.specs.Reads.{has_no_request}
use Rattle.pg_session.proofs.Crossing.Groups.{both-true, AreWhole, all-whole}
use Rattle.pg_session.proofs.Crossing.Hub.{Ran, ran-all, ran-start, received-all, ends_whole}
use Rattle.pg_session.proofs.Order.Traces.{stands_next}

-- ---- no request is open

refused-one : (s : State) (e : Event) → has_no_request e ≡ true → IsLegal s (e ∷ []) → has_open (after s e) ≡ false
refused-one s (DeliverEvent batch complete (delivering.NoRequest back)) is l = let no_open : has_open s ≡ false = l.0.1 in no_open
refused-one s _ is l = absurd cc

-- the hub's last answer was that no request is open
pub none-open : (s : State) (es : List Event) → last_is has_no_request es ≡ true → IsLegal s es → has_open (after_all s es) ≡ false
none-open s [] is l = absurd cc
none-open s (e ∷ []) is l = refused-one s e is l
none-open s (e ∷ f ∷ es) is l = none-open (after s e) (f ∷ es) is l.1

is-true : (b : Bool) → (b ≡ false → ⊥) → b ≡ true
is-true true f = refl
is-true false f = absurd (f refl)

-- then each group that was delivered is whole
pub delivered-whole : (es : List Event) → IsLegal (start 0 0) es → started_of (after_all (start 0 0) es) ≤ finished (after_all (start 0 0) es).deliveries →
    AreWhole (finished (after_all (start 0 0) es).deliveries) (cut_after is_ready (delivered_by es))
delivered-whole es legal answered =
    let st = after_all (start 0 0) es in
    let ran : Ran st = ran-all (start 0 0) es (ran-start 0 0) legal in
    let ends : ends_whole st.deliveries ≡ true = is-true (ends_whole st.deliveries) (λ e. let open_ : finished st.deliveries < started_of st = ran.tail e in omega (arith, open_, answered)) in
    subst (λ (x : List RawMessage). AreWhole (finished st.deliveries) (cut_after is_ready x)) (received-all (start 0 0) es) (all-whole st.deliveries ran.cut ends)

-- ---- behind whole groups

shorter-whole : (x : RawMessage) (piece : List RawMessage) → is_ready x ≡ false → is_whole_group (x ∷ piece) ≡ true → is_whole_group piece ≡ true
shorter-whole x [] not_ready whole = absurd (let no : false ≡ true = sym not_ready ∙ whole in cc)
shorter-whole x (y ∷ piece) not_ready whole = whole

onto-append : (x : RawMessage) (pieces more all : List (List RawMessage)) → is_ready x ≡ false → list_all is_whole_group (onto_first x pieces) ≡ true →
    (list_all is_whole_group pieces ≡ true → all ≡ pieces ++ more) → onto_first x all ≡ onto_first x pieces ++ more
onto-append x [] more all not_ready whole h = absurd (let no : false ≡ true = sym not_ready ∙ (both-true (is_ready x) true whole).0 in cc)
onto-append x (p ∷ ps) more all not_ready whole h =
    let w = both-true (is_whole_group (x ∷ p)) (list_all is_whole_group ps) whole in
    let rest : list_all is_whole_group (p ∷ ps) ≡ true = ap (λ (b : Bool). b && list_all is_whole_group ps) (shorter-whole x p not_ready w.0) ∙ w.1 in
    ap (onto_first x) (h rest)

-- a list cut behind each ReadyForQuery, whose pieces are whole: what follows is cut by itself
pub cut-behind : (xs ys : List RawMessage) → list_all is_whole_group (cut_after is_ready xs) ≡ true → cut_after is_ready (xs ++ ys) ≡ cut_after is_ready xs ++ cut_after is_ready ys
cut-behind [] ys whole = refl
cut-behind (x ∷ xs) ys whole = by_test (is_ready x) refl whole (λ w. cut-behind xs ys w)
  where
    by_test : (b : Bool) → is_ready x ≡ b → list_all is_whole_group (if b then (x ∷ []) ∷ cut_after is_ready xs else onto_first x (cut_after is_ready xs)) ≡ true →
        (list_all is_whole_group (cut_after is_ready xs) ≡ true → cut_after is_ready (xs ++ ys) ≡ cut_after is_ready xs ++ cut_after is_ready ys) →
        (if b then (x ∷ []) ∷ cut_after is_ready (xs ++ ys) else onto_first x (cut_after is_ready (xs ++ ys)))
        ≡ (if b then (x ∷ []) ∷ cut_after is_ready xs else onto_first x (cut_after is_ready xs)) ++ cut_after is_ready ys
    by_test true is w h = ap (λ (l : List (List RawMessage)). (x ∷ []) ∷ l) (h (both-true (is_whole_group (x ∷ [])) (list_all is_whole_group (cut_after is_ready xs)) w).1)
    by_test false is w h = onto-append x (cut_after is_ready xs) (cut_after is_ready ys) (cut_after is_ready (xs ++ ys)) is w h

-- the first piece begins with the first message
pub record Begins (first : RawMessage) (pieces : List (List RawMessage)) : Type 0 where
  pub group : List RawMessage
  pub others : List (List RawMessage)
  pub is : pieces ≡ (first ∷ group) ∷ others

begins : (first : RawMessage) (rest : List RawMessage) → Begins first (cut_after is_ready (first ∷ rest))
begins first rest = by_test (is_ready first) (cut_after is_ready rest)
  where
    by_test : (b : Bool) (pieces : List (List RawMessage)) → Begins first (if b then (first ∷ []) ∷ pieces else onto_first first pieces)
    by_test true pieces = record { group = []; others = pieces; is = refl }
    by_test false [] = record { group = []; others = []; is = refl }
    by_test false (piece ∷ pieces) = record { group = piece; others = pieces; is = refl }

-- this message stands in front of group n
pub record InFront (n : ℕ) (first : RawMessage) (later : List RawMessage) : Type 0 where
  pub group : List RawMessage
  pub stands : slice_get (groups later) n ≡ Some (first ∷ group)

-- the message behind n whole groups does
pub in-front : (n : ℕ) (delivered batch read more : List RawMessage) (first : RawMessage) → AreWhole n (cut_after is_ready delivered) → sync_of read ≡ delivered ++ first ∷ batch →
    InFront n first (read ++ more)
in-front n delivered batch read more first whole is =
    let begin = begins first (batch ++ sync_of more) in
    let front = cut_after is_ready delivered in
    let sync : sync_of (read ++ more) ≡ delivered ++ first ∷ (batch ++ sync_of more) =
    filter-append (λ m. not (is_aside m)) read more ∙ ap (λ (x : List RawMessage). x ++ sync_of more) is ∙ append_assoc delivered (first ∷ batch) (sync_of more) in
    let cut : groups (read ++ more) ≡ front ++ (first ∷ begin.group) ∷ begin.others =
    ap (cut_after is_ready) sync ∙ cut-behind delivered (first ∷ (batch ++ sync_of more)) whole.whole ∙ ap (λ (x : List (List RawMessage)). front ++ x) begin.is in
    record {
      group = begin.group;
      stands = ap (λ (x : List (List RawMessage)). slice_get x n) cut
          ∙ ap (slice_get (front ++ (first ∷ begin.group) ∷ begin.others)) (sym whole.count)
          ∙ stands_next front (first ∷ begin.group) begin.others;
    }
