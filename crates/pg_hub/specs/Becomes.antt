-- Lists of events of the hub are joined.
use Rattle.std.proofs.Common.{◌≡◌, List, [], ◌∷◌, ◌++◌, Bool, true, false, ◌||◌, refl, sym, subst, ap, ◌∙◌}
use Rattle.pg_desk.specs.declared.event.Event.{Event}
use Rattle.pg_hub.specs.Standing.{Standing, InFlight, with_book}
use Rattle.pg_hub.specs.Fits.{Fits, HubBecomes, PipelineBecomes, moves_one, moves}
use Rattle.pg_desk.specs.History.{State, after, after_all, IsExact}
pub use Rattle.pg_desk.specs.Kept.{after-joined}

-- exact lists are joined
pub exact-joined : (s : State) (es fs : List Event) → IsExact s es → IsExact (after_all s es) fs → IsExact s (es ++ fs)
exact-joined s [] fs h k = k
exact-joined s (e ∷ es) fs h k = (h.0, h.1, exact-joined (after s e) es fs h.2 k)

-- whether something moved, in joined lists
pub moves-joined : (s : State) (es fs : List Event) (before : Bool) → (moves s (es ++ fs) || before) ≡ (moves (after_all s es) fs || (moves s es || before))
moves-joined s [] fs before = refl
moves-joined s (e ∷ es) fs before = by_first (moves_one s e) (moves (after s e) (es ++ fs)) (moves (after s e) es) (moves (after_all (after s e) es) fs) (moves-joined (after s e) es fs before)
  where
    by_last : (c : Bool) → true ≡ (c || true)
    by_last true = refl
    by_last false = refl

    by_first : (a all some c : Bool) → (all || before) ≡ (c || (some || before)) → ((a || all) || before) ≡ (c || ((a || some) || before))
    by_first true all some c h = by_last c
    by_first false all some c h = h

-- no event leaves the hub as it is
pub stays : (a : Standing) → HubBecomes a [] a
stays a = record { stands = λ s f. (tt, f); touched = λ s f. refl }

-- lists of events are joined
pub joins : (a b c : Standing) (es fs : List Event) → HubBecomes a es b → HubBecomes b fs c → HubBecomes a (es ++ fs) c
joins a b c es fs h k = record {
  stands = λ s f.
      let first = h.stands s f in
      let second = k.stands (after_all s es) first.1 in
      (exact-joined s es fs first.0 second.0, subst (λ (t : State). Fits t c) (sym (after-joined s es fs)) second.1);
  touched = λ s f.
      let first = h.stands s f in
      k.touched (after_all s es) first.1 ∙ ap (λ (b : Bool). moves (after_all s es) fs || b) (h.touched s f) ∙ sym (moves-joined s es fs a.touched);
}

-- the same of a pipeline
pub pipeline-stays : (a : InFlight) → PipelineBecomes a [] a
pipeline-stays a = record { stands = λ s f. (tt, f); touched = λ s f. refl }

pub pipeline-joins : (a b c : InFlight) (es fs : List Event) → PipelineBecomes a es b → PipelineBecomes b fs c → PipelineBecomes a (es ++ fs) c
pipeline-joins a b c es fs h k = record {
  stands = λ s f.
      let first = h.stands s f in
      let second = k.stands (after_all s es) first.1 in
      (exact-joined s es fs first.0 second.0, subst (λ (t : State). Fits t (with_book t.book c)) (sym (after-joined s es fs)) second.1);
  touched = λ s f.
      let first = h.stands s f in
      k.touched (after_all s es) first.1 ∙ ap (λ (b : Bool). moves (after_all s es) fs || b) (h.touched s f) ∙ sym (moves-joined s es fs a.touched);
}

-- a hub stands for the same states whether something moved or not
pub fits-touched : (s : State) (h : Standing) (t : Bool) → Fits s h → Fits s (record h { touched = t })
fits-touched s h t f = record {
  standing = record { mail = f.standing.mail; out = f.standing.out; finished = f.standing.finished };
  book = f.book;
  mail = f.mail;
  parts = f.parts;
  finished = f.finished;
  statements = f.statements;
  portals = f.portals;
  catalog = f.catalog;
  closed = f.closed;
  failed = f.failed;
  none_given = f.none_given;
  none_hung_up = f.none_hung_up;
  none_invented = f.none_invented;
  in_order = f.in_order;
}
