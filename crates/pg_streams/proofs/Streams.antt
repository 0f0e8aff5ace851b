-- Rows of columns whose types are known, and the request of them.
use Rattle.std.proofs.Common.{◌≡◌, ℕ, suc, List, [], ◌∷◌, length, ◌==◌, Bool, true, false, if◌then◌else◌, None, Result, Ok, Err, refl, sym, ◌∙◌, ap, subst, inl, inr, arith}
use Rattle.std.proofs.lemmas.Bool.Decides.{nat_tests}
use Rattle.pg_spec.specs.Bodies.{Field}
use Rattle.pg_spec.specs.Faults.{Parameters}
use Rattle.pg_spec.specs.declared.stamps.Stamp.{Stamp}
use Rattle.pg_desk.specs.declared.event.DeskFault.{DeskFault}
use Rattle.pg_desk.specs.declared.event.Event.{Event}
use Rattle.pg_desk.specs.declared.event.Event.TheVariants as call
use Rattle.pg_types.specs.declared.pg_type.PgType.{PgType}
use Rattle.pg_execute.specs.Parameters.{Params}
use Rattle.pg_types.specs.declared.error.Error.{Error}
use Rattle.pg_query.specs.Dialogue.{Dialogue, Answer, Walks}
use Rattle.pg_query.specs.Faults.{of_fault}
use Rattle.pg_query.specs.Meaning.{GoesToAnswer, Place}
use Rattle.pg_query.specs.Reading.{reads}
use Rattle.pg_query.specs.Scripts.{cleanup_of}
use Rattle.pg_core.specs.Sequences.{then_do}
use Rattle.pg_core.specs.Composing.{asks_for}
use Rattle.pg_core.specs.Lookups.{find_all}
use Rattle.pg_core.specs.Prepares.{columns_of}
use Rattle.pg_execute.specs.Rows.{rows_read}
use Rattle.pg_execute.specs.Typed.{columns_came, head, typed_request, unnamed}
use Rattle.pg_execute.specs.declared.how_many.HowMany.TheVariants.{Any}
use Rattle.pg_streams.specs.RowStreams.{RowsGiven, rows_from, rows_given}
use Rattle.pg_states.specs.Paired.{paired}
use Rattle.pg_streams.specs.TypedRawStates.{Books, IsRequest, asks_typed, behind_columns, paired_request, rows_of}
use Rattle.pg_streams.specs.TypedRaw.{Asked}
use Rattle.pg_streams.specs.declared.heads.Heads.{Heads}
use Rattle.pg_streams.proofs.Fresh.{finds-fresh, fresh-clean}

-- ---- columns of types

pub columns-long : (fields : List Field) (types : List PgType) → length types ≡ length fields → length (columns_of fields types) ≡ length fields
columns-long [] types e = refl
columns-long (f ∷ fs) [] e = absurd (omega (arith, e))
columns-long (f ∷ fs) (ty ∷ types) e =
    let fewer : length types ≡ length fs = omega (arith, e) in
    ap (λ (n : ℕ). suc n) (columns-long fs types fewer)

-- rows of a statement of these columns are those of the columns
pub rows-same : (fields : List Field) (types : List PgType) → length types ≡ length fields → rows_from (unnamed fields types) true None ≡ rows_of fields types
rows-same fields types e = ap (λ (n : ℕ). rows_read Any n (rows_given (unnamed fields types)) columns_came) (columns-long fields types e)

-- ---- the request

asks-paired : {T : Type 0} (text : List ℕ) (count : ℕ) (types : List PgType) (vs : Params) (d : Dialogue T) → paired count vs (asks_for (typed_request text types vs) d) ≡ asks_for (paired_request text count types vs) d
asks-paired text count types vs d = by (vs.count == count)
  where
    refused : Result (List ℕ) Error
    refused = Err (Parameters vs.count count)

    by : (b : Bool) → (if b then asks_for (typed_request text types vs) d else Answer (Err (Parameters vs.count count))) ≡ asks_for (if b then typed_request text types vs else refused) d
    by true = refl
    by false = refl

-- what is read of its reply
abbrev replied : (rows : Bool) → Dialogue (Asked rows)
replied rows = then_do (reads false head) (behind_columns rows)

pub asks-so : (rows : Bool) (text : List ℕ) (count : ℕ) (types : List PgType) (vs : Params) → asks_typed rows text count types vs ≡ asks_for (paired_request text count types vs) (replied rows)
asks-so rows text count types vs = asks-paired text count types vs (replied rows)

-- nothing is left to do before it
pub asks-clean : (text : List ℕ) (count : ℕ) (types : List PgType) (vs : Params) → cleanup_of (asks_typed true text count types vs) ≡ []
asks-clean text count types vs = ap (λ (d : Dialogue RowsGiven). cleanup_of d) (asks-so true text count types vs) ∙ clean (paired_request text count types vs)
  where
    clean : (request : Result (List ℕ) Error) → cleanup_of (asks_for request (replied true)) ≡ []
    clean (Ok part) = refl
    clean (Err e) = refl

-- numbers that are compared
equals-itself : (n : ℕ) → (n == n) ≡ true
equals-itself n = grind (arith, nat_tests)

other-than : (n m : ℕ) → (n ≡ m → ⊥) → (n == m) ≡ false
other-than n m h = grind (arith, nat_tests, h)

-- it was written, or it is refused so
is-so : (request r : Result (List ℕ) Error) → r ≡ request → IsRequest request r
is-so request (Ok part) h = sym h
is-so request (Err e) h = inl (sym h)

-- there aren't as many values as types
other-number : (text : List ℕ) (count : ℕ) (types : List PgType) (vs : Params) → (vs.count ≡ count → ⊥) → IsRequest (paired_request text count types vs) (Err (Parameters vs.count count))
other-number text count types vs h =
    let apart : (vs.count == count) ≡ false = other-than vs.count count h in
    inl (ap (λ (b : Bool). if b then typed_request text types vs else (let r : Result (List ℕ) Error = Err (Parameters vs.count count) in r)) apart)

-- there are
same-number : (text : List ℕ) (count : ℕ) (types : List PgType) (vs : Params) → vs.count ≡ count → (r : Result (List ℕ) Error) → r ≡ typed_request text types vs → IsRequest (paired_request text count types vs) r
same-number text count types vs h r is =
    let same : (vs.count == count) ≡ true = ap (λ (n : ℕ). n == count) h ∙ equals-itself count in
    is-so (paired_request text count types vs) r (is ∙ sym (ap (λ (b : Bool). if b then typed_request text types vs else (let r : Result (List ℕ) Error = Err (Parameters vs.count count) in r)) same))

-- the same of numbers that were counted
pub other-given : (text : List ℕ) (count : ℕ) (types : List PgType) (vs : Params) (given many : ℕ) → given ≡ vs.count → many ≡ count → (given ≡ many → ⊥) → IsRequest (paired_request text count types vs) (Err (Parameters given many))
other-given text count types vs given many is same h =
    subst (λ (n : ℕ). IsRequest (paired_request text count types vs) (Err (Parameters n many))) (sym is)
    (subst (λ (m : ℕ). IsRequest (paired_request text count types vs) (Err (Parameters vs.count m))) (sym same) (other-number text count types vs (λ e. h (is ∙ e ∙ sym same))))

pub same-given : (text : List ℕ) (count : ℕ) (types : List PgType) (vs : Params) (given many : ℕ) → given ≡ vs.count → many ≡ count → given ≡ many → (r : Result (List ℕ) Error) → r ≡ typed_request text types vs → IsRequest (paired_request text count types vs) r
same-given text count types vs given many is same h r e = same-number text count types vs (sym is ∙ h ∙ same) r e

module _ {D : Type 0} (becomes : D → List Event → D → Type 0) (stamp : Stamp) (a : D) (text : List ℕ) (count : ℕ) (types : List PgType) (vs : Params) where
  -- where it is asked
  abbrev pub at-begin : (rows : Bool) → Place (Asked rows)
  at-begin rows = record { dialogue = asks_typed rows text count types vs; reads = 0 }

  -- it is the request
  asked : (rows : Bool) (r : Result (List ℕ) Error) → paired_request text count types vs ≡ r → asks_typed rows text count types vs ≡ asks_for r (replied rows)
  asked rows r is = asks-so rows text count types vs ∙ ap (λ (r : Result (List ℕ) Error). asks_for r (replied rows)) is

  -- it is booked
  pub booked : (b : D) (part : List ℕ) (id : ℕ) (s : Heads) → IsRequest (paired_request text count types vs) (Ok part) → becomes a (call.Book stamp part false (Ok id) ∷ []) b → s ≡ record { id = id; batch = [] } → Books becomes stamp a at-begin b (Ok s)
  booked b part id s is ev same =
      subst (λ (x : Heads). Books becomes stamp a at-begin b (Ok x)) (sym same) (
        λ rows rest. record {
          events = call.Book stamp part false (Ok id) ∷ [];
          became = ev;
          walked = λ u. subst (λ (d : Dialogue (Asked rows)). Walks stamp d 0 (call.Book stamp part false (Ok id) ∷ []) (replied rows) id) (sym (asked rows (Ok part) is)) (replied rows, id, (refl, refl, refl, refl, refl), (refl, refl));
          brought = refl;
        },
        refl,
      )

  -- the desk refused it
  pub not-booked : (b : D) (part : List ℕ) (fault : DeskFault) (e : Error) → IsRequest (paired_request text count types vs) (Ok part) → becomes a (call.Book stamp part false (Err fault) ∷ []) b → e ≡ of_fault fault → (rows : Bool) → GoesToAnswer becomes stamp a (at-begin rows) b (Err e)
  not-booked b part fault e is ev same rows =
      record {
        last = record { dialogue = Answer (Err (of_fault fault)); reads = 0 };
        goes = record {
          events = call.Book stamp part false (Err fault) ∷ [];
          became = ev;
          walked = subst (λ (d : Dialogue (Asked rows)). Walks stamp d 0 (call.Book stamp part false (Err fault) ∷ []) (Answer (Err (of_fault fault))) 0) (sym (asked rows (Ok part) is)) (Answer (Err (of_fault fault)), 0, (refl, refl, refl, refl, refl), (refl, refl));
        };
        answers = inl (ap (λ (x : Error). let d : Dialogue (Asked rows) = Answer (Err x) in d) (sym same));
      }

  -- it can't be sent
  pub not-written : ((a : D) → becomes a [] a) → (e : Error) → IsRequest (paired_request text count types vs) (Err e) → (rows : Bool) → GoesToAnswer becomes stamp a (at-begin rows) a (Err e)
  not-written stays e (inl is) rows = record {
    last = at-begin rows;
    goes = record { events = []; became = stays a; walked = (refl, refl) };
    answers = inl (asked rows (Err e) is);
  }
  not-written stays e (inr lack) rows = record {
    last = at-begin rows;
    goes = record { events = []; became = stays a; walked = (refl, refl) };
    answers = inr (ap (λ (x : Error). let r : Result (Asked rows) Error = Err x in r) lack);
  }

-- ---- types that are found

-- nothing is left to do before the first of them is asked for
pub finds-clean : (oids : List ℕ) → cleanup_of (find_all oids) ≡ []
finds-clean oids = fresh-clean (find_all oids) (finds-fresh oids)
