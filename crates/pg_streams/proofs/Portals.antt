-- Where the request of a portal's rows leads.
use Rattle.std.proofs.Common.{◌≡◌, ◌∙◌, ℕ, ℤ, List, [], ◌∷◌, ◌++◌, Bool, true, false, None, Result, Ok, Err, refl, sym, ap, subst}
use Rattle.pg_spec.specs.declared.stamps.Stamp.{Stamp}
use Rattle.pg_spec.specs.RawMessages.{RawMessage}
use Rattle.pg_desk.specs.declared.event.Event.{Event}
use Rattle.pg_desk.specs.declared.event.Event.TheVariants as call
use Rattle.pg_desk.specs.declared.statement.Described.{Described as Statement}
use Rattle.pg_types.specs.declared.error.Error.{Error}
use Rattle.pg_query.specs.Dialogue.{Dialogue, Walks, feed}
use Rattle.pg_query.specs.Meaning.{Place}
use Rattle.pg_query.specs.Reading.{reads}
use Rattle.pg_query.specs.Scripts.{cleanup_of}
use Rattle.pg_core.specs.Composing.{asks_for}
use Rattle.pg_portals.specs.Requests.{portal_request}
use Rattle.pg_portals.specs.declared.portal.Portal.{Portal}
use Rattle.pg_streams.specs.Families.{AnswersFor, Family, GoesFor}
use Rattle.pg_streams.specs.Handing.{alone}
use Rattle.pg_streams.specs.Hearing.{IsNoItem}
use Rattle.pg_streams.specs.PortalStreams.{asks_portal, portal_first, portal_opened}
use Rattle.pg_streams.specs.RowStates.{rows_place, unread}
use Rattle.pg_streams.specs.RowStreams.{RowsGiven, rows_from}
use Rattle.pg_streams.specs.declared.row_stream.RowStream.{RowStream}
use Rattle.pg_streams.proofs.Asking.{answers-at-once, asked-cleanup}

-- nothing is left to do before it
pub portal-cleanup : (over : Bool) (p : Portal) (max_rows : ℤ) → cleanup_of (asks_portal over p max_rows) ≡ []
portal-cleanup false p max_rows = asked-cleanup (portal_request p.number max_rows) _
portal-cleanup true p max_rows = refl

-- by a request that was made
pub portal-by : (over : Bool) (p : Portal) (max_rows : ℤ) (request : Result (List ℕ) Error) → over ≡ false → request ≡ portal_request p.number max_rows →
    asks_portal over p max_rows ≡ asks_for request (reads false (rows_from p.statement true None))
portal-by over p max_rows request live is =
    ap (λ (b : Bool). asks_portal b p max_rows) live ∙ ap (λ (r : Result (List ℕ) Error). asks_for r (reads false (rows_from p.statement true None))) (sym is)

-- or that can't be made
pub portal-refused : {D : Type 0} (becomes : D → List Event → D → Type 0) → ((a : D) → becomes a [] a) → (stamp : Stamp) (a : D) (over : Bool) (p : Portal) (max_rows : ℤ) (n : ℕ) (e : Error) → over ≡ false → Err e ≡ portal_request p.number max_rows →
    AnswersFor becomes stamp a (alone (record { dialogue = asks_portal over p max_rows; reads = n }) portal_first) a (λ plan. Err e) (λ first. IsNoItem first.told)
portal-refused becomes stays stamp a over p max_rows n e live is =
    answers-at-once becomes stays stamp a (alone (record { dialogue = asks_portal over p max_rows; reads = n }) portal_first) (λ plan. Err e) (λ first. IsNoItem first.told)
    (λ plan. portal-by over p max_rows (Err e) live is) tt

-- the request was booked
pub portal-booked : {D : Type 0} (becomes : D → List Event → D → Type 0) (stamp : Stamp) (a b : D) (over : Bool) (p : Portal) (max_rows : ℤ) (request : List ℕ) (id : ℕ) (s : Statement) (ms : List RawMessage) (stream : RowStream) → over ≡ false → Ok request ≡ portal_request p.number max_rows →
    s ≡ p.statement → ms ≡ [] → becomes a (call.Book stamp request false (Ok id) ∷ []) b → rows_place stream ≡ record { dialogue = feed ms (reads false (rows_from s true None)); reads = id } → unread stream ≡ ms →
    GoesFor becomes stamp a (alone (record { dialogue = asks_portal over p max_rows; reads = 0 }) portal_first) b (alone (rows_place stream) (portal_opened stream))
portal-booked becomes stamp a b over p max_rows request id s ms stream live is same none ev stands left =
    let rows : Dialogue RowsGiven = reads false (rows_from p.statement true None) in
    let at : record { dialogue = rows; reads = id } ≡ rows_place stream =
    ap (λ (l : List RawMessage). let q : Place RowsGiven = record { dialogue = feed l rows; reads = id } in q) (sym none)
    ∙ ap (λ (t : Statement). let q : Place RowsGiven = record { dialogue = feed ms (reads false (rows_from t true None)); reads = id } in q) (sym same)
    ∙ sym stands in
    let empty : [] ≡ unread stream = sym (left ∙ none) in
    subst (λ (q : Family (Unit {0}) RowsGiven (Unit {0}) (Unit {0})). GoesFor becomes stamp a (alone (record { dialogue = asks_portal over p max_rows; reads = 0 }) portal_first) b q)
    (λ i. alone (at i) (λ more. record { told = None; giving = tt; left = empty i ++ more })) (record {
      events = call.Book stamp request false (Ok id) ∷ [];
      became = ev;
      walked = λ u. subst (λ (d : Dialogue RowsGiven). Walks stamp d 0 (call.Book stamp request false (Ok id) ∷ []) rows id) (sym (portal-by over p max_rows (Ok request) live is)) (rows, id, (refl, refl, refl, refl, refl), (refl, refl));
      brought = refl;
    })
