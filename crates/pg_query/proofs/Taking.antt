-- Where a take from the desk leads a dialogue, the batch before being used up.
use Rattle.std.proofs.Common.{◌≡◌, ℕ, List, [], ◌∷◌, ◌++◌, refl, sym, ap, subst, inl, Result, Ok, Err}
use Rattle.pg_spec.specs.RawMessages.{RawMessage}
use Rattle.pg_spec.specs.declared.stamps.Stamp.{Stamp}
use Rattle.pg_desk.specs.declared.event.DeskFault.{DeskFault}
use Rattle.pg_desk.specs.declared.event.Take.TheVariants as taking
use Rattle.pg_desk.specs.declared.event.Event.{Event}
use Rattle.pg_desk.specs.declared.event.Event.TheVariants as call
use Rattle.pg_types.specs.declared.error.Error.{Error}
use Rattle.pg_types.specs.declared.error.Error.TheVariants.{Closed}
use Rattle.pg_query.specs.Faults.{of_fault}
use Rattle.pg_query.specs.Dialogue.{Dialogue, Answer, Read, HangUp, feed, Walks}
use Rattle.pg_query.specs.Meaning.{Place, left_by, meaning, Goes, GoesToAnswer, Leaves, Reads, Waits}
use Rattle.pg_query.specs.Scripts.{IsRead, ReadsAt, Waiting}
use Rattle.pg_query.specs.declared.running.Running.{Running}
use Rattle.pg_query.proofs.Walking.{goes-joined}

-- one event of a dialogue that reads a message

took : {T : Type 0} (stamp : Stamp) (d : Dialogue T) (id : ℕ) (ms : List RawMessage) → IsRead d → Walks stamp d id (call.Take id (Ok (taking.Batch ms)) ∷ []) (feed ms d) id
took stamp (Read cleanup decides next) id ms s = (_, id, (refl, refl, refl), (refl, refl))
took stamp _ id ms s = absurd s

took-nothing : {T : Type 0} (stamp : Stamp) (d : Dialogue T) (id : ℕ) → IsRead d → Walks stamp d id (call.Take id (Ok taking.Empty) ∷ []) d id
took-nothing stamp (Read cleanup decides next) id s = (_, id, (refl, refl, refl), (refl, refl))
took-nothing stamp _ id s = absurd s

took-over : {T : Type 0} (stamp : Stamp) (d : Dialogue T) (id : ℕ) → IsRead d → Walks stamp d id (call.Take id (Ok taking.Over) ∷ []) (Answer (Err Closed)) id
took-over stamp (Read cleanup decides next) id s = (_, id, (refl, refl, refl), (refl, refl))
took-over stamp _ id s = absurd s

-- a request that is gone is hung up
took-gone : {T : Type 0} (stamp : Stamp) (d : Dialogue T) (id : ℕ) (answer : Result (Unit {0}) DeskFault) → IsRead d →
    Walks stamp d id (call.Take id (Ok taking.Gone) ∷ call.HangUp id answer ∷ []) (Answer (Err (left_by answer))) id
took-gone stamp (Read cleanup decides next) id (Ok x) s = (HangUp (Answer (Err Closed)), id, (refl, refl, refl), (Answer (Err Closed), id, (refl, refl, refl), (refl, refl)))
took-gone stamp (Read cleanup decides next) id (Err e) s = (HangUp (Answer (Err Closed)), id, (refl, refl, refl), (Answer (Err (of_fault e)), id, (refl, refl, refl), (refl, refl)))
took-gone stamp _ id answer s = absurd s

take-refused : {T : Type 0} (stamp : Stamp) (d : Dialogue T) (id : ℕ) (e : DeskFault) → IsRead d → Walks stamp d id (call.Take id (Err e) ∷ []) (Answer (Err (of_fault e))) id
take-refused stamp (Read cleanup decides next) id e s = (_, id, (refl, refl, refl), (refl, refl))
take-refused stamp _ id e s = absurd s

-- The events led to a place where a message is read, and none that came is left.
pub record ReadsOut {D S T : Type 0} (becomes : D → List Event → D → Type 0) (dialogue : S → Dialogue T) (waits : (s : S) → Waiting (dialogue s)) (stamp : Stamp) (a : D) (p : Place T) (b : D) (new : Running S T) : Type 0 where
  pub goes : Goes becomes stamp a p b (meaning dialogue new)
  pub reads : ReadsAt dialogue waits new.script
  pub empty : new.batch ≡ []

-- events of two calls are events of a desk
abbrev pub Joins : {D : Type 0} → (D → List Event → D → Type 0) → Type 0
Joins {D} becomes = (a b c : D) (es fs : List Event) → becomes a es b → becomes b fs c → becomes a (es ++ fs) c

module _ {D S T : Type 0} {becomes : D → List Event → D → Type 0} {dialogue : S → Dialogue T} {waits : (s : S) → Waiting (dialogue s)} {stamp : Stamp} {a : D} {p : Place T} {b : D} {new : Running S T}
    (joins : Joins becomes) (out : ReadsOut becomes dialogue waits stamp a p b new) where
  same : dialogue new.script ≡ feed new.batch (dialogue new.script)
  same = sym (ap (λ (l : List RawMessage). feed l (dialogue new.script)) out.empty)

  -- further events lead on from there
  abbrev goes-on : (c : D) (es : List Event) → becomes b es c → (q : Place T) → Walks stamp (dialogue new.script) new.id es q.dialogue q.reads → Goes becomes stamp a p c q
  goes-on c es ev q w = goes-joined becomes joins stamp a p b (meaning dialogue new) c q out.goes (record {
    events = es;
    became = ev;
    walked = subst (λ (d : Dialogue T). Walks stamp d new.id es q.dialogue q.reads) same w;
  })

  -- or to an error
  ends-on : (c : D) (es : List Event) → becomes b es c → (e x : Error) → x ≡ e → Walks stamp (dialogue new.script) new.id es (Answer (Err e)) new.id → GoesToAnswer becomes stamp a p c (Err x)
  ends-on c es ev e x is w = record {
    last = record { dialogue = Answer (Err e); reads = new.id };
    goes = goes-on c es ev (record { dialogue = Answer (Err e); reads = new.id }) w;
    answers = inl (ap (λ (y : Error). Answer (Err y)) (sym is));
  }

  -- a batch came, which is read next
  pub batch-came : (c : D) (ms : List RawMessage) → becomes b (call.Take new.id (Ok (taking.Batch ms)) ∷ []) c → (next : Running S T) → next ≡ record new { batch = ms } →
      Reads becomes dialogue waits stamp a p c next
  batch-came c ms ev next is = subst (λ (r : Running S T). Reads becomes dialogue waits stamp a p c r) (sym is) (record {
    goes = goes-on c (call.Take new.id (Ok (taking.Batch ms)) ∷ []) ev (record { dialogue = feed ms (dialogue new.script); reads = new.id }) (took stamp (dialogue new.script) new.id ms out.reads.there);
    reads = out.reads;
  })

  -- none will come any more
  pub all-came : (c : D) → becomes b (call.Take new.id (Ok taking.Over) ∷ []) c → GoesToAnswer becomes stamp a p c (Err Closed)
  all-came c ev = ends-on c (call.Take new.id (Ok taking.Over) ∷ []) ev Closed Closed refl (took-over stamp (dialogue new.script) new.id out.reads.there)

  -- the request is gone, and was hung up
  pub request-gone : (c d : D) → becomes b (call.Take new.id (Ok taking.Gone) ∷ []) c → (e : Error) → Leaves becomes c new.id d e → GoesToAnswer becomes stamp a p d (Err e)
  request-gone c d ev e left =
      ends-on d (call.Take new.id (Ok taking.Gone) ∷ call.HangUp new.id left.answer ∷ []) (joins b c d (call.Take new.id (Ok taking.Gone) ∷ []) (call.HangUp new.id left.answer ∷ []) ev left.became)
      (left_by left.answer) e left.says (took-gone stamp (dialogue new.script) new.id left.answer out.reads.there)

  -- the desk refused the take
  pub refused-take : (c : D) (fault : DeskFault) → becomes b (call.Take new.id (Err fault) ∷ []) c → (e : Error) → e ≡ of_fault fault → GoesToAnswer becomes stamp a p c (Err e)
  refused-take c fault ev e is = ends-on c (call.Take new.id (Err fault) ∷ []) ev (of_fault fault) e is (take-refused stamp (dialogue new.script) new.id fault out.reads.there)

  -- none came yet
  pub none-came : (c : D) → becomes b (call.Take new.id (Ok taking.Empty) ∷ []) c → Waits becomes dialogue waits stamp a p c new
  none-came c ev = record {
    reads = record {
      goes = goes-on c (call.Take new.id (Ok taking.Empty) ∷ []) ev (meaning dialogue new)
          (subst (λ (d : Dialogue T). Walks stamp (dialogue new.script) new.id (call.Take new.id (Ok taking.Empty) ∷ []) d new.id) same (took-nothing stamp (dialogue new.script) new.id out.reads.there));
      reads = out.reads;
    };
    empty = out.empty;
    last = record { before = out.goes.events; are = refl };
  }
