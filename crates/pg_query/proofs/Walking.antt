-- Where one event leads a dialogue, with the messages that came and aren't read yet.
use Rattle.std.proofs.Common.{◌≡◌, ℕ, arith, length, List, [], ◌∷◌, ◌++◌, Bool, false, Option, Some, None, is_none, refl, sym, ◌∙◌, ap, subst, inl, inr, append_assoc, Result, Ok, Err, MatchResult}
use Rattle.pg_spec.specs.Faults as spec
use Rattle.pg_spec.specs.RawMessages.{RawMessage}
use Rattle.pg_wire.specs.Backend.{RefusedBy}
use Rattle.pg_wire.specs.Faults.{wire_fault}
use Rattle.pg_types.specs.declared.faults.WireFault.{WireFault}
use Rattle.pg_query.specs.Messages.{IsMalformed, Means}
use Rattle.pg_spec.specs.declared.stamps.Stamp.{Stamp}
use Rattle.pg_desk.specs.declared.event.Event.{Event}
use Rattle.pg_desk.specs.declared.event.Event.TheVariants as call
use Rattle.pg_desk.specs.declared.event.Put.TheVariants as putting
use Rattle.pg_desk.specs.declared.event.Take.TheVariants as taking
use Rattle.pg_types.specs.declared.error.Error.{Error}
use Rattle.pg_types.specs.declared.error.Error.TheVariants.{Closed, OutOfMemory}
use Rattle.pg_query.specs.declared.script.Want.TheVariants as want
use Rattle.pg_query.specs.declared.script.Action.TheVariants as act
use Rattle.pg_query.specs.declared.script.Want.{Want}
use Rattle.pg_query.specs.Faults.{of_fault}
use Rattle.pg_desk.specs.declared.event.DeskFault.{DeskFault}
use Rattle.pg_query.specs.declared.desk_call.DeskCall.{DeskCall}
use Rattle.pg_query.specs.declared.desk_call.Reply.{Reply}
use Rattle.pg_query.specs.Dialogue.{Dialogue, Answer, Ask, Send, Leave, Read, Put, Finish, Close, HangUp, Call, Hear, feed, feed_one, after_reply, Told, Steps, Walks}
use Rattle.pg_query.specs.Scripts.{IsDeaf, IsLast, Waiting, wanting, GoesOn}
use Rattle.pg_query.specs.declared.running.Running.{Running}
use Rattle.pg_query.specs.declared.script.Offer.{Offer}
use Rattle.pg_query.specs.declared.stop.Stop.{Stop}
use Rattle.pg_query.specs.declared.stop.Stop.TheVariants as stop
use Rattle.pg_query.specs.declared.desk_call.Cleanup.{Cleanup}
use Rattle.futures.specs.declared.task.Poll.{Poll}
use Rattle.futures.specs.declared.task.Poll.TheVariants.{Ready, Pending}
use Rattle.pg_query.specs.Meaning.{Place, left_by, meaning, meaning_at, offering, PullsOne, Goes, GoesToAnswer, EndIn, Leaves, Waits, Offers, Stops, MatchPoll}

pub feed-answer : {T : Type 0} (ms : List RawMessage) (r : Result T Error) → feed ms (Answer r) ≡ Answer r
feed-answer [] r = refl
feed-answer (m ∷ ms) r = feed-answer ms r

feed-ask : {T : Type 0} (ms : List RawMessage) (copying : Bool) (part : List ℕ) (d : Dialogue T) → feed ms (Ask copying part d) ≡ Ask copying part d
feed-ask [] copying part d = refl
feed-ask (m ∷ ms) copying part d = feed-ask ms copying part d

feed-send : {T : Type 0} (ms : List RawMessage) (part : List ℕ) (refused : Error → Dialogue T) (d : Dialogue T) → feed ms (Send part refused d) ≡ Send part (λ e. feed ms (refused e)) (feed ms d)
feed-send [] part refused d = refl
feed-send (m ∷ ms) part refused d = feed-send ms part (λ e. feed_one m (refused e)) (feed_one m d)

feed-leave : {T : Type 0} (ms : List RawMessage) (id : ℕ) (d : Dialogue T) → feed ms (Leave id d) ≡ Leave id (feed ms d)
feed-leave [] id d = refl
feed-leave (m ∷ ms) id d = feed-leave ms id (feed_one m d)

pub feed-put : {T : Type 0} (ms : List RawMessage) (cleanup : List Cleanup) (part : List ℕ) (d : Dialogue T) → feed ms (Put cleanup part d) ≡ Put cleanup part (feed ms d)
feed-put [] cleanup part d = refl
feed-put (m ∷ ms) cleanup part d = feed-put ms cleanup part (feed_one m d)

feed-finish : {T : Type 0} (ms : List RawMessage) (part : List ℕ) (d : Dialogue T) → feed ms (Finish part d) ≡ Finish part (feed ms d)
feed-finish [] part d = refl
feed-finish (m ∷ ms) part d = feed-finish ms part (feed_one m d)

feed-close : {T : Type 0} (ms : List RawMessage) (part : List ℕ) (d : Dialogue T) → feed ms (Close part d) ≡ Close part (feed ms d)
feed-close [] part d = refl
feed-close (m ∷ ms) part d = feed-close ms part (feed_one m d)

pub feed-hang-up : {T : Type 0} (ms : List RawMessage) (d : Dialogue T) → feed ms (HangUp d) ≡ HangUp d
feed-hang-up [] d = refl
feed-hang-up (m ∷ ms) d = feed-hang-up ms d

feed-call : {T : Type 0} (ms : List RawMessage) (q : DeskCall) (refused : Error → Dialogue T) (next : Reply → Dialogue T) → feed ms (Call q refused next) ≡ Call q (λ e. feed ms (refused e)) (λ r. feed ms (next r))
feed-call [] q refused next = refl
feed-call (m ∷ ms) q refused next = feed-call ms q (λ e. feed_one m (refused e)) (λ r. feed_one m (next r))

-- one event, from a dialogue that computes to another
step : {T : Type 0} (stamp : Stamp) (d c : Dialogue T) (id : ℕ) (e : Event) (d' : Dialogue T) (id' : ℕ) → d ≡ c → Steps stamp c id e d' id' → Walks stamp d id (e ∷ []) d' id'
step {T} stamp d c id e d' id' same h = (d', id', subst (λ (x : Dialogue T). Steps stamp x id e d' id') (sym same) h, (refl, refl))

-- what each action does, with the messages that came
pub asked : {T : Type 0} (stamp : Stamp) (ms : List RawMessage) (id : ℕ) (copying : Bool) (part : List ℕ) (d : Dialogue T) (new : ℕ) → Walks stamp (feed ms (Ask copying part d)) id (call.Book stamp part copying (Ok new) ∷ []) d new
asked stamp ms id copying part d new = step stamp (feed ms (Ask copying part d)) (Ask copying part d) id _ d new (feed-ask ms copying part d) (refl, refl, refl, refl, refl)

pub ask-refused : {T : Type 0} (stamp : Stamp) (ms : List RawMessage) (id : ℕ) (copying : Bool) (part : List ℕ) (d : Dialogue T) (e : DeskFault) → Walks stamp (feed ms (Ask copying part d)) id (call.Book stamp part copying (Err e) ∷ []) (Answer (Err (of_fault e))) id
ask-refused stamp ms id copying part d e = step stamp (feed ms (Ask copying part d)) (Ask copying part d) id _ _ id (feed-ask ms copying part d) (refl, refl, refl, refl, refl)

pub send-refused : {T : Type 0} (stamp : Stamp) (ms : List RawMessage) (id : ℕ) (part : List ℕ) (refused : Error → Dialogue T) (d : Dialogue T) (e : DeskFault) →
    Walks stamp (feed ms (Send part refused d)) id (call.Book stamp part false (Err e) ∷ []) (feed ms (refused (of_fault e))) id
send-refused stamp ms id part refused d e = step stamp (feed ms (Send part refused d)) (Send part (λ x. feed ms (refused x)) (feed ms d)) id _ _ id (feed-send ms part refused d) (refl, refl, refl, refl, refl)

sends : {T : Type 0} (stamp : Stamp) (ms : List RawMessage) (id : ℕ) (part : List ℕ) (refused : Error → Dialogue T) (d : Dialogue T) (new : ℕ) →
    Steps stamp (feed ms (Send part refused d)) id (call.Book stamp part false (Ok new)) (Leave new (feed ms d)) id
sends {T} stamp ms id part refused d new =
    subst (λ (x : Dialogue T). Steps stamp x id (call.Book stamp part false (Ok new)) (Leave new (feed ms d)) id) (sym (feed-send ms part refused d)) (refl, refl, refl, refl, refl)

pub sent : {T : Type 0} (stamp : Stamp) (ms : List RawMessage) (id : ℕ) (part : List ℕ) (refused : Error → Dialogue T) (d : Dialogue T) (new : ℕ) →
    Walks stamp (feed ms (Send part refused d)) id (call.Book stamp part false (Ok new) ∷ call.HangUp new (Ok tt) ∷ []) (feed ms d) id
sent stamp ms id part refused d new = (Leave new (feed ms d), id, sends stamp ms id part refused d new, (feed ms d, id, (refl, refl, refl), (refl, refl)))

pub send-kept : {T : Type 0} (stamp : Stamp) (ms : List RawMessage) (id : ℕ) (part : List ℕ) (refused : Error → Dialogue T) (d : Dialogue T) (new : ℕ) (e : DeskFault) →
    Walks stamp (feed ms (Send part refused d)) id (call.Book stamp part false (Ok new) ∷ call.HangUp new (Err e) ∷ []) (Answer (Err (of_fault e))) id
send-kept stamp ms id part refused d new e = (Leave new (feed ms d), id, sends stamp ms id part refused d new, (Answer (Err (of_fault e)), id, (refl, refl, refl), (refl, refl)))

pub put-took : {T : Type 0} (stamp : Stamp) (ms : List RawMessage) (id : ℕ) (cleanup : List Cleanup) (part : List ℕ) (d : Dialogue T) → Walks stamp (feed ms (Put cleanup part d)) id (call.Put id part putting.Took ∷ []) (feed ms d) id
put-took stamp ms id cleanup part d = step stamp (feed ms (Put cleanup part d)) (Put cleanup part (feed ms d)) id _ _ id (feed-put ms cleanup part d) (refl, refl, refl, refl)

pub put-full : {T : Type 0} (stamp : Stamp) (ms : List RawMessage) (id : ℕ) (cleanup : List Cleanup) (part back : List ℕ) (d : Dialogue T) →
    Walks stamp (feed ms (Put cleanup part d)) id (call.Put id part (putting.Full back) ∷ []) (feed ms (Put cleanup part d)) id
put-full stamp ms id cleanup part back d = step stamp (feed ms (Put cleanup part d)) (Put cleanup part (feed ms d)) id _ _ id (feed-put ms cleanup part d) (refl, refl, feed-put ms cleanup part d, refl)

pub put-gone : {T : Type 0} (stamp : Stamp) (ms : List RawMessage) (id : ℕ) (cleanup : List Cleanup) (part back : List ℕ) (d : Dialogue T) →
    Walks stamp (feed ms (Put cleanup part d)) id (call.Put id part (putting.Gone back) ∷ []) (HangUp (Answer (Err Closed))) id
put-gone stamp ms id cleanup part back d = step stamp (feed ms (Put cleanup part d)) (Put cleanup part (feed ms d)) id _ _ id (feed-put ms cleanup part d) (refl, refl, refl, refl)

pub put-refused : {T : Type 0} (stamp : Stamp) (ms : List RawMessage) (id : ℕ) (cleanup : List Cleanup) (part back : List ℕ) (d : Dialogue T) →
    Walks stamp (feed ms (Put cleanup part d)) id (call.Put id part (putting.OutOfMemory back) ∷ []) (Answer (Err OutOfMemory)) id
put-refused stamp ms id cleanup part back d = step stamp (feed ms (Put cleanup part d)) (Put cleanup part (feed ms d)) id _ _ id (feed-put ms cleanup part d) (refl, refl, refl, refl)

pub finished : {T : Type 0} (stamp : Stamp) (ms : List RawMessage) (id : ℕ) (part : List ℕ) (d : Dialogue T) → Walks stamp (feed ms (Finish part d)) id (call.EndCopy id part putting.Took ∷ []) (feed ms d) id
finished stamp ms id part d = step stamp (feed ms (Finish part d)) (Finish part (feed ms d)) id _ _ id (feed-finish ms part d) (refl, refl, refl, refl)

pub finish-gone : {T : Type 0} (stamp : Stamp) (ms : List RawMessage) (id : ℕ) (part back : List ℕ) (d : Dialogue T) →
    Walks stamp (feed ms (Finish part d)) id (call.EndCopy id part (putting.Gone back) ∷ []) (HangUp (Answer (Err Closed))) id
finish-gone stamp ms id part back d = step stamp (feed ms (Finish part d)) (Finish part (feed ms d)) id _ _ id (feed-finish ms part d) (refl, refl, refl, refl)

-- a copy that is gone is hung up
left : {T : Type 0} (stamp : Stamp) (id : ℕ) (answer : Result (Unit {0}) DeskFault) → Walks {T = T} stamp (HangUp (Answer (Err Closed))) id (call.HangUp id answer ∷ []) (Answer (Err (left_by answer))) id
left stamp id (Ok x) = (Answer (Err Closed), id, (refl, refl, refl), (refl, refl))
left stamp id (Err e) = (Answer (Err (of_fault e)), id, (refl, refl, refl), (refl, refl))

pub finish-refused : {T : Type 0} (stamp : Stamp) (ms : List RawMessage) (id : ℕ) (part back : List ℕ) (d : Dialogue T) →
    Walks stamp (feed ms (Finish part d)) id (call.EndCopy id part (putting.OutOfMemory back) ∷ []) (Answer (Err OutOfMemory)) id
finish-refused stamp ms id part back d = step stamp (feed ms (Finish part d)) (Finish part (feed ms d)) id _ _ id (feed-finish ms part d) (refl, refl, refl, refl)

pub closed : {T : Type 0} (stamp : Stamp) (ms : List RawMessage) (id : ℕ) (part : List ℕ) (d : Dialogue T) → Walks stamp (feed ms (Close part d)) id (call.EndCopy id part putting.Took ∷ []) (feed ms d) id
closed stamp ms id part d = step stamp (feed ms (Close part d)) (Close part (feed ms d)) id _ _ id (feed-close ms part d) (refl, refl, refl, refl)

pub closed-before : {T : Type 0} (stamp : Stamp) (ms : List RawMessage) (id : ℕ) (part back : List ℕ) (d : Dialogue T) → Walks stamp (feed ms (Close part d)) id (call.EndCopy id part (putting.Gone back) ∷ []) (feed ms d) id
closed-before stamp ms id part back d = step stamp (feed ms (Close part d)) (Close part (feed ms d)) id _ _ id (feed-close ms part d) (refl, refl, refl, refl)

pub close-refused : {T : Type 0} (stamp : Stamp) (ms : List RawMessage) (id : ℕ) (part back : List ℕ) (d : Dialogue T) →
    Walks stamp (feed ms (Close part d)) id (call.EndCopy id part (putting.OutOfMemory back) ∷ []) (Answer (Err OutOfMemory)) id
close-refused stamp ms id part back d = step stamp (feed ms (Close part d)) (Close part (feed ms d)) id _ _ id (feed-close ms part d) (refl, refl, refl, refl)

pub hung-up : {T : Type 0} (stamp : Stamp) (ms : List RawMessage) (id : ℕ) (d : Dialogue T) → Walks stamp (feed ms (HangUp d)) id (call.HangUp id (Ok tt) ∷ []) d id
hung-up stamp ms id d = step stamp (feed ms (HangUp d)) (HangUp d) id _ d id (feed-hang-up ms d) (refl, refl, refl)

pub hang-up-refused : {T : Type 0} (stamp : Stamp) (ms : List RawMessage) (id : ℕ) (d : Dialogue T) (e : DeskFault) → Walks stamp (feed ms (HangUp d)) id (call.HangUp id (Err e) ∷ []) (Answer (Err (of_fault e))) id
hang-up-refused stamp ms id d e = step stamp (feed ms (HangUp d)) (HangUp d) id _ _ id (feed-hang-up ms d) (refl, refl, refl)

pub called : {T : Type 0} (stamp : Stamp) (ms : List RawMessage) (id : ℕ) (q : DeskCall) (refused : Error → Dialogue T) (next : Reply → Dialogue T) (e : Event) (r : Result Reply DeskFault) → Told q e r →
    Walks stamp (feed ms (Call q refused next)) id (e ∷ []) (after_reply r (λ x. feed ms (refused x)) (λ x. feed ms (next x))) id
called stamp ms id q refused next e r h = step stamp (feed ms (Call q refused next)) (Call q (λ x. feed ms (refused x)) (λ x. feed ms (next x))) id e _ id (feed-call ms q refused next) (r, h, refl, refl)

-- where the script went on after events that lead to this dialogue, with the messages that came and aren't read yet
pub resumed : {S D T : Type 0} (becomes : D → List Event → D → Type 0) (stamp : Stamp) (a : D) (p : Place T) (b : D)
    (dialogue : S → Dialogue T) (refuses : S → Error → Dialogue T) (waits : (s : S) → Waiting (dialogue s)) (from : Dialogue T) (new : Running S T) (es : List Event) → becomes a es b →
    (ms : List RawMessage) (id : ℕ) → new.batch ≡ ms → new.id ≡ id → Walks stamp p.dialogue p.reads es (feed ms from) id →
    (r : Result (Want T) Error) → MatchResult r (λ w. GoesOn dialogue refuses waits from w new.script) (λ e. e ≡ OutOfMemory) →
    MatchResult r (λ w. Goes becomes stamp a p b (meaning_at dialogue refuses new w)) (λ e. GoesToAnswer becomes stamp a p b (Err e))
resumed {S} {D} {T} becomes stamp a p b dialogue refuses waits from new es ev ms id left reads w (Ok x) h =
    record { events = es; became = ev; walked = rw (h.is, left, reads) w }
resumed becomes stamp a p b dialogue refuses waits from new es ev ms id left reads w (Err e) h =
    record { last = record { dialogue = feed ms from; reads = id }; goes = record { events = es; became = ev; walked = w }; answers = inr (ap Err h) }

-- where the desk refused
pub refused : {D T : Type 0} (becomes : D → List Event → D → Type 0) (stamp : Stamp) (a : D) (p : Place T) (b : D) (es : List Event) → becomes a es b →
    (f : DeskFault) (id : ℕ) → Walks stamp p.dialogue p.reads es (Answer (Err (of_fault f))) id → (e : Error) → e ≡ of_fault f →
    GoesToAnswer becomes stamp a p b (Err e)
refused becomes stamp a p b es ev f id w e same =
    record { last = record { dialogue = Answer (Err (of_fault f)); reads = id }; goes = record { events = es; became = ev; walked = w }; answers = inl (ap (λ (x : Error). Answer (Err x)) (sym same)) }

-- where it wants memory
pub lacking : {D T : Type 0} (becomes : D → List Event → D → Type 0) (stamp : Stamp) (a : D) (p : Place T) (b : D) (es : List Event) → becomes a es b →
    (id : ℕ) → Walks stamp p.dialogue p.reads es (Answer (Err OutOfMemory)) id → GoesToAnswer becomes stamp a p b (Err OutOfMemory)
lacking becomes stamp a p b es ev id w =
    record { last = record { dialogue = Answer (Err OutOfMemory); reads = id }; goes = record { events = es; became = ev; walked = w }; answers = inl refl }

pub walk-joined : {T : Type 0} (stamp : Stamp) (d : Dialogue T) (id : ℕ) (es fs : List Event) (d' d'' : Dialogue T) (id' id'' : ℕ) →
    Walks stamp d id es d' id' → Walks stamp d' id' fs d'' id'' → Walks stamp d id (es ++ fs) d'' id''
walk-joined {T} stamp d id [] fs d' d'' id' id'' w v =
    subst (λ (x : Dialogue T). Walks stamp x id fs d'' id'') w.0 (subst (λ (n : ℕ). Walks stamp d' n fs d'' id'') w.1 v)
walk-joined stamp d id (e ∷ es) fs d' d'' id' id'' (c, n, s, w) v = (c, n, s, walk-joined stamp c n es fs d' d'' id' id'' w v)

-- where its copy is gone by this call, and was hung up
pub copy-gone : {D T : Type 0} (becomes : D → List Event → D → Type 0) → ((a b c : D) (es fs : List Event) → becomes a es b → becomes b fs c → becomes a (es ++ fs) c) →
    (stamp : Stamp) (a : D) (p : Place T) (b c : D) (id : ℕ) (gone : Event) → Walks stamp p.dialogue p.reads (gone ∷ []) (HangUp (Answer (Err Closed))) id →
    becomes a (gone ∷ []) b → (e : Error) → Leaves becomes b id c e → GoesToAnswer becomes stamp a p c (Err e)
copy-gone {D} {T} becomes joins stamp a p b c id gone w ev e l =
    let hung : List Event = call.HangUp id l.answer ∷ [] in
    record {
      last = record { dialogue = Answer (Err (left_by l.answer)); reads = id };
      goes = record {
        events = gone ∷ hung;
        became = joins a b c (gone ∷ []) hung ev l.became;
        walked = walk-joined stamp p.dialogue p.reads (gone ∷ []) hung (HangUp (Answer (Err Closed))) (Answer (Err (left_by l.answer))) id id w (left stamp id l.answer);
      };
      answers = inl (ap (λ (x : Error). Answer (Err x)) (sym l.says));
    }

-- where the desk has no room for a part, it is offered again
pub held-back : {S D T : Type 0} (becomes : D → List Event → D → Type 0) (dialogue : S → Dialogue T) (stamp : Stamp) (a b : D) (self : Running S T) (offer : Offer) (back : List ℕ) → back ≡ offer.part →
    becomes a (call.Put self.id offer.part (putting.Full back) ∷ []) b → Offers becomes dialogue stamp a (offering dialogue self offer) b self (record { part = back; cleanup = offer.cleanup })
held-back becomes dialogue stamp a b self offer back e =
    subst (λ (x : List ℕ). becomes a (call.Put self.id offer.part (putting.Full x) ∷ []) b → Offers becomes dialogue stamp a (offering dialogue self offer) b self (record { part = x; cleanup = offer.cleanup })) (sym e)
    (λ ev. record {
      goes = record {
        events = call.Put self.id offer.part (putting.Full offer.part) ∷ [];
        became = ev;
        walked = put-full stamp self.batch self.id offer.cleanup.items offer.part offer.part (dialogue self.script);
      };
      last = record { before = []; are = refl };
    })

-- events of one call and of the next
abbrev pub goes-joined : {D T : Type 0} (becomes : D → List Event → D → Type 0) → ((a b c : D) (es fs : List Event) → becomes a es b → becomes b fs c → becomes a (es ++ fs) c) →
    (stamp : Stamp) (a : D) (p : Place T) (b : D) (q : Place T) (c : D) (r : Place T) → Goes becomes stamp a p b q → Goes becomes stamp b q c r → Goes becomes stamp a p c r
goes-joined becomes joins stamp a p b q c r h k = record {
  events = h.events ++ k.events;
  became = joins a b c h.events k.events h.became k.became;
  walked = walk-joined stamp p.dialogue p.reads h.events k.events q.dialogue r.dialogue q.reads r.reads h.walked k.walked;
}

pub answer-joined : {D T : Type 0} (becomes : D → List Event → D → Type 0) → ((a b c : D) (es fs : List Event) → becomes a es b → becomes b fs c → becomes a (es ++ fs) c) →
    (stamp : Stamp) (a : D) (p : Place T) (b : D) (q : Place T) (c : D) (r : Result T Error) → Goes becomes stamp a p b q → GoesToAnswer becomes stamp b q c r → GoesToAnswer becomes stamp a p c r
answer-joined becomes joins stamp a p b q c r h k = record {
  last = k.last;
  goes = goes-joined becomes joins stamp a p b q c k.last h k.goes;
  answers = k.answers;
}

-- what is last of the later ones is last of all
pub end-joined : (es fs : List Event) (e : Event) → EndIn fs e → EndIn (es ++ fs) e
end-joined es fs e h = record { before = es ++ h.before; are = ap (λ (l : List Event). es ++ l) h.are ∙ sym (append_assoc es h.before (e ∷ [])) }

pub stop-joined : {S D T : Type 0} (becomes : D → List Event → D → Type 0) → ((a b c : D) (es fs : List Event) → becomes a es b → becomes b fs c → becomes a (es ++ fs) c) →
    (dialogue : S → Dialogue T) (stamp : Stamp) (a : D) (p : Place T) (b : D) (q : Place T) (c : D) (new : Running S T) (s : Stop T) →
    Goes becomes stamp a p b q → Stops becomes dialogue stamp b q c new s → Stops becomes dialogue stamp a p c new s
stop-joined becomes joins dialogue stamp a p b q c new (stop.Answers r) h k = answer-joined becomes joins stamp a p b q c r h k
stop-joined becomes joins dialogue stamp a p b q c new (stop.Offers offer) h k = record {
  goes = goes-joined becomes joins stamp a p b q c (offering dialogue new offer) h k.goes;
  last = end-joined h.events k.goes.events (call.Put new.id offer.part (putting.Full offer.part)) k.last;
}

pub wait-joined : {S D T : Type 0} (becomes : D → List Event → D → Type 0) → ((a b c : D) (es fs : List Event) → becomes a es b → becomes b fs c → becomes a (es ++ fs) c) →
    (dialogue : S → Dialogue T) (waits : (s : S) → Waiting (dialogue s)) (stamp : Stamp) (a : D) (p : Place T) (b : D) (q : Place T) (c : D) (new : Running S T) →
    Goes becomes stamp a p b q → Waits becomes dialogue waits stamp b q c new → Waits becomes dialogue waits stamp a p c new
wait-joined becomes joins dialogue waits stamp a p b q c new h k = record {
  reads = record { goes = goes-joined becomes joins stamp a p b q c (meaning dialogue new) h k.reads.goes; reads = k.reads.reads };
  empty = k.empty;
  last = end-joined h.events k.reads.goes.events (call.Take new.id (Ok taking.Empty)) k.last;
}

-- what a poll of a running command came to
abbrev pub Came : {S D T : Type 0} → (D → List Event → D → Type 0) → (dialogue : S → Dialogue T) → ((s : S) → Waiting (dialogue s)) → Stamp → D → Place T → D → Running S T → Poll (Stop T) → Type 0
Came becomes dialogue waits stamp a p b new r = MatchPoll r (λ s. Stops becomes dialogue stamp a p b new s) (Waits becomes dialogue waits stamp a p b new)

pub came-joined : {S D T : Type 0} (becomes : D → List Event → D → Type 0) → ((a b c : D) (es fs : List Event) → becomes a es b → becomes b fs c → becomes a (es ++ fs) c) →
    (dialogue : S → Dialogue T) (waits : (s : S) → Waiting (dialogue s)) (stamp : Stamp) (a : D) (p : Place T) (b : D) (q : Place T) (c : D) (new : Running S T) (r : Poll (Stop T)) →
    Goes becomes stamp a p b q → Came becomes dialogue waits stamp b q c new r → Came becomes dialogue waits stamp a p c new r
came-joined becomes joins dialogue waits stamp a p b q c new (Ready s) h k = stop-joined becomes joins dialogue stamp a p b q c new s h k
came-joined becomes joins dialogue waits stamp a p b q c new Pending h k = wait-joined becomes joins dialogue waits stamp a p b q c new h k

pub goes-nowhere : {D T : Type 0} (becomes : D → List Event → D → Type 0) → ((a : D) → becomes a [] a) → (stamp : Stamp) (a : D) (p : Place T) → Goes becomes stamp a p a p
goes-nowhere becomes stays stamp a p = record { events = []; became = stays a; walked = (refl, refl) }

-- a script that answers
pub answered : {S D T : Type 0} (becomes : D → List Event → D → Type 0) (stamp : Stamp) (a : D) (p : Place T) (b : D) (dialogue : S → Dialogue T) (refuses : S → Error → Dialogue T) (new : Running S T) →
    (w : Want T) → Goes becomes stamp a p b (meaning_at dialogue refuses new w) → (r : Result T Error) → w ≡ want.Answer r → GoesToAnswer becomes stamp a p b r
answered {S} {D} {T} becomes stamp a p b dialogue refuses new w h r e =
    record {
      last = meaning_at dialogue refuses new w;
      goes = h;
      answers = inl (ap (λ (x : Want T). feed new.batch (wanting x (dialogue new.script) (refuses new.script))) e ∙ feed-answer new.batch r);
    }

-- the same walk, where its end is another name of the place
pub goes-same : {D T : Type 0} (becomes : D → List Event → D → Type 0) (stamp : Stamp) (a : D) (p : Place T) (b : D) (q r : Place T) → r ≡ q →
    Goes becomes stamp a p b q → Goes becomes stamp a p b r
goes-same {D} {T} becomes stamp a p b q r e h = subst (λ (x : Place T). Goes becomes stamp a p b x) (sym e) h

-- behind the last message that is read, the others count for nothing
deaf : {T : Type 0} (ms : List RawMessage) (d : Dialogue T) → IsDeaf d → feed ms d ≡ d
deaf ms (Answer r) h = feed-answer ms r
deaf ms (Ask copying part d) h = feed-ask ms copying part d
deaf ms (Close part d) h = feed-close ms part d ∙ ap (λ (x : Dialogue _). Close part x) (deaf ms d h)
deaf ms (HangUp d) h = feed-hang-up ms d
deaf ms (Send part refused d) h = absurd h
deaf ms (Leave id d) h = absurd h
deaf ms (Read cleanup decides next) h = absurd h
deaf ms (Put cleanup part d) h = absurd h
deaf ms (Finish part d) h = absurd h
deaf ms (Call q refused next) h = absurd h
deaf ms (Hear next) h = absurd h

last-drops : {T : Type 0} (ms : List RawMessage) (w : Want T) (d : Dialogue T) (refused : Error → Dialogue T) → IsLast w d → feed ms (wanting w d refused) ≡ wanting w d refused
last-drops ms (want.Answer r) d refused h = feed-answer ms r
last-drops ms want.Read d refused h = absurd h
last-drops ms (want.Act (act.Ask copying part)) d refused h = absurd h
last-drops ms (want.Act (act.Send part)) d refused h = absurd h
last-drops ms (want.Act (act.Put offer)) d refused h = absurd h
last-drops ms (want.Act (act.Finish part)) d refused h = absurd h
last-drops ms (want.Act (act.Close part)) d refused h = feed-close ms part d ∙ ap (λ (x : Dialogue _). Close part x) (deaf ms d h)
last-drops ms (want.Act act.HangUp) d refused h = feed-hang-up ms d
last-drops ms (want.Act (act.Call q)) d refused h = absurd h

-- the message that was refused
pub record Refused (old : List RawMessage) (fault : WireFault) : Type 0 where
  pub raw : RawMessage
  pub rest : List RawMessage
  pub front : old ≡ raw ∷ rest
  pub means : Means raw (Err fault)

refused-by : (old new : List RawMessage) (o : Option spec.WireFault) → is_none o ≡ false → RefusedBy old new o →
    (raw : RawMessage) × (rest : List RawMessage) × (old ≡ raw ∷ rest) × IsMalformed raw o
refused-by old new None h r = absurd cc
refused-by old new (Some fault) h r = (r.raw, r.rest, r.front, r.means)

pub refused-first : (old new : List RawMessage) (fault : WireFault) → is_none (wire_fault fault) ≡ false → RefusedBy old new (wire_fault fault) → Refused old fault
refused-first old new fault h r = let f = refused-by old new (wire_fault fault) h r in record { raw = f.0; rest = f.1; front = f.2; means = f.3 }

-- a malformed message is given to the script, and those behind it are dropped
pub pulled-last : {S T : Type 0} (dialogue : S → Dialogue T) (refuses : S → Error → Dialogue T) (waits : (s : S) → Waiting (dialogue s)) (old new : Running S T) (raw : RawMessage) (rest : List RawMessage) →
    old.batch ≡ raw ∷ rest → new.batch ≡ [] → new.id ≡ old.id → (w : Want T) → GoesOn dialogue refuses waits (feed_one raw (dialogue old.script)) w new.script → IsLast w (dialogue new.script) →
    PullsOne dialogue refuses waits old new w
pulled-last {S} {T} dialogue refuses waits old new raw rest front none id w h last = record {
  same =
      let fed : feed new.batch (wanting w (dialogue new.script) (refuses new.script)) ≡ feed old.batch (dialogue old.script) =
      ap (λ (l : List RawMessage). feed l (wanting w (dialogue new.script) (refuses new.script))) none
      ∙ sym (last-drops rest w (dialogue new.script) (refuses new.script) last)
      ∙ ap (λ (x : Dialogue T). feed rest x) h.is
      ∙ sym (ap (λ (l : List RawMessage). feed l (dialogue old.script)) front) in
      ap (λ (x : Dialogue T). let q : Place T = record { dialogue = x; reads = new.id } in q) fed
      ∙ ap (λ (n : ℕ). let q : Place T = record { dialogue = feed old.batch (dialogue old.script); reads = n } in q) id;
  wanted = h.wanted;
  fewer = omega (arith, ap length none, ap length front);
}
