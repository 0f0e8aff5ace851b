-- What the hub's answer to a batch makes of the connection.
use Rattle.std.proofs.Common.{◌≡◌, ℕ, Bool, true, false, ◌||◌, List, [], ◌∷◌, ◌++◌, length, Option, None, Err, refl, sym, ap, subst, ◌∙◌, arith, inl, inr}
use Rattle.std.proofs.lemmas.List.{append-nil}
use Rattle.pg_spec.specs.Links.{LinkView}
use Rattle.pg_spec.specs.RawMessages.{RawMessage}
use Rattle.pg_desk.specs.declared.event.Deliver.TheVariants as answer
use Rattle.pg_desk.specs.declared.event.Event.{Event}
use Rattle.pg_desk.specs.declared.event.Event.TheVariants.{Deliver}
use Rattle.pg_connect.specs.declared.fault.ConnectionFault.{ConnectionFault}
use Rattle.pg_connect.specs.declared.fault.ConnectionFault.TheVariants as fault
use Rattle.pg_connect.specs.declared.streams.Held.{Held}
use Rattle.pg_connect.specs.declared.streams.Streams.{Streams}
use Rattle.pg_connect.specs.Passed.{delivered_in, bytes_out_in, moves_in, parts_out_in}
use Rattle.pg_connect.specs.Passes.{Passes, waiting, risen}
use Rattle.pg_connect.specs.Reads.{IsUnasked, DeliverEnds, GivesBack, has_no_request}
use Rattle.pg_connect.proofs.Sends.{or_false, or_true}
use Rattle.pg_connect.proofs.Arriving.{delivers}

-- the batch was taken or discarded, and counted
pub delivered_taken : (s : Streams) (held : Option Held) (t : Streams) (l : LinkView) (batch : List RawMessage) (complete : Bool) (n : ℕ) → s.unread ≡ None →
    waiting s.held ≡ batch → held ≡ None → n ≡ length batch → t ≡ record s { held = held; delivered = risen s.delivered n; moved = true } →
    Passes s t l l (Deliver batch complete answer.Taken ∷ []) []
delivered_taken s held t l batch complete n read was none count is =
    subst (λ (x : Streams). Passes s x l l (Deliver batch complete answer.Taken ∷ []) []) (sym is)
    (delivers s (record s { held = held; delivered = risen s.delivered n; moved = true }) l (Deliver batch complete answer.Taken) read read
    (was ∙ sym (append-nil batch) ∙ ap (λ x. batch ++ waiting x) (sym none)) (inr ([], sym (ap waiting none))) refl refl refl refl refl refl (ap (risen s.delivered) count)
    (record { unsent = refl; closing = refl; limit = refl; ended = refl; at_end = refl }) (or_true s.moved))

-- the batch came back, and is held again
pub delivered_back : (s : Streams) (held : Option Held) (t : Streams) (l : LinkView) (e : Event) (back : List RawMessage) → s.unread ≡ None →
    delivered_in e ≡ [] → bytes_out_in e ≡ [] → parts_out_in e ≡ [] → moves_in e ≡ false → waiting s.held ≡ back → waiting t.held ≡ back → t ≡ record s { held = t.held } →
    Passes s t l l (e ∷ []) []
delivered_back s held t l e back read none no_bytes no_part still was holds is =
    subst (λ (x : Streams). Passes s x l l (e ∷ []) []) (sym is)
    (delivers s (record s { held = t.held }) l e read read (was ∙ sym holds ∙ ap (λ x. x ++ waiting t.held) (sym none)) (inl (holds ∙ sym was, refl)) no_bytes no_part refl refl refl refl
    (same_count s.delivered (length (delivered_in e)) (ap length none))
    (record { unsent = refl; closing = refl; limit = refl; ended = refl; at_end = refl }) (or_false s.moved ∙ ap (λ x. s.moved || x) (sym still)))
  where
    same_count : (a n : ℕ) → n ≡ 0 → a ≡ risen a n
    same_count a n none = omega (arith, none)

-- no request is open for it
pub unasked_back : (t : Streams) (batch : List RawMessage) (f : ConnectionFault) (e : Event) → has_no_request e ≡ true → waiting t.held ≡ batch → IsUnasked batch f →
    GivesBack (waiting t.held) e → DeliverEnds t (Err f) (e ∷ [])
unasked_back t batch (fault.Unasked error) e is holds means back = (is, subst (λ (x : List RawMessage). IsUnasked x (fault.Unasked error)) (sym holds) means, back)
unasked_back t batch fault.OutOfMemory e is holds means back = tt
unasked_back t [] _ e is holds means back = absurd means
unasked_back t (m ∷ batch) _ e is holds means back = absurd means
