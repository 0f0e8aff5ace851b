-- Where a command reads nothing, messages that aren't read change nothing of where it goes.
use Rattle.std.proofs.Common.{◌≡◌, inl, inr, ℕ, List, [], ◌∷◌, Ok, Err, refl, sym, ap, subst, ◌∙◌}
use Rattle.pg_spec.specs.RawMessages.{RawMessage}
use Rattle.pg_spec.specs.declared.stamps.Stamp.{Stamp}
use Rattle.pg_desk.specs.declared.event.Event.{Event}
use Rattle.pg_desk.specs.declared.event.Event.TheVariants as call
use Rattle.pg_query.specs.Faults.{of_fault}
use Rattle.pg_query.specs.Dialogue.{Dialogue, Answer, Ask, Send, Leave, Read, Put, Finish, Close, HangUp, Call, Hear, feed, Steps}
use Rattle.pg_query.specs.Lives.{Deed, Leads}
use Rattle.pg_query.proofs.LeavingLaws.{told-fits}
use Rattle.pg_core.specs.Runs.{ReadsNothing}
use Rattle.pg_core.specs.Trails.{IsSettled}
use Rattle.pg_core.proofs.Fed.{feed-answer, feed-ask, feed-send, feed-leave, feed-call}

-- by one event: what it goes on with is booked anew, so that messages don't reach it, or reads nothing still
data OneStep {T : Type 0} (ms : List RawMessage) (stamp : Stamp) (d : Dialogue T) (id : ℕ) (e : Event) (mid : Dialogue T) (n : ℕ) : Type 0 where
  Anew : Steps stamp (feed ms d) id e mid n → OneStep ms stamp d id e mid n
  Still : ReadsNothing mid → Steps stamp (feed ms d) id e (feed ms mid) n → OneStep ms stamp d id e mid n

one-step : {T : Type 0} (ms : List RawMessage) (stamp : Stamp) (d : Dialogue T) (id : ℕ) (e : Event) (mid : Dialogue T) (n : ℕ) → ReadsNothing d → Steps stamp d id e mid n → OneStep ms stamp d id e mid n
one-step ms stamp (Answer r) id e mid n h s = absurd s
one-step {T} ms stamp (Ask copying part d) id e mid n h s = Anew (subst (λ (x : Dialogue T). Steps stamp x id e mid n) (sym (feed-ask ms copying part d)) s)
one-step {T} ms stamp (Send part refused d) id (call.Book given given_part c (Ok new)) mid n h s =
    Still (subst (λ (x : Dialogue T). ReadsNothing x) (sym s.3) h.1)
    (subst (λ (x : Dialogue T). Steps stamp x id (call.Book given given_part c (Ok new)) (feed ms mid) n) (sym (feed-send ms part refused d))
    (s.0, s.1, s.2, ap (feed ms) s.3 ∙ feed-leave ms new d, s.4))
one-step {T} ms stamp (Send part refused d) id (call.Book given given_part c (Err f)) mid n h s =
    Still (subst (λ (x : Dialogue T). ReadsNothing x) (sym s.3) (h.0 (of_fault f)))
    (subst (λ (x : Dialogue T). Steps stamp x id (call.Book given given_part c (Err f)) (feed ms mid) n) (sym (feed-send ms part refused d))
    (s.0, s.1, s.2, ap (feed ms) s.3, s.4))
one-step ms stamp (Send part refused d) id e mid n h s = absurd s
one-step {T} ms stamp (Leave sent d) id (call.HangUp which (Ok x)) mid n h s =
    Still (subst (λ (x : Dialogue T). ReadsNothing x) (sym s.1) h)
    (subst (λ (x : Dialogue T). Steps stamp x id (call.HangUp which (Ok tt)) (feed ms mid) n) (sym (feed-leave ms sent d)) (s.0, ap (feed ms) s.1, s.2))
one-step {T} ms stamp (Leave sent d) id (call.HangUp which (Err f)) mid n h s =
    Anew (subst (λ (x : Dialogue T). Steps stamp x id (call.HangUp which (Err f)) mid n) (sym (feed-leave ms sent d)) s)
one-step ms stamp (Leave sent d) id e mid n h s = absurd s
one-step ms stamp (Read cleanup decides next) id e mid n h s = absurd h
one-step ms stamp (Put cleanup part d) id e mid n h s = absurd h
one-step ms stamp (Finish part d) id e mid n h s = absurd h
one-step ms stamp (Close part d) id e mid n h s = absurd h
one-step ms stamp (HangUp d) id e mid n h s = absurd h
one-step {T} ms stamp (Call q refused next) id e mid n h (Ok r, told, is, same) =
    Still (subst (λ (x : Dialogue T). ReadsNothing x) (sym is) (h.1 r (told-fits q e r told)))
    (subst (λ (x : Dialogue T). Steps stamp x id e (feed ms mid) n) (sym (feed-call ms q refused next)) (Ok r, told, ap (feed ms) is, same))
one-step {T} ms stamp (Call q refused next) id e mid n h (Err f, told, is, same) =
    Still (subst (λ (x : Dialogue T). ReadsNothing x) (sym is) (h.0 (of_fault f)))
    (subst (λ (x : Dialogue T). Steps stamp x id e (feed ms mid) n) (sym (feed-call ms q refused next)) (Err f, told, ap (feed ms) is, same))
one-step ms stamp (Hear next) id e mid n h s = absurd h

-- where it reads nothing, its answer alone settles it
settled : {T : Type 0} (ms : List RawMessage) (d : Dialogue T) → ReadsNothing d → IsSettled d → d ≡ feed ms d
settled ms (Answer r) h s = sym (feed-answer ms r)
settled ms (Ask copying part d) h s = sym (feed-ask ms copying part d)
settled ms (Send part refused d) h (inl (inl reads)) = absurd reads
settled ms (Send part refused d) h (inl (inr puts)) = absurd puts
settled ms (Send part refused d) h (inr (r, is)) = absurd cc
settled ms (Leave id d) h (inl (inl reads)) = absurd reads
settled ms (Leave id d) h (inl (inr puts)) = absurd puts
settled ms (Leave id d) h (inr (r, is)) = absurd cc
settled ms (Read cleanup decides next) h s = absurd h
settled ms (Put cleanup part d) h s = absurd h
settled ms (Finish part d) h s = absurd h
settled ms (Close part d) h s = absurd h
settled ms (HangUp d) h s = absurd h
settled ms (Call q refused next) h (inl (inl reads)) = absurd reads
settled ms (Call q refused next) h (inl (inr puts)) = absurd puts
settled ms (Call q refused next) h (inr (r, is)) = absurd cc
settled ms (Hear next) h s = absurd h

-- The same deeds lead along it with messages that aren't read, and where they settle it, to the same.
pub record Unread {T : Type 0} (ms : List RawMessage) (d : Dialogue T) (id : ℕ) (ds : List Deed) (q : Dialogue T) (end : ℕ) : Type 0 where
  pub there : Dialogue T
  pub leads : Leads (feed ms d) id ds there end
  pub same : IsSettled q → q ≡ there

pub unread : {T : Type 0} (ms : List RawMessage) (d : Dialogue T) (id : ℕ) (ds : List Deed) (q : Dialogue T) (end : ℕ) → ReadsNothing d → Leads d id ds q end → Unread ms d id ds q end
unread ms d id [] q end h l = record { there = feed ms d; leads = (refl, l.1); same = λ s. l.0 ∙ settled ms d h (subst IsSettled l.0 s) }
unread {T} ms d id (a ∷ ds) q end h (mid, n, s, l) = by (one-step ms a.stamp d id a.event mid n h s) (λ nothing. unread ms mid n ds q end nothing l)
  where
    by : OneStep ms a.stamp d id a.event mid n → (ReadsNothing mid → Unread ms mid n ds q end) → Unread ms d id (a ∷ ds) q end
    by (Anew st) later = record { there = q; leads = (mid, n, st, l); same = λ s. refl }
    by (Still nothing st) later = let u = later nothing in record { there = u.there; leads = (feed ms mid, n, st, u.leads); same = u.same }
