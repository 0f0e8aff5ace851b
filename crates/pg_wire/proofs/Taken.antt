-- One message taken off the front of some bytes.
use Rattle.std.proofs.Common.{◌≡◌, ℕ, ◌-◌, List, [], ◌∷◌, take, drop, get_or, Option, Some, None, Result, Ok, Err, true, refl, sym, ap, subst, ◌∙◌, arith}
use Rattle.std.specs.Prelude.{slice_range}
use Rattle.std.proofs.lemmas.List.{drop-take}
use Rattle.pg_spec.specs.Messages.{message_of}
use Rattle.pg_spec.specs.RawMessages.{RawMessage, message_at, messages, bytes_left, has_bad_header}
use Rattle.pg_spec.specs.Faults as spec
use Rattle.pg_spec.specs.Batches.{IsBatch}
use Rattle.pg_wire.proofs.BatchLaws.{batch-tail}
use Rattle.pg_wire.specs.Fronts.{IsWhole, message_of_bytes}
use Rattle.pg_wire.specs.Layouts.{Means}
use Rattle.pg_wire.specs.Parse.{Parses, RefusesFront, TakesFront}
use Rattle.pg_wire.specs.Backend.{HoldsBatch, Nexts, RefusesFirst}
use Rattle.pg_wire.specs.declared.message.Message.{Message}
use Rattle.pg_types.specs.declared.faults.WireFault.{WireFault}
use Rattle.pg_types.specs.declared.faults.WireFault.TheVariants.{BadLength, UnknownTag, Layout, NotUtf8, OutOfMemory}
use Rattle.pg_wire.proofs.Cuts.{messages_of_one, left_of_one, messages_of_none, left_of_none}

refused : (s : List ℕ) (n : ℕ) (raw : RawMessage) (fault : spec.WireFault) → IsWhole s n → raw ≡ message_of_bytes n s →
    message_of raw ≡ Err fault → RefusesFront s s fault
refused s n raw fault whole is means = record {
  same = refl;
  raw = message_of_bytes n s;
  rest = drop n s;
  front = whole.front;
  means = sym (ap message_of is) ∙ means;
}

-- the body is the one of the whole message in front
is_message : (s seen looked body : List ℕ) (n : ℕ) → seen ≡ s → looked ≡ s → IsWhole seen n → body ≡ slice_range s 5 n →
    ◌≡◌ {A = RawMessage} (record { tag = get_or looked 0 0; body = body }) (message_of_bytes n s)
is_message s seen looked body n same also whole cut =
    let e : take (n - 5) (drop 5 s) ≡ drop 5 (take n s) = sym (drop-take 5 (n - 5) s) ∙ ap (λ (k : ℕ). drop 5 (take k s)) (omega (arith, whole.some)) in
    λ i. record { tag = get_or (also i) 0 0; body = (cut ∙ e) i }

pub parse_takes : (s seen looked body new : List ℕ) (n : ℕ) (message : Message) → seen ≡ s → looked ≡ s → IsWhole seen n → body ≡ slice_range s 5 n →
    Means (record { tag = get_or looked 0 0; body = body }) (Ok message) → new ≡ drop n s → TakesFront s new message
parse_takes s seen looked body new n message same also whole cut means behind =
    let whole' : IsWhole s n = subst (λ (x : List ℕ). IsWhole x n) same whole in
    record {
      raw = message_of_bytes n s;
      front = whole'.front ∙ ap (λ (rest : List ℕ). Some (message_of_bytes n s, rest)) (sym behind);
      means = sym (ap message_of (is_message s seen looked body n same also whole cut)) ∙ means;
    }

pub parse_refuses : (s seen looked body : List ℕ) (n : ℕ) (fault : WireFault) → seen ≡ s → looked ≡ s → IsWhole seen n → body ≡ slice_range s 5 n →
    Means (record { tag = get_or looked 0 0; body = body }) (Err fault) → Parses s s (Err fault)
parse_refuses s seen looked body n fault same also whole cut means =
    let whole' : IsWhole s n = subst (λ (x : List ℕ). IsWhole x n) same whole in
    by_fault _ fault whole' (is_message s seen looked body n same also whole cut) means
  where
    by_fault : (raw : RawMessage) (fault : WireFault) → IsWhole s n → raw ≡ message_of_bytes n s → Means raw (Err fault) → Parses s s (Err fault)
    by_fault raw BadLength whole is means = absurd means
    by_fault raw UnknownTag whole is means = refused s n raw spec.UnknownTag whole is means
    by_fault raw Layout whole is means = refused s n raw spec.Layout whole is means
    by_fault raw NotUtf8 whole is means = absurd means
    by_fault raw OutOfMemory whole is means = absurd means

-- ---- among whole messages

-- whole messages are left
pub left_behind : (old new : List ℕ) (r : Result (Option Message) WireFault) → Parses old new r → bytes_left old ≡ [] → bytes_left new ≡ []
left_behind old new (Ok None) p none = ap bytes_left p.same ∙ none
left_behind old new (Ok (Some message)) p none = sym (left_of_one old p.raw new p.front) ∙ none
left_behind old new (Err BadLength) p none = ap bytes_left p.same ∙ none
left_behind old new (Err UnknownTag) p none = ap bytes_left p.same ∙ none
left_behind old new (Err Layout) p none = ap bytes_left p.same ∙ none
left_behind old new (Err NotUtf8) p none = absurd p
left_behind old new (Err OutOfMemory) p none = ap bytes_left p ∙ none

-- and they are a batch
pub batch_behind : (old new : List ℕ) (r : Result (Option Message) WireFault) → Parses old new r → HoldsBatch old → HoldsBatch new
batch_behind old new r p old-holds = record { whole = left_behind old new r p old-holds.whole; batch = by_answer r p }
  where
    stays : new ≡ old → IsBatch (messages new)
    stays same = subst (λ (x : List ℕ). IsBatch (messages x)) (sym same) old-holds.batch

    by_answer : (r : Result (Option Message) WireFault) → Parses old new r → IsBatch (messages new)
    by_answer (Ok None) p = stays p.same
    by_answer (Ok (Some message)) p = batch-tail p.raw (messages new) (subst IsBatch (messages_of_one old p.raw new p.front) old-holds.batch)
    by_answer (Err BadLength) p = stays p.same
    by_answer (Err UnknownTag) p = stays p.same
    by_answer (Err Layout) p = stays p.same
    by_answer (Err NotUtf8) p = absurd p
    by_answer (Err OutOfMemory) p = stays p

refuses_first : (old new : List ℕ) (fault : spec.WireFault) → RefusesFront old new fault → RefusesFirst (messages old) (messages new) fault
refuses_first old new fault p = record {
  raw = p.raw;
  rest = messages p.rest;
  front = messages_of_one old p.raw p.rest p.front;
  means = p.means;
  same = ap messages p.same;
}

no_bad_header : (old : List ℕ) → bytes_left old ≡ [] → message_at old ≡ None → has_bad_header old ≡ true → ⊥
no_bad_header old left none bad = absurd (no_header old (sym (left_of_none old none) ∙ left) bad)
  where
    no_header : (s : List ℕ) → s ≡ [] → has_bad_header s ≡ true → ⊥
    no_header [] e bad = cc
    no_header (b ∷ rest) e bad = cc

nexts_of : (old new : List ℕ) (r : Result (Option Message) WireFault) → Parses old new r → bytes_left old ≡ [] → Nexts (messages old) (messages new) r
nexts_of old new (Ok None) p left = (messages_of_none old p.none, ap messages p.same ∙ messages_of_none old p.none)
nexts_of old new (Ok (Some message)) p left = record { raw = p.raw; front = messages_of_one old p.raw new p.front; means = p.means }
nexts_of old new (Err BadLength) p left = absurd (no_bad_header old left p.none p.header)
nexts_of old new (Err UnknownTag) p left = refuses_first old new spec.UnknownTag p
nexts_of old new (Err Layout) p left = refuses_first old new spec.Layout p
nexts_of old new (Err NotUtf8) p left = absurd p
nexts_of old new (Err OutOfMemory) p left = ap messages p

-- as a list of messages sees it
pub nexts : (old new : List ℕ) (view : List RawMessage) (r : Result (Option Message) WireFault) → messages old ≡ view → Parses old new r → bytes_left old ≡ [] →
    Nexts view (messages new) r
nexts old new view r is p left = subst (λ (x : List RawMessage). Nexts x (messages new) r) is (nexts_of old new r p left)
