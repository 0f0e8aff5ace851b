-- Messages aside: their layouts, and how they come off the front.
use Rattle.std.proofs.Common.{◌≡◌, ℕ, ◌-◌, ◌≤◌, ◌≢◌, Bool, true, false, cond, List, [], ◌∷◌, length, take, drop, get_or, Option, Some, None, Result, Ok, Err, refl, sym, ap, subst, ◌∙◌, arith}
use Rattle.std.specs.Prelude.{option_map, is_some, ℤ}
use Rattle.std.specs.Option.{option_and_then}
use Rattle.std.specs.Int.{w32, from_be_bytes, cast_signed}
use Rattle.std.proofs.lemmas.Bool.{le-leb}
use Rattle.std.proofs.lemmas.List.{length-drop, drop-take}
use Rattle.std.proofs.Math.Seq.{take-length}
use Rattle.pg_spec.specs.Bytes.{◌>>=◌, text0_at, if_all_read}
use Rattle.pg_spec.specs.Faults as spec
use Rattle.pg_spec.specs.Messages.{Message, NoticeResponse, ParameterStatus, NotificationResponse, parameter, notification, text_alone, alone, message_of}
use Rattle.pg_spec.specs.RawMessages.{RawMessage, messages}
use Rattle.pg_wire.specs.Bodies.{TextPair, text_pair, PairEnds}
use Rattle.pg_wire.specs.Layouts.{KeepsLayout}
use Rattle.pg_wire.specs.Fronts.{is_aside_tag, IsWhole, message_of_bytes}
use Rattle.pg_wire.specs.Decode.{RefusesAside, CutsAside, CutsOff}
use Rattle.pg_wire.proofs.Cuts.{messages_of_one, cuts_one}
use Rattle.pg_wire.specs.declared.message.Message as wire
use Rattle.pg_types.specs.declared.faults.WireFault as wire_faults
use Rattle.pg_wire.specs.Messages.{message_view}
use Rattle.pg_wire.specs.Layouts.{Means}

-- two texts and nothing behind them, made into a message
pub texts_alone : (message : List ℕ → List ℕ → Message) (s : List ℕ) →
    (text0_at s >>= λ first. text_alone (message first.0) first.1) ≡ option_map (λ (p : TextPair). message p.first p.second) (text_pair s)
texts_alone message s = elim (text0_at s) as (λ o. (o >>= λ first. text_alone (message first.0) first.1)
    ≡ option_map (λ (p : TextPair). message p.first p.second) (o >>= λ first. text0_at first.1 >>= λ second. if_all_read (record { first = first.0; second = second.0 }, second.1))) [
      | None ↦ refl
      | Some first ↦ behind first.0 first.1
    ]
  where
    end : (first second rest : List ℕ) → alone (message first second) rest
        ≡ option_map (λ (p : TextPair). message p.first p.second) (if_all_read (record { first = first; second = second }, rest))
    end first second [] = refl
    end first second (b ∷ rest) = refl

    behind : (first rest : List ℕ) → text_alone (message first) rest
        ≡ option_map (λ (p : TextPair). message p.first p.second) (text0_at rest >>= λ second. if_all_read (record { first = first; second = second.0 }, second.1))
    behind first rest = elim (text0_at rest) as (λ o. (o >>= λ text. alone (message first text.0) text.1)
        ≡ option_map (λ (p : TextPair). message p.first p.second) (o >>= λ second. if_all_read (record { first = first; second = second.0 }, second.1))) [
          | None ↦ refl
          | Some second ↦ end first second.0 second.1
        ]

-- a layout that reads or doesn't
by_layout : (raw : RawMessage) (read : Option Message) (b : Bool) →
    message_of raw ≡ elim read [ None ↦ Err spec.Layout | Some m ↦ Ok m ] → b ≡ is_some read → KeepsLayout raw b
by_layout raw None true is found = absurd cc
by_layout raw None false is found = is
by_layout raw (Some m) true is found = (m, is)
by_layout raw (Some m) false is found = absurd cc

some_pair : (s : List ℕ) (end : Option ℕ) → PairEnds s end → is_some end ≡ is_some (text_pair s)
some_pair s None ends = ap is_some (sym ends)
some_pair s (Some n) ends = ap is_some (sym ends.1)

some_mapped : {A B : Type 0} (f : A → B) (o : Option A) → is_some o ≡ is_some (option_map f o)
some_mapped f None = refl
some_mapped f (Some x) = refl

pub keeps_notice : (tag : ℕ) (body : List ℕ) → tag ≡ 78 → KeepsLayout (record { tag = tag; body = body }) true
keeps_notice tag body is = by_layout (record { tag = tag; body = body }) (Some (NoticeResponse body)) true (ap (λ (t : ℕ). message_of (record { tag = t; body = body })) is) refl

pub keeps_setting : (tag : ℕ) (body : List ℕ) (end : Option ℕ) (b : Bool) → tag ≡ 83 → PairEnds body end → b ≡ is_some end →
    KeepsLayout (record { tag = tag; body = body }) b
keeps_setting tag body end b is ends found = by_layout (record { tag = tag; body = body }) (parameter body) b (ap (λ (t : ℕ). message_of (record { tag = t; body = body })) is)
    (found ∙ some_pair body end ends ∙ some_mapped (λ (p : TextPair). ParameterStatus p.first p.second) (text_pair body)
    ∙ ap is_some (sym (texts_alone (λ first second. ParameterStatus first second) body)))

is_notified : (tag : ℕ) → is_aside_tag tag ≡ true → tag ≢ 78 → tag ≢ 83 → tag ≡ 65
is_notified tag aside not_notice not_setting = grind arith

-- the steps of a notification's reader
abbrev number : List ℕ × List ℕ → Option (ℕ × List ℕ)
number digits = Some (from_be_bytes w32 digits.0, digits.1)

abbrev signed : ℕ × List ℕ → Option (ℤ × List ℕ)
signed n = Some (cast_signed w32 n.0, n.1)

abbrev texts_behind : ℤ × List ℕ → Option Message
texts_behind id = text0_at id.1 >>= λ channel. text_alone (NotificationResponse id.0 channel.0) channel.1

-- the process id in front
id_read : (body : List ℕ) → 4 ≤ length body → notification body
    ≡ (text0_at (drop 4 body) >>= λ channel. text_alone (NotificationResponse (cast_signed w32 (from_be_bytes w32 (take 4 body))) channel.0) channel.1)
id_read body long =
    let both : List ℕ × List ℕ = (take 4 body, drop 4 body) in
    ap (λ b. option_and_then texts_behind (option_and_then signed (option_and_then number (cond b (Some both) None)))) (le-leb 4 (length body) long)

pub keeps_notified : (tag : ℕ) (body : List ℕ) (end : Option ℕ) (b : Bool) → is_aside_tag tag ≡ true → tag ≢ 78 → tag ≢ 83 → 4 ≤ length body →
    PairEnds (take (length body - 4) (drop 4 body)) end → b ≡ is_some end → KeepsLayout (record { tag = tag; body = body }) b
keeps_notified tag body end b aside not_notice not_setting long ends found =
    let rest : take (length body - 4) (drop 4 body) ≡ drop 4 body =
    ap (λ k. take k (drop 4 body)) (sym (length-drop 4 body)) ∙ take-length (drop 4 body) in
    let ends' : PairEnds (drop 4 body) end = subst (λ (x : List ℕ). PairEnds x end) rest ends in
    let id = cast_signed w32 (from_be_bytes w32 (take 4 body)) in
    by_layout (record { tag = tag; body = body }) (notification body) b (ap (λ (t : ℕ). message_of (record { tag = t; body = body })) (is_notified tag aside not_notice not_setting))
    (found ∙ some_pair (drop 4 body) end ends' ∙ some_mapped (λ (p : TextPair). NotificationResponse id p.first p.second) (text_pair (drop 4 body))
    ∙ ap is_some (sym (texts_alone (λ first second. NotificationResponse id first second) (drop 4 body)))
    ∙ ap is_some (sym (id_read body long)))

-- ---- off the front

-- the body in front, as the code cuts it
body_is : (s seen : List ℕ) (n : ℕ) → seen ≡ s → 5 ≤ n → take (n - 5) (drop 5 seen) ≡ drop 5 (take n s)
body_is s seen n same some =
    ap (λ (x : List ℕ). take (n - 5) (drop 5 x)) same ∙ sym (drop-take 5 (n - 5) s)
    ∙ ap (λ (k : ℕ). drop 5 (take k s)) (omega arith)

pub refuses_aside : (old looked seen : List ℕ) (n : ℕ) → looked ≡ old → seen ≡ old → IsWhole old n → is_aside_tag (get_or old 0 0) ≡ true →
    message_of (record { tag = get_or looked 0 0; body = take (n - 5) (drop 5 seen) }) ≡ Err spec.Layout → RefusesAside old old
refuses_aside old looked seen n same also whole aside broken =
    let is : ◌≡◌ {A = RawMessage} (record { tag = get_or looked 0 0; body = take (n - 5) (drop 5 seen) }) (message_of_bytes n old) =
    λ i. record { tag = get_or (same i) 0 0; body = body_is old seen n also whole.some i } in
    record {
      same = refl;
      raw = message_of_bytes n old;
      rest = messages (drop n old);
      front = messages_of_one old _ _ whole.front;
      aside = aside;
      broken = sym (ap message_of is) ∙ broken;
    }

-- what was looked at is what was cut off
pub same_aside : (old looked seen cut body : List ℕ) (n : ℕ) → looked ≡ old → seen ≡ old → 5 ≤ n → cut ≡ take n old → body ≡ drop 5 cut →
    ◌≡◌ {A = RawMessage} (record { tag = get_or looked 0 0; body = take (n - 5) (drop 5 seen) }) (record { tag = get_or looked 0 0; body = body })
same_aside old looked seen cut body n same also some front behind =
    ap (λ (x : List ℕ). record { tag = get_or looked 0 0; body = x }) (body_is old seen n also some ∙ sym (behind ∙ ap (drop 5) front))

abbrev ok_of : Message → Result Message spec.WireFault
ok_of m = Ok m

differ : (m : Message) (fault : spec.WireFault) → ok_of m ≡ Err fault → ⊥
differ m fault e = cc

-- it can't be refused any more
pub not_refused : (looked_at cut_off : RawMessage) (fault : wire_faults.WireFault) → looked_at ≡ cut_off → KeepsLayout looked_at true → Means cut_off (Err fault) → ⊥
not_refused a b wire_faults.TheVariants.BadLength same (m, ok) bad = bad
not_refused a b wire_faults.TheVariants.UnknownTag same (m, ok) bad = differ m spec.UnknownTag (sym ok ∙ ap message_of same ∙ bad)
not_refused a b wire_faults.TheVariants.Layout same (m, ok) bad = differ m spec.Layout (sym ok ∙ ap message_of same ∙ bad)
not_refused a b wire_faults.TheVariants.NotUtf8 same (m, ok) bad = bad
not_refused a b wire_faults.TheVariants.OutOfMemory same (m, ok) bad = bad

pub cuts_aside : (old new looked cut body : List ℕ) (n : ℕ) (message : wire.Message) → looked ≡ old → IsWhole old n → is_aside_tag (get_or old 0 0) ≡ true →
    cut ≡ take n old → new ≡ drop n old → body ≡ drop 5 cut →
    message_of (record { tag = get_or looked 0 0; body = body }) ≡ Ok (message_view message) → CutsAside old new message
cuts_aside old new looked cut body n message same whole aside front left behind means =
    let is : ◌≡◌ {A = RawMessage} (record { tag = get_or looked 0 0; body = body }) (message_of_bytes n old) =
    λ i. record { tag = get_or (same i) 0 0; body = (behind ∙ ap (drop 5) front) i } in
    record {
      raw = message_of_bytes n old;
      cuts = subst (λ (x : List ℕ). CutsOff old x (message_of_bytes n old ∷ [])) (sym left) (cuts_one old n whole);
      aside = aside;
      means = sym (ap message_of is) ∙ means;
    }
