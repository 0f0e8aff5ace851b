-- How far a write goes: the frame in front is found by its header, and what it does is the same without the bytes behind it.
use Rattle.std.proofs.Common.{◌≡◌, ℕ, ◌+◌, ◌-◌, ◌<◌, ◌≤◌, Bool, true, false, not, ◌&&◌, inl, inr, List, [], ◌∷◌, ◌++◌, Option, Some, None, Result, Ok, Err, refl, sym, ap, subst, ◌∙◌, cond, arith, length, take, drop, append-nil, to_z, of_z, ℤ, pos, ◌≤ℤ◌, ◌<ℤ◌}
use Rattle.std.specs.Prelude.{min, nat_lt, IfSome, ◌↔◌}
use Rattle.std.specs.Int.{w32}
use Rattle.std.proofs.lemmas.Bool.{cases_lt, ltb-true, ltb-false}
use Rattle.std.proofs.lemmas.Int.{by_lt_z}
use Rattle.std.proofs.lemmas.List.{length-append, length-drop, length-take, length-replicate, take_min, take_at}
use Rattle.std.proofs.lemmas.Option.{none-some}
use Rattle.std.proofs.Math.ListN.{replicate}
use Rattle.std.proofs.Math.Seq.{take-length}
use lib.IntN.{nat_abs}
use Rattle.pg_types.specs.declared.faults.WireFault.{WireFault}
use Rattle.pg_types.specs.declared.faults.WireFault.TheVariants.{BadLength}
use Rattle.pg_spec.specs.ClientFrames.{ClientFrame}
use Rattle.pg_spec.specs.RawMessages.{RawMessage, message_at, has_bad_header}
use Rattle.pg_spec.proofs.MessageLaws.{message_at-Reader}
use Rattle.pg_wire.specs.declared.header.Header.{Header}
use Rattle.pg_wire.specs.declared.link.LinkWrite.{LinkWrite}
use Rattle.pg_wire.specs.declared.link.LinkWrite.TheVariants as writes
use Rattle.pg_wire.specs.Fronts.{IsWhole, message_of_bytes}
use Rattle.pg_wire.specs.Header.{StandsAtFront, HasBadLength, length_field, len_of}
use Rattle.pg_wire.proofs.Pieces.{whole_by_header}
use Rattle.pg_machine.specs.Sessions.{spoken}
use Rattle.pg_server.specs.Copies.{Copied, Lengthens}
use Rattle.pg_server.specs.Crossings as crossing
use Rattle.pg_server.specs.Crossings.{Crossed}
use Rattle.pg_server.specs.declared.fault.ServerFault.{ServerFault}
use Rattle.pg_server.specs.declared.fault.ServerFault.TheVariants as faults
use Rattle.pg_server.specs.declared.session.Stage.{Stage}
use Rattle.pg_server.specs.declared.session.Stage.TheVariants.{Opening, Serves, Over}
use Rattle.pg_server.specs.Frames.{frame_or_fault}
use Rattle.pg_server.specs.Handlers.{Step}
use Rattle.pg_server.specs.Reaches.{frame_reach, reach_of, IsFrontLen}
use Rattle.pg_server.specs.ServerLinks.{Served, TakesIn, front_by}
use Rattle.pg_server.specs.Settled.{is_none, is_settled}
use Rattle.pg_server.specs.Standings.{Standing, Front, Says, Stops, is_broken, replied, behind_frame, reading, serving, at_stage, front}
use Rattle.pg_server.proofs.AloneLaws.{message_at-alone}
use Rattle.pg_server.proofs.CutLaws.{IsBehind, message_at-behind}
use Rattle.pg_server.proofs.SettledLaws.{same_front, same_back}

-- ---- the length of the frame in front

-- what was copied of two pieces is the front of both
pub head_is : (left bytes start one two : List ℕ) (n m : ℕ) → Lengthens left start 0 one n → Lengthens bytes one n two m → length two ≡ 5 → take m two ≡ take 5 (left ++ bytes)
head_is left bytes start one two n m first second size =
    let none : Copied [] start 0 = record { count = omega arith; front = refl } in
    let was : Copied (left ++ bytes) two m = second left (first [] none) in
    let count : m ≡ min 5 (length (left ++ bytes)) = omega (arith, was.count, size) in
    was.front ∙ ap (λ (k : ℕ). take k (left ++ bytes)) count ∙ take_min 5 (left ++ bytes)

-- what a reader of headers answers
abbrev read : Option Header → Result (Option Header) WireFault
read found = Ok found

-- a header of these bytes is one of all
same_field : (s more : List ℕ) → 5 ≤ length s → length_field (take 5 s) ≡ length_field (s ++ more)
same_field [] more five = absurd (omega arith)
same_field (t ∷ []) more five = absurd (omega arith)
same_field (t ∷ a ∷ []) more five = absurd (omega arith)
same_field (t ∷ a ∷ b ∷ []) more five = absurd (omega arith)
same_field (t ∷ a ∷ b ∷ c ∷ []) more five = absurd (omega arith)
same_field (t ∷ a ∷ b ∷ c ∷ d ∷ r) more five = refl

-- a header stands there
pub front_len-some : (s h : List ℕ) (found : Option Header) (header : Header) (len : ℤ) → h ≡ take 5 s → found ≡ Some header →
    ((read found ≡ read None) ↔ (length h < 5)) → IfSome found (StandsAtFront h) → ((read found ≡ Err BadLength) ↔ HasBadLength h) → len ≡ len_of header →
    IsFrontLen s (Some (nat_abs (to_z w32 (of_z w32 len)) + 1))
front_len-some s h found header len h_is e incomplete stands bad is more fits =
    let five : 5 ≤ length h = elim (cases_lt (length h) 5) [ inl short ↦ absurd (none_found (incomplete.1 short)) | inr enough ↦ enough ] in
    let all : 5 ≤ length s = omega (arith, five, ap length h_is, length-take 5 s) in
    let here : StandsAtFront h header = subst (λ (o : Option Header). IfSome o (StandsAtFront h)) e stands in
    let low : pos 4 ≤ℤ length_field h = by_lt_z (length_field h) (pos 4) (λ less. absurd (no_err (bad.1 (five, less)))) (λ enough. enough) in
    let len_is : len ≡ length_field (s ++ more) = is ∙ here.len ∙ ap length_field h_is ∙ same_field s more all in
    whole_by_header (s ++ more) len (omega (arith, all, length-append s more)) len_is (subst (λ (z : ℤ). pos 4 ≤ℤ z) (sym (is ∙ here.len)) low) fits
  where
    none_found : read found ≡ read None → ⊥
    none_found f = cc

    no_err : read found ≡ Err BadLength → ⊥
    no_err f = cc

bad_header : (s : List ℕ) → HasBadLength s → has_bad_header s ≡ true
bad_header s b = grind arith

bad_none : (s : List ℕ) → has_bad_header s ≡ true → message_at s ≡ None
bad_none s b = grind arith

short : (s : List ℕ) → length s < 5 → message_at s ≡ None
short s less = grind arith

same_bad : (s : List ℕ) → HasBadLength (take 5 s) → HasBadLength s
same_bad s (five, low) =
    let all : 5 ≤ length s = omega (arith, five, length-take 5 s) in
    (all, subst (λ (z : ℤ). z <ℤ pos 4) (same_field s [] all ∙ ap length_field (append-nil s)) low)

-- none stands there yet
pub front_len-none : (s h : List ℕ) → h ≡ take 5 s → length h < 5 → message_at s ≡ None
front_len-none s h h_is less = short s (omega (arith, less, ap length h_is, length-take 5 s))

-- a bad one stands there
pub front_len-bad : (s h : List ℕ) → h ≡ take 5 s → HasBadLength h → message_at s ≡ None
front_len-bad s h h_is b = bad_none s (bad_header s (same_bad s (subst HasBadLength h_is b)))

-- ---- how far it reaches

abbrev by_message : List ℕ → Option (RawMessage × List ℕ) → ℕ
by_message bytes o = elim o [ None ↦ length bytes | Some m ↦ length bytes - length m.1 ]

pub reach-none : (left bytes : List ℕ) → message_at (left ++ bytes) ≡ None → length bytes ≡ frame_reach left bytes
reach-none left bytes e = sym (ap (by_message bytes) e)

pub reach-some : (left bytes : List ℕ) (len : ℕ) → IsFrontLen (left ++ bytes) (Some len) → min (len - length left) (length bytes) ≡ frame_reach left bytes
reach-some left bytes len whole =
    elim (message_at s) as (λ o. message_at s ≡ o → min (len - length left) (length bytes) ≡ by_message bytes o) [
      | None ↦ λ e. elim (cases_lt (length s) len) [ inl more ↦ omega (arith, more, size) | inr fits ↦ absurd (never e fits) ]
      | Some m ↦ λ e.
          let known : message_at (s ++ pad) ≡ Some (m.0, m.1 ++ pad) = message_at-Reader s m.0 m.1 pad e in
          let there : IsWhole (s ++ pad) len = whole pad (omega (arith, length-append s pad, pads)) in
          let rest : m.1 ++ pad ≡ drop len (s ++ pad) = rest_is known there.front in
          omega (arith, size, pads, ap length rest, length-append m.1 pad, length-append s pad, length-drop len (s ++ pad))
    ] refl
  where
    s : List ℕ
    s = left ++ bytes

    pad : List ℕ
    pad = replicate len 0

    pads : length pad ≡ len
    pads = length-replicate len 0

    size : length s ≡ length left + length bytes
    size = length-append left bytes

    never : message_at s ≡ None → len ≤ length s → ⊥
    never none fits =
        let there : IsWhole (s ++ []) len = whole [] (omega (arith, fits, ap length (append-nil s))) in
        none-some (message_of_bytes len (s ++ []), drop len (s ++ [])) (sym none ∙ ap message_at (sym (append-nil s)) ∙ there.front)

    rest_is : {o : Option (RawMessage × List ℕ)} {a b : RawMessage × List ℕ} → o ≡ Some a → o ≡ Some b → a.1 ≡ b.1
    rest_is p q = cc

-- ---- what the frame does, without the bytes behind it

-- these bytes are cut behind the frame in front
record IsCutBehind (stage : Stage) (left bytes : List ℕ) (n : ℕ) : Type 0 where
  serves : stage ≡ Serves
  m : RawMessage
  piece : List ℕ
  rest : List ℕ
  is : piece ++ rest ≡ bytes
  count : n ≡ length piece
  some : 1 ≤ length piece
  alone : message_at (left ++ piece) ≡ Some (m, [])
  whole : message_at (left ++ bytes) ≡ Some (m, rest)

-- all of them, or those
data Reached (stage : Stage) (left bytes : List ℕ) (n : ℕ) : Type 0 where
  All : (all : n ≡ length bytes) → Reached stage left bytes n
  Cut : (cut : IsCutBehind stage left bytes n) → Reached stage left bytes n

cut_behind : (left bytes : List ℕ) (m : RawMessage) (rest : List ℕ) → is_settled Serves left ≡ true → message_at (left ++ bytes) ≡ Some (m, rest) →
    IsCutBehind Serves left bytes (length bytes - length rest)
cut_behind left bytes m rest settled e = by_size (message_at-behind (left ++ bytes) m rest e) (nat_lt (length rest) (length bytes)) refl
  where
    never : (o : Option (RawMessage × List ℕ)) (p : RawMessage × List ℕ) → o ≡ Some p → (is_none o && not (has_bad_header left)) ≡ true → ⊥
    never None p e t = absurd (none-some p e)
    never (Some q) p e t = absurd cc

    by_size : IsBehind (left ++ bytes) rest 1 → (t : Bool) → nat_lt (length rest) (length bytes) ≡ t → IsCutBehind Serves left bytes (length bytes - length rest)
    by_size is true less =
        let alone : message_at is.gone ≡ Some (m, []) = message_at-alone is.gone rest m (ap message_at is.is ∙ e) in
        let cut = same_front is.gone rest left bytes is.is (ltb-true (length rest) (length bytes) less) in
        record {
          serves = refl;
          m = m;
          piece = cut.0;
          rest = rest;
          is = cut.2;
          count = omega (arith, length-append cut.0 rest, ap length cut.2);
          some = omega (arith, ltb-true (length rest) (length bytes) less, length-append cut.0 rest, ap length cut.2);
          alone = ap message_at (sym cut.1) ∙ alone;
          whole = e;
        }
    by_size is false more =
        let alone : message_at is.gone ≡ Some (m, []) = message_at-alone is.gone rest m (ap message_at is.is ∙ e) in
        let back = same_back is.gone rest left bytes is.is (ltb-false (length rest) (length bytes) more) in
        absurd (never (message_at left) (m, back.0) (ap message_at (sym back.1) ∙ message_at-Reader is.gone m [] back.0 alone) settled)

reached : (stage : Stage) (left bytes : List ℕ) (n : ℕ) → is_settled stage left ≡ true → n ≡ reach_of stage left bytes → Reached stage left bytes n
reached stage left bytes n settled n_is = subst (Reached stage left bytes) (sym n_is) (by_stage stage settled)
  where
    by_stage : (stage : Stage) → is_settled stage left ≡ true → Reached stage left bytes (reach_of stage left bytes)
    by_stage Opening settled = All refl
    by_stage Over settled = All refl
    by_stage Serves settled =
        elim (message_at (left ++ bytes)) as (λ o. message_at (left ++ bytes) ≡ o → Reached Serves left bytes (by_message bytes o)) [
          | None ↦ λ e. All refl
          | Some m ↦ λ e. Cut (cut_behind left bytes m.0 m.1 settled e)
        ] refl

-- they are that piece
piece_is : (piece rest bytes : List ℕ) (n : ℕ) → piece ++ rest ≡ bytes → n ≡ length piece → take n bytes ≡ piece
piece_is piece rest bytes n is count = ap (take n) (sym is) ∙ take_at piece rest n (sym count)

-- none of them stands behind the frame
pub reach-ends : (stage : Stage) (left bytes : List ℕ) (n : ℕ) → is_settled stage left ≡ true → n ≡ reach_of stage left bytes →
    reach_of stage left (take n bytes) ≡ length (take n bytes)
reach-ends stage left bytes n settled n_is = by_reach (reached stage left bytes n settled n_is)
  where
    by_reach : Reached stage left bytes n → reach_of stage left (take n bytes) ≡ length (take n bytes)
    by_reach (All all) =
        let same : take n bytes ≡ bytes = ap (λ (k : ℕ). take k bytes) all ∙ take-length bytes in
        ap (reach_of stage left) same ∙ sym n_is ∙ all ∙ ap length (sym same)
    by_reach (Cut c) =
        let same : take n bytes ≡ c.piece = piece_is c.piece c.rest bytes n c.is c.count in
        ap (λ (at : Stage). reach_of at left (take n bytes)) c.serves ∙ ap (frame_reach left) same ∙ ap (by_message c.piece) c.alone
        ∙ omega arith ∙ ap length (sym same)

-- what the frame does with some bytes behind it
reads : {S : Type 0} (step : Step S) (at : Standing S) (s : List ℕ) (m : RawMessage) (rest : List ℕ) → at.stage ≡ Serves → message_at s ≡ Some (m, rest) →
    front step at s ≡ reading step at m rest (frame_or_fault m)
reads step at s m rest serves e =
    ap (at_stage step at s) serves ∙ ap (λ (o : Option (RawMessage × List ℕ)). serving step at o (has_bad_header s)) e

-- what is refused is refused without the bytes behind it
pub reach-stops : {S : Type 0} (step : Step S) (at : Standing S) (left bytes : List ℕ) (n : ℕ) (fault : ServerFault) → is_settled at.stage left ≡ true → n ≡ reach_of at.stage left bytes →
    0 < length bytes → front step at (left ++ bytes) ≡ Stops fault → (1 ≤ n) × (n ≤ length bytes) × (front step at (left ++ take n bytes) ≡ Stops fault)
reach-stops {S = S} step at left bytes n fault settled n_is some stops = by_reach (reached at.stage left bytes n settled n_is)
  where
    stopped : (m : RawMessage) (rest : List ℕ) (f : Result ClientFrame WireFault) → reading step at m rest f ≡ Stops fault → reading step at m [] f ≡ Stops fault
    stopped m rest (Err f) e = e
    stopped m rest (Ok frame) e = by_test (is_broken step at m frame) e
      where
        chosen : Bool → List ℕ → Front S
        chosen t rest = cond t (Stops (faults.BadEffect at.answered)) (Says (spoken (replied step at m).reply) (behind_frame at m (replied step at m).next) rest)

        by_test : (t : Bool) → chosen t rest ≡ Stops fault → chosen t [] ≡ Stops fault
        by_test true e = e
        by_test false e = absurd cc

    by_reach : Reached at.stage left bytes n → (1 ≤ n) × (n ≤ length bytes) × (front step at (left ++ take n bytes) ≡ Stops fault)
    by_reach (All all) =
        let same : take n bytes ≡ bytes = ap (λ (k : ℕ). take k bytes) all ∙ take-length bytes in
        (omega (arith, all, some), omega (arith, all), ap (λ (b : List ℕ). front step at (left ++ b)) same ∙ stops)
    by_reach (Cut c) =
        let same : take n bytes ≡ c.piece = piece_is c.piece c.rest bytes n c.is c.count in
        let fits : n ≤ length bytes = omega (arith, c.count, length-append c.piece c.rest, ap length c.is) in (
          omega (arith, c.count, c.some),
          fits,
          ap (λ (b : List ℕ). front step at (left ++ b)) same
              ∙ reads step at (left ++ c.piece) c.m [] c.serves c.alone
              ∙ stopped c.m c.rest (frame_or_fault c.m) (sym (reads step at (left ++ bytes) c.m c.rest c.serves c.whole) ∙ stops),
        )

-- ---- a write of just these bytes

pub reach-TakesIn : {S : Type 0} (step : Step S) (old new : Served S) (bytes : List ℕ) (n : ℕ) (r : LinkWrite) → is_settled old.heard.standing.stage old.heard.left ≡ true →
    n ≡ reach_of old.heard.standing.stage old.heard.left bytes → TakesIn old new (take n bytes) (front_by step old (take n bytes)) r → TakesIn old new bytes (front_by step old bytes) r
reach-TakesIn {S = S} step old new bytes n r settled n_is takes = by_reach (reached old.heard.standing.stage old.heard.left bytes n settled n_is)
  where
    at : Standing S
    at = old.heard.standing

    ends : reach_of at.stage old.heard.left (take n bytes) ≡ length (take n bytes)
    ends = reach-ends at.stage old.heard.left bytes n settled n_is

    -- all of the piece was taken: so much of all
    same_piece : (piece rest : List ℕ) (k : ℕ) → piece ++ rest ≡ bytes → k ≡ length piece → take k piece ≡ take k bytes
    same_piece piece rest k is all = ap (λ (j : ℕ). take j piece) all ∙ take-length piece ∙ sym (piece_is piece rest bytes k is all)

    stopped : (piece rest : List ℕ) (f : ServerFault) (r : LinkWrite) → piece ++ rest ≡ bytes → n ≡ length piece → reach_of at.stage old.heard.left piece ≡ length piece →
        TakesIn old new piece (Stops f) r → TakesIn old new bytes (Stops f) r
    stopped piece rest f (writes.Took k) is count ends (reach, over, crossed, fault) = (
      reach ∙ ends ∙ sym count ∙ n_is,
      over,
      crossed ∙ ap (λ (b : List ℕ). crossing.took old.crossed b []) (same_piece piece rest k is (reach ∙ ends)),
      fault,
    )
    stopped piece rest f writes.Failed is count ends d = absurd d
    stopped piece rest f writes.OutOfMemory is count ends d = d
    stopped piece rest f writes.NotReady is count ends d = absurd d

    answered : (piece rest said : List ℕ) (next : Standing S) (r : LinkWrite) → piece ++ rest ≡ bytes → TakesIn old new piece (Says said next []) r → TakesIn old new bytes (Says said next rest) r
    answered piece rest said next (writes.Took k) is (least, count, new_is) =
        let all : k ≡ length piece = omega (arith, count) in (
          least,
          omega (arith, all, length-append piece rest, ap length is),
          new_is ∙ ap (λ (b : List ℕ). record old { heard = record { standing = next; left = [] }; crossed = crossing.took old.crossed b said }) (same_piece piece rest k is all),
        )
    answered piece rest said next writes.Failed is d = absurd d
    answered piece rest said next writes.OutOfMemory is d = d
    answered piece rest said next writes.NotReady is d = absurd d

    by_frame : (piece rest : List ℕ) (m : RawMessage) (f : Result ClientFrame WireFault) → piece ++ rest ≡ bytes → n ≡ length piece → reach_of at.stage old.heard.left piece ≡ length piece →
        TakesIn old new piece (reading step at m [] f) r → TakesIn old new bytes (reading step at m rest f) r
    by_frame piece rest m (Err f) is count ends d = stopped piece rest (faults.BadFrame f) r is count ends d
    by_frame piece rest m (Ok frame) is count ends d = by_test (is_broken step at m frame) d
      where
        chosen : Bool → List ℕ → Front S
        chosen t rest = cond t (Stops (faults.BadEffect at.answered)) (Says (spoken (replied step at m).reply) (behind_frame at m (replied step at m).next) rest)

        by_test : (t : Bool) → TakesIn old new piece (chosen t []) r → TakesIn old new bytes (chosen t rest) r
        by_test true d = stopped piece rest (faults.BadEffect at.answered) r is count ends d
        by_test false d = answered piece rest (spoken (replied step at m).reply) (behind_frame at m (replied step at m).next) r is d

    by_reach : Reached at.stage old.heard.left bytes n → TakesIn old new bytes (front_by step old bytes) r
    by_reach (All all) =
        let same : take n bytes ≡ bytes = ap (λ (k : ℕ). take k bytes) all ∙ take-length bytes in
        subst (λ (b : List ℕ). TakesIn old new b (front_by step old b) r) same takes
    by_reach (Cut c) =
        let same : take n bytes ≡ c.piece = piece_is c.piece c.rest bytes n c.is c.count in
        let piece_ends : reach_of at.stage old.heard.left c.piece ≡ length c.piece
        = subst (λ (b : List ℕ). reach_of at.stage old.heard.left b ≡ length b) same ends in
        let inner : TakesIn old new c.piece (reading step at c.m [] (frame_or_fault c.m)) r
        = subst (λ (x : Front S). TakesIn old new c.piece x r) (reads step at (old.heard.left ++ c.piece) c.m [] c.serves c.alone)
        (subst (λ (b : List ℕ). TakesIn old new b (front_by step old b) r) same takes) in
        subst (λ (x : Front S). TakesIn old new bytes x r) (sym (reads step at (old.heard.left ++ bytes) c.m c.rest c.serves c.whole))
        (by_frame c.piece c.rest c.m (frame_or_fault c.m) c.is c.count piece_ends inner)
