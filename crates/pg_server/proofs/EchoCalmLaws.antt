-- A server that echoes has no fault for simple queries.
use Rattle.std.proofs.Common.{append_assoc, append-nil, ◌≡◌, ℕ, zero, suc, ◌+◌, ◌-◌, ◌^◌, ◌<◌, Bool, true, false, not, ◌&&◌, ◌||◌, ◌==◌, cond, List, [], ◌∷◌, ◌++◌, Option, Some, None, Result, Ok, Err, refl, sym, ap, ◌∙◌, arith, length, map}
use Rattle.std.specs.Prelude.{nat_lt, if◌then◌else◌}
use Rattle.std.specs.Int.{w32, to_be_bytes}
use Rattle.std.specs.List.{AllByRecursion, concat, flat_map, list_any}
use Rattle.std.specs.Option.{option_and_then}
use Rattle.std.specs.Str.{byte, bytes_eq}
use Rattle.std.proofs.lemmas.Bool.{le-leb, lt-ltb, ltb-true, ltb-false, ne_eqb}
use Rattle.std.proofs.lemmas.List.Folds.{list_any-append}
use Rattle.pg_types.specs.declared.faults.WireFault.TheVariants.{BadLength, Layout, NotUtf8}
use Rattle.pg_spec.specs.Batches.{is_nothing}
use Rattle.pg_spec.specs.Bytes.{◌>>=◌, if_all_read, text0, text0_at, items_of}
use Rattle.pg_spec.specs.Bodies.{name_at}
use Rattle.pg_spec.specs.ClientFrames as spec
use Rattle.pg_spec.specs.ClientFrames.{ClientFrame, client_frame_of, pair_at}
use Rattle.pg_spec.specs.Faults as found
use Rattle.pg_spec.specs.Faults.{FrameFault}
use Rattle.pg_spec.specs.Frames.{has_zero, startup_body, startup_frame, terminate_frame, unless_fault, untagged}
use Rattle.pg_spec.specs.RawMessages.{RawMessage, bytes_left, has_bad_header, message_at, message_bytes, messages}
use Rattle.pg_spec.proofs.MessageLaws.{Fits, message_at_front, messages-front}
use Rattle.pg_spec.proofs.Readers.{bytes_at_front, items_of-none, items_of-some, number_at_front}
use Rattle.pg_wire.proofs.Cuts.{left_of_one}
use Rattle.pg_machine.specs.declared.serving.Mode.{Mode}
use Rattle.pg_machine.specs.declared.serving.Mode.TheVariants.{Normal}
use Rattle.pg_machine.specs.Requests.{is_sound}
use Rattle.pg_machine.specs.Serving as serving
use Rattle.pg_machine.specs.Serving.{kind_of, turn}
use Rattle.pg_machine.specs.Sessions.{spoken}
use Rattle.pg_server.specs.declared.fault.ServerFault.TheVariants as faults
use Rattle.pg_server.specs.declared.handler.Effect.{Effect}
use Rattle.pg_server.specs.declared.session.Stage.TheVariants.{Serves}
use Rattle.pg_server.specs.Answers.{asks}
use Rattle.pg_server.specs.Echoes.{IsTextQuery, complete, data_row, description, echo_step, not_here, rows_of}
use Rattle.pg_server.specs.Frames.{frame_or_fault, with_texts}
use Rattle.pg_server.specs.Handlers.{may_give, service_of}
use Rattle.pg_server.specs.Hearing.{Said, said_to}
use Rattle.pg_server.specs.Openings as opening
use Rattle.pg_server.specs.Openings.{InFront, is_length, is_parameters, opening_behind, opening_by, opening_in_front, starting}
use Rattle.pg_server.specs.Standings as fronts
use Rattle.pg_server.specs.Standings.{Says, Standing, Stops, at_stage, behind_frame, front, is_broken, opened, reading, replied, unfed}
use Rattle.pg_server.proofs.HearingLaws.{said_to-says, said_to-waits}
use Rattle.pg_server.proofs.OpeningLaws.{pair_at-Shrinks}

or_false : (a b : Bool) → (a || b) ≡ false → (a ≡ false) × (b ≡ false)
or_false true b e = absurd cc
or_false false b e = (refl, e)

-- ---- a text up to its zero byte

text_front : (t more : List ℕ) → has_zero t ≡ false → text0_at (text0 t ++ more) ≡ Some (t, more)
text_front [] more e = refl
text_front (zero ∷ t) more e = absurd cc
text_front (suc b ∷ t) more e =
    ap (option_and_then (λ (x : List ℕ × List ℕ). Some (suc b ∷ x.0, x.1))) (text_front t more (or_false (suc b == 0) (has_zero t) e).1)

-- ---- the startup frame

abbrev HasName : List ℕ × List ℕ → Type 0
HasName pair = 0 < length pair.0

name_front : (name more : List ℕ) → 0 < length name → has_zero name ≡ false → name_at (text0 name ++ more) ≡ Some (name, more)
name_front name more some calm =
    ap (λ (o : Option (List ℕ × List ℕ)). elim o [ None ↦ None | Some text ↦ cond (length text.0 == 0) None (Some text) ]) (text_front name more calm)
    ∙ ap (λ b. cond b None (Some (name, more))) (ne_eqb (length name) 0 (λ is. omega (arith, some, is)))

pair_front : (pair : List ℕ × List ℕ) (more : List ℕ) → HasName pair → has_zero pair.0 ≡ false → has_zero pair.1 ≡ false → pair_at (text0 pair.0 ++ (text0 pair.1 ++ more)) ≡ Some (pair, more)
pair_front pair more some calm also =
    ap (option_and_then (λ (name : List ℕ × List ℕ). text0_at name.1 >>= λ value. Some ((name.0, value.0), value.1)))
    (name_front pair.0 (text0 pair.1 ++ more) some calm)
    ∙ ap (option_and_then (λ (value : List ℕ × List ℕ). Some ((pair.0, value.0), value.1))) (text_front pair.1 more also)

-- no text of the pairs holds a zero byte
abbrev no_zero : List (List ℕ × List ℕ) → Type 0
no_zero pairs = (list_any has_zero (map (λ pair. pair.0) pairs) ≡ false) × (list_any has_zero (map (λ pair. pair.1) pairs) ≡ false)

abbrev pairs_bytes : List (List ℕ × List ℕ) → List ℕ
pairs_bytes pairs = flat_map (λ pair. text0 pair.0 ++ text0 pair.1) pairs

pairs_left : (pairs : List (List ℕ × List ℕ)) → AllByRecursion HasName pairs → no_zero pairs → (items_of pair_at (pairs_bytes pairs ++ 0 ∷ [])).1 ≡ 0 ∷ []
pairs_left [] named calm = ap (λ (r : List (List ℕ × List ℕ) × List ℕ). r.1) (items_of-none pair_at pair_at-Shrinks (0 ∷ []) refl)
pairs_left (pair ∷ pairs) named calm =
    let more : List ℕ = pairs_bytes pairs ++ 0 ∷ [] in
    let names = or_false (has_zero pair.0) (list_any has_zero (map (λ p. p.0) pairs)) calm.0 in
    let values = or_false (has_zero pair.1) (list_any has_zero (map (λ p. p.1) pairs)) calm.1 in
    let behind : pairs_bytes (pair ∷ pairs) ++ 0 ∷ [] ≡ text0 pair.0 ++ (text0 pair.1 ++ more)
    = append_assoc (text0 pair.0 ++ text0 pair.1) (pairs_bytes pairs) (0 ∷ []) ∙ append_assoc (text0 pair.0) (text0 pair.1) more in
    ap (λ (l : List ℕ). (items_of pair_at l).1) behind
    ∙ ap (λ (r : List (List ℕ × List ℕ) × List ℕ). r.1)
    (items_of-some pair_at pair_at-Shrinks (text0 pair.0 ++ (text0 pair.1 ++ more)) pair more (pair_front pair more named.0 names.0 values.0))
    ∙ pairs_left pairs named.1 (names.1, values.1)

-- what was written is no longer than a length says, and has no text with a zero byte
record IsWritten (pairs : List (List ℕ × List ℕ)) (frame : List ℕ) : Type 0 where
  calm : no_zero pairs
  short : 4 + length (startup_body pairs) < 2 ^ 31
  spelled : frame ≡ untagged (startup_body pairs)

abbrev by_tests : Bool → Bool → List ℕ → Result (List ℕ) FrameFault
by_tests zeros long bytes = unless_fault (cond zeros (Some found.ZeroByte) (cond long (Some found.TooLong) None)) bytes

abbrev texts_of : List (List ℕ × List ℕ) → List (List ℕ)
texts_of pairs = map (λ pair. pair.0) pairs ++ map (λ pair. pair.1) pairs

is_written : (pairs : List (List ℕ × List ℕ)) (frame : List ℕ) → startup_frame pairs ≡ Ok frame → IsWritten pairs frame
is_written pairs frame written = by_cases (list_any has_zero (texts_of pairs)) (nat_lt 2147483647 (4 + length (startup_body pairs))) refl refl written
  where
    by_cases : (zeros long : Bool) → list_any has_zero (texts_of pairs) ≡ zeros → nat_lt 2147483647 (4 + length (startup_body pairs)) ≡ long →
        by_tests zeros long (untagged (startup_body pairs)) ≡ Ok frame → IsWritten pairs frame
    by_cases true long z l e = absurd cc
    by_cases false true z l e = absurd cc
    by_cases false false z l e = record {
      calm = or_false _ _ (sym (list_any-append has_zero (map (λ pair. pair.0) pairs) (map (λ pair. pair.1) pairs)) ∙ z);
      short = omega (arith, ltb-false 2147483647 (4 + length (startup_body pairs)) l);
      spelled = cc;
    }

-- a server finds it
starts : (pairs : List (List ℕ × List ℕ)) (frame more : List ℕ) → AllByRecursion HasName pairs → startup_frame pairs ≡ Ok frame → opening_in_front (frame ++ more) ≡ opening.Starts more
starts pairs frame more named e =
    ap (λ (f : List ℕ). opening_in_front (f ++ more)) w.spelled
    ∙ ap opening_in_front (append_assoc (to_be_bytes w32 n) (startup_body pairs) more)
    ∙ ap by_number (number_at_front n (startup_body pairs ++ more) (omega (arith, w.short)))
    ∙ ap (λ b. cond b (opening_behind n (startup_body pairs ++ more)) (opening.Breaks (faults.BadFrame BadLength))) long
    ∙ ap by_code (number_at_front 196608 (parameters ++ more) (omega arith))
    ∙ ap by_rest (bytes_at_front parameters more (n - 8) (omega arith))
    ∙ ap (λ b. cond b (opening.Starts more) (opening.Breaks (faults.BadFrame Layout))) ended
  where
    parameters : List ℕ
    parameters = flat_map (λ pair. text0 pair.0 ++ text0 pair.1) pairs ++ 0 ∷ []

    n : ℕ
    n = 4 + length (startup_body pairs)

    w : IsWritten pairs frame
    w = is_written pairs frame e

    long : is_length n ≡ true
    long = rw (le-leb 8 n (omega arith), lt-ltb n (2 ^ 31) w.short) refl

    ended : is_parameters parameters ≡ true
    ended = ap (λ (l : List ℕ). bytes_eq l (0 ∷ [])) (pairs_left pairs named w.calm)

    by_number : Option (ℕ × List ℕ) → InFront
    by_number o = elim o [ None ↦ opening.Short | Some k ↦ if is_length k.0 then opening_behind k.0 k.1 else opening.Breaks (faults.BadFrame BadLength) ]

    by_code : Option (ℕ × List ℕ) → InFront
    by_code o = elim o [ None ↦ opening.Short | Some code ↦ opening_by n code.0 code.1 ]

    by_rest : Option (List ℕ × List ℕ) → InFront
    by_rest o = elim o [ None ↦ opening.Short | Some p ↦ if is_parameters p.0 then opening.Starts p.1 else opening.Breaks (faults.BadFrame Layout) ]

-- ---- what is echoed may be given

abbrev query_of : List ℕ → RawMessage
query_of text = record { tag = byte "Q"; body = text0 text }

abbrev effect_of : List ℕ → Effect
effect_of reply = record { reply = reply; opens = false }

heard : (ms : List RawMessage) → AllByRecursion Fits ms → (messages (spoken ms) ≡ ms) × (bytes_left (spoken ms) ≡ [])
heard [] fit = (refl, refl)
heard (m ∷ ms) fit =
    let rest = heard ms fit.1 in (
      messages-front m (spoken ms) fit.0 ∙ ap (λ (l : List RawMessage). m ∷ l) rest.0,
      left_of_one (message_bytes m ++ spoken ms) m (spoken ms) (message_at_front m (spoken ms) fit.0) ∙ rest.1,
    )

-- sound messages
may-give : (raw : RawMessage) (ms : List RawMessage) → AllByRecursion Fits ms → is_sound raw (record { reply = ms; opens = false }) ≡ true → may_give raw (effect_of (spoken ms)) ≡ true
may-give raw ms fit sound =
    let all = heard ms fit in
    ap (λ (l : List ℕ). (is_nothing l && is_sound raw (record { reply = messages (spoken ms); opens = false })) && true) all.1
    ∙ ap (λ (l : List RawMessage). is_sound raw (record { reply = l; opens = false }) && true) all.0
    ∙ ap (λ (b : Bool). b && true) sound

rows_are : (text : List ℕ) → rows_of text ≡ spoken (description ∷ data_row text ∷ complete ∷ [])
rows_are text =
    append_assoc (message_bytes description) (message_bytes (data_row text)) (message_bytes complete)
    ∙ ap (λ (l : List ℕ). message_bytes description ++ (message_bytes (data_row text) ++ l)) (sym (append-nil (message_bytes complete)))

row-size : (k : ℕ) → 4 + suc (suc (suc (suc (suc (suc k))))) ≡ 10 + k
row-size k = omega arith

rows-sound : (text : List ℕ) → nat_lt (10 + length text) (2 ^ 31) ≡ true → is_sound (query_of text) (record { reply = description ∷ data_row text ∷ complete ∷ []; opens = false }) ≡ true
rows-sound text short =
    ap (λ (k : ℕ). (true && (nat_lt k (2 ^ 31) && true) && (true && true)) && true) (row-size (length text))
    ∙ ap (λ (b : Bool). (true && (b && true) && (true && true)) && true) short

rows-may : (text : List ℕ) → nat_lt (10 + length text) (2 ^ 31) ≡ true → may_give (query_of text) (effect_of (rows_of text)) ≡ true
rows-may text short =
    ap (λ (l : List ℕ). may_give (query_of text) (effect_of l)) (rows_are text)
    ∙ may-give (query_of text) (description ∷ data_row text ∷ complete ∷ []) (omega arith, (omega (arith, ltb-true (10 + length text) (2 ^ 31) short), (omega arith, tt))) (rows-sound text short)

error-may : (text : List ℕ) → may_give (query_of text) (effect_of (message_bytes not_here)) ≡ true
error-may text =
    ap (λ (l : List ℕ). may_give (query_of text) (effect_of l)) (sym (append-nil (message_bytes not_here)))
    ∙ may-give (query_of text) (not_here ∷ []) (omega arith, tt) refl

echoed-may : (text : List ℕ) → may_give (query_of text) (echo_step tt (spec.Query text)).0 ≡ true
echoed-may text = by (nat_lt (10 + length text) (2 ^ 31)) refl
  where
    by : (t : Bool) → nat_lt (10 + length text) (2 ^ 31) ≡ t → may_give (query_of text) (effect_of (cond t (rows_of text) (message_bytes not_here))) ≡ true
    by true short = rows-may text short
    by false long = error-may text

-- ---- a query is read

record IsRead (frame : List ℕ) : Type 0 where
  text : List ℕ
  is : frame ≡ message_bytes (query_of text)
  fits : Fits (query_of text)
  means : frame_or_fault (query_of text) ≡ Ok (spec.Query text)

is_read : (frame : List ℕ) → IsTextQuery frame → IsRead frame
is_read frame q = by_cases (has_zero q.text) (nat_lt 2147483647 (4 + length (text0 q.text))) refl refl q.is
  where
    text : List ℕ
    text = q.text

    by_cases : (zeros long : Bool) → has_zero text ≡ zeros → nat_lt 2147483647 (4 + length (text0 text)) ≡ long →
        by_tests (zeros || false) long (message_bytes (query_of text)) ≡ Ok frame → IsRead frame
    by_cases true long z l e = absurd cc
    by_cases false true z l e = absurd cc
    by_cases false false z l e = record {
      text = text;
      is = cc;
      fits = omega (arith, ltb-false 2147483647 (4 + length (text0 text)) l);
      means =
          ap (λ (o : Option (List ℕ × List ℕ)). with_texts (o >>= λ t. if_all_read (spec.Query t.0, t.1))) (ap text0_at (sym (append-nil (text0 text))) ∙ text_front text [] z)
          ∙ ap (λ (b : Bool). cond (b && true) (Ok (spec.Query text)) (Err NotUtf8)) q.is_text;
    }

-- ---- one frame behind another

-- it is answered
answered : (at : Standing (Unit {0})) (raw : RawMessage) (frame : ClientFrame) (bytes rest : List ℕ) → at.stage ≡ Serves → message_at bytes ≡ Some (raw, rest) → frame_or_fault raw ≡ Ok frame →
    is_broken echo_step at raw frame ≡ false →
    front echo_step at bytes ≡ Says (spoken (replied echo_step at raw).reply) (behind_frame at raw (replied echo_step at raw).next) rest
answered at raw frame bytes rest serves here means good =
    ap (at_stage echo_step at bytes) serves
    ∙ ap (λ (o : Option (RawMessage × List ℕ)). fronts.serving echo_step at o (has_bad_header bytes)) here
    ∙ ap (reading echo_step at raw rest) means
    ∙ ap (λ (b : Bool). cond b (Stops (faults.BadEffect at.answered)) (Says (spoken (replied echo_step at raw).reply) (behind_frame at raw (replied echo_step at raw).next) rest)) good

pub queries-calm : (frames : List (List ℕ)) → AllByRecursion IsTextQuery frames → (at : Standing (Unit {0})) → at.stage ≡ Serves → at.mode ≡ Normal →
    (said_to echo_step at (concat frames ++ terminate_frame)).fault ≡ None
queries-calm [] all at serves normal =
    let raw : RawMessage = record { tag = 88; body = [] } in
    let good : is_broken echo_step at raw spec.Terminate ≡ false
    = ap (λ (mode : Mode). asks (turn mode (kind_of raw)) && not (may_give raw (echo_step at.state spec.Terminate).0)) normal in
    let next : Standing (Unit {0}) = behind_frame at raw (replied echo_step at raw).next in
    let here : front echo_step at terminate_frame ≡ Says (spoken (replied echo_step at raw).reply) next []
    = answered at raw spec.Terminate terminate_frame [] serves refl refl good in
    ap (λ (a : Said (Unit {0})). a.fault) (said_to-says echo_step at terminate_frame (spoken (replied echo_step at raw).reply) next [] here)
    ∙ ap (λ (a : Said (Unit {0})). a.fault) (said_to-waits echo_step next [] refl)
queries-calm (frame ∷ frames) all at serves normal =
    let q = is_read frame all.0 in
    let raw : RawMessage = query_of q.text in
    let rest : List ℕ = concat frames ++ terminate_frame in
    let behind : concat (frame ∷ frames) ++ terminate_frame ≡ message_bytes raw ++ rest
    = append_assoc frame (concat frames) terminate_frame ∙ ap (λ (l : List ℕ). l ++ rest) q.is in
    let good : is_broken echo_step at raw (spec.Query q.text) ≡ false
    = ap (λ (mode : Mode). asks (turn mode (kind_of raw)) && not (may_give raw (echo_step at.state (spec.Query q.text)).0)) normal ∙ ap not (echoed-may q.text) in
    let next : Standing (Unit {0}) = behind_frame at raw (replied echo_step at raw).next in
    let here : front echo_step at (message_bytes raw ++ rest) ≡ Says (spoken (replied echo_step at raw).reply) next rest
    = answered at raw (spec.Query q.text) (message_bytes raw ++ rest) rest serves (message_at_front raw rest q.fits) q.means good in
    ap (λ (l : List ℕ). (said_to echo_step at l).fault) behind
    ∙ ap (λ (a : Said (Unit {0})). a.fault) (said_to-says echo_step at (message_bytes raw ++ rest) (spoken (replied echo_step at raw).reply) next rest here)
    ∙ queries-calm frames all.1 next refl
    (ap (λ (mode : Mode). (serving.replied (service_of echo_step) at.state mode (turn mode (kind_of raw)) raw).next.mode) normal)

-- behind the startup frame
pub session-calm : (pairs : List (List ℕ × List ℕ)) (startup frame : List ℕ) (frames : List (List ℕ)) → AllByRecursion HasName pairs → startup_frame pairs ≡ Ok frame → AllByRecursion IsTextQuery frames →
    (said_to echo_step (unfed tt startup) (frame ++ (concat frames ++ terminate_frame))).fault ≡ None
session-calm pairs startup frame frames named written all =
    let at : Standing (Unit {0}) = unfed tt startup in
    let more : List ℕ = concat frames ++ terminate_frame in
    let next : Standing (Unit {0}) = record at { stage = Serves } in
    ap (λ (a : Said (Unit {0})). a.fault) (said_to-says echo_step at (frame ++ more) startup next more (ap (opened at) (starts pairs frame more named written)))
    ∙ queries-calm frames all next refl refl
