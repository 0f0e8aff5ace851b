-- The messages of a generated plan: what is read of its bytes, and how long they are.
use Rattle.std.proofs.Common.{◌≡◌, ℕ, ℤ, zero, suc, ◌+◌, ◌*◌, ◌<◌, ◌≤◌, Bool, true, false, not, ◌&&◌, is_none, if◌then◌else◌, List, [], ◌∷◌, ◌++◌, length, map, replicate, take, drop, flat_map, Option, Some, None, Result, Ok, Err, All, codes, decimal, pos, refl, sym, ap, subst, ◌∙◌, arith, append_assoc, append-nil}
use Rattle.std.specs.Prelude.{IsTrue}
use Rattle.std.specs.Int.{w16, w32, cast_signed}
use Rattle.std.specs.List.{AllByRecursion, concat, list_all, range_with_len}
use Rattle.std.specs.Option.{option_and_then}
use Rattle.std.specs.Str.{chars, is_utf8}
use lib.Utf8.{encode}
use Rattle.std.proofs.lemmas.List.{length-append, length-map}
use Rattle.std.proofs.lemmas.List.Concat.{flat_map-append}
use Rattle.std.proofs.lemmas.List.Elements.{All-append, All-cons, All-from_recursion, All-map, All-nil, All-replicate, All-take, All-weaker, recursion_from_All}
use Rattle.std.proofs.lemmas.List.FromFn.{get_or-range_with_len, length-range_with_len}
use Rattle.std.proofs.lemmas.List.Sums.{list_all-from_AllPass}
use Rattle.std.proofs.lemmas.Nat.{mod_below}
use Rattle.pg_spec.specs.Asides.{aside_fault, is_readable}
use Rattle.pg_spec.specs.Bytes.{number_at, text0, text0_at}
use Rattle.pg_spec.specs.Faults.{WireFault, Layout, NotText}
use Rattle.pg_spec.specs.Frames.{has_zero}
use Rattle.pg_spec.specs.Messages.{Message, CommandComplete, DataRow, NotificationResponse, alone, message_of, text_alone}
use Rattle.pg_spec.specs.RawMessages.{RawMessage, bytes_left, groups, is_whole_group, message_at, message_bytes, messages}
use Rattle.pg_promises.specs.Promises.{IsOneReply}
use Rattle.pg_spec.proofs.MessageLaws.{Fits, message_at-Shrinks, message_at_front, messages-join}
use Rattle.pg_spec.proofs.Readers.{items_of-some, number_at_front}
use Rattle.pg_gen.specs.Draws.{draw}
use Rattle.pg_gen.specs.Generated.{before_rows, behind_rows, is_notified, opening, replies, reply, rows_of}
use Rattle.pg_gen.specs.Messages.{bytes_of, command_complete, notification, one_cell, one_column, ready}
use Rattle.pg_gen.proofs.DigitLaws.{decimal-no_zero, decimal-short, decimal-utf8, text0_at_front}
use Rattle.pg_gen.proofs.ReplyBytes.{reply_is}

-- ---- bytes of messages

pub messages-bytes_of : (ms : List RawMessage) → All Fits ms → messages (bytes_of ms) ≡ ms
messages-bytes_of ms fits =
    ap messages (sym (append-nil (bytes_of ms))) ∙ messages-join ms [] (recursion_from_All Fits ms fits) ∙ append-nil ms

bytes_left-join : (ms : List RawMessage) (more : List ℕ) → AllByRecursion Fits ms → bytes_left (bytes_of ms ++ more) ≡ bytes_left more
bytes_left-join [] more fits = refl
bytes_left-join (m ∷ ms) more fits =
    ap bytes_left (append_assoc (message_bytes m) (bytes_of ms) more)
    ∙ ap (λ (p : List RawMessage × List ℕ). p.1)
    (items_of-some message_at message_at-Shrinks (message_bytes m ++ (bytes_of ms ++ more)) m (bytes_of ms ++ more) (message_at_front m (bytes_of ms ++ more) fits.0))
    ∙ bytes_left-join ms more fits.1

pub bytes_left-bytes_of : (ms : List RawMessage) → All Fits ms → bytes_left (bytes_of ms) ≡ []
bytes_left-bytes_of ms fits = ap bytes_left (sym (append-nil (bytes_of ms))) ∙ bytes_left-join ms [] (recursion_from_All Fits ms fits)

-- the bytes of many entries are those of all their messages
pub concat_bytes : (entries : List (List RawMessage)) → concat (map bytes_of entries) ≡ bytes_of (flat_map (λ ms. ms) entries)
concat_bytes [] = refl
concat_bytes (ms ∷ entries) =
    ap (λ l. bytes_of ms ++ l) (concat_bytes entries) ∙ sym (flat_map-append message_bytes ms (flat_map (λ ms. ms) entries))

pub All-joined : (P : RawMessage → Type 0) (entries : List (List RawMessage)) → AllByRecursion (All P) entries → All P (flat_map (λ ms. ms) entries)
All-joined P [] each = All-nil P
All-joined P (ms ∷ entries) each = All-append P ms (flat_map (λ ms. ms) entries) each.0 (All-joined P entries each.1)

-- ---- the messages of a reply

-- P of each kind of message
record Each (P : RawMessage → Type 0) (k rows : ℕ) : Type 0 where
  notice : P (notification 1 (codes "c") (decimal k))
  column : P (one_column (codes "v"))
  row : P (one_cell (decimal k))
  complete : P (command_complete (codes "SELECT " ++ decimal rows))
  ready : P ready

each_before : (P : RawMessage → Type 0) (k rows : ℕ) (notified : Bool) → Each P k rows → All P (before_rows (decimal k) notified)
each_before P k rows true each =
    All-cons P (notification 1 (codes "c") (decimal k)) (one_column (codes "v") ∷ []) each.notice (All-cons P (one_column (codes "v")) [] each.column (All-nil P))
each_before P k rows false each = All-cons P (one_column (codes "v")) [] each.column (All-nil P)

each_reply : (P : RawMessage → Type 0) (k rows : ℕ) (notified : Bool) → Each P k rows → All P (reply k rows notified)
each_reply P k rows notified each =
    All-append P (before_rows (decimal k) notified ++ replicate rows (one_cell (decimal k))) (behind_rows rows)
    (All-append P (before_rows (decimal k) notified) (replicate rows (one_cell (decimal k))) (each_before P k rows notified each) (All-replicate P rows (one_cell (decimal k)) each.row))
    (All-cons P (command_complete (codes "SELECT " ++ decimal rows)) (ready ∷ []) each.complete (All-cons P ready [] each.ready (All-nil P)))

each_fits : (k rows : ℕ) → k < 1000000 → rows < 4 → Each Fits k rows
each_fits k rows small few = record {
  notice = omega (arith, decimal-short k small, length-append (decimal k) (0 ∷ []));
  column = omega arith;
  row = omega (arith, decimal-short k small);
  complete = omega (arith, decimal-short rows (omega (arith, few)), length-append (decimal rows) (0 ∷ []));
  ready = omega arith;
}

pub reply_fits : (k rows : ℕ) (notified : Bool) → k < 1000000 → rows < 4 → All Fits (reply k rows notified)
reply_fits k rows notified small few = each_reply Fits k rows notified (each_fits k rows small few)

-- ---- what stands aside can be read

abbrev IsReadable : RawMessage → Type 0
IsReadable m = is_readable m ≡ true

-- the message that a body gives, if it keeps its layout
abbrev laid : Option Message → Result Message WireFault
laid read = elim read [ None ↦ Err Layout | Some message ↦ Ok message ]

-- what it says of the message that was read
abbrev said_readable : Bool → Result Message WireFault → Bool
said_readable aside read = elim read [ Ok message ↦ is_none (aside_fault message) | Err fault ↦ not aside ]

notification_read : (payload : List ℕ) → message_of (notification 1 (codes "c") payload)
    ≡ laid (text_alone (NotificationResponse (pos 1) (codes "c")) (text0 payload))
notification_read payload =
    ap (λ (read : Option (ℕ × List ℕ)). laid (
    option_and_then (λ (process_id : ℤ × List ℕ).
    option_and_then (λ (channel : List ℕ × List ℕ). text_alone (NotificationResponse process_id.0 channel.0) channel.1) (text0_at process_id.1))
    (option_and_then (λ (n : ℕ × List ℕ). Some (cast_signed w32 n.0, n.1)) read)))
    (number_at_front 1 (text0 (codes "c") ++ text0 payload) (omega arith))

channel_utf8 : is_utf8 (codes "c") ≡ true
unfolding is_utf8 chars encode
channel_utf8 = refl

notice_readable : (payload : List ℕ) → has_zero payload ≡ false → is_utf8 payload ≡ true → IsReadable (notification 1 (codes "c") payload)
notice_readable payload none utf8 =
    let read : message_of (notification 1 (codes "c") payload) ≡ Ok (NotificationResponse (pos 1) (codes "c") payload) =
    notification_read payload
    ∙ ap (λ (text : Option (List ℕ × List ℕ)). laid (option_and_then (λ (text : List ℕ × List ℕ). alone (NotificationResponse (pos 1) (codes "c") text.0) text.1) text))
    (text0_at_front payload [] none) in
    ap (said_readable true) read
    ∙ ap (λ b. is_none (if b && is_utf8 payload then None else Some NotText)) channel_utf8
    ∙ ap (λ b. is_none (if true && b then None else Some NotText)) utf8

row_readable : (value : List ℕ) → IsReadable (one_cell value)
row_readable value =
    elim (number_at w16 (one_cell value).body) as (λ read. said_readable false (laid (option_and_then (λ (count : ℕ × List ℕ). Some (DataRow count.0 count.1)) read)) ≡ true) [
      | None ↦ refl
      | Some count ↦ refl
    ]

complete_readable : (tag : List ℕ) → has_zero tag ≡ false → IsReadable (command_complete tag)
complete_readable tag none =
    ap (λ (text : Option (List ℕ × List ℕ)). said_readable false (laid (option_and_then (λ (text : List ℕ × List ℕ). alone (CommandComplete text.0) text.1) text)))
    (text0_at_front tag [] none)

each_readable : (k rows : ℕ) → k < 1000000 → rows < 4 → Each IsReadable k rows
each_readable k rows small few = record {
  notice = notice_readable (decimal k) (decimal-no_zero k small) (decimal-utf8 k small);
  column = refl;
  row = row_readable (decimal k);
  complete = complete_readable (codes "SELECT " ++ decimal rows) (decimal-no_zero rows (omega (arith, few)));
  ready = refl;
}

pub reply_readable : (k rows : ℕ) (notified : Bool) → k < 1000000 → rows < 4 → All IsReadable (reply k rows notified)
reply_readable k rows notified small few = each_reply IsReadable k rows notified (each_readable k rows small few)

-- ---- a reply is one group

abbrev IsOneGroup : List RawMessage → Type 0
IsOneGroup ms = (length (groups ms) ≡ 1) × IsTrue (list_all is_whole_group (groups ms))

one_group : (k rows : ℕ) (notified : Bool) → rows < 4 → IsOneGroup (reply k rows notified)
one_group k zero true few = (refl, refl)
one_group k zero false few = (refl, refl)
one_group k (suc zero) true few = (refl, refl)
one_group k (suc zero) false few = (refl, refl)
one_group k (suc (suc zero)) true few = (refl, refl)
one_group k (suc (suc zero)) false few = (refl, refl)
one_group k (suc (suc (suc zero))) true few = (refl, refl)
one_group k (suc (suc (suc zero))) false few = (refl, refl)
one_group k (suc (suc (suc (suc n)))) notified few = absurd (omega (arith, few))

pub one_reply : (k rows : ℕ) (notified : Bool) → k < 1000000 → rows < 4 → IsOneReply (bytes_of (reply k rows notified))
one_reply k rows notified small few =
    subst IsOneGroup (sym (messages-bytes_of (reply k rows notified) (reply_fits k rows notified small few))) (one_group k rows notified few)

-- ---- how long a reply is

before_short : (k : ℕ) (notified : Bool) → k < 1000000 → length (bytes_of (before_rows (decimal k) notified)) ≤ 50
before_short k true small =
    omega (
      arith,
      decimal-short k small,
      length-append (decimal k) (0 ∷ []),
      length-append (message_bytes (notification 1 (codes "c") (decimal k))) (message_bytes (one_column (codes "v")) ++ []),
    )
before_short k false small = omega arith

rows_short : (m : RawMessage) (n : ℕ) → length (message_bytes m) ≤ 20 → length (bytes_of (replicate n m)) ≤ n * 20
rows_short m zero short = omega arith
rows_short m (suc n) short = omega (arith, rows_short m n short, length-append (message_bytes m) (bytes_of (replicate n m)))

behind_short : (rows : ℕ) → rows < 4 → length (bytes_of (behind_rows rows)) ≤ 30
behind_short rows few =
    omega (
      arith,
      decimal-short rows (omega (arith, few)),
      length-append (decimal rows) (0 ∷ []),
      length-append (message_bytes (command_complete (codes "SELECT " ++ decimal rows))) (message_bytes ready ++ []),
    )

pub reply_short : (k rows : ℕ) (notified : Bool) → k < 1000000 → rows < 4 → length (bytes_of (reply k rows notified)) ≤ 160
reply_short k rows notified small few =
    let before = bytes_of (before_rows (decimal k) notified) in
    let middle = bytes_of (replicate rows (one_cell (decimal k))) in
    omega (
      arith,
      ap length (reply_is k rows notified),
      length-append (before ++ middle) (bytes_of (behind_rows rows)),
      length-append before middle,
      before_short k notified small,
      rows_short (one_cell (decimal k)) rows (omega (arith, decimal-short k small)),
      behind_short rows few,
    )

-- ---- all entries

rows_few : (seed k : ℕ) → rows_of seed k < 4
rows_few seed k = mod_below (draw seed (2 * k)) 4 (omega arith)

pub below : (n : ℕ) → All (λ k. k < n) (range_with_len 0 n)
below n i d lt = omega (arith, get_or-range_with_len 0 n i d (omega (arith, lt, length-range_with_len 0 n)), lt, length-range_with_len 0 n)

-- the messages of reply k
abbrev pub answer : (seed k : ℕ) → List RawMessage
answer seed k = reply k (rows_of seed k) (is_notified seed k)

-- Q of each reply
pub each_answer : (Q : List RawMessage → Type 0) (n seed : ℕ) → n ≤ 100000 →
    ((k rows : ℕ) (notified : Bool) → k < 1000000 → rows < 4 → Q (reply k rows notified)) → All Q (map (answer seed) (range_with_len 0 n))
each_answer Q n seed few each =
    All-map Q (answer seed) (range_with_len 0 n)
    (All-weaker (λ k. k < n) (λ k. Q (answer seed k)) (λ k lt. each k (rows_of seed k) (is_notified seed k) (omega (arith, lt, few)) (rows_few seed k)) (range_with_len 0 n) (below n))

-- and of the opening
pub each_entry : (Q : List RawMessage → Type 0) (n seed : ℕ) → n ≤ 100000 → Q opening →
    ((k rows : ℕ) (notified : Bool) → k < 1000000 → rows < 4 → Q (reply k rows notified)) → All Q (replies n seed)
each_entry Q n seed few first each = All-cons Q opening (map (answer seed) (range_with_len 0 n)) first (each_answer Q n seed few each)

opening_fits : All Fits opening
opening_fits = All-from_recursion Fits opening (omega arith, (omega arith, tt))

opening_readable : All IsReadable opening
opening_readable = All-from_recursion IsReadable opening (refl, (refl, tt))

pub whole : (n seed : ℕ) → n ≤ 100000 → All (λ entry. bytes_left entry ≡ []) (map bytes_of (replies n seed))
whole n seed few =
    All-map (λ entry. bytes_left entry ≡ []) bytes_of (replies n seed)
    (each_entry (λ ms. bytes_left (bytes_of ms) ≡ []) n seed few (bytes_left-bytes_of opening opening_fits)
    (λ k rows notified small r. bytes_left-bytes_of (reply k rows notified) (reply_fits k rows notified small r)))

-- the messages of the plan are those of its entries
plan_messages : (n seed : ℕ) → n ≤ 100000 → messages (concat (map bytes_of (replies n seed))) ≡ flat_map (λ ms. ms) (replies n seed)
plan_messages n seed few =
    ap messages (concat_bytes (replies n seed))
    ∙ messages-bytes_of (flat_map (λ ms. ms) (replies n seed))
    (All-joined Fits (replies n seed) (recursion_from_All (All Fits) (replies n seed) (each_entry (All Fits) n seed few opening_fits reply_fits)))

pub readable : (n seed : ℕ) → n ≤ 100000 → IsTrue (list_all is_readable (messages (concat (map bytes_of (replies n seed)))))
readable n seed few =
    ap (list_all is_readable) (plan_messages n seed few)
    ∙ list_all-from_AllPass is_readable (flat_map (λ ms. ms) (replies n seed))
    (All-joined IsReadable (replies n seed) (recursion_from_All (All IsReadable) (replies n seed) (each_entry (All IsReadable) n seed few opening_readable reply_readable)))

-- behind the first entry each is one reply, however many were given
later_ones : {X : Type 0} (P : X → Type 0) (t : ℕ) (x : X) (xs : List X) → All P xs → All P (drop 1 (take t (x ∷ xs)))
later_ones P zero x xs each = All-nil P
later_ones P (suc t) x xs each = All-take P t xs each

pub replies_given : (n seed t : ℕ) → n ≤ 100000 → All IsOneReply (drop 1 (take t (map bytes_of (replies n seed))))
replies_given n seed t few =
    later_ones IsOneReply t (bytes_of opening) (map bytes_of (map (answer seed) (range_with_len 0 n)))
    (All-map IsOneReply bytes_of (map (answer seed) (range_with_len 0 n)) (each_answer (λ ms. IsOneReply (bytes_of ms)) n seed few one_reply))

pub entries : (n seed : ℕ) → length (map bytes_of (replies n seed)) ≡ 1 + n
entries n seed = omega (arith, length-map (replies n seed) bytes_of, length-map (range_with_len 0 n) (answer seed), length-range_with_len 0 n)

concat_short : (entries : List (List ℕ)) → AllByRecursion (λ entry. length entry ≤ 160) entries → length (concat entries) ≤ length entries * 160
concat_short [] each = omega arith
concat_short (entry ∷ entries) each = omega (arith, each.0, concat_short entries each.1, length-append entry (concat entries))

pub plan_short : (n seed : ℕ) → n ≤ 100000 → length (concat (map bytes_of (replies n seed))) ≤ 16777216
plan_short n seed few =
    omega (
      arith,
      few,
      entries n seed,
      concat_short (map bytes_of (replies n seed)) (recursion_from_All (λ entry. length entry ≤ 160) (map bytes_of (replies n seed))
          (All-map (λ entry. length entry ≤ 160) bytes_of (replies n seed) (each_entry (λ ms. length (bytes_of ms) ≤ 160) n seed few (omega arith) reply_short))),
    )
