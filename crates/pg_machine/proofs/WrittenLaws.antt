-- What is written is read as it was.
use Rattle.std.proofs.Common.{◌≡◌, ℕ, ◌+◌, ◌^◌, ◌<◌, Bool, true, false, cond, not, ◌&&◌, List, [], ◌∷◌, ◌++◌, length, drop, map, Result, Ok, Err, Option, Some, refl, sym, ap, subst, ◌∙◌, append-nil, append_assoc, eqb, eq-eqb, eqb-true, arith}
use Rattle.std.specs.Prelude.{codes, decimal, nat_lt}
use Rattle.std.specs.List.{AllByRecursion, join_with_byte, list_all, slice_split}
use Rattle.std.specs.Char.{digit_value}
use Rattle.std.specs.Option.{ok_or}
use Rattle.std.specs.Str.Parse.{AllDigits, IsNumeral, digits_value, without_leading_plus}
use Rattle.std.proofs.lemmas.Bool.{lt-ltb}
use Rattle.std.proofs.lemmas.Fmt.{decimal_is_IsNumeral}
use Rattle.std.proofs.lemmas.List.Elements.{All-from_recursion, recursion_from_All}
use Rattle.std.proofs.lemmas.List.Splits.{slice_split_none, slice_split_at}
use Rattle.hex.specs.Hex.{IsBytes, encode_lower, decode_of, is_hex_digit}
use Rattle.hex.specs.declared.error.FromHexError.{FromHexError}
use Rattle.hex.proofs.HexLemmas.{decode_of-encode_lower, decode_of-ok}
use Rattle.pg_spec.specs.Numerals.{number_in}
use Rattle.pg_errors.proofs.Numbers.{number-parsed}
use Rattle.pg_machine.specs.declared.machine.MachineRow.{MachineRow}
use Rattle.pg_machine.specs.declared.fault.LineFault.{LineFault}
use Rattle.pg_machine.specs.declared.fault.LineFault.TheVariants.{Number, Frame}
use Rattle.pg_machine.specs.declared.fault.FileFault.TheVariants as file
use Rattle.pg_machine.specs.declared.line.Line.{Line}
use Rattle.pg_machine.specs.declared.line.Line.TheVariants as says
use Rattle.pg_machine.specs.MachineTexts.{◌>>=◌, Said, bytes_at, frame_at, if_hex, is_row_frame, joined_at, line_at, nothing_said, row_at, rest_at, said_from, said_in, state_at, with_line, words_at}
use Rattle.pg_machine.specs.Written.{hex_words, row_words, row_line, line_of, text_of, IsWritten, numbers_from, written}

-- ---- no separator stands in a word

-- no byte is c
abbrev Lacks : ℕ → List ℕ → Type 0
Lacks c bytes = AllByRecursion (λ b. eqb b c ≡ false) bytes

-- a test tells them apart
differ : (p : ℕ → Bool) (b c : ℕ) → p b ≡ true → p c ≡ false → eqb b c ≡ false
differ p b c holds fails = by_test (eqb b c) refl
  where
    by_test : (same : Bool) → eqb b c ≡ same → same ≡ false
    by_test true e = let both : true ≡ false = sym holds ∙ ap p (eqb-true b c e) ∙ fails in absurd cc
    by_test false e = refl

Lacks-pass : (p : ℕ → Bool) (c : ℕ) (bytes : List ℕ) → p c ≡ false → AllByRecursion (λ b. p b ≡ true) bytes → Lacks c bytes
Lacks-pass p c [] fails all = tt
Lacks-pass p c (b ∷ bytes) fails all = (differ p b c all.0 fails, Lacks-pass p c bytes fails all.1)

Lacks-append : (c : ℕ) (xs ys : List ℕ) → Lacks c xs → Lacks c ys → Lacks c (xs ++ ys)
Lacks-append c [] ys p q = q
Lacks-append c (x ∷ xs) ys p q = (p.0, Lacks-append c xs ys p.1 q)

-- by a test that computes
lacks : (c : ℕ) (bytes : List ℕ) → list_all (λ b. not (eqb b c)) bytes ≡ true → Lacks c bytes
lacks c [] e = tt
lacks c (b ∷ bytes) e = by_test (eqb b c) e (lacks c bytes)
  where
    by_test : (same : Bool) → (not same && list_all (λ b. not (eqb b c)) bytes) ≡ true → (list_all (λ b. not (eqb b c)) bytes ≡ true → Lacks c bytes) → (same ≡ false) × Lacks c bytes
    by_test true e rest = absurd cc
    by_test false e rest = (refl, rest e)

digits-pass : (ds : List ℕ) → AllDigits 10 ds → AllByRecursion (λ d. nat_lt (digit_value d) 10 ≡ true) ds
digits-pass [] h = tt
digits-pass (d ∷ ds) h = (lt-ltb _ _ h.0, digits-pass ds h.1)

decimal-Lacks : (c n : ℕ) → n < 2 ^ 32 → nat_lt (digit_value c) 10 ≡ false → Lacks c (decimal n)
decimal-Lacks c n fits fails = Lacks-pass (λ d. nat_lt (digit_value d) 10) c (decimal n) fails (digits-pass (decimal n) (decimal_is_IsNumeral n (omega (arith, fits))).0.1)

hex-Lacks : (c : ℕ) (bytes : List ℕ) → IsBytes bytes → is_hex_digit c ≡ false → Lacks c (encode_lower bytes)
hex-Lacks c bytes is fails =
    let read = decode_of-ok (encode_lower bytes) bytes (decode_of-encode_lower bytes is) in
    Lacks-pass is_hex_digit c (encode_lower bytes) fails (recursion_from_All (λ b. is_hex_digit b ≡ true) (encode_lower bytes) read.1)

words-Lack : (c : ℕ) (bytes : List ℕ) → IsBytes bytes → is_hex_digit c ≡ false → AllByRecursion (Lacks c) (hex_words bytes)
words-Lack c [] is fails = tt
words-Lack c (b ∷ bytes) is fails = (hex-Lacks c (b ∷ bytes) is fails, tt)

row-Lacks : (c : ℕ) (row : MachineRow) → IsWritten row → is_hex_digit c ≡ false → nat_lt (digit_value c) 10 ≡ false → AllByRecursion (Lacks c) (row_words row)
row-Lacks c row is fails none = (
  decimal-Lacks c row.state is.state none,
  (hex-Lacks c row.frame is.frame fails, (decimal-Lacks c row.next is.next none, words-Lack c row.reply is.reply fails)),
)

-- ---- parts that were joined are cut again

split-joined : (c : ℕ) (part : List ℕ) (parts : List (List ℕ)) → Lacks c part → AllByRecursion (Lacks c) parts →
    slice_split (λ b. eqb b c) (join_with_byte c (part ∷ parts)) ≡ part ∷ parts
split-joined c part [] lack all = slice_split_none (λ b. eqb b c) part (All-from_recursion (λ b. eqb b c ≡ false) part lack)
split-joined c part (next ∷ parts) lack all =
    slice_split_at (λ b. eqb b c) part c (join_with_byte c (next ∷ parts)) (All-from_recursion (λ b. eqb b c ≡ false) part lack) (eq-eqb c c refl)
    ∙ ap (λ (more : List (List ℕ)). part ∷ more) (split-joined c next parts all.0 all.1)

-- words without a line feed are a line without one
line-Lacks : (words : List (List ℕ)) → AllByRecursion (Lacks 10) words → Lacks 10 (join_with_byte 32 words)
line-Lacks [] all = tt
line-Lacks (word ∷ []) all = all.0
line-Lacks (word ∷ next ∷ words) all = Lacks-append 10 word (32 ∷ join_with_byte 32 (next ∷ words)) all.0 (refl, line-Lacks (next ∷ words) all.1)

-- ---- words

state-read : (word : List ℕ) (n : ℕ) → IsNumeral 10 word → digits_value 10 word ≡ n → n < 2 ^ 32 → state_at word ≡ Ok n
state-read [] n is value fits = absurd (omega (arith, is.0))
state-read (b ∷ word) n is value fits =
    let other : eqb b 43 ≡ false = differ (λ d. nat_lt (digit_value d) 10) b 43 (lt-ltb _ _ is.1.0) refl in
    let plain : without_leading_plus (b ∷ word) ≡ b ∷ word = ap (λ t. drop (cond t 1 0) (b ∷ word)) other in
    let below : digits_value 10 (b ∷ word) < 2 ^ 32 = omega (arith, value, fits) in
    let read : number_in 32 (b ∷ word) ≡ Some n
    = number-parsed {E = Unit {0}} 32 (b ∷ word) (Ok n) (subst (λ (ds : List ℕ). (IsNumeral 10 ds × (digits_value 10 ds < 2 ^ 32)) × (n ≡ digits_value 10 ds)) (sym plain) ((is, below), sym value)) in
    ap (λ t. cond t (Err Number) (ok_or (number_in 32 (b ∷ word)) Number)) other ∙ ap (λ (o : Option ℕ). ok_or o Number) read

decimal-read : (n : ℕ) → n < 2 ^ 32 → state_at (decimal n) ≡ Ok n
decimal-read n fits = let is = decimal_is_IsNumeral n (omega (arith, fits)) in state-read (decimal n) n is.0 is.1 fits

bytes-read : (word bytes : List ℕ) → decode_of word ≡ Ok bytes → 0 < length word → bytes_at word ≡ Ok bytes
bytes-read [] bytes e some = absurd (omega (arith, some))
bytes-read (b ∷ word) bytes e some = ap (λ (r : Result (List ℕ) FromHexError). if_hex r) e

hex-read : (b : ℕ) (bytes : List ℕ) → IsBytes (b ∷ bytes) → bytes_at (encode_lower (b ∷ bytes)) ≡ Ok (b ∷ bytes)
hex-read b bytes is =
    let e = decode_of-encode_lower (b ∷ bytes) is in
    let long = (decode_of-ok (encode_lower (b ∷ bytes)) (b ∷ bytes) e).2 in
    bytes-read (encode_lower (b ∷ bytes)) (b ∷ bytes) e (omega (arith, long))

joined-read : (bytes : List ℕ) → IsBytes bytes → joined_at (hex_words bytes) ≡ Ok bytes
joined-read [] is = refl
joined-read (b ∷ bytes) is =
    ap (λ (r : Result (List ℕ) LineFault). r >>= λ front. Ok (front ++ [])) (hex-read b bytes is) ∙ ap (λ (l : List ℕ). Ok l) (append-nil (b ∷ bytes))

frame-read : (frame : List ℕ) → IsBytes frame → is_row_frame frame ≡ true → frame_at (encode_lower frame) ≡ Ok frame
unfolding frame_at
frame-read [] is answered = absurd cc
frame-read (b ∷ frame) is answered =
    ap (λ (r : Result (List ℕ) LineFault). r >>= λ bytes. cond (is_row_frame bytes) (Ok bytes) (Err Frame)) (hex-read b frame is)
    ∙ ap (λ t. cond t (Ok (b ∷ frame)) (Err Frame)) answered

-- ---- lines

bind-row : (opens : Bool) (r1 r3 : Result ℕ LineFault) (r2 r4 : Result (List ℕ) LineFault) (state next : ℕ) (frame reply : List ℕ) →
    r1 ≡ Ok state → r2 ≡ Ok frame → r3 ≡ Ok next → r4 ≡ Ok reply →
    (r1 >>= λ state. r2 >>= λ frame. r3 >>= λ next. r4 >>= λ reply. Ok (says.Row (record { state = state; frame = frame; next = next; reply = reply; opens = opens })))
    ≡ Ok (says.Row (record { state = state; frame = frame; next = next; reply = reply; opens = opens }))
bind-row opens r1 r3 r2 r4 state next frame reply e1 e2 e3 e4 = rw (e1, e2, e3, e4) refl

row-read : (row : MachineRow) → IsWritten row → row_at row.opens (row_words row) ≡ Ok (says.Row row)
unfolding row_at
row-read row is =
    bind-row row.opens (state_at (decimal row.state)) (state_at (decimal row.next)) (frame_at (encode_lower row.frame)) (joined_at (hex_words row.reply))
    row.state row.next row.frame row.reply
    (decimal-read row.state is.state) (frame-read row.frame is.frame is.answered) (decimal-read row.next is.next) (joined-read row.reply is.reply)

line-read : (first : ℕ) (word : List ℕ) (words : List (List ℕ)) → eqb first 35 ≡ false → Lacks 32 (first ∷ word) → AllByRecursion (Lacks 32) words →
    line_at (line_of (first ∷ word) words) ≡ words_at ((first ∷ word) ∷ words)
line-read first word [] other lack all =
    ap (λ t. cond t (Ok says.Nothing) (words_at (slice_split (λ b. eqb b 32) (first ∷ word)))) other
    ∙ ap (λ (ws : List (List ℕ)). words_at ws) (split-joined 32 (first ∷ word) [] lack tt)
line-read first word (next ∷ words) other lack all =
    ap (λ t. cond t (Ok says.Nothing) (words_at (slice_split (λ b. eqb b 32) (join_with_byte 32 ((first ∷ word) ∷ next ∷ words))))) other
    ∙ ap (λ (ws : List (List ℕ)). words_at ws) (split-joined 32 (first ∷ word) (next ∷ words) lack all)

row-line-read : (row : MachineRow) → IsWritten row → line_at (row_line row) ≡ Ok (says.Row row)
unfolding rest_at
row-line-read row is = by_opens row.opens refl
  where
    by_opens : (opens : Bool) → row.opens ≡ opens → line_at (line_of (cond opens (codes "opens") (codes "row")) (row_words row)) ≡ Ok (says.Row row)
    by_opens false e =
        line-read 114 (codes "ow") (row_words row) refl (lacks 32 (codes "row") refl) (row-Lacks 32 row is refl refl)
        ∙ ap (λ opens. row_at opens (row_words row)) (sym e) ∙ row-read row is
    by_opens true e =
        line-read 111 (codes "pens") (row_words row) refl (lacks 32 (codes "opens") refl) (row-Lacks 32 row is refl refl)
        ∙ ap (λ opens. row_at opens (row_words row)) (sym e) ∙ row-read row is

startup-line-read : (bytes : List ℕ) → IsBytes bytes → line_at (line_of (codes "startup") (hex_words bytes)) ≡ Ok (says.Startup bytes)
unfolding rest_at
startup-line-read bytes is =
    line-read 115 (codes "tartup") (hex_words bytes) refl (lacks 32 (codes "startup") refl) (words-Lack 32 bytes is refl)
    ∙ ap (λ (r : Result (List ℕ) LineFault). r >>= λ reply. Ok (says.Startup reply)) (joined-read bytes is)

refusal-line-read : (bytes : List ℕ) → IsBytes bytes → line_at (line_of (codes "refusal") (hex_words bytes)) ≡ Ok (says.Refusal bytes)
unfolding rest_at
refusal-line-read bytes is =
    line-read 114 (codes "efusal") (hex_words bytes) refl (lacks 32 (codes "refusal") refl) (words-Lack 32 bytes is refl)
    ∙ ap (λ (r : Result (List ℕ) LineFault). r >>= λ reply. Ok (says.Refusal reply)) (joined-read bytes is)

row-line-Lacks : (row : MachineRow) → IsWritten row → Lacks 10 (row_line row)
row-line-Lacks row is = by_opens row.opens
  where
    by_opens : (opens : Bool) → Lacks 10 (line_of (cond opens (codes "opens") (codes "row")) (row_words row))
    by_opens false = line-Lacks (codes "row" ∷ row_words row) (lacks 10 (codes "row") refl, row-Lacks 10 row is refl refl)
    by_opens true = line-Lacks (codes "opens" ∷ row_words row) (lacks 10 (codes "opens") refl, row-Lacks 10 row is refl refl)

rows-Lack : (rows : List MachineRow) → AllByRecursion IsWritten rows → AllByRecursion (Lacks 10) (map row_line rows)
rows-Lack [] all = tt
rows-Lack (row ∷ rows) all = (row-line-Lacks row all.0, rows-Lack rows all.1)

-- ---- all lines

step : (n : ℕ) (line : List ℕ) (lines : List (List ℕ)) (s next : Said) (l : Line) → line_at line ≡ Ok l → with_line n l s ≡ Ok next →
    said_from n (line ∷ lines) s ≡ said_from (n + 1) lines next
step n line lines s next l e1 e2 =
    ap (λ (r : Result Line LineFault). elim (r >>= λ l. with_line n l s) [ Err fault ↦ Err (file.Line n fault) | Ok next ↦ said_from (n + 1) lines next ]) e1
    ∙ ap (λ (r : Result Said LineFault). elim r [ Err fault ↦ Err (file.Line n fault) | Ok next ↦ said_from (n + 1) lines next ]) e2

rows-said : (rows : List MachineRow) (n : ℕ) (s : Said) → AllByRecursion IsWritten rows →
    said_from n (map row_line rows) s ≡ Ok (record s { rows = s.rows ++ rows; numbers = s.numbers ++ numbers_from n rows })
rows-said [] n s all = λ i. Ok (record s { rows = sym (append-nil s.rows) i; numbers = sym (append-nil s.numbers) i })
rows-said (row ∷ rows) n s all =
    let next : Said = record s { rows = s.rows ++ row ∷ []; numbers = s.numbers ++ n ∷ [] } in
    step n (row_line row) (map row_line rows) s next (says.Row row) (row-line-read row all.0) refl
    ∙ rows-said rows (n + 1) next all.1
    ∙ (λ i. Ok (record s { rows = append_assoc s.rows (row ∷ []) rows i; numbers = append_assoc s.numbers (n ∷ []) (numbers_from (n + 1) rows) i }))

pub read_back : (startup refusal : List ℕ) (rows : List MachineRow) → IsBytes startup → IsBytes refusal → AllByRecursion IsWritten rows →
    said_in (text_of startup refusal rows) ≡ Ok (written startup refusal rows)
read_back startup refusal rows is-startup is-refusal all =
    let first = line_of (codes "startup") (hex_words startup) in
    let second = line_of (codes "refusal") (hex_words refusal) in
    let begun : Said = record nothing_said { startup = Some startup } in
    let both : Said = record begun { refusal = Some (2, refusal) } in
    ap (λ (lines : List (List ℕ)). said_from 1 lines nothing_said)
    (split-joined 10 first (second ∷ map row_line rows)
    (line-Lacks (codes "startup" ∷ hex_words startup) (lacks 10 (codes "startup") refl, words-Lack 10 startup is-startup refl))
    (line-Lacks (codes "refusal" ∷ hex_words refusal) (lacks 10 (codes "refusal") refl, words-Lack 10 refusal is-refusal refl), rows-Lack rows all))
    ∙ step 1 first (second ∷ map row_line rows) nothing_said begun (says.Startup startup) (startup-line-read startup is-startup) refl
    ∙ step 2 second (map row_line rows) begun both (says.Refusal refusal) (refusal-line-read refusal is-refusal) refl
    ∙ rows-said rows 3 both all
