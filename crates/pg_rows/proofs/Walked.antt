-- The cells of a DataRow, walked over one by one.
use Rattle.std.proofs.Common.{◌≡◌, ◌≢◌, ℕ, zero, suc, ◌+◌, ◌-◌, ◌≤◌, Bool, true, false, cond, List, [], ◌∷◌, length, take, drop, map, Option, Some, None, Result, Ok, Err, refl, sym, ap, ◌∙◌, arith, leb, ℤ, pos}
use Rattle.std.specs.Prelude.{int_lt}
use Rattle.std.specs.Option.{option_and_then}
use Rattle.std.specs.Int.{w32, cast_signed, cast_unsigned, from_be_bytes}
use Rattle.std.proofs.lemmas.Bool.{leb-true, ne_eqb}
use Rattle.std.proofs.lemmas.List.{length-take-le, length-drop}
use Rattle.std.proofs.lemmas.List.Sums.{sum_by-cons}
use Rattle.pg_spec.specs.Bytes.{bytes_at, signed_at}
use Rattle.pg_spec.specs.Bodies.{or_layout, cell_at as read_cell, cells_of}
use Rattle.pg_spec.specs.Faults.{WireFault, ◌>>=◌, Parse, FieldCount}
use Rattle.pg_rows.specs.Rows.{Cells, cells_read, cell_at, cell_size, cells_size, row_refusal}

-- ---- how many cells there are

counted : (n : ℕ) (x : Option (List ℕ)) (others : Result Cells WireFault) (cells : Cells) → ((rest : Cells) → others ≡ Ok rest → length rest ≡ n) → (others >>= λ rest. Ok (x ∷ rest)) ≡ Ok cells → length cells ≡ suc n
counted n x (Ok rest) cells tail is =
    let same : x ∷ rest ≡ cells = cc in
    let more : suc (length rest) ≡ suc n = ap suc (tail rest refl) in
    ap length (sym same) ∙ more
counted n x (Err fault) cells tail is = absurd cc

counted-first : (n : ℕ) (read : Result (Option (List ℕ) × List ℕ) WireFault) (cells : Cells) → ((bytes : List ℕ) (rest : Cells) → cells_of n bytes ≡ Ok rest → length rest ≡ n) →
    (read >>= λ first. cells_of n first.1 >>= λ others. Ok (first.0 ∷ others)) ≡ Ok cells → length cells ≡ suc n
counted-first n (Ok first) cells tail is = counted n first.0 (cells_of n first.1) cells (tail first.1) is
counted-first n (Err fault) cells tail is = absurd cc

-- as many as the message says
pub cells-counted : (n : ℕ) (bytes : List ℕ) (cells : Cells) → cells_of n bytes ≡ Ok cells → length cells ≡ n
cells-counted zero [] cells is = let none : [] ≡ cells = cc in sym (ap length none)
cells-counted zero (b ∷ rest) cells is = absurd cc
cells-counted (suc n) bytes cells is = counted-first n (read_cell bytes) cells (cells-counted n) is

-- ---- the row that they make

pub wrong-count : (columns count : ℕ) (bytes : List ℕ) → cells_of count bytes ≡ Ok (cells_read (cells_of count bytes)) → count ≢ columns → row_refusal columns (cells_of count bytes) ≡ Some (Parse FieldCount)
wrong-count columns count bytes readable other =
    let size : length (cells_read (cells_of count bytes)) ≡ count = cells-counted count bytes _ readable in
    ap (row_refusal columns) readable
    ∙ ap (λ (b : Bool). cond b None (Some (Parse FieldCount))) (ne_eqb (length (cells_read (cells_of count bytes))) columns (λ e. other (sym size ∙ e)))

-- ---- how many bytes they take

abbrev Taken : Type 0
Taken = List ℕ × List ℕ

abbrev Cell : Type 0
Cell = Option (List ℕ) × List ℕ

-- n bytes off the front, by whether there are so many
abbrev by_fit : Bool → ℕ → List ℕ → Option Taken
by_fit fits n s = cond fits (Some (take n s, drop n s)) None

-- so many bytes are the front
record Takes (n : ℕ) (s : List ℕ) (read : Taken) : Type 0 where
  front : length read.0 ≡ n
  all : length read.0 + length read.1 ≡ length s

bytes-taken : (fits : Bool) (n : ℕ) (s : List ℕ) (read : Taken) → leb n (length s) ≡ fits → by_fit fits n s ≡ Some read → Takes n s read
bytes-taken true n s read test is =
    let fits : n ≤ length s = leb-true n (length s) test in
    let pair : ◌≡◌ {A = Taken} (take n s, drop n s) read = cc in
    let first : length (take n s) ≡ length read.0 = ap (λ (p : Taken). length p.0) pair in
    let second : length (drop n s) ≡ length read.1 = ap (λ (p : Taken). length p.1) pair in
    let short : length (take n s) ≡ n = length-take-le n s fits in
    let rest : length (drop n s) ≡ length s - n = length-drop n s in
    let front : length read.0 ≡ n = omega arith in
    let all : length read.0 + length read.1 ≡ length s = omega arith in
    record { front = front; all = all }
bytes-taken false n s read test is = absurd cc

-- a number of these four bytes, and the bytes behind it
abbrev Number : Type 0
Number = ℤ × List ℕ

abbrev signed : Option Taken → Option Number
signed digits = option_and_then (λ (n : ℕ × List ℕ). Some (cast_signed w32 n.0, n.1)) (option_and_then (λ (d : Taken). Some (from_be_bytes w32 d.0, d.1)) digits)

number-taken : (digits : Option Taken) (bytes : List ℕ) (number : Number) → ((d : Taken) → digits ≡ Some d → Takes 4 bytes d) → signed digits ≡ Some number → length bytes ≡ 4 + length number.1
number-taken None bytes number taken is = absurd cc
number-taken (Some d) bytes number taken is =
    let pair : ◌≡◌ {A = Number} (cast_signed w32 (from_be_bytes w32 d.0), d.1) number = cc in
    let behind : length d.1 ≡ length number.1 = ap (λ (p : Number). length p.1) pair in
    let takes : Takes 4 bytes d = taken d refl in
    let front : length d.0 ≡ 4 = takes.front in
    let all : length d.0 + length d.1 ≡ length bytes = takes.all in
    omega arith

abbrev bytes_cell : Option Taken → Result Cell WireFault
bytes_cell read = or_layout read >>= λ cell. Ok (Some cell.0, cell.1)

behind-bytes : (read : Option Taken) (n : ℕ) (behind : List ℕ) (cell : Cell) → ((d : Taken) → read ≡ Some d → Takes n behind d) → bytes_cell read ≡ Ok cell → length behind + 4 ≡ cell_size cell.0 + length cell.1
behind-bytes None n behind cell taken is = absurd cc
behind-bytes (Some d) n behind cell taken is =
    let pair : ◌≡◌ {A = Cell} (Some d.0, d.1) cell = cc in
    let size : 4 + length d.0 ≡ cell_size cell.0 = ap (λ (p : Cell). cell_size p.0) pair in
    let left : length d.1 ≡ length cell.1 = ap (λ (p : Cell). length p.1) pair in
    let takes : Takes n behind d = taken d refl in
    let all : length d.0 + length d.1 ≡ length behind = takes.all in
    omega arith

-- a cell of n bytes, or null
abbrev cell_behind : (null : Bool) → ℕ → List ℕ → Result Cell WireFault
cell_behind null n behind = cond null (Ok (None, behind)) (bytes_cell (bytes_at n behind))

behind-length : (null : Bool) (n : ℕ) (behind : List ℕ) (cell : Cell) → cell_behind null n behind ≡ Ok cell → length behind + 4 ≡ cell_size cell.0 + length cell.1
behind-length true n behind cell is =
    let pair : ◌≡◌ {A = Cell} (None, behind) cell = cc in
    let size : 4 ≡ cell_size cell.0 = ap (λ (p : Cell). cell_size p.0) pair in
    let left : length behind ≡ length cell.1 = ap (λ (p : Cell). length p.1) pair in
    omega arith
behind-length false n behind cell is =
    behind-bytes (bytes_at n behind) n behind cell (λ d taken. bytes-taken (leb n (length behind)) n behind d refl taken) is

abbrev by_number : Option Number → Result Cell WireFault
by_number number = or_layout number >>= λ n. cell_behind (int_lt n.0 (pos 0)) (cast_unsigned w32 n.0) n.1

by-number : (number : Option Number) (bytes : List ℕ) (cell : Cell) → ((n : Number) → number ≡ Some n → length bytes ≡ 4 + length n.1) → by_number number ≡ Ok cell →
    length bytes ≡ cell_size cell.0 + length cell.1
by-number None bytes cell taken is = absurd cc
by-number (Some n) bytes cell taken is =
    let front : length bytes ≡ 4 + length n.1 = taken n refl in
    let back : length n.1 + 4 ≡ cell_size cell.0 + length cell.1 = behind-length (int_lt n.0 (pos 0)) (cast_unsigned w32 n.0) n.1 cell is in
    omega arith

-- a cell and what is left behind it are all the bytes
cell-takes : (bytes : List ℕ) (cell : Cell) → read_cell bytes ≡ Ok cell → length bytes ≡ cell_size cell.0 + length cell.1
cell-takes bytes cell is =
    by-number (signed_at w32 bytes) bytes cell
    (λ n number. number-taken (bytes_at 4 bytes) bytes n (λ d taken. bytes-taken (leb 4 (length bytes)) 4 bytes d refl taken) number)
    is

sized : (x : Option (List ℕ)) (size : ℕ) (others : Result Cells WireFault) (cells : Cells) → ((rest : Cells) → others ≡ Ok rest → size ≡ cells_size rest) → (others >>= λ rest. Ok (x ∷ rest)) ≡ Ok cells → cell_size x + size ≡ cells_size cells
sized x size (Ok rest) cells tail is =
    let same : x ∷ rest ≡ cells = cc in
    let more : size ≡ cells_size rest = tail rest refl in
    let whole : cells_size (x ∷ rest) ≡ cell_size x + cells_size rest = sum_by-cons (λ n. n) (cell_size x) (map cell_size rest) in
    ap (λ n. cell_size x + n) more ∙ sym whole ∙ ap cells_size same
sized x size (Err fault) cells tail is = absurd cc

sized-first : (n : ℕ) (bytes : List ℕ) (read : Result Cell WireFault) (cells : Cells) → read_cell bytes ≡ read → ((rest : List ℕ) (others : Cells) → cells_of n rest ≡ Ok others → length rest ≡ cells_size others) →
    (read >>= λ first. cells_of n first.1 >>= λ others. Ok (first.0 ∷ others)) ≡ Ok cells → length bytes ≡ cells_size cells
sized-first n bytes (Ok first) cells read tail is =
    cell-takes bytes first read ∙ sized first.0 (length first.1) (cells_of n first.1) cells (tail first.1) is
sized-first n bytes (Err fault) cells read tail is = absurd cc

-- the cells of a body take all its bytes
pub cells-take : (n : ℕ) (bytes : List ℕ) (cells : Cells) → cells_of n bytes ≡ Ok cells → length bytes ≡ cells_size cells
cells-take zero [] cells is = let none : [] ≡ cells = cc in ap cells_size none
cells-take zero (b ∷ rest) cells is = absurd cc
cells-take (suc n) bytes cells is = sized-first n bytes (read_cell bytes) cells refl (cells-take n) is
