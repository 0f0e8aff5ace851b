use Rattle.std.proofs.Common.{◌≡◌, ◌++◌, List, ℕ, length, flat_map, append_assoc, ap, ◌∙◌, w32}
use Rattle.std.specs.Int.{to_be_bytes}
use Rattle.pg_values.specs.declared.datum.Dim.{Dim}
use Rattle.pg_values.specs.Spelling.{array_front, dim_bytes}
use Rattle.pg_values.proofs.WriteLaws.{appended}
use Rattle.pg_values.proofs.GroupLaws.{fills_behind}
use Rattle.pg_values.proofs.writing.put_front.Goals as goal

front_is : (flag element : ℕ) (dims : List Dim) (a b e rest : List ℕ) → a ≡ to_be_bytes w32 (length dims) → b ≡ to_be_bytes w32 flag → e ≡ to_be_bytes w32 element
    → rest ≡ flat_map dim_bytes dims → (a ++ (b ++ e)) ++ rest ≡ array_front flag element dims
front_is flag element dims a b e rest p q r s =
    append_assoc a (b ++ e) rest ∙ ap (λ (l : List ℕ). a ++ l) (append_assoc b e rest) ∙ ap (λ (l : List ℕ). l ++ (b ++ (e ++ rest))) p
    ∙ ap (λ (l : List ℕ). to_be_bytes w32 (length dims) ++ (l ++ (e ++ rest))) q
    ∙ ap (λ (l : List ℕ). to_be_bytes w32 (length dims) ++ (to_be_bytes w32 flag ++ (l ++ rest))) r
    ∙ ap (λ (l : List ℕ). to_be_bytes w32 (length dims) ++ (to_be_bytes w32 flag ++ (to_be_bytes w32 element ++ l))) s

pub returns : goal.returns
returns c =
    let dims : List Dim = c.args.dims.now in
    let a : List ℕ = c.to_be_bytes.result in
    let b : List ℕ = c.to_be_bytes-2.result in
    let e : List ℕ = c.to_be_bytes-3.result in
    let old : List ℕ = c.args.out.now.items in
    let last = appended c.put.new.out.items c.put-2.new.out.items c.put-3.new.out.items b e c.in_ok-put-2.ensures c.in_ok-put-3.ensures in
    fills_behind (λ (l : List ℕ). l ≡ flat_map dim_bytes dims) (λ (l : List ℕ). l ≡ array_front c.args.flag c.args.element dims) (a ++ (b ++ e)) old c.put-3.new.out.items
    c.put_dims.new.out.items c.put_dims.result (appended old c.put.new.out.items c.put-3.new.out.items a (b ++ e) c.in_ok-put.ensures last)
    (λ rest is. front_is c.args.flag c.args.element dims a b e rest c.to_be_bytes.ensures c.to_be_bytes-2.ensures c.to_be_bytes-3.ensures is) c.put_dims.ensures
