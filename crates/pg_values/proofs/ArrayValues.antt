-- An array is its front and its items.
use Rattle.std.proofs.Common.{◌≡◌, ℕ, ◌+◌, ◌*◌, ◌≤◌, true, false, List, length, drop, ap, refl, sym, ◌∙◌, subst, arith, length-append}
use Rattle.std.proofs.lemmas.List.{drop_at}
use Rattle.pg_values.specs.declared.datum.Dim.{Dim}
use Rattle.pg_values.specs.declared.datum.Datum as d
use Rattle.pg_values.specs.declared.datum.Datum.{Datum}
use Rattle.pg_values.specs.Parts.{AreItems}
use Rattle.pg_values.specs.Spelling.{IsArray, StandsInFront, array_front, count_of}
use Rattle.pg_values.proofs.ArrayLaws.{front_only, front_length}

pub front_of : (S : Datum → List ℕ → Type 0) (element : ℕ) (raw : List ℕ) (v : Datum) → IsArray false element S v raw → (dims : List Dim) × StandsInFront element dims raw
front_of S element raw v is = (is.dims, record { flag = is.flag; rest = is.rest; front = is.front; spelled = is.spelled })

-- what is behind the front
pub behind_is : (element : ℕ) (raw : List ℕ) (dims : List Dim) (front : StandsInFront element dims raw) → drop (12 + 8 * length dims) raw ≡ front.rest
behind_is element raw dims front =
    ap (λ (l : List ℕ). drop (12 + 8 * length dims) l) front.spelled
    ∙ drop_at (array_front front.flag element dims) front.rest (12 + 8 * length dims) (front_length front.flag element dims)

pub has_front : (element : ℕ) (raw : List ℕ) (dims : List Dim) → StandsInFront element dims raw → 12 + 8 * length dims ≤ length raw
has_front element raw dims front =
    let e : length raw ≡ length (array_front front.flag element dims) + length front.rest = ap length front.spelled ∙ length-append (array_front front.flag element dims) front.rest in
    let f : length (array_front front.flag element dims) ≡ 12 + 8 * length dims = front_length front.flag element dims in
    omega (arith, e, f)

pub items_of : (S : Datum → List ℕ → Type 0) (element : ℕ) (raw : List ℕ) (dims : List Dim) → StandsInFront element dims raw
    → (v : Datum) → IsArray false element S v raw → (items : List Datum) × AreItems true S (count_of dims) items (drop (12 + 8 * length dims) raw)
items_of S element raw dims front v is =
    let only = front_only element is.flag front.flag is.dims dims is.rest front.rest is.front front.front (sym is.spelled ∙ front.spelled) in (
      is.items,
      subst (λ (l : List ℕ). AreItems true S (count_of dims) is.items l) (only.2 ∙ sym (behind_is element raw dims front))
          (subst (λ (ds : List Dim). AreItems true S (count_of ds) is.items is.rest) only.1 is.are),
    )

pub array_of : (S : Datum → List ℕ → Type 0) (element : ℕ) (raw : List ℕ) (dims : List Dim) → StandsInFront element dims raw
    → (items : List Datum) → AreItems true S (count_of dims) items (drop (12 + 8 * length dims) raw) → IsArray false element S (d.Array dims items) raw
array_of S element raw dims front items are = record {
  dims = dims;
  items = items;
  flag = front.flag;
  rest = front.rest;
  same = refl;
  front = front.front;
  are = subst (λ (l : List ℕ). AreItems true S (count_of dims) items l) (behind_is element raw dims front) are;
  spelled = front.spelled;
  flagged = λ plain. absurd (cc plain);
}
