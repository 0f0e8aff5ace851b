-- Bytes that are appended, one behind another.
use Rattle.std.proofs.Common.{◌≡◌, ◌≢◌, ◌⊎◌, inl, inr, ℕ, ◌<◌, ◌≤◌, ◌+◌, ◌-◌, ◌^◌, Bool, true, false, List, [], ◌∷◌, ◌++◌, length, take, drop, get_or, Option, Some, None, Result, Ok, Err, ap, refl, sym, ◌∙◌, subst, arith, append_assoc, length-append, w32}
use Rattle.std.specs.Int.{to_be_bytes}
use Rattle.std.proofs.lemmas.List.{append-nil, take_at, drop_at, drop_more, drop_all}
use Rattle.pg_types.specs.declared.fault.ValueFault.{ValueFault}
use Rattle.pg_types.specs.declared.fault.ValueFault.TheVariants as fault
use Rattle.pg_values.specs.declared.datum.Datum as d
use Rattle.pg_values.specs.declared.datum.Datum.{Datum}
use Rattle.pg_values.specs.Parts.{part_bytes, SpellsPart, IsPart, IsNext, SpellItems}
use Rattle.pg_values.specs.Writing.{AreBytes, Appends, Begins, HasNone, WritesAs}

-- ---- bytes

pub front_bytes : (a b : List ℕ) → AreBytes (a ++ b) → AreBytes a
front_bytes [] b are = tt
front_bytes (x ∷ a) b (less, are) = (less, front_bytes a b are)

pub rest_bytes : (a b : List ℕ) → AreBytes (a ++ b) → AreBytes b
rest_bytes [] b are = are
rest_bytes (x ∷ a) b (less, are) = rest_bytes a b are

pub moved : {a b : List ℕ} → a ≡ b → AreBytes a → AreBytes b
moved {a} {b} e are = subst AreBytes e are

-- ---- one behind another

pub nothing : {old new : List ℕ} → new ≡ old → Begins old new
nothing {old} {new} e = record { more = []; behind = e ∙ sym (append-nil old) }

pub begun : {old mid new : List ℕ} → Begins old mid → Begins mid new → Begins old new
begun {old} {mid} {new} a b = record {
  more = a.more ++ b.more;
  behind = b.behind ∙ ap (λ (l : List ℕ). l ++ b.more) a.behind ∙ append_assoc old a.more b.more;
}

pub appended : (old mid new a b : List ℕ) → mid ≡ old ++ a → new ≡ mid ++ b → new ≡ old ++ (a ++ b)
appended old mid new a b e f = f ∙ ap (λ (l : List ℕ). l ++ b) e ∙ append_assoc old a b

pub begins : {form : List ℕ → Type 0} {old new : List ℕ} → Appends form old new → Begins old new
begins {form} {old} {new} a = record { more = a.bytes; behind = a.behind }

pub first : {old new : List ℕ} (bytes : List ℕ) → new ≡ old ++ bytes → Begins old new
first {old} {new} bytes e = record { more = bytes; behind = e }

-- what is written behind these bytes
pub behind_front : {A : Type 0} (W S V T : List ℕ → Type 0) (front old mid new : List ℕ) (r : Result A ValueFault) → mid ≡ old ++ front
    → ((rest : List ℕ) → W rest → V (front ++ rest)) → (HasNone S → HasNone T) → WritesAs W S mid new r → WritesAs V T old new r
behind_front W S V T front old mid new (Ok x) e ok none wrote =
    record { bytes = front ++ wrote.bytes; formed = ok wrote.bytes wrote.formed; behind = appended old mid new front wrote.bytes e wrote.behind }
behind_front W S V T front old mid new (Err fault.BadValue) e ok none wrote = (none wrote.0, begun (first front e) wrote.1)
behind_front W S V T front old mid new (Err fault.OutOfMemory) e ok none wrote = begun (first front e) wrote
behind_front W S V T front old mid new (Err fault.WasNull) e ok none wrote = absurd wrote
behind_front W S V T front old mid new (Err (fault.WrongType wrong)) e ok none wrote = absurd wrote

-- a fault that is handed on
pub handed : (W S V T : List ℕ → Type 0) (old mid new : List ℕ) (f : ValueFault) → Begins old mid → (HasNone S → HasNone T)
    → WritesAs {A = Unit {0}} W S mid new (Err f) → WritesAs {A = Unit {0}} V T old new (Err f)
handed W S V T old mid new fault.BadValue e none wrote = (none wrote.0, begun e wrote.1)
handed W S V T old mid new fault.OutOfMemory e none wrote = begun e wrote
handed W S V T old mid new fault.WasNull e none wrote = absurd wrote
handed W S V T old mid new (fault.WrongType wrong) e none wrote = absurd wrote

-- memory lacks
pub lacked : (V T : List ℕ → Type 0) (old new : List ℕ) (f : ValueFault) → f ≡ fault.OutOfMemory → Begins old new → WritesAs {A = Unit {0}} V T old new (Err f)
lacked V T old new f e begun = subst (λ (g : ValueFault). WritesAs {A = Unit {0}} V T old new (Err g)) (sym e) begun

-- no bytes spell it
pub refused : (V T : List ℕ → Type 0) (old new : List ℕ) (f : ValueFault) → f ≡ fault.BadValue → HasNone T → Begins old new → WritesAs {A = Unit {0}} V T old new (Err f)
refused V T old new f e none begun = subst (λ (g : ValueFault). WritesAs {A = Unit {0}} V T old new (Err g)) (sym e) (none, begun)

-- ---- parts

pub null_part : (S : Datum → List ℕ → Type 0) (v : Datum) → v ≡ d.Null → IsNext true S v (255 ∷ 255 ∷ 255 ∷ 255 ∷ []) []
null_part S v e = record { part = None; front = record { fits = refl; spelled = refl }; is = e }

pub some_part : (nullable : Bool) (S : Datum → List ℕ → Type 0) (v : Datum) (bytes : List ℕ) → length bytes < 2 ^ 31 → S v bytes
    → IsNext nullable S v (to_be_bytes w32 (length bytes) ++ bytes) []
some_part nullable S v bytes less is = record { part = Some bytes; front = record { fits = less; spelled = sym (append-nil (to_be_bytes w32 (length bytes) ++ bytes)) }; is = is }

-- a part that isn't null has bytes of its own
no_bytes : (nullable : Bool) (S : Datum → List ℕ → Type 0) (v : Datum) (part : Option (List ℕ)) (bytes rest : List ℕ) → (v ≢ d.Null) ⊎ (nullable ≡ false) → HasNone (S v) → AreBytes bytes
    → IsPart nullable part bytes rest → SpellsPart S part v → ⊥
no_bytes nullable S v None bytes rest (inl some) none are front is = some is
no_bytes nullable S v None bytes rest (inr full) none are front is = absurd (cc (front.fits, full))
no_bytes nullable S v (Some own) bytes rest some none are front is =
    none own (rest_bytes (to_be_bytes w32 (length own)) own (front_bytes (part_bytes (Some own)) rest (moved front.spelled are))) is

pub no_part : (nullable : Bool) (S : Datum → List ℕ → Type 0) (v : Datum) → (v ≢ d.Null) ⊎ (nullable ≡ false) → HasNone (S v) → HasNone (λ b. IsNext nullable S v b [])
no_part nullable S v some none bytes are next = no_bytes nullable S v next.part bytes [] some none are next.front next.is

-- how long a part is
pub part_size : (old bytes mid out : List ℕ) → mid ≡ old ++ (0 ∷ 0 ∷ 0 ∷ 0 ∷ []) → out ≡ mid ++ bytes → length out - (length old + 4) ≡ length bytes
part_size old bytes mid out e f =
    let first : length mid ≡ length old + 4 = ap (λ (l : List ℕ). length l) e ∙ length-append old (0 ∷ 0 ∷ 0 ∷ 0 ∷ []) in
    let whole : length out ≡ length mid + length bytes = ap (λ (l : List ℕ). length l) f ∙ length-append mid bytes in
    omega (arith, first, whole)

-- what was set in front of a part is its length
pub part_is : (old bytes new mid out : List ℕ) → mid ≡ old ++ (0 ∷ 0 ∷ 0 ∷ 0 ∷ []) → out ≡ mid ++ bytes
    → (new ≡ take (length old) out ++ to_be_bytes w32 (length out - (length old + 4)) ++ drop (length old + 4) out)
    → (new ≡ old ++ (to_be_bytes w32 (length bytes) ++ bytes)) × (length out - (length old + 4) ≡ length bytes)
part_is old bytes new mid out e f is =
    let zeros : List ℕ = 0 ∷ 0 ∷ 0 ∷ 0 ∷ [] in
    let whole : out ≡ old ++ (zeros ++ bytes) = appended old mid out zeros bytes e f in
    let also : out ≡ (old ++ zeros) ++ bytes = f ∙ ap (λ (l : List ℕ). l ++ bytes) e in
    let four : length (old ++ zeros) ≡ length old + 4 = length-append old zeros in
    let len : length out ≡ length (old ++ zeros) + length bytes = ap (λ (l : List ℕ). length l) also ∙ length-append (old ++ zeros) bytes in
    let size : length out - (length old + 4) ≡ length bytes = omega (arith, four, len) in
    let front : take (length old) out ≡ old = ap (λ (l : List ℕ). take (length old) l) whole ∙ take_at old (zeros ++ bytes) (length old) refl in
    let rest : drop (length old + 4) out ≡ bytes = ap (λ (l : List ℕ). drop (length old + 4) l) also ∙ drop_at (old ++ zeros) bytes (length old + 4) four in (
      is ∙ ap (λ (l : List ℕ). l ++ to_be_bytes w32 (length out - (length old + 4)) ++ drop (length old + 4) out) front
          ∙ ap (λ (l : List ℕ). old ++ to_be_bytes w32 (length out - (length old + 4)) ++ l) rest
          ∙ ap (λ (n : ℕ). old ++ to_be_bytes w32 n ++ bytes) size
          ∙ append_assoc old (to_be_bytes w32 (length bytes)) bytes,
      size,
    )

pub part_written : (nullable : Bool) (S : Datum → List ℕ → Type 0) (v : Datum) (old bytes new mid out : List ℕ) → mid ≡ old ++ (0 ∷ 0 ∷ 0 ∷ 0 ∷ []) → out ≡ mid ++ bytes → S v bytes
    → length out - (length old + 4) < 2 ^ 31 → (new ≡ take (length old) out ++ to_be_bytes w32 (length out - (length old + 4)) ++ drop (length old + 4) out)
    → Appends (λ b. IsNext nullable S v b []) old new
part_written nullable S v old bytes new mid out e f is less set =
    let made = part_is old bytes new mid out e f set in
    record { bytes = to_be_bytes w32 (length bytes) ++ bytes; formed = some_part nullable S v bytes (omega (arith, made.1, less)) is; behind = made.0 }

-- ---- items

-- the next part, and what is behind it
pub next_behind : (nullable : Bool) (S : Datum → List ℕ → Type 0) (v : Datum) (bytes rest : List ℕ) → IsNext nullable S v bytes [] → IsNext nullable S v (bytes ++ rest) rest
next_behind nullable S v bytes rest next = record {
  part = next.part;
  front = record {
    fits = next.front.fits;
    spelled = ap (λ (l : List ℕ). l ++ rest) (next.front.spelled ∙ append-nil (part_bytes next.part));
  };
  is = next.is;
}

-- where no part spells the value, none in front of other bytes does
pub no_next : (nullable : Bool) (S : Datum → List ℕ → Type 0) (v : Datum) (bytes rest : List ℕ) → HasNone (λ b. IsNext nullable S v b []) → AreBytes bytes
    → IsNext nullable S v bytes rest → ⊥
no_next nullable S v bytes rest none are next =
    let own : IsNext nullable S v (part_bytes next.part) [] =
    record { part = next.part; front = record { fits = next.front.fits; spelled = sym (append-nil (part_bytes next.part)) }; is = next.is } in
    none (part_bytes next.part) (front_bytes (part_bytes next.part) rest (moved next.front.spelled are)) own

-- what is behind a part
pub bytes_behind : (nullable : Bool) (S : Datum → List ℕ → Type 0) (v : Datum) (bytes rest : List ℕ) → AreBytes bytes → IsNext nullable S v bytes rest → AreBytes rest
bytes_behind nullable S v bytes rest are next = rest_bytes (part_bytes next.part) rest (moved next.front.spelled are)

-- what items behind others are to all items
abbrev pub Leads : (F G : List ℕ → Type 0) (old new : List ℕ) → Type 0
Leads F G old new = (more : List ℕ) × (new ≡ old ++ more) × ((rest : List ℕ) → F rest → G (more ++ rest))

pub at_item : (vs : List Datum) (i : ℕ) (v : Datum) → i < length vs → v ≡ get_or vs i v → drop i vs ≡ v ∷ drop (i + 1) vs
at_item vs i v less is = drop_more vs i v less ∙ ap (λ (y : Datum). y ∷ drop (i + 1) vs) (sym is)

pub leads_more : (F G H : List ℕ → Type 0) (old mid new bytes : List ℕ) → Leads F G old mid → new ≡ mid ++ bytes → ((rest : List ℕ) → H rest → F (bytes ++ rest)) → Leads H G old new
leads_more F G H old mid new bytes lead e step = (
  lead.0 ++ bytes,
  appended old mid new lead.0 bytes lead.1 e,
  λ rest is. subst G (sym (append_assoc lead.0 bytes rest)) (lead.2 (bytes ++ rest) (step rest is)),
)

pub leads_begin : (F G : List ℕ → Type 0) (old new : List ℕ) → Leads F G old new → Begins old new
leads_begin F G old new lead = record { more = lead.0; behind = lead.1 }

pub leads_end : (F G : List ℕ → Type 0) (old new : List ℕ) → Leads F G old new → F [] → Appends G old new
leads_end F G old new lead is = record { bytes = lead.0; formed = subst G (append-nil lead.0) (lead.2 [] is); behind = lead.1 }

pub leads_none : (G : List ℕ → Type 0) (old : List ℕ) → Leads G G old old
leads_none G old = ([], sym (append-nil old), λ rest is. is)

-- what is left of any bytes
abbrev pub Leaves : (F G : List ℕ → Type 0) → Type 0
Leaves F G = (bytes : List ℕ) → AreBytes bytes → G bytes → (rest : List ℕ) × AreBytes rest × F rest

pub no_more : (F G : List ℕ → Type 0) → Leaves F G → HasNone F → HasNone G
no_more F G leaves none bytes are is = let left = leaves bytes are is in none left.0 left.1 left.2

-- ---- items of one type

abbrev pub ItemsFrom : (nullable : Bool) → (Datum → List ℕ → Type 0) → List Datum → ℕ → List ℕ → Type 0
ItemsFrom nullable S vs i bytes = SpellItems nullable S (drop i vs) bytes

pub item_step : (nullable : Bool) (S : Datum → List ℕ → Type 0) (vs : List Datum) (i : ℕ) (v : Datum) (bytes : List ℕ) → i < length vs → v ≡ get_or vs i v → IsNext nullable S v bytes []
    → (rest : List ℕ) → ItemsFrom nullable S vs (i + 1) rest → ItemsFrom nullable S vs i (bytes ++ rest)
item_step nullable S vs i v bytes less is next rest are =
    let here : SpellItems nullable S (v ∷ drop (i + 1) vs) (bytes ++ rest) = (rest, next_behind nullable S v bytes rest next, are) in
    subst (λ (l : List Datum). SpellItems nullable S l (bytes ++ rest)) (sym (at_item vs i v less is)) here

pub item_left : (nullable : Bool) (S : Datum → List ℕ → Type 0) (vs : List Datum) (i : ℕ) (v : Datum) → i < length vs → v ≡ get_or vs i v
    → Leaves (ItemsFrom nullable S vs (i + 1)) (ItemsFrom nullable S vs i)
item_left nullable S vs i v less is bytes are spelled =
    let here : SpellItems nullable S (v ∷ drop (i + 1) vs) bytes = subst (λ (l : List Datum). SpellItems nullable S l bytes) (at_item vs i v less is) spelled in
    (here.0, bytes_behind nullable S v bytes here.0 are here.1, here.2)

pub item_none : (nullable : Bool) (S : Datum → List ℕ → Type 0) (vs : List Datum) (i : ℕ) (v : Datum) → i < length vs → v ≡ get_or vs i v
    → HasNone (λ b. IsNext nullable S v b []) → HasNone (ItemsFrom nullable S vs i)
item_none nullable S vs i v less is none bytes are spelled =
    let here : SpellItems nullable S (v ∷ drop (i + 1) vs) bytes = subst (λ (l : List Datum). SpellItems nullable S l bytes) (at_item vs i v less is) spelled in
    no_next nullable S v bytes here.0 none are here.1

pub items_over : (nullable : Bool) (S : Datum → List ℕ → Type 0) (vs : List Datum) (i : ℕ) → length vs ≤ i → ItemsFrom nullable S vs i []
items_over nullable S vs i less = subst (λ (l : List Datum). SpellItems nullable S l []) (sym (drop_all i vs less)) refl

pub leaves_more : (F G H : List ℕ → Type 0) → Leaves F G → Leaves H F → Leaves H G
leaves_more F G H a b bytes are is = let left = a bytes are is in b left.0 left.1 left.2
