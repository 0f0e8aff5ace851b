-- Values without parts, sent.
use Rattle.std.proofs.Common.{◌≡◌, ◌≢◌, ◌⊎◌, inl, inr, ℕ, ℤ, pos, ◌<◌, ◌^◌, ◌==◌, Bool, true, false, if◌then◌else◌, List, [], ◌∷◌, length, Contains, bytes_eq, Option, Some, None, Result, Ok, Err, ap, refl, sym, ◌∙◌, subst, arith, rules, FitsSigned, w32, w64}
use Rattle.std.specs.List.{list_any}
use Rattle.std.specs.Bool.{MatchBool}
use Rattle.std.specs.Int.{Width}
use Rattle.std.specs.Str.{is_utf8}
use Rattle.pg_types.specs.declared.fault.ValueFault.{ValueFault}
use Rattle.pg_types.specs.declared.fault.ValueFault.TheVariants as fault
use Rattle.pg_types.specs.declared.fault.RustType.TheVariants as rust
use Rattle.pg_types.specs.declared.format.IsNull.{IsNull}
use Rattle.pg_types.specs.declared.value.Value.{Value}
use Rattle.pg_types.specs.declared.value.Value.TheVariants as value
use Rattle.pg_types.specs.Oids as oids
use Rattle.pg_types.specs.Oids.{is_text}
use Rattle.pg_types.specs.AnyValues.{fits, value_in, value_gives, number_given, wrong_given}
use Rattle.pg_types.specs.Values.{Given, Writes, bytes_given, checked, bool_bytes, int_bytes, int_in, wrong_type}
use Rattle.pg_types.proofs.RoundTrips.{number_in, text_in}
use Rattle.pg_values.specs.declared.datum.Datum as d
use Rattle.pg_values.specs.declared.datum.Datum.{Datum}
use Rattle.pg_values.specs.Scalars.{datum_of, IsValue, IsDate, IsTimestamp, IsUuid, IsLabel}
use Rattle.pg_values.specs.Sending.{bytes_in, value_send, date_send, timestamp_send, uuid_send, enum_send}
use Rattle.pg_values.specs.Writing.{AreBytes, HasNone, Puts, Sends, WritesSent}
use Rattle.pg_values.proofs.SendLaws.{sent_given, sent_put}
use Rattle.pg_values.proofs.SentCases.{fails, label_known, label_in}
use Rattle.pg_values.proofs.PlainLaws.{value_some}
use Rattle.pg_values.proofs.ValueLaws.{value_of, value_back, has_value, is_value, shape, no_number, number_some, some_chosen, given_none, bool_back, bytea_back, date_bytes, timestamp_bytes, fits_is32, fits_is64, in32, in64, text_is_utf8}

-- ---- what is told is what is sent

pub bool_sent : (b : Bool) (n : ℕ) (old new : List ℕ) (answer : Result IsNull ValueFault) (r : Result (Unit {0}) ValueFault)
    → Writes false (value_gives (value.Bool b) n) old new answer → Sends answer r → WritesSent (value_send n (d.Bool b)) old new r
bool_sent b n old new answer r wrote sends = sent_given (value_gives (value.Bool b) n) old new answer r (λ e. some_chosen (n == oids.bool) (bool_bytes b) _ e) wrote sends

pub int_sent : (z : ℤ) (n : ℕ) (old new : List ℕ) (answer : Result IsNull ValueFault) (r : Result (Unit {0}) ValueFault)
    → Writes false (number_given z n) old new answer → Sends answer r → WritesSent (value_send n (d.Int z)) old new r
int_sent z n old new answer r wrote sends = sent_given (number_given z n) old new answer r (λ e. number_some z n e) wrote sends

-- whichever fault is told, there are no bytes
either_fault : (b : Bool) (own : List ℕ) (f g : ValueFault) → bytes_in (if b then bytes_given own else Err f) ≡ bytes_in (if b then bytes_given own else Err g)
either_fault true own f g = refl
either_fault false own f g = refl

pub text_sent : (t : List ℕ) → is_utf8 t ≡ true → (n : ℕ) (old new : List ℕ) (answer : Result IsNull ValueFault) (r : Result (Unit {0}) ValueFault)
    → Writes false (checked (is_text n) n rust.Str (bytes_given t)) old new answer → Sends answer r → WritesSent (value_send n (d.Text t)) old new r
text_sent t u n old new answer r wrote sends =
    let given : Given = checked (is_text n) n rust.Str (bytes_given t) in
    let same : bytes_in given ≡ bytes_in (value_gives (value.Text t) n) = either_fault (is_text n) t (fault.WrongType (wrong_type n rust.Str)) (fault.WrongType (wrong_type n rust.Value)) in
    let whole : bytes_in given ≡ value_send n (d.Text t) = same ∙ sym (ap (λ (b : Bool). if b then bytes_in (value_gives (value.Text t) n) else None) u) in
    subst (λ (o : Option (List ℕ)). WritesSent o old new r) whole (sent_given given old new answer r (λ e. some_chosen (is_text n) t _ e) wrote sends)

pub bytea_sent : (t : List ℕ) (n : ℕ) (old new : List ℕ) (answer : Result IsNull ValueFault) (r : Result (Unit {0}) ValueFault)
    → Writes false (checked (n == oids.bytea) n rust.Blob (bytes_given t)) old new answer → Sends answer r → WritesSent (value_send n (d.Bytes t)) old new r
bytea_sent t n old new answer r wrote sends =
    let given : Given = checked (n == oids.bytea) n rust.Blob (bytes_given t) in
    let same : bytes_in given ≡ value_send n (d.Bytes t) = either_fault (n == oids.bytea) t (fault.WrongType (wrong_type n rust.Blob)) (fault.WrongType (wrong_type n rust.Value)) in
    subst (λ (o : Option (List ℕ)). WritesSent o old new r) same (sent_given given old new answer r (λ e. some_chosen (n == oids.bytea) t _ e) wrote sends)

in_range : (b : Bool) (own : List ℕ) → b ≡ true → bytes_in (bytes_given own) ≡ bytes_in (if b then bytes_given own else Err fault.BadValue)
in_range true own e = refl
in_range false own e = absurd (cc e)

pub date_sent : (z : ℤ) → FitsSigned w32 z → (old new : List ℕ) (answer : Result IsNull ValueFault) (r : Result (Unit {0}) ValueFault)
    → Writes false (bytes_given (int_bytes w32 z)) old new answer → Sends answer r → WritesSent (date_send (d.Date z)) old new r
date_sent z f old new answer r wrote sends =
    subst (λ (o : Option (List ℕ)). WritesSent o old new r) (in_range (fits w32 z) (int_bytes w32 z) (fits_is32 z f))
    (sent_given (bytes_given (int_bytes w32 z)) old new answer r (given_none (int_bytes w32 z)) wrote sends)

pub timestamp_sent : (z : ℤ) → FitsSigned w64 z → (old new : List ℕ) (answer : Result IsNull ValueFault) (r : Result (Unit {0}) ValueFault)
    → Writes false (bytes_given (int_bytes w64 z)) old new answer → Sends answer r → WritesSent (timestamp_send (d.Timestamp z)) old new r
timestamp_sent z f old new answer r wrote sends =
    subst (λ (o : Option (List ℕ)). WritesSent o old new r) (in_range (fits w64 z) (int_bytes w64 z) (fits_is64 z f))
    (sent_given (bytes_given (int_bytes w64 z)) old new answer r (given_none (int_bytes w64 z)) wrote sends)

pub label_sent : (labels : List (List ℕ)) (label old new : List ℕ) (r : Result (Unit {0}) ValueFault) → Contains labels label → Puts label old new r
    → WritesSent (enum_send labels (d.Label label)) old new r
label_sent labels label old new r has put =
    subst (λ (b : Bool). WritesSent (if b then Some label else None) old new r) (sym (label_known labels label has)) (sent_put label old new r put)

pub label_unsent : (labels : List (List ℕ)) (label : List ℕ) → (Contains labels label → ⊥) → enum_send labels (d.Label label) ≡ None
label_unsent labels label other = ap (λ (b : Bool). if b then Some label else None) (fails (list_any (λ l. bytes_eq l label) labels) (λ e. other (label_in labels label e)))

-- ---- what is sent spells the value

same_nat : (n k : ℕ) → (n == k) ≡ true → n ≡ k
same_nat n k e = search rules

nat_same : (n k : ℕ) → n ≡ k → (n == k) ≡ true
nat_same n k e = search rules

fits_back32 : (z : ℤ) → fits w32 z ≡ true → FitsSigned w32 z
fits_back32 z f = search rules

fits_back64 : (z : ℤ) → fits w64 z ≡ true → FitsSigned w64 z
fits_back64 z f = search rules

-- a choice of bytes
picked : (b : Bool) (own bytes : List ℕ) (f : ValueFault) → bytes_in (if b then bytes_given own else Err f) ≡ Some bytes → (b ≡ true) × (own ≡ bytes)
picked true own bytes f e = (refl, cc e)
picked false own bytes f e = absurd (cc e)

unpicked : (b : Bool) (own : List ℕ) (f : ValueFault) → bytes_in (if b then bytes_given own else Err f) ≡ None → b ≡ false
unpicked true own f e = absurd (cc e)
unpicked false own f e = refl

pub some_if : (b : Bool) (own bytes : List ℕ) → (if b then Some own else None) ≡ Some bytes → (b ≡ true) × (own ≡ bytes)
some_if true own bytes e = (refl, cc e)
some_if false own bytes e = absurd (cc e)

pub none_if : (b : Bool) (own : List ℕ) → (if b then Some own else None) ≡ None → b ≡ false
none_if true own e = absurd (cc e)
none_if false own e = refl

given_back : (given : Given) (bytes : List ℕ) → bytes_in given ≡ Some bytes → given ≡ bytes_given bytes
given_back (Ok o) bytes e = ap (λ (x : Option (List ℕ)). Ok x) e
given_back (Err f) bytes e = absurd (cc e)

given_fault : (given : Given) → (given ≡ Ok None → ⊥) → bytes_in given ≡ None → (f : ValueFault) × (given ≡ Err f)
given_fault (Ok None) some e = absurd (some refl)
given_fault (Ok (Some bytes)) some e = absurd (cc e)
given_fault (Err f) some e = (f, refl)

-- each value that is sent is spelled by its bytes
abbrev pub SentSo : (send : Datum → Option (List ℕ)) → (S : Datum → List ℕ → Type 0) → Type 0
SentSo send S = (v : Datum) (bytes : List ℕ) → send v ≡ Some bytes → S v bytes

-- no bytes spell a value that isn't sent
abbrev pub UnsentSo : (send : Datum → Option (List ℕ)) → (S : Datum → List ℕ → Type 0) → Type 0
UnsentSo send S = (v : Datum) → send v ≡ None → HasNone (S v)

text_if : (u : Bool) (o : Option (List ℕ)) (bytes : List ℕ) → (if u then o else None) ≡ Some bytes → (u ≡ true) × (o ≡ Some bytes)
text_if true o bytes e = (refl, e)
text_if false o bytes e = absurd (cc e)

text_unless : (u : Bool) (o : Option (List ℕ)) → (if u then o else None) ≡ None → (u ≡ false) ⊎ (o ≡ None)
text_unless true o e = inr e
text_unless false o e = inl refl

bool_formed : (n : ℕ) (b : Bool) (bytes : List ℕ) → value_send n (d.Bool b) ≡ Some bytes → IsValue true n (d.Bool b) bytes
bool_formed n b bytes e =
    let p = picked (n == oids.bool) (bool_bytes b) bytes _ e in
    is_value (value.Bool b) n bytes (bool_back b n bytes (same_nat n oids.bool p.0) p.1) (given_back (value_gives (value.Bool b) n) bytes e)

int_formed : (n : ℕ) (z : ℤ) (bytes : List ℕ) → value_send n (d.Int z) ≡ Some bytes → IsValue true n (d.Int z) bytes
int_formed n z bytes e =
    let given : number_given z n ≡ bytes_given bytes = given_back (number_given z n) bytes e in
    is_value (value.Int z) n bytes (number_in z bytes n given) given

text_formed : (n : ℕ) (t bytes : List ℕ) → value_send n (d.Text t) ≡ Some bytes → IsValue true n (d.Text t) bytes
text_formed n t bytes e =
    let p = text_if (is_utf8 t) (bytes_in (value_gives (value.Text t) n)) bytes e in
    let given : value_gives (value.Text t) n ≡ bytes_given bytes = given_back (value_gives (value.Text t) n) bytes p.1 in
    is_value (value.Text t) n bytes (text_in t p.0 bytes n given) given

bytea_formed : (n : ℕ) (t bytes : List ℕ) → value_send n (d.Bytes t) ≡ Some bytes → IsValue true n (d.Bytes t) bytes
bytea_formed n t bytes e =
    let p = picked (n == oids.bytea) t bytes _ e in
    is_value (value.Bytes t) n bytes (bytea_back t n bytes (same_nat n oids.bytea p.0) p.1) (given_back (value_gives (value.Bytes t) n) bytes e)

date_is : (z : ℤ) (bytes : List ℕ) → date_send (d.Date z) ≡ Some bytes → IsDate (d.Date z) bytes
date_is z bytes e = let p = picked (fits w32 z) (int_bytes w32 z) bytes _ e in subst (IsDate (d.Date z)) p.1 (date_bytes z (fits_back32 z p.0))

timestamp_is : (z : ℤ) (bytes : List ℕ) → timestamp_send (d.Timestamp z) ≡ Some bytes → IsTimestamp (d.Timestamp z) bytes
timestamp_is z bytes e = let p = picked (fits w64 z) (int_bytes w64 z) bytes _ e in subst (IsTimestamp (d.Timestamp z)) p.1 (timestamp_bytes z (fits_back64 z p.0))

uuid_is : (b bytes : List ℕ) → uuid_send (d.Uuid b) ≡ Some bytes → IsUuid (d.Uuid b) bytes
uuid_is b bytes e =
    let p = some_if (length b == 16) b bytes e in
    subst (IsUuid (d.Uuid b)) p.1 (record { sixteen = same_nat (length b) 16 p.0; same = refl })

label_is : (labels : List (List ℕ)) (label bytes : List ℕ) → enum_send labels (d.Label label) ≡ Some bytes → IsLabel labels (d.Label label) bytes
label_is labels label bytes e =
    let p = some_if (list_any (λ l. bytes_eq l label) labels) label bytes e in
    subst (IsLabel labels (d.Label label)) p.1 (record { known = label_in labels label p.0; same = refl })

-- ---- what isn't sent isn't spelled

-- a datum of another kind isn't one of a `Value`
no_value : (n : ℕ) (v : Datum) → value_of v ≡ None → HasNone (IsValue false n v)
no_value n v other bytes are is =
    let both : None ≡ Some is.value = sym other ∙ ap value_of is.same ∙ value_back is.value in
    absurd (cc both)

bool_none : (n : ℕ) (b : Bool) → value_send n (d.Bool b) ≡ None → HasNone (IsValue false n (d.Bool b))
bool_none n b e bytes are is = absurd (cc ((shape n bytes (value.Bool b) (has_value (value.Bool b) n bytes is)).0, unpicked (n == oids.bool) (bool_bytes b) _ e))

int_none : (n : ℕ) (z : ℤ) → value_send n (d.Int z) ≡ None → HasNone (IsValue false n (d.Int z))
int_none n z e bytes are is =
    let f = given_fault (number_given z n) (λ g. number_some z n g) e in
    no_number z bytes f.0 are n f.1 (has_value (value.Int z) n bytes is)

text_none : (n : ℕ) (t : List ℕ) → value_send n (d.Text t) ≡ None → HasNone (IsValue false n (d.Text t))
text_none n t e bytes are is = go (text_unless (is_utf8 t) (bytes_in (value_gives (value.Text t) n)) e)
  where
    go : (is_utf8 t ≡ false) ⊎ (bytes_in (value_gives (value.Text t) n) ≡ None) → ⊥
    go (inl isnt) = absurd (cc (isnt, text_is_utf8 n bytes t (has_value (value.Text t) n bytes is)))
    go (inr isnt) = absurd (cc ((shape n bytes (value.Text t) (has_value (value.Text t) n bytes is)).0, unpicked (is_text n) t _ isnt))

bytea_none : (n : ℕ) (t : List ℕ) → value_send n (d.Bytes t) ≡ None → HasNone (IsValue false n (d.Bytes t))
bytea_none n t e bytes are is = absurd (cc ((shape n bytes (value.Bytes t) (has_value (value.Bytes t) n bytes is)).0, unpicked (n == oids.bytea) t _ e))

date_no : (z : ℤ) → date_send (d.Date z) ≡ None → HasNone (IsDate (d.Date z))
date_no z e bytes are is =
    let isnt : fits w32 z ≡ false = unpicked (fits w32 z) (int_bytes w32 z) _ e in
    let same : d.Date z ≡ d.Date (int_in w32 bytes) = is.same in
    let number : z ≡ int_in w32 bytes = cc same in
    absurd (cc (isnt, ap (fits w32) number ∙ in32 bytes is.four are))

timestamp_no : (z : ℤ) → timestamp_send (d.Timestamp z) ≡ None → HasNone (IsTimestamp (d.Timestamp z))
timestamp_no z e bytes are is =
    let isnt : fits w64 z ≡ false = unpicked (fits w64 z) (int_bytes w64 z) _ e in
    let same : d.Timestamp z ≡ d.Timestamp (int_in w64 bytes) = is.same in
    let number : z ≡ int_in w64 bytes = cc same in
    absurd (cc (isnt, ap (fits w64) number ∙ in64 bytes is.eight are))

uuid_no : (b : List ℕ) → uuid_send (d.Uuid b) ≡ None → HasNone (IsUuid (d.Uuid b))
uuid_no b e bytes are is =
    let same : d.Uuid b ≡ d.Uuid bytes = is.same in
    let own : b ≡ bytes = cc same in
    absurd (cc (none_if (length b == 16) b e, nat_same (length b) 16 (ap (λ (l : List ℕ). length l) own ∙ is.sixteen)))

label_no : (labels : List (List ℕ)) (label : List ℕ) → enum_send labels (d.Label label) ≡ None → HasNone (IsLabel labels (d.Label label))
label_no labels label e bytes are is =
    let same : d.Label label ≡ d.Label bytes = is.same in
    let own : label ≡ bytes = cc same in
    absurd (cc (none_if (list_any (λ l. bytes_eq l label) labels) label e, label_known labels label (subst (λ (l : List ℕ). Contains labels l) (sym own) is.known)))

-- ---- each datum

pub value_formed : (n : ℕ) → SentSo (value_send n) (IsValue true n)
value_formed n d.Null bytes e = absurd (cc e)
value_formed n (d.Bool b) bytes e = bool_formed n b bytes e
value_formed n (d.Int z) bytes e = int_formed n z bytes e
value_formed n (d.Text t) bytes e = text_formed n t bytes e
value_formed n (d.Bytes b) bytes e = bytea_formed n b bytes e
value_formed n (d.Label t) bytes e = absurd (cc e)
value_formed n d.NotANumber bytes e = absurd (cc e)
value_formed n (d.Numeric z scale) bytes e = absurd (cc e)
value_formed n (d.Date z) bytes e = absurd (cc e)
value_formed n (d.Timestamp z) bytes e = absurd (cc e)
value_formed n (d.Uuid b) bytes e = absurd (cc e)
value_formed n (d.Array' dims shape row) bytes e = absurd (cc e)
value_formed n (d.Range' empty lower upper shape row) bytes e = absurd (cc e)
value_formed n (d.Composite' shape row) bytes e = absurd (cc e)

pub date_formed : SentSo date_send IsDate
date_formed d.Null bytes e = absurd (cc e)
date_formed (d.Bool b) bytes e = absurd (cc e)
date_formed (d.Int z) bytes e = absurd (cc e)
date_formed (d.Text t) bytes e = absurd (cc e)
date_formed (d.Bytes b) bytes e = absurd (cc e)
date_formed (d.Label t) bytes e = absurd (cc e)
date_formed d.NotANumber bytes e = absurd (cc e)
date_formed (d.Numeric z scale) bytes e = absurd (cc e)
date_formed (d.Date z) bytes e = date_is z bytes e
date_formed (d.Timestamp z) bytes e = absurd (cc e)
date_formed (d.Uuid b) bytes e = absurd (cc e)
date_formed (d.Array' dims shape row) bytes e = absurd (cc e)
date_formed (d.Range' empty lower upper shape row) bytes e = absurd (cc e)
date_formed (d.Composite' shape row) bytes e = absurd (cc e)

pub timestamp_formed : SentSo timestamp_send IsTimestamp
timestamp_formed d.Null bytes e = absurd (cc e)
timestamp_formed (d.Bool b) bytes e = absurd (cc e)
timestamp_formed (d.Int z) bytes e = absurd (cc e)
timestamp_formed (d.Text t) bytes e = absurd (cc e)
timestamp_formed (d.Bytes b) bytes e = absurd (cc e)
timestamp_formed (d.Label t) bytes e = absurd (cc e)
timestamp_formed d.NotANumber bytes e = absurd (cc e)
timestamp_formed (d.Numeric z scale) bytes e = absurd (cc e)
timestamp_formed (d.Date z) bytes e = absurd (cc e)
timestamp_formed (d.Timestamp z) bytes e = timestamp_is z bytes e
timestamp_formed (d.Uuid b) bytes e = absurd (cc e)
timestamp_formed (d.Array' dims shape row) bytes e = absurd (cc e)
timestamp_formed (d.Range' empty lower upper shape row) bytes e = absurd (cc e)
timestamp_formed (d.Composite' shape row) bytes e = absurd (cc e)

pub uuid_formed : SentSo uuid_send IsUuid
uuid_formed d.Null bytes e = absurd (cc e)
uuid_formed (d.Bool b) bytes e = absurd (cc e)
uuid_formed (d.Int z) bytes e = absurd (cc e)
uuid_formed (d.Text t) bytes e = absurd (cc e)
uuid_formed (d.Bytes b) bytes e = absurd (cc e)
uuid_formed (d.Label t) bytes e = absurd (cc e)
uuid_formed d.NotANumber bytes e = absurd (cc e)
uuid_formed (d.Numeric z scale) bytes e = absurd (cc e)
uuid_formed (d.Date z) bytes e = absurd (cc e)
uuid_formed (d.Timestamp z) bytes e = absurd (cc e)
uuid_formed (d.Uuid b) bytes e = uuid_is b bytes e
uuid_formed (d.Array' dims shape row) bytes e = absurd (cc e)
uuid_formed (d.Range' empty lower upper shape row) bytes e = absurd (cc e)
uuid_formed (d.Composite' shape row) bytes e = absurd (cc e)

pub enum_formed : (labels : List (List ℕ)) → SentSo (enum_send labels) (IsLabel labels)
enum_formed labels d.Null bytes e = absurd (cc e)
enum_formed labels (d.Bool b) bytes e = absurd (cc e)
enum_formed labels (d.Int z) bytes e = absurd (cc e)
enum_formed labels (d.Text t) bytes e = absurd (cc e)
enum_formed labels (d.Bytes b) bytes e = absurd (cc e)
enum_formed labels (d.Label t) bytes e = label_is labels t bytes e
enum_formed labels d.NotANumber bytes e = absurd (cc e)
enum_formed labels (d.Numeric z scale) bytes e = absurd (cc e)
enum_formed labels (d.Date z) bytes e = absurd (cc e)
enum_formed labels (d.Timestamp z) bytes e = absurd (cc e)
enum_formed labels (d.Uuid b) bytes e = absurd (cc e)
enum_formed labels (d.Array' dims shape row) bytes e = absurd (cc e)
enum_formed labels (d.Range' empty lower upper shape row) bytes e = absurd (cc e)
enum_formed labels (d.Composite' shape row) bytes e = absurd (cc e)

pub value_unsent : (n : ℕ) → UnsentSo (value_send n) (IsValue false n)
value_unsent n d.Null e = λ bytes are is. value_some n bytes is
value_unsent n (d.Bool b) e = bool_none n b e
value_unsent n (d.Int z) e = int_none n z e
value_unsent n (d.Text t) e = text_none n t e
value_unsent n (d.Bytes b) e = bytea_none n b e
value_unsent n (d.Label t) e = no_value n (d.Label t) refl
value_unsent n d.NotANumber e = no_value n d.NotANumber refl
value_unsent n (d.Numeric z scale) e = no_value n (d.Numeric z scale) refl
value_unsent n (d.Date z) e = no_value n (d.Date z) refl
value_unsent n (d.Timestamp z) e = no_value n (d.Timestamp z) refl
value_unsent n (d.Uuid b) e = no_value n (d.Uuid b) refl
value_unsent n (d.Array' dims shape row) e = no_value n (d.Array' dims shape row) refl
value_unsent n (d.Range' empty lower upper shape row) e = no_value n (d.Range' empty lower upper shape row) refl
value_unsent n (d.Composite' shape row) e = no_value n (d.Composite' shape row) refl

pub date_unsent : UnsentSo date_send IsDate
date_unsent d.Null e = λ bytes are is. absurd (cc is.same)
date_unsent (d.Bool b) e = λ bytes are is. absurd (cc is.same)
date_unsent (d.Int z) e = λ bytes are is. absurd (cc is.same)
date_unsent (d.Text t) e = λ bytes are is. absurd (cc is.same)
date_unsent (d.Bytes b) e = λ bytes are is. absurd (cc is.same)
date_unsent (d.Label t) e = λ bytes are is. absurd (cc is.same)
date_unsent d.NotANumber e = λ bytes are is. absurd (cc is.same)
date_unsent (d.Numeric z scale) e = λ bytes are is. absurd (cc is.same)
date_unsent (d.Date z) e = date_no z e
date_unsent (d.Timestamp z) e = λ bytes are is. absurd (cc is.same)
date_unsent (d.Uuid b) e = λ bytes are is. absurd (cc is.same)
date_unsent (d.Array' dims shape row) e = λ bytes are is. absurd (cc is.same)
date_unsent (d.Range' empty lower upper shape row) e = λ bytes are is. absurd (cc is.same)
date_unsent (d.Composite' shape row) e = λ bytes are is. absurd (cc is.same)

pub timestamp_unsent : UnsentSo timestamp_send IsTimestamp
timestamp_unsent d.Null e = λ bytes are is. absurd (cc is.same)
timestamp_unsent (d.Bool b) e = λ bytes are is. absurd (cc is.same)
timestamp_unsent (d.Int z) e = λ bytes are is. absurd (cc is.same)
timestamp_unsent (d.Text t) e = λ bytes are is. absurd (cc is.same)
timestamp_unsent (d.Bytes b) e = λ bytes are is. absurd (cc is.same)
timestamp_unsent (d.Label t) e = λ bytes are is. absurd (cc is.same)
timestamp_unsent d.NotANumber e = λ bytes are is. absurd (cc is.same)
timestamp_unsent (d.Numeric z scale) e = λ bytes are is. absurd (cc is.same)
timestamp_unsent (d.Date z) e = λ bytes are is. absurd (cc is.same)
timestamp_unsent (d.Timestamp z) e = timestamp_no z e
timestamp_unsent (d.Uuid b) e = λ bytes are is. absurd (cc is.same)
timestamp_unsent (d.Array' dims shape row) e = λ bytes are is. absurd (cc is.same)
timestamp_unsent (d.Range' empty lower upper shape row) e = λ bytes are is. absurd (cc is.same)
timestamp_unsent (d.Composite' shape row) e = λ bytes are is. absurd (cc is.same)

pub uuid_unsent : UnsentSo uuid_send IsUuid
uuid_unsent d.Null e = λ bytes are is. absurd (cc is.same)
uuid_unsent (d.Bool b) e = λ bytes are is. absurd (cc is.same)
uuid_unsent (d.Int z) e = λ bytes are is. absurd (cc is.same)
uuid_unsent (d.Text t) e = λ bytes are is. absurd (cc is.same)
uuid_unsent (d.Bytes b) e = λ bytes are is. absurd (cc is.same)
uuid_unsent (d.Label t) e = λ bytes are is. absurd (cc is.same)
uuid_unsent d.NotANumber e = λ bytes are is. absurd (cc is.same)
uuid_unsent (d.Numeric z scale) e = λ bytes are is. absurd (cc is.same)
uuid_unsent (d.Date z) e = λ bytes are is. absurd (cc is.same)
uuid_unsent (d.Timestamp z) e = λ bytes are is. absurd (cc is.same)
uuid_unsent (d.Uuid b) e = uuid_no b e
uuid_unsent (d.Array' dims shape row) e = λ bytes are is. absurd (cc is.same)
uuid_unsent (d.Range' empty lower upper shape row) e = λ bytes are is. absurd (cc is.same)
uuid_unsent (d.Composite' shape row) e = λ bytes are is. absurd (cc is.same)

pub enum_unsent : (labels : List (List ℕ)) → UnsentSo (enum_send labels) (IsLabel labels)
enum_unsent labels d.Null e = λ bytes are is. absurd (cc is.same)
enum_unsent labels (d.Bool b) e = λ bytes are is. absurd (cc is.same)
enum_unsent labels (d.Int z) e = λ bytes are is. absurd (cc is.same)
enum_unsent labels (d.Text t) e = λ bytes are is. absurd (cc is.same)
enum_unsent labels (d.Bytes b) e = λ bytes are is. absurd (cc is.same)
enum_unsent labels (d.Label t) e = label_no labels t e
enum_unsent labels d.NotANumber e = λ bytes are is. absurd (cc is.same)
enum_unsent labels (d.Numeric z scale) e = λ bytes are is. absurd (cc is.same)
enum_unsent labels (d.Date z) e = λ bytes are is. absurd (cc is.same)
enum_unsent labels (d.Timestamp z) e = λ bytes are is. absurd (cc is.same)
enum_unsent labels (d.Uuid b) e = λ bytes are is. absurd (cc is.same)
enum_unsent labels (d.Array' dims shape row) e = λ bytes are is. absurd (cc is.same)
enum_unsent labels (d.Range' empty lower upper shape row) e = λ bytes are is. absurd (cc is.same)
enum_unsent labels (d.Composite' shape row) e = λ bytes are is. absurd (cc is.same)
