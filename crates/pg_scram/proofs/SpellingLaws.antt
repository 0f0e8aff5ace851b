-- What is read is what is spelled.
use Rattle.std.proofs.Common.{◌≡◌, ◌↔◌, ◌≢◌, ℕ, ◌<◌, ◌≤◌, ◌==◌, ◌&&◌, nat_lt, nat_le, nat_eq, not, if◌then◌else◌, List, [], ◌∷◌, ◌++◌, length, take, drop, codes, Bool, true, false, Option, Some, None, Result, Ok, Err, refl, sym, ap, ap₂, subst, ◌∙◌, arith}
use Rattle.std.proofs.lemmas.Bool.{and_parts, leb-true, le-leb, ltb-true, lt-ltb, ne_eqb, not-true}
use Rattle.std.proofs.lemmas.List.{append_assoc, take-append-drop}
use Rattle.std.proofs.lemmas.List.Elements.{All-nil, All-cons}
use Rattle.std.proofs.lemmas.List.Splits.{slice_split_none, slice_split_at, join_with_byte-slice_split}
use Rattle.std.proofs.lemmas.Slice.Eq.{bytes_eq-Decides}
use Rattle.std.specs.Char.{is_ascii_digit}
use Rattle.std.specs.List.{All, list_all, starts_with}
use Rattle.std.specs.Str.{byte, bytes_eq, all_ascii_digits}
use Rattle.std.specs.Str.Parse.{digits_value}
use Rattle.base64.specs.GeneralPurpose.{IsBytes}
use Rattle.pg_spec.specs.Faults.{◌>>=◌, ScramFault, BadMessage, BadNonce, BadSalt, BadIterations, BadSignature}
use Rattle.pg_spec.specs.Passwords.{ServerFirst, after_prefix, base64, from_base64, is_nonce_byte, iterations_of, scram_if, scram_or, server_final_fault, server_first_of, told_by}
use Rattle.pg_scram.specs.Challenge.{fields_of}
use Rattle.pg_scram.specs.Spelling.{Spells}
use Rattle.pg_scram.proofs.Base64Laws.{base64_free, read_back, read_written}

none-some : {A : Type 0} (x : A) → None ≡ Some x → ⊥
none-some x e = cc e

err-ok : {A : Type 0} (fault : ScramFault) (x : A) → Err fault ≡ Ok x → ⊥
err-ok fault x e = cc e

-- ---- a text and its fields

abbrev is_comma : ℕ → Bool
is_comma c = c == byte ","

-- three fields, joined by commas
joined : (message r s i : List ℕ) → fields_of message ≡ r ∷ s ∷ i ∷ [] → message ≡ r ++ 44 ∷ (s ++ 44 ∷ i)
joined message r s i e = sym (join_with_byte-slice_split 44 message) ∙ rw e refl

-- a prefix and what follows it
prefixed : (prefix text rest : List ℕ) (b : Bool) → bytes_eq prefix (take (length prefix) text) ≡ b
    → (if b then Some (drop (length prefix) text) else None) ≡ Some rest → text ≡ prefix ++ rest
prefixed prefix text rest true e f =
    let front : prefix ≡ take (length prefix) text = (bytes_eq-Decides prefix (take (length prefix) text)).0 e in
    let back : drop (length prefix) text ≡ rest = cc f in
    sym (take-append-drop (length prefix) text) ∙ ap₂ (λ a b. a ++ b) (sym front) back
prefixed prefix text rest false e f = absurd (none-some rest f)

stripped : (prefix text rest : List ℕ) → after_prefix prefix text ≡ Some rest → text ≡ prefix ++ rest
stripped prefix text rest e = prefixed prefix text rest (bytes_eq prefix (take (length prefix) text)) refl e

regroup : (n b d : List ℕ) → (codes "r=" ++ n) ++ 44 ∷ ((codes "s=" ++ b) ++ 44 ∷ (codes "i=" ++ d)) ≡ codes "r=" ++ n ++ codes ",s=" ++ b ++ codes ",i=" ++ d
regroup n b d = simp append_assoc

whole : (message r s i n b d : List ℕ) → message ≡ r ++ 44 ∷ (s ++ 44 ∷ i) → r ≡ codes "r=" ++ n → s ≡ codes "s=" ++ b → i ≡ codes "i=" ++ d
    → message ≡ codes "r=" ++ n ++ codes ",s=" ++ b ++ codes ",i=" ++ d
whole message r s i n b d e f g h = e ∙ rw (f, g, h) (regroup n b d)

-- ---- the steps

or_ok : {A B : Type 0} (o : Option A) (fault : ScramFault) (f : A → Result B ScramFault) (y : B) → (scram_or o fault >>= f) ≡ Ok y → (x : A) × (o ≡ Some x) × (f x ≡ Ok y)
or_ok None fault f y e = absurd (err-ok fault y e)
or_ok (Some x) fault f y e = (x, refl, e)

if_ok : {B : Type 0} (b : Bool) (x : List ℕ) (fault : ScramFault) (f : List ℕ → Result B ScramFault) (y : B) → (scram_if b x fault >>= f) ≡ Ok y → (b ≡ true) × (f x ≡ Ok y)
if_ok true x fault f y e = (refl, e)
if_ok false x fault f y e = absurd (err-ok fault y e)

or_from : {A B : Type 0} (o : Option A) (x : A) (fault : ScramFault) (f : A → Result B ScramFault) (y : Result B ScramFault) → o ≡ Some x → f x ≡ y → (scram_or o fault >>= f) ≡ y
or_from o x fault f y e g = rw e g

if_from : {B : Type 0} (b : Bool) (x : List ℕ) (fault : ScramFault) (f : List ℕ → Result B ScramFault) (y : Result B ScramFault) → b ≡ true → f x ≡ y → (scram_if b x fault >>= f) ≡ y
if_from b x fault f y e g = rw e g

-- what comes behind each step
abbrev is_formed : (nonce digits : List ℕ) → Bool
is_formed nonce digits = list_all is_nonce_byte nonce && all_ascii_digits digits && nat_lt 0 (length digits)

abbrev with_count : (nonce salt : List ℕ) → ℕ → Result ServerFirst ScramFault
with_count nonce salt iterations = Ok (record { nonce = nonce; salt = salt; iterations = iterations })

abbrev with_salt : (nonce digits salt : List ℕ) → Result ServerFirst ScramFault
with_salt nonce digits salt = scram_or (iterations_of digits) BadIterations >>= with_count nonce salt

abbrev with_nonce : (salt digits nonce : List ℕ) → Result ServerFirst ScramFault
with_nonce salt digits nonce = scram_or (from_base64 salt) BadSalt >>= with_salt nonce digits

abbrev with_form : (client_nonce salt digits nonce : List ℕ) → Result ServerFirst ScramFault
with_form client_nonce salt digits nonce = scram_if (starts_with nat_eq nonce client_nonce) nonce BadNonce >>= with_nonce salt digits

abbrev after_digits : (client_nonce nonce salt digits : List ℕ) → Result ServerFirst ScramFault
after_digits client_nonce nonce salt digits = scram_if (is_formed nonce digits) nonce BadMessage >>= with_form client_nonce salt digits

abbrev after_salt : (client_nonce i nonce salt : List ℕ) → Result ServerFirst ScramFault
after_salt client_nonce i nonce salt = scram_or (after_prefix (codes "i=") i) BadMessage >>= after_digits client_nonce nonce salt

abbrev after_nonce : (client_nonce s i nonce : List ℕ) → Result ServerFirst ScramFault
after_nonce client_nonce s i nonce = scram_or (after_prefix (codes "s=") s) BadMessage >>= after_salt client_nonce i nonce

abbrev of_three : (client_nonce r s i : List ℕ) → Result ServerFirst ScramFault
of_three client_nonce r s i = scram_or (after_prefix (codes "r=") r) BadMessage >>= after_nonce client_nonce s i

-- what is read of the fields
abbrev read_of : List ℕ → List (List ℕ) → Result ServerFirst ScramFault
read_of client_nonce fields = elim fields [
  | (r ∷ s ∷ i ∷ []) ↦ of_three client_nonce r s i
  | _ ↦ Err BadMessage
]

read_fields : (client_nonce message : List ℕ) → server_first_of client_nonce message ≡ read_of client_nonce (fields_of message)
read_fields client_nonce message = refl

-- ---- from reading to spelling

counted : (n k : ℕ) (b : Bool) → (nat_le 1 n && nat_lt n 4294967296) ≡ b → (if b then Some n else None) ≡ Some k → (n ≡ k) × (1 ≤ k) × (k < 4294967296)
counted n k true e f =
    let same : n ≡ k = cc f in
    let parts = and_parts (nat_le 1 n) (nat_lt n 4294967296) e in
    let low = leb-true 1 n parts.0 in
    let high = ltb-true n 4294967296 parts.1 in
    (same, omega arith, omega arith)
counted n k false e f = absurd (none-some k f)

by_three : (client_nonce message r s i : List ℕ) (server : ServerFirst) → fields_of message ≡ r ∷ s ∷ i ∷ [] → of_three client_nonce r s i ≡ Ok server → Spells client_nonce message server
by_three client_nonce message r s i server cut e =
    let a = or_ok (after_prefix (codes "r=") r) BadMessage (after_nonce client_nonce s i) server e in
    let b = or_ok (after_prefix (codes "s=") s) BadMessage (after_salt client_nonce i a.0) server a.2 in
    let c = or_ok (after_prefix (codes "i=") i) BadMessage (after_digits client_nonce a.0 b.0) server b.2 in
    let d = if_ok (is_formed a.0 c.0) a.0 BadMessage (with_form client_nonce b.0 c.0) server c.2 in
    let g = if_ok (starts_with nat_eq a.0 client_nonce) a.0 BadNonce (with_nonce b.0 c.0) server d.1 in
    let h = or_ok (from_base64 b.0) BadSalt (with_salt a.0 c.0) server g.1 in
    let k = or_ok (iterations_of c.0) BadIterations (with_count a.0 h.0) server h.2 in
    let is : record { nonce = a.0; salt = h.0; iterations = k.0 } ≡ server = cc k.2 in
    let salt = (read_back b.0 h.0).0 h.1 in
    let form = and_parts (list_all is_nonce_byte a.0 && all_ascii_digits c.0) (nat_lt 0 (length c.0)) d.0 in
    let both = and_parts (list_all is_nonce_byte a.0) (all_ascii_digits c.0) form.0 in
    let count = counted (digits_value 10 c.0) k.0 (nat_le 1 (digits_value 10 c.0) && nat_lt (digits_value 10 c.0) 4294967296) refl k.1 in
    subst (Spells client_nonce message) is (record {
      digits = c.0;
      text = whole message r s i a.0 (base64 h.0) c.0 (joined message r s i cut) (stripped (codes "r=") r a.0 a.1)
          (stripped (codes "s=") s b.0 b.1 ∙ ap (λ x. codes "s=" ++ x) salt.1) (stripped (codes "i=") i c.0 c.1);
      printable = both.0;
      extended = g.0;
      salt = salt.0;
      decimal = both.1;
      some = ltb-true 0 (length c.0) form.1;
      count = count.0;
      at_least_one = count.1;
      fits = count.2;
    })

by_fields : (client_nonce message : List ℕ) (fields : List (List ℕ)) (server : ServerFirst) → fields_of message ≡ fields → read_of client_nonce fields ≡ Ok server → Spells client_nonce message server
by_fields client_nonce message [] server cut e = absurd (err-ok BadMessage server e)
by_fields client_nonce message (a ∷ []) server cut e = absurd (err-ok BadMessage server e)
by_fields client_nonce message (a ∷ b ∷ []) server cut e = absurd (err-ok BadMessage server e)
by_fields client_nonce message (r ∷ s ∷ i ∷ []) server cut e = by_three client_nonce message r s i server cut e
by_fields client_nonce message (a ∷ b ∷ c ∷ d ∷ more) server cut e = absurd (err-ok BadMessage server e)

-- ---- from spelling to reading

abbrev NoComma : List ℕ → Type 0
NoComma text = All (λ c. is_comma c ≡ false) text

not_comma : (c : ℕ) → c ≢ 44 → is_comma c ≡ false
not_comma c h = ne_eqb c 44 h

nonce_free : (nonce : List ℕ) → list_all is_nonce_byte nonce ≡ true → NoComma nonce
nonce_free [] h = All-nil (λ c. is_comma c ≡ false)
nonce_free (x ∷ nonce) h =
    let parts = and_parts (is_nonce_byte x) (list_all is_nonce_byte nonce) h in
    let byte = and_parts (nat_le 33 x && nat_le x 126) (not (is_comma x)) parts.0 in
    All-cons (λ c. is_comma c ≡ false) x nonce (not-true (is_comma x) byte.1) (nonce_free nonce parts.1)

digits_free : (digits : List ℕ) → all_ascii_digits digits ≡ true → NoComma digits
digits_free [] h = All-nil (λ c. is_comma c ≡ false)
digits_free (x ∷ digits) h =
    let parts = and_parts (is_ascii_digit x) (all_ascii_digits digits) h in
    let both = and_parts (nat_le 48 x) (nat_le x 57) parts.0 in
    let low = leb-true 48 x both.0 in
    All-cons (λ c. is_comma c ≡ false) x digits (not_comma x (omega arith)) (digits_free digits parts.1)

two_free : (x y : ℕ) (text : List ℕ) → is_comma x ≡ false → is_comma y ≡ false → NoComma text → NoComma (x ∷ y ∷ text)
two_free x y text h k l = All-cons (λ c. is_comma c ≡ false) x (y ∷ text) h (All-cons (λ c. is_comma c ≡ false) y text k l)

cut_at : (nonce salt digits : List ℕ) → NoComma nonce → NoComma salt → NoComma digits
    → fields_of ((codes "r=" ++ nonce) ++ 44 ∷ ((codes "s=" ++ salt) ++ 44 ∷ (codes "i=" ++ digits))) ≡ (codes "r=" ++ nonce) ∷ (codes "s=" ++ salt) ∷ (codes "i=" ++ digits) ∷ []
cut_at nonce salt digits h k l =
    slice_split_at is_comma (codes "r=" ++ nonce) 44 ((codes "s=" ++ salt) ++ 44 ∷ (codes "i=" ++ digits)) (two_free 114 61 nonce refl refl h) refl
    ∙ ap (λ fields. (codes "r=" ++ nonce) ∷ fields)
    (slice_split_at is_comma (codes "s=" ++ salt) 44 (codes "i=" ++ digits) (two_free 115 61 salt refl refl k) refl
    ∙ ap (λ fields. (codes "s=" ++ salt) ∷ fields) (slice_split_none is_comma (codes "i=" ++ digits) (two_free 105 61 digits refl refl l)))

counted_from : (n k : ℕ) → n ≡ k → 1 ≤ k → k < 4294967296 → (if nat_le 1 n && nat_lt n 4294967296 then Some n else None) ≡ Some k
counted_from n k e low high = rw e (rw (le-leb 1 k low, lt-ltb k 4294967296 high) refl)

pub spelled : (client_nonce message : List ℕ) (server : ServerFirst) → Spells client_nonce message server → server_first_of client_nonce message ≡ Ok server
spelled client_nonce message server h =
    let nonce = server.nonce in
    let salt = base64 server.salt in
    let text : message ≡ (codes "r=" ++ nonce) ++ 44 ∷ ((codes "s=" ++ salt) ++ 44 ∷ (codes "i=" ++ h.digits)) = h.text ∙ sym (regroup nonce salt h.digits) in
    let cut : fields_of message ≡ (codes "r=" ++ nonce) ∷ (codes "s=" ++ salt) ∷ (codes "i=" ++ h.digits) ∷ [] =
    ap fields_of text ∙ cut_at nonce salt h.digits (nonce_free nonce h.printable) (base64_free server.salt h.salt) (digits_free h.digits h.decimal) in
    let formed : is_formed nonce h.digits ≡ true = rw (h.printable, h.decimal, lt-ltb 0 (length h.digits) h.some) refl in
    read_fields client_nonce message ∙ ap (read_of client_nonce) cut
    ∙ if_from (is_formed nonce h.digits) nonce BadMessage (with_form client_nonce salt h.digits) (Ok server) formed
    (if_from (starts_with nat_eq nonce client_nonce) nonce BadNonce (with_nonce salt h.digits) (Ok server) h.extended
    (or_from (from_base64 salt) server.salt BadSalt (with_salt nonce h.digits) (Ok server) (read_written server.salt h.salt)
    (or_from (iterations_of h.digits) server.iterations BadIterations (with_count nonce server.salt) (Ok server)
    (counted_from (digits_value 10 h.digits) server.iterations h.count h.at_least_one h.fits) refl)))

pub read : (client_nonce message : List ℕ) (server : ServerFirst) → (server_first_of client_nonce message ≡ Ok server) ↔ Spells client_nonce message server
read client_nonce message server = (λ e. by_fields client_nonce message (fields_of message) server refl (sym (read_fields client_nonce message) ∙ e), spelled client_nonce message server)

-- ---- the server's last message

some-none : {A : Type 0} (x : A) → Some x ≡ None → ⊥
some-none x e = cc e

-- the verdict, by the value of `v=`
abbrev judged_value : (signature : List ℕ) → Option (List ℕ) → Option ScramFault
judged_value signature value = elim value [ None ↦ Some BadMessage | Some bytes ↦ if bytes_eq bytes signature then None else Some BadSignature ]

by_test : (bytes signature : List ℕ) (b : Bool) → bytes_eq bytes signature ≡ b → (if b then None else Some BadSignature) ≡ None → bytes ≡ signature
by_test bytes signature true e f = (bytes_eq-Decides bytes signature).0 e
by_test bytes signature false e f = absurd (some-none BadSignature f)

by_value : (signature text : List ℕ) (value : Option (List ℕ)) → from_base64 text ≡ value → judged_value signature value ≡ None → text ≡ base64 signature
by_value signature text None e f = absurd (some-none BadMessage f)
by_value signature text (Some bytes) e f =
    ((read_back text bytes).0 e).1 ∙ ap base64 (by_test bytes signature (bytes_eq bytes signature) refl f)

-- the verdict, by what stands behind `v=`
abbrev judged_text : (signature : List ℕ) → Option (List ℕ) → Option ScramFault
judged_text signature text = elim text [ None ↦ Some BadMessage | Some text ↦ judged_value signature (from_base64 text) ]

by_text : (signature message : List ℕ) (text : Option (List ℕ)) → after_prefix (codes "v=") message ≡ text → judged_text signature text ≡ None → message ≡ codes "v=" ++ base64 signature
by_text signature message None e f = absurd (some-none BadMessage f)
by_text signature message (Some text) e f =
    stripped (codes "v=") message text e ∙ ap (λ t. codes "v=" ++ t) (by_value signature text (from_base64 text) refl f)

-- the verdict, by what stands behind `e=`
abbrev judged_error : (signature message : List ℕ) → Option (List ℕ) → Option ScramFault
judged_error signature message text = elim text [ Some text ↦ told_by text | None ↦ judged_text signature (after_prefix (codes "v=") message) ]

by_error : (signature message : List ℕ) (text : Option (List ℕ)) → judged_error signature message text ≡ None → message ≡ codes "v=" ++ base64 signature
by_error signature message (Some text) e = absurd (some-none _ e)
by_error signature message None e = by_text signature message (after_prefix (codes "v=") message) refl e

pub accepted : (signature message : List ℕ) → IsBytes signature → (server_final_fault signature message ≡ None) ↔ (message ≡ codes "v=" ++ base64 signature)
accepted signature message h = (
  λ e. by_error signature message (after_prefix (codes "e=") message) e,
  λ e. ap (server_final_fault signature) e ∙ ap (judged_value signature) (read_written signature h)
      ∙ ap (λ b. if b then None else Some BadSignature) ((bytes_eq-Decides signature signature).1 refl),
)
