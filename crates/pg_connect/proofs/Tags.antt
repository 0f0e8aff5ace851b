-- Only a message tagged `Z` is ReadyForQuery, only one tagged `S` reports a parameter, and only messages aside may be unreadable.
use Rattle.std.proofs.Common.{◌≡◌, ℕ, Bool, true, false, List, [], ◌∷◌, length, not, ◌||◌, Option, Some, None, Result, Ok, Err, refl, sym, ap, subst, ◌∙◌, ◌==◌, if◌then◌else◌, ◌⊎◌, inl, inr}
use Rattle.std.specs.Prelude.{find, is_none, IfSome, IfOk}
use Rattle.std.specs.Int.{w16, w32}
use Rattle.std.specs.Str.{byte}
use Rattle.std.proofs.lemmas.Bool.{eqb-true}
use Rattle.std.proofs.lemmas.Bool.Decides.{eqb_tells}
use Rattle.pg_spec.specs.Asides.{aside_fault, is_readable}
use Rattle.pg_spec.specs.Bytes.{◌>>=◌, byte_at, number_at, signed_at, text0_at}
use Rattle.pg_spec.specs.Faults as faults
use Rattle.pg_spec.specs.Messages as spec
use Rattle.pg_spec.specs.Messages.{Message, message_of, layouts, authentications, authentication, alone, counted, text_alone, key_data, ready, parameter, notification, copying}
use Rattle.pg_spec.specs.Parameters.{report_of}
use Rattle.pg_spec.specs.RawMessages.{RawMessage, is_aside, is_ready}

-- the tag of the messages that are told apart here
abbrev own_tag : Message → ℕ
own_tag (spec.ReadyForQuery status) = byte "Z"
own_tag (spec.ParameterStatus name value) = byte "S"
own_tag (spec.NoticeResponse fields) = byte "N"
own_tag (spec.NotificationResponse process_id channel payload) = byte "A"
own_tag other = 0

-- what was read has that tag
abbrev Of : ℕ → Option Message → Type 0
Of tag o = IfSome o (λ m. own_tag m ≡ tag)

after_all : {A : Type 0} (tag : ℕ) (o : Option A) (f : A → Option Message) → ((x : A) → Of tag (f x)) → Of tag (o >>= f)
after_all tag None f each = tt
after_all tag (Some x) f each = each x

alone-of : (tag : ℕ) (m : Message) → own_tag m ≡ tag → (rest : List ℕ) → Of tag (alone m rest)
alone-of tag m is [] = is
alone-of tag m is (b ∷ rest) = tt

text-of : (tag : ℕ) (message : List ℕ → Message) → ((text : List ℕ) → own_tag (message text) ≡ tag) → (body : List ℕ) → Of tag (text_alone message body)
text-of tag message is body = after_all tag (text0_at body) (λ text. alone (message text.0) text.1) (λ text. alone-of tag (message text.0) (is text.0) text.1)

counted-plain : (message : ℕ → List ℕ → Message) → ((n : ℕ) (rest : List ℕ) → own_tag (message n rest) ≡ 0) → (body : List ℕ) → Of 0 (counted message body)
counted-plain message is body = after_all 0 (number_at w16 body) (λ count. Some (message count.0 count.1)) (λ count. is count.0 count.1)

copying-plain : (message : Message) → own_tag message ≡ 0 → (body : List ℕ) → Of 0 (copying message body)
copying-plain message is body =
    after_all 0 (byte_at body) (λ format. number_at w16 format.1 >>= λ columns. Some message) (λ format.
    after_all 0 (number_at w16 format.1) (λ columns. Some message) (λ columns. is))

key-plain : (body : List ℕ) → Of 0 (key_data body)
key-plain body =
    after_all 0 (signed_at w32 body) (λ p. signed_at w32 p.1 >>= λ k. alone (spec.BackendKeyData p.0 k.0) k.1) (λ p.
    after_all 0 (signed_at w32 p.1) (λ k. alone (spec.BackendKeyData p.0 k.0) k.1) (λ k. alone-of 0 (spec.BackendKeyData p.0 k.0) refl k.1))

ready-own : (body : List ℕ) → Of (byte "Z") (ready body)
ready-own body = after_all (byte "Z") (byte_at body) (λ s. alone (spec.ReadyForQuery s.0) s.1) (λ s. alone-of (byte "Z") (spec.ReadyForQuery s.0) refl s.1)

parameter-own : (body : List ℕ) → Of (byte "S") (parameter body)
parameter-own body =
    after_all (byte "S") (text0_at body) (λ n. text_alone (spec.ParameterStatus n.0) n.1) (λ n. text-of (byte "S") (spec.ParameterStatus n.0) (λ t. refl) n.1)

notification-own : (body : List ℕ) → Of (byte "A") (notification body)
notification-own body =
    after_all (byte "A") (signed_at w32 body) (λ p. text0_at p.1 >>= λ c. text_alone (spec.NotificationResponse p.0 c.0) c.1) (λ p.
    after_all (byte "A") (text0_at p.1) (λ c. text_alone (spec.NotificationResponse p.0 c.0) c.1) (λ c. text-of (byte "A") (spec.NotificationResponse p.0 c.0) (λ t. refl) c.1))

-- ---- by the rows of the table

-- a row of layouts
abbrev Row : Type 0
Row = ℕ × (List ℕ → Option Message)

-- Q of each row
abbrev Each : (Row → Type 0) → List Row → Type 0
Each Q [] = Unit {0}
Each Q (row ∷ rows) = Q row × Each Q rows

found : (p : Row → Bool) (Q : Row → Type 0) (rows : List Row) → Each Q rows → IfSome (find p rows) (λ row. (p row ≡ true) × Q row)
found p Q [] each = tt
found p Q (row ∷ rows) each =
    elim (p row) as (λ b. p row ≡ b → IfSome (if b then Some row else find p rows) (λ row. (p row ≡ true) × Q row)) [
      | true ↦ λ is. (is, each.0)
      | false ↦ λ is. found p Q rows each.1
    ] refl

salted : (body : List ℕ) (b : Bool) → Of 0 (if b then Some (spec.AuthenticationMd5Password body) else None)
salted body true = refl
salted body false = tt

authentication-plain : (body : List ℕ) → Of 0 (authentication body)
authentication-plain body =
    after_all 0 (number_at w32 body) (λ code. find (λ row. row.0 == code.0) authentications >>= λ request. request.1 code.1) (λ code.
    by_row (λ row. (row.0 == code.0) ≡ true) (find (λ row. row.0 == code.0) authentications) code.1
    (found (λ row. row.0 == code.0) (λ row. (rest : List ℕ) → Of 0 (row.1 rest)) authentications (
      alone-of 0 spec.AuthenticationOk refl,
      (
        alone-of 0 spec.AuthenticationKerberosV5 refl,
        (
          alone-of 0 spec.AuthenticationCleartextPassword refl,
          (
            λ rest. salted rest (length rest == 4),
            (
              alone-of 0 spec.AuthenticationScmCredential refl,
              (
                alone-of 0 spec.AuthenticationGss refl,
                (
                  λ rest. refl,
                  (
                    alone-of 0 spec.AuthenticationSspi refl,
                    (λ rest. refl, (λ rest. refl, (λ rest. refl, tt))),
                  ),
                ),
              ),
            ),
          ),
        ),
      ),
    )))
  where
    by_row : (P : Row → Type 0) (o : Option Row) (rest : List ℕ) → IfSome o (λ row. P row × ((rest : List ℕ) → Of 0 (row.1 rest))) → Of 0 (o >>= λ request. request.1 rest)
    by_row P None rest is = tt
    by_row P (Some row) rest is = is.1 rest

-- a row reads messages of its own tag, or others
abbrev Tells : Row → Type 0
Tells row = ((body : List ℕ) → Of row.0 (row.1 body)) ⊎ ((body : List ℕ) → Of 0 (row.1 body))

all_tell : Each Tells layouts
all_tell = (
  inr authentication-plain,
  (
    inr key-plain,
    (
      inl ready-own,
      (
        inl parameter-own,
        (
          inl (λ body. refl),
          (
            inl notification-own,
            (
              inr (counted-plain spec.RowDescription (λ n rest. refl)),
              (
                inr (counted-plain spec.DataRow (λ n rest. refl)),
                (
                  inr (text-of 0 spec.CommandComplete (λ text. refl)),
                  (
                    inr (alone-of 0 spec.EmptyQueryResponse refl),
                    (
                      inr (λ body. refl),
                      (
                        inr (alone-of 0 spec.ParseComplete refl),
                        (
                          inr (alone-of 0 spec.BindComplete refl),
                          (
                            inr (alone-of 0 spec.CloseComplete refl),
                            (
                              inr (alone-of 0 spec.NoData refl),
                              (
                                inr (alone-of 0 spec.PortalSuspended refl),
                                (
                                  inr (alone-of 0 spec.CopyDone refl),
                                  (
                                    inr (counted-plain spec.ParameterDescription (λ n rest. refl)),
                                    (
                                      inr (copying-plain spec.CopyInResponse refl),
                                      (
                                        inr (copying-plain spec.CopyOutResponse refl),
                                        (inr (λ body. refl), tt),
                                      ),
                                    ),
                                  ),
                                ),
                              ),
                            ),
                          ),
                        ),
                      ),
                    ),
                  ),
                ),
              ),
            ),
          ),
        ),
      ),
    ),
  ),
)

-- what is read of a body, and what that reports
abbrev pub read : Option Message → Result Message faults.WireFault
read None = Err faults.Layout
read (Some m) = Ok m

abbrev pub report : Result Message faults.WireFault → Option (List ℕ × List ℕ)
report (Ok m) = report_of m
report (Err fault) = None

abbrev read_row : List ℕ → Option Row → Result Message faults.WireFault
read_row body None = Err faults.UnknownTag
read_row body (Some row) = read (row.1 body)

of_body : (tag : ℕ) (o : Option Message) (m : Message) → Of tag o → read o ≡ Ok m → own_tag m ≡ tag
of_body tag None m is e = absurd cc
of_body tag (Some n) m is e = subst (λ (r : Result Message faults.WireFault). IfOk r (λ m. own_tag m ≡ tag)) e is

of_row : (o : Option Row) (tag : ℕ) (body : List ℕ) (m : Message) → IfSome o (λ row. ((row.0 == tag) ≡ true) × Tells row) → read_row body o ≡ Ok m → (own_tag m ≡ tag) ⊎ (own_tag m ≡ 0)
of_row None tag body m is e = absurd cc
of_row (Some row) tag body m is e =
    elim is.1 [
      | inl own ↦ inl (of_body row.0 (row.1 body) m (own body) e ∙ eqb-true row.0 tag is.0)
      | inr plain ↦ inr (of_body 0 (row.1 body) m (plain body) e)
    ]

tagged : (raw : RawMessage) (m : Message) → message_of raw ≡ Ok m → (own_tag m ≡ raw.tag) ⊎ (own_tag m ≡ 0)
tagged raw m e = of_row (find (λ row. row.0 == raw.tag) layouts) raw.tag raw.body m (found (λ row. row.0 == raw.tag) Tells layouts all_tell) e

-- a message that is ReadyForQuery is tagged so
pub is_ready_message : (raw : RawMessage) (status : ℕ) → message_of raw ≡ Ok (spec.ReadyForQuery status) → is_ready raw ≡ true
is_ready_message raw status e =
    elim (eqb_tells raw.tag (byte "Z")) [
      | inl same ↦ same.0
      | inr apart ↦ elim (tagged raw (spec.ReadyForQuery status) e) [ inl own ↦ absurd (apart.1 (sym own)) | inr plain ↦ absurd cc ]
    ]

-- what a message reports
abbrev pub reported : RawMessage → Option (List ℕ × List ℕ)
reported raw = elim (message_of raw) [ Ok message ↦ report_of message | Err fault ↦ None ]

reports_nothing : (m : Message) → (own_tag m ≡ byte "S" → ⊥) → report_of m ≡ None
reports_nothing (spec.ParameterStatus name value) other = absurd (other refl)
reports_nothing _ other = refl

-- no other tag reports
pub no_report : (raw : RawMessage) → (raw.tag ≡ byte "S" → ⊥) → reported raw ≡ None
no_report raw other = by (message_of raw) refl
  where
    apart : (m : Message) → message_of raw ≡ Ok m → own_tag m ≡ byte "S" → ⊥
    apart m e is = elim (tagged raw m e) [ inl own ↦ other (sym own ∙ is) | inr plain ↦ let no : 0 ≡ byte "S" = sym plain ∙ is in cc ]

    by : (r : Result Message faults.WireFault) → message_of raw ≡ r → report r ≡ None
    by (Ok m) e = reports_nothing m (apart m e)
    by (Err fault) e = refl

-- ---- what can be read

pub readable_by : (raw : RawMessage) (m : Message) → message_of raw ≡ Ok m → aside_fault m ≡ None → is_readable raw ≡ true
readable_by raw m means well = ap (λ (r : Result Message faults.WireFault). elim r [ Ok message ↦ is_none (aside_fault message) | Err fault ↦ not (is_aside raw) ]) means ∙ ap (λ (o : Option faults.Cause). is_none o) well

-- the tag of a message aside
abbrev is_aside_tag : ℕ → Bool
is_aside_tag tag = (tag == byte "N" || tag == byte "A") || tag == byte "S"

tag_apart : (tag own : ℕ) → is_aside_tag own ≡ true → is_aside_tag tag ≡ false → (own ≡ tag) ⊎ (own ≡ 0) → ⊥
tag_apart tag own is other (inl same) = let no : true ≡ false = sym is ∙ ap is_aside_tag same ∙ other in cc
tag_apart tag own is other (inr plain) = let no : true ≡ false = sym is ∙ ap is_aside_tag plain in cc

well_apart : (m : Message) → (is_aside_tag (own_tag m) ≡ true → ⊥) → aside_fault m ≡ None
well_apart (spec.NoticeResponse fields) never = absurd (never refl)
well_apart (spec.NotificationResponse process_id channel payload) never = absurd (never refl)
well_apart (spec.ParameterStatus name value) never = absurd (never refl)
well_apart _ never = refl

-- a message that isn't aside can be read, as far as that is asked
pub readable_apart : (raw : RawMessage) → is_aside raw ≡ false → is_readable raw ≡ true
readable_apart raw other = by (message_of raw) refl
  where
    by : (r : Result Message faults.WireFault) → message_of raw ≡ r → is_readable raw ≡ true
    by (Ok m) e = readable_by raw m e (well_apart m (λ is. tag_apart raw.tag (own_tag m) is other (tagged raw m e)))
    by (Err fault) e =
        ap (λ (r : Result Message faults.WireFault). elim r [ Ok message ↦ is_none (aside_fault message) | Err fault ↦ not (is_aside raw) ]) e
        ∙ ap not other
