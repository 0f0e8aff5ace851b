-- Only a message tagged `Z` is ReadyForQuery.
use Rattle.std.proofs.Common.{◌≡◌, ℕ, Bool, true, false, List, [], ◌∷◌, length, Option, Some, None, Result, Ok, Err, refl, sym, subst, ◌∙◌, ◌==◌, if◌then◌else◌, ◌⊎◌, inl, inr}
use Rattle.std.specs.Prelude.{find, IfSome, IfOk}
use Rattle.std.specs.Int.{w16, w32}
use Rattle.std.specs.Str.{byte}
use Rattle.std.proofs.lemmas.Bool.{eqb-true, true≢false}
use Rattle.std.proofs.lemmas.Bool.Decides.{eqb_tells}
use Rattle.pg_spec.specs.Bytes.{◌>>=◌, byte_at, number_at, signed_at, text0_at}
use Rattle.pg_spec.specs.Faults as faults
use Rattle.pg_spec.specs.Messages as spec
use Rattle.pg_spec.specs.Messages.{Message, message_of, layouts, authentications, authentication, alone, counted, text_alone, key_data, parameter, notification, copying}
use Rattle.pg_spec.specs.RawMessages.{RawMessage, is_ready}

-- the message is ReadyForQuery
abbrev pub says_ready : Message → Bool
says_ready (spec.ReadyForQuery status) = true
says_ready other = false

-- what was read is another message
abbrev Nothing : Option Message → Type 0
Nothing o = IfSome o (λ m. says_ready m ≡ false)

after_all : {A : Type 0} (o : Option A) (f : A → Option Message) → ((x : A) → Nothing (f x)) → Nothing (o >>= f)
after_all None f each = tt
after_all (Some x) f each = each x

alone-nothing : (m : Message) → says_ready m ≡ false → (rest : List ℕ) → Nothing (alone m rest)
alone-nothing m none [] = none
alone-nothing m none (b ∷ rest) = tt

counted-nothing : (message : ℕ → List ℕ → Message) → ((n : ℕ) (rest : List ℕ) → says_ready (message n rest) ≡ false) → (body : List ℕ) → Nothing (counted message body)
counted-nothing message none body = after_all (number_at w16 body) (λ count. Some (message count.0 count.1)) (λ count. none count.0 count.1)

text-nothing : (message : List ℕ → Message) → ((text : List ℕ) → says_ready (message text) ≡ false) → (body : List ℕ) → Nothing (text_alone message body)
text-nothing message none body = after_all (text0_at body) (λ text. alone (message text.0) text.1) (λ text. alone-nothing (message text.0) (none text.0) text.1)

copying-nothing : (message : Message) → says_ready message ≡ false → (body : List ℕ) → Nothing (copying message body)
copying-nothing message none body =
    after_all (byte_at body) (λ format. number_at w16 format.1 >>= λ columns. Some message) (λ format.
    after_all (number_at w16 format.1) (λ columns. Some message) (λ columns. none))

key-nothing : (body : List ℕ) → Nothing (key_data body)
key-nothing body =
    after_all (signed_at w32 body) (λ p. signed_at w32 p.1 >>= λ k. alone (spec.BackendKeyData p.0 k.0) k.1) (λ p.
    after_all (signed_at w32 p.1) (λ k. alone (spec.BackendKeyData p.0 k.0) k.1) (λ k. alone-nothing (spec.BackendKeyData p.0 k.0) refl k.1))

parameter-nothing : (body : List ℕ) → Nothing (parameter body)
parameter-nothing body =
    after_all (text0_at body) (λ n. text_alone (spec.ParameterStatus n.0) n.1) (λ n. text-nothing (spec.ParameterStatus n.0) (λ t. refl) n.1)

notification-nothing : (body : List ℕ) → Nothing (notification body)
notification-nothing body =
    after_all (signed_at w32 body) (λ p. text0_at p.1 >>= λ c. text_alone (spec.NotificationResponse p.0 c.0) c.1) (λ p.
    after_all (text0_at p.1) (λ c. text_alone (spec.NotificationResponse p.0 c.0) c.1) (λ c. text-nothing (spec.NotificationResponse p.0 c.0) (λ t. refl) c.1))

-- ---- by the rows of the table

-- a row of layouts
abbrev Row : Type 0
Row = ℕ × (List ℕ → Option Message)

-- Q of each row
abbrev Each : (Row → Type 0) → List Row → Type 0
Each Q [] = Unit {0}
Each Q (row ∷ rows) = Q row × Each Q rows

found : (p : Row → Bool) (Q : Row → Type 0) (rows : List Row) → Each Q rows → IfSome (find p rows) (λ row. (p row ≡ true) × Q row)
found p Q [] each = tt
found p Q (row ∷ rows) each =
    elim (p row) as (λ b. p row ≡ b → IfSome (if b then Some row else find p rows) (λ row. (p row ≡ true) × Q row)) [
      | true ↦ λ is. (is, each.0)
      | false ↦ λ is. found p Q rows each.1
    ] refl

salted : (body : List ℕ) (b : Bool) → Nothing (if b then Some (spec.AuthenticationMd5Password body) else None)
salted body true = refl
salted body false = tt

authentication-nothing : (body : List ℕ) → Nothing (authentication body)
authentication-nothing body =
    after_all (number_at w32 body) (λ code. find (λ row. row.0 == code.0) authentications >>= λ request. request.1 code.1) (λ code.
    by_row (λ row. (row.0 == code.0) ≡ true) (find (λ row. row.0 == code.0) authentications) code.1
    (found (λ row. row.0 == code.0) (λ row. (rest : List ℕ) → Nothing (row.1 rest)) authentications (
      alone-nothing spec.AuthenticationOk refl,
      (
        alone-nothing spec.AuthenticationKerberosV5 refl,
        (
          alone-nothing spec.AuthenticationCleartextPassword refl,
          (
            λ rest. salted rest (length rest == 4),
            (
              alone-nothing spec.AuthenticationScmCredential refl,
              (
                alone-nothing spec.AuthenticationGss refl,
                (
                  λ rest. refl,
                  (
                    alone-nothing spec.AuthenticationSspi refl,
                    (λ rest. refl, (λ rest. refl, (λ rest. refl, tt))),
                  ),
                ),
              ),
            ),
          ),
        ),
      ),
    )))
  where
    by_row : (P : Row → Type 0) (o : Option Row) (rest : List ℕ) → IfSome o (λ row. P row × ((rest : List ℕ) → Nothing (row.1 rest))) → Nothing (o >>= λ request. request.1 rest)
    by_row P None rest is = tt
    by_row P (Some row) rest is = is.1 rest

-- a row reads other messages, or is that of ReadyForQuery
abbrev Silent : Row → Type 0
Silent row = (row.0 ≡ byte "Z") ⊎ ((body : List ℕ) → Nothing (row.1 body))

all_silent : Each Silent layouts
all_silent = (
  inr authentication-nothing,
  (
    inr key-nothing,
    (
      inl refl,
      (
        inr parameter-nothing,
        (
          inr (λ body. refl),
          (
            inr notification-nothing,
            (
              inr (counted-nothing spec.RowDescription (λ n rest. refl)),
              (
                inr (counted-nothing spec.DataRow (λ n rest. refl)),
                (
                  inr (text-nothing spec.CommandComplete (λ text. refl)),
                  (
                    inr (alone-nothing spec.EmptyQueryResponse refl),
                    (
                      inr (λ body. refl),
                      (
                        inr (alone-nothing spec.ParseComplete refl),
                        (
                          inr (alone-nothing spec.BindComplete refl),
                          (
                            inr (alone-nothing spec.CloseComplete refl),
                            (
                              inr (alone-nothing spec.NoData refl),
                              (
                                inr (alone-nothing spec.PortalSuspended refl),
                                (
                                  inr (alone-nothing spec.CopyDone refl),
                                  (
                                    inr (counted-nothing spec.ParameterDescription (λ n rest. refl)),
                                    (
                                      inr (copying-nothing spec.CopyInResponse refl),
                                      (
                                        inr (copying-nothing spec.CopyOutResponse refl),
                                        (inr (λ body. refl), tt),
                                      ),
                                    ),
                                  ),
                                ),
                              ),
                            ),
                          ),
                        ),
                      ),
                    ),
                  ),
                ),
              ),
            ),
          ),
        ),
      ),
    ),
  ),
)

-- what is read of a body
abbrev read : Option Message → Result Message faults.WireFault
read None = Err faults.Layout
read (Some m) = Ok m

abbrev read_row : List ℕ → Option Row → Result Message faults.WireFault
read_row body None = Err faults.UnknownTag
read_row body (Some row) = read (row.1 body)

other_body : (o : Option Message) (m : Message) → Nothing o → read o ≡ Ok m → says_ready m ≡ false
other_body None m is e = absurd cc
other_body (Some n) m is e = subst (λ (r : Result Message faults.WireFault). IfOk r (λ m. says_ready m ≡ false)) e is

other_row : (o : Option Row) (tag : ℕ) (body : List ℕ) (m : Message) → (tag ≡ byte "Z" → ⊥) → IfSome o (λ row. ((row.0 == tag) ≡ true) × Silent row) →
    read_row body o ≡ Ok m → says_ready m ≡ false
other_row None tag body m other is e = absurd cc
other_row (Some row) tag body m other is e =
    elim is.1 [
      | inl ready ↦ absurd (other (sym (eqb-true row.0 tag is.0) ∙ ready))
      | inr silent ↦ other_body (row.1 body) m (silent body) e
    ]

-- no other tag is ReadyForQuery
pub not_ready : (raw : RawMessage) (m : Message) → (raw.tag ≡ byte "Z" → ⊥) → message_of raw ≡ Ok m → says_ready m ≡ false
not_ready raw m other e = other_row (find (λ row. row.0 == raw.tag) layouts) raw.tag raw.body m other (found (λ row. row.0 == raw.tag) Silent layouts all_silent) e

-- a message that is ReadyForQuery is tagged so
pub is_ready_message : (raw : RawMessage) (status : ℕ) → message_of raw ≡ Ok (spec.ReadyForQuery status) → is_ready raw ≡ true
is_ready_message raw status e =
    elim (eqb_tells raw.tag (byte "Z")) [
      | inl same ↦ same.0
      | inr apart ↦ absurd (true≢false (not_ready raw (spec.ReadyForQuery status) apart.1 e))
    ]
