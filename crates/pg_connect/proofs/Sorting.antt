-- How messages are sorted.
use Rattle.std.proofs.Common.{◌≡◌, ℕ, Bool, true, false, not, List, [], ◌∷◌, filter, Option, Some, None, Result, Ok, Err, refl, sym, ap, ◌∙◌, ◌||◌, ◌&&◌, ◌==◌, if◌then◌else◌, ◌⊎◌, inl, inr}
use Rattle.std.specs.Prelude.{is_some, IfSome}
use Rattle.std.specs.Int.{w32}
use Rattle.std.specs.List.{cons_option, list_all}
use Rattle.std.specs.Str.{byte, is_utf8}
use Rattle.std.proofs.lemmas.Bool.{eqb-true}
use Rattle.pg_spec.specs.Bytes.{◌>>=◌, signed_at, text0_at}
use Rattle.pg_spec.specs.Batches.{is_batch, is_nothing}
use Rattle.pg_spec.specs.Asides.{aside_fault, is_readable}
use Rattle.pg_spec.specs.DbErrors.{db_error_of}
use Rattle.pg_spec.specs.Faults as faults
use Rattle.pg_spec.specs.Messages as spec
use Rattle.pg_spec.specs.Messages.{message_of, notification, parameter}
use Rattle.pg_spec.specs.Parameters.{parameter_reports, report_of}
use Rattle.pg_spec.specs.RawMessages.{RawMessage, is_aside, is_async, is_ready, sync_of, async_of}
use Rattle.pg_spec.specs.Report.{AsyncMessage, Notice, Notification, async_message, async_of_raw}
use Rattle.pg_wire.specs.declared.message.Message.{Message}
use Rattle.pg_wire.specs.declared.message.Message.TheVariants as wire
use Rattle.pg_wire.specs.Messages.{message_view}
use Rattle.pg_connect.specs.declared.streams.Streams.{Streams}
use Rattle.pg_connect.specs.Kept.{keep}
use Rattle.pg_connect.specs.Reads.{KeepsReport}
use Rattle.pg_connect.proofs.Tags.{reported, report, read, no_report, readable_apart, readable_by}

-- ---- the messages of a batch

-- no message is aside
abbrev pub Calm : List RawMessage → Type 0
Calm [] = Unit {0}
Calm (m ∷ ms) = (is_aside m ≡ false) × Calm ms

parts : (a r f g : Bool) → (if a then false else (if r then f else g)) ≡ true → (a ≡ false) × ((f ≡ true) ⊎ (g ≡ true))
parts true r f g e = absurd cc
parts false true f g e = (refl, inl e)
parts false false f g e = (refl, inr e)

last_calm : (complete : Bool) (ms : List RawMessage) → (complete && is_nothing ms) ≡ true → Calm ms
last_calm complete [] e = tt
last_calm true (m ∷ ms) e = absurd cc
last_calm false (m ∷ ms) e = absurd cc

pub batch_calm : (complete : Bool) (ms : List RawMessage) → is_batch complete ms ≡ true → Calm ms
batch_calm complete [] e = tt
batch_calm complete (m ∷ ms) e =
    let p = parts (is_aside m) (is_ready m) (complete && is_nothing ms) (is_batch complete ms) e in
    (p.0, elim p.1 [ inl last ↦ last_calm complete ms last | inr more ↦ batch_calm complete ms more ])

or_false : (a b : Bool) → (a || b) ≡ false → (a ≡ false) × (b ≡ false)
or_false true b e = absurd cc
or_false false b e = (refl, e)

skipped : {X : Type 0} (p : X → Bool) (x : X) (xs : List X) → p x ≡ false → filter p xs ≡ [] → filter p (x ∷ xs) ≡ []
skipped p x xs fails rest = ap (λ b. if b then x ∷ filter p xs else filter p xs) fails ∙ rest

pub calm_sync : (ms : List RawMessage) → Calm ms → sync_of ms ≡ ms
calm_sync [] calm = refl
calm_sync (m ∷ ms) calm = ap (λ b. if not b then m ∷ sync_of ms else sync_of ms) calm.0 ∙ ap (λ x. m ∷ x) (calm_sync ms calm.1)

pub calm_async : (ms : List RawMessage) → Calm ms → async_of ms ≡ []
calm_async [] calm = refl
calm_async (m ∷ ms) calm = skipped is_async m ms (or_false _ _ calm.0).0 (calm_async ms calm.1)

-- a tag that isn't that of a message aside
not_setting : (tag : ℕ) → ((tag == byte "N" || tag == byte "A") || tag == byte "S") ≡ false → tag ≡ byte "S" → ⊥
not_setting tag calm is = let no : true ≡ false = sym (ap (λ (t : ℕ). (t == byte "N" || t == byte "A") || t == byte "S") is) ∙ calm in cc

pub calm_reports : (ms : List RawMessage) → Calm ms → parameter_reports ms ≡ []
calm_reports [] calm = refl
calm_reports (m ∷ ms) calm =
    ap (λ (o : Option (List ℕ × List ℕ)). cons_option o (parameter_reports ms)) (no_report m (not_setting m.tag calm.0)) ∙ calm_reports ms calm.1

-- ---- messages aside

-- the tag of a message that no request asked for
abbrev pub kind : spec.Message → ℕ
kind (spec.NoticeResponse fields) = byte "N"
kind (spec.NotificationResponse process_id channel payload) = byte "A"
kind (spec.ParameterStatus name value) = byte "S"
kind _ = 0

-- what was read has this kind
abbrev OfKind : ℕ → Option spec.Message → Type 0
OfKind tag o = IfSome o (λ m. kind m ≡ tag)

then_kind : {A : Type 0} (tag : ℕ) (o : Option A) (f : A → Option spec.Message) → ((x : A) → OfKind tag (f x)) → OfKind tag (o >>= f)
then_kind tag None f each = tt
then_kind tag (Some x) f each = each x

alone_kind : (tag : ℕ) (m : spec.Message) → kind m ≡ tag → (rest : List ℕ) → OfKind tag (spec.alone m rest)
alone_kind tag m is [] = is
alone_kind tag m is (b ∷ rest) = tt

text_kind : (tag : ℕ) (message : List ℕ → spec.Message) → ((text : List ℕ) → kind (message text) ≡ tag) → (body : List ℕ) → OfKind tag (spec.text_alone message body)
text_kind tag message is body = then_kind tag (text0_at body) (λ text. spec.alone (message text.0) text.1) (λ text. alone_kind tag (message text.0) (is text.0) text.1)

notification_kind : (body : List ℕ) → OfKind (byte "A") (notification body)
notification_kind body =
    then_kind (byte "A") (signed_at w32 body) (λ p. text0_at p.1 >>= λ c. spec.text_alone (spec.NotificationResponse p.0 c.0) c.1) (λ p.
    then_kind (byte "A") (text0_at p.1) (λ c. spec.text_alone (spec.NotificationResponse p.0 c.0) c.1) (λ c.
    text_kind (byte "A") (spec.NotificationResponse p.0 c.0) (λ t. refl) c.1))

parameter_kind : (body : List ℕ) → OfKind (byte "S") (parameter body)
parameter_kind body =
    then_kind (byte "S") (text0_at body) (λ n. spec.text_alone (spec.ParameterStatus n.0) n.1) (λ n. text_kind (byte "S") (spec.ParameterStatus n.0) (λ t. refl) n.1)

kind_read : (tag : ℕ) (o : Option spec.Message) (m : spec.Message) → OfKind tag o → read o ≡ Ok m → kind m ≡ tag
kind_read tag None m is e = absurd cc
kind_read tag (Some x) m is e = let same : x ≡ m = cc in ap kind (sym same) ∙ is

kind_notice : (body : List ℕ) (m : spec.Message) → message_of (record { tag = byte "N"; body = body }) ≡ Ok m → kind m ≡ byte "N"
kind_notice body m e = kind_read (byte "N") (Some (spec.NoticeResponse body)) m refl e

kind_notification : (body : List ℕ) (m : spec.Message) → message_of (record { tag = byte "A"; body = body }) ≡ Ok m → kind m ≡ byte "A"
kind_notification body m e = kind_read (byte "A") (notification body) m (notification_kind body) e

kind_setting : (body : List ℕ) (m : spec.Message) → message_of (record { tag = byte "S"; body = body }) ≡ Ok m → kind m ≡ byte "S"
kind_setting body m e = kind_read (byte "S") (parameter body) m (parameter_kind body) e

aside_tags : (tag : ℕ) → ((tag == byte "N" || tag == byte "A") || tag == byte "S") ≡ true → (tag ≡ byte "N") ⊎ ((tag ≡ byte "A") ⊎ (tag ≡ byte "S"))
aside_tags tag is = pick (tag == byte "N") (tag == byte "A") (tag == byte "S") is (eqb-true tag (byte "N")) (eqb-true tag (byte "A")) (eqb-true tag (byte "S"))
  where
    pick : {P Q R : Type 0} (a b c : Bool) → ((a || b) || c) ≡ true → (a ≡ true → P) → (b ≡ true → Q) → (c ≡ true → R) → P ⊎ (Q ⊎ R)
    pick true b c is f g h = inl (f refl)
    pick false true c is f g h = inr (inl (g refl))
    pick false false true is f g h = inr (inr (h refl))
    pick false false false is f g h = absurd cc

-- a message that no request asked for has its tag's kind
pub aside_kind : (raw : RawMessage) (m : spec.Message) → is_aside raw ≡ true → message_of raw ≡ Ok m → kind m ≡ raw.tag
aside_kind raw m aside means = elim (aside_tags raw.tag aside) [
  | inl is ↦ kind_notice raw.body m (ap (λ (t : ℕ). message_of (record { tag = t; body = raw.body })) (sym is) ∙ means) ∙ sym is
  | inr other ↦ elim other [
    | inl is ↦ kind_notification raw.body m (ap (λ (t : ℕ). message_of (record { tag = t; body = raw.body })) (sym is) ∙ means) ∙ sym is
    | inr is ↦ kind_setting raw.body m (ap (λ (t : ℕ). message_of (record { tag = t; body = raw.body })) (sym is) ∙ means) ∙ sym is
  ]
]

-- and each can be read
pub calm_readable : (ms : List RawMessage) → Calm ms → list_all is_readable ms ≡ true
calm_readable [] calm = refl
calm_readable (m ∷ ms) calm = ap (λ b. b && list_all is_readable ms) (readable_apart m calm.0) ∙ calm_readable ms calm.1

-- one that can be read, alone
alone_readable : (raw : RawMessage) → is_readable raw ≡ true → list_all is_readable (raw ∷ []) ≡ true
alone_readable raw is = ap (λ b. b && true) is

-- how one message aside is sorted, which can be read
pub record Sorted (raw : RawMessage) (async : List RawMessage) (reports : List (List ℕ × List ℕ)) : Type 0 where
  pub readable : list_all is_readable (raw ∷ []) ≡ true
  pub sync : sync_of (raw ∷ []) ≡ []
  pub async_is : async_of (raw ∷ []) ≡ async
  pub reports_are : parameter_reports (raw ∷ []) ≡ reports

-- a message that is handed out can be read
read_if : {A : Type 0} (o : Option A) (f : A → AsyncMessage) (a : AsyncMessage) (c : faults.Cause) → (o >>= λ x. Some (f x)) ≡ Some a → (if is_some o then None else Some c) ≡ None
read_if None f a c e = absurd cc
read_if (Some x) f a c e = refl

told_if : (b : Bool) (x a : AsyncMessage) (c : faults.Cause) → (if b then Some x else None) ≡ Some a → (if b then None else Some c) ≡ None
told_if true x a c e = refl
told_if false x a c e = absurd cc

handed_well : (m : spec.Message) (a : AsyncMessage) → async_message m ≡ Some a → aside_fault m ≡ None
handed_well (spec.NoticeResponse fields) a e = read_if (db_error_of fields) Notice a faults.Fields e
handed_well (spec.NotificationResponse process_id channel payload) a e = told_if (is_utf8 channel && is_utf8 payload) (Notification process_id channel payload) a faults.NotText e
handed_well _ a e = absurd cc

-- a message that is handed out is a notice or a notification
handed_tag : (m : spec.Message) (a : AsyncMessage) → async_message m ≡ Some a → (report_of m ≡ None) × ((kind m == byte "N" || kind m == byte "A") ≡ true)
handed_tag (spec.NoticeResponse fields) a e = (refl, refl)
handed_tag (spec.NotificationResponse process_id channel payload) a e = (refl, refl)
handed_tag _ a e = absurd cc

sync_none : (raw : RawMessage) → is_aside raw ≡ true → sync_of (raw ∷ []) ≡ []
sync_none raw aside = ap (λ b. if not b then raw ∷ [] else []) aside

reported_as : (raw : RawMessage) (m : spec.Message) → message_of raw ≡ Ok m → reported raw ≡ report_of m
reported_as raw m means = ap report means

pub sorted_handed : (raw : RawMessage) (m : spec.Message) (a : AsyncMessage) → is_aside raw ≡ true → message_of raw ≡ Ok m → async_message m ≡ Some a →
    Sorted raw (raw ∷ []) [] × (async_of_raw raw ≡ Some a)
sorted_handed raw m a aside means reads =
    let tag = handed_tag m a reads in (
      record {
        readable = alone_readable raw (readable_by raw m means (handed_well m a reads));
        sync = sync_none raw aside;
        async_is = ap (λ b. if b then raw ∷ [] else []) (ap (λ (t : ℕ). t == byte "N" || t == byte "A") (sym (aside_kind raw m aside means)) ∙ tag.1);
        reports_are = ap (λ o. cons_option o []) (reported_as raw m means ∙ tag.0);
      },
      ap async_read means ∙ reads,
    )
  where
    async_read : Result spec.Message faults.WireFault → Option AsyncMessage
    async_read (Ok m) = async_message m
    async_read (Err fault) = None

pub sorted_kept : (raw : RawMessage) (name value : List ℕ) → is_aside raw ≡ true → message_of raw ≡ Ok (spec.ParameterStatus name value) → aside_fault (spec.ParameterStatus name value) ≡ None →
    Sorted raw [] ((name, value) ∷ [])
sorted_kept raw name value aside means well = record {
  readable = alone_readable raw (readable_by raw (spec.ParameterStatus name value) means well);
  sync = sync_none raw aside;
  async_is = ap (λ b. if b then raw ∷ [] else []) (ap (λ (t : ℕ). t == byte "N" || t == byte "A") (sym (aside_kind raw (spec.ParameterStatus name value) aside means)));
  reports_are = ap (λ o. cons_option o []) (reported_as raw (spec.ParameterStatus name value) means);
}

-- a report was kept
pub record Kept (s t : Streams) (raw : RawMessage) : Type 0 where
  pub report : List ℕ × List ℕ
  pub same : t ≡ record s { parameters = keep s.parameters report }
  pub sorted : Sorted raw [] (report ∷ [])

not_aside : (raw : RawMessage) (m : spec.Message) → kind m ≡ 0 → is_aside raw ≡ true → message_of raw ≡ Ok m → ⊥
not_aside raw m none aside means =
    let no : false ≡ true = ap (λ (t : ℕ). (t == byte "N" || t == byte "A") || t == byte "S") (sym none ∙ aside_kind raw m aside means) ∙ aside in cc

pub kept_aside : (s t : Streams) (m : Message) (raw : RawMessage) → is_aside raw ≡ true → message_of raw ≡ Ok (message_view m) → KeepsReport s t m → Kept s t raw
kept_aside s t (wire.ParameterStatus b) raw aside means is = record { report = (b.name, b.value); same = is.1; sorted = sorted_kept raw b.name b.value aside means is.0 }
kept_aside s t (wire.NoticeResponse b) raw aside means is = absurd (is.0 tt)
kept_aside s t (wire.NotificationResponse b) raw aside means is = absurd (is.0 tt)
kept_aside s t m raw aside means is = absurd (not_aside raw (message_view m) refl aside means)
