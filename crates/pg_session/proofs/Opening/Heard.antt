-- Each message of a startup that is done can be read, if its notices can be.
use Rattle.std.proofs.Common.{◌≡◌, ℕ, suc, ◌+◌, ◌&&◌, ◌||◌, ◌==◌, Bool, true, false, List, [], ◌∷◌, length, map, Option, Some, None, Result, Ok, Err, if◌then◌else◌, refl, sym, ap, subst, ◌∙◌, arith}
use Rattle.std.specs.Prelude.{is_none, is_some, not}
use Rattle.std.specs.List.{list_all, AllByRecursion}
use Rattle.std.specs.Str.{byte, is_utf8}
use Rattle.pg_spec.specs.Asides.{aside_fault, is_readable}
use Rattle.pg_spec.specs.Faults.{Cause, WireFault, Parse, NotText, Io, Wire}
use Rattle.pg_spec.specs.Messages as said
use Rattle.pg_spec.specs.Messages.{Message, message_of}
use Rattle.pg_spec.specs.RawMessages.{RawMessage, async_of, is_async, is_parameter, is_aside}
use Rattle.pg_spec.specs.Report.{AsyncMessage, async_message, async_of_raw}
use Rattle.pg_spec.specs.Startup.{Login, Phase, First, Continue, Final, Accepted, Info, Move, Writes, Ends, Refuses, Outcome, Done, Refused, More, startup_message, startup_move, moved_by, dialogue, used_of}
use Rattle.pg_connect.proofs.Sorting.{aside_kind, calm_readable, sorted_handed}
use Rattle.pg_session.proofs.Crossing.Groups.{both-true}

-- a message that isn't refused can be read, but for a notice
abbrev HeardSo : Message → Type 0
HeardSo (said.NoticeResponse fields) = Unit {0}
HeardSo m = aside_fault m ≡ None

-- the message was read, and it is so
abbrev pub IsHeard : RawMessage → Type 0
IsHeard raw = (m : Message) × (message_of raw ≡ Ok m) × HeardSo m

-- it isn't refused
abbrev Goes : Move → Type 0
Goes (Refuses failure) = ⊥
Goes _ = Unit {0}

report-heard : (b : Bool) → Goes (if b then Writes [] Info else Refuses (Parse NotText)) → (if b then None else Some NotText) ≡ None
report-heard true h = refl
report-heard false h = absurd h

heard-message : (l : Login) (at : Phase) (m : Message) → Goes (startup_message l at m) → HeardSo m
heard-message l at (said.NoticeResponse fields) h = tt
heard-message l First (said.NotificationResponse process_id channel payload) h = absurd h
heard-message l (Continue binding) (said.NotificationResponse process_id channel payload) h = absurd h
heard-message l (Final signature) (said.NotificationResponse process_id channel payload) h = absurd h
heard-message l Accepted (said.NotificationResponse process_id channel payload) h = absurd h
heard-message l Info (said.NotificationResponse process_id channel payload) h = absurd h
heard-message l First (said.ParameterStatus name value) h = absurd h
heard-message l (Continue binding) (said.ParameterStatus name value) h = absurd h
heard-message l (Final signature) (said.ParameterStatus name value) h = absurd h
heard-message l Accepted (said.ParameterStatus name value) h = absurd h
heard-message l Info (said.ParameterStatus name value) h = report-heard (is_utf8 name && is_utf8 value) h
heard-message l at _ h = refl

heard-move : (l : Login) (at : Phase) (raw : RawMessage) → Goes (startup_move l at raw) → IsHeard raw
heard-move l at raw h = by (message_of raw) refl h
  where
    by : (r : Result Message WireFault) → message_of raw ≡ r → Goes (elim r [ Ok message ↦ startup_message l at message | Err fault ↦ Refuses (Io (Wire fault)) ]) → IsHeard raw
    by (Ok m) is h = (m, is, heard-message l at m h)
    by (Err fault) is h = absurd h

-- ---- of the dialogue

abbrev later_of : Outcome → Outcome
later_of o = elim o [ Done used ↦ Done (used + 1) | Refused failure ↦ Refused failure | More ↦ More ]

one-less : (o : Outcome) (n : ℕ) → later_of o ≡ Done (suc n) → o ≡ Done n
one-less (Done u) n e = let same : u + 1 ≡ suc n = ap used_of e in let less : u ≡ n = omega (arith, same) in ap Done less
one-less (Refused failure) n e = absurd cc
one-less More n e = absurd cc

none-more : (ms : List RawMessage) → Done 1 ≡ Done (suc (length ms)) → AllByRecursion IsHeard ms
none-more [] e = tt
none-more (m ∷ ms) e = absurd (let same : 1 ≡ suc (suc (length ms)) = ap used_of e in omega (arith, same))

pub all-heard : (l : Login) (at : Phase) (ms : List RawMessage) → (dialogue l at ms).outcome ≡ Done (length ms) → AllByRecursion IsHeard ms
all-heard l at [] e = tt
all-heard l at (m ∷ ms) e = by (startup_move l at m) refl e (λ next d. all-heard l next ms d)
  where
    by : (move : Move) → startup_move l at m ≡ move → (moved_by move (λ next. dialogue l next ms)).outcome ≡ Done (suc (length ms)) →
        ((next : Phase) → (dialogue l next ms).outcome ≡ Done (length ms) → AllByRecursion IsHeard ms) → AllByRecursion IsHeard (m ∷ ms)
    by (Writes frames next) is e rest = (heard-move l at m (subst Goes (sym is) tt), rest next (one-less (dialogue l next ms).outcome (length ms) e))
    by Ends is e rest = (heard-move l at m (subst Goes (sym is) tt), none-more ms e)
    by (Refuses failure) is e rest = absurd cc

-- ---- each can be read, where its notices were handed out

readable-by : (raw : RawMessage) (m : Message) → message_of raw ≡ Ok m → aside_fault m ≡ None → is_readable raw ≡ true
readable-by raw m means well =
    ap (λ (r : Result Message WireFault). elim r [ Ok message ↦ is_none (aside_fault message) | Err fault ↦ not (is_async raw || is_parameter raw) ]) means
    ∙ ap (λ (o : Option Cause). is_none o) well

notice-async : (raw : RawMessage) → byte "N" ≡ raw.tag → is_async raw ≡ true
notice-async raw tag = ap (λ (t : ℕ). t == byte "N" || t == byte "A") (sym tag)

handed-one : (raw : RawMessage) (m : Message) → is_aside raw ≡ true → message_of raw ≡ Ok m → is_some (async_of_raw raw) ≡ true → is_readable raw ≡ true
handed-one raw m aside means told = by (async_message m) refl
  where
    same : async_of_raw raw ≡ async_message m
    same = ap (λ (r : Result Message WireFault). elim r [ Ok message ↦ async_message message | Err fault ↦ None ]) means

    by : (o : Option AsyncMessage) → async_message m ≡ o → is_readable raw ≡ true
    by None e = absurd (let no : false ≡ true = sym (ap (λ (o : Option AsyncMessage). is_some o) (same ∙ e)) ∙ told in cc)
    by (Some a) e = (both-true (is_readable raw) true (sorted_handed raw m a aside means e).0.readable).0

readable-aside : (raw : RawMessage) (m : Message) → is_aside raw ≡ true → message_of raw ≡ Ok m → HeardSo m → (is_async raw ≡ true → is_some (async_of_raw raw) ≡ true) → is_readable raw ≡ true
readable-aside raw (said.NoticeResponse fields) aside means heard told =
    handed-one raw (said.NoticeResponse fields) aside means (told (notice-async raw (aside_kind raw (said.NoticeResponse fields) aside means)))
readable-aside raw m aside means heard told = readable-by raw m means heard

readable-one : (raw : RawMessage) → IsHeard raw → (is_async raw ≡ true → is_some (async_of_raw raw) ≡ true) → is_readable raw ≡ true
readable-one raw heard told = by (is_aside raw) refl
  where
    by : (b : Bool) → is_aside raw ≡ b → is_readable raw ≡ true
    by false is = (both-true (is_readable raw) true (calm_readable (raw ∷ []) (is, tt))).0
    by true is = readable-aside raw heard.0 is heard.1 heard.2 told

-- a message is told, as far as it can be read
abbrev pub is_told : RawMessage → Bool
is_told raw = is_some (async_of_raw raw)

pub readable-all : (ms : List RawMessage) → AllByRecursion IsHeard ms → list_all is_told (async_of ms) ≡ true → list_all is_readable ms ≡ true
readable-all [] heard told = refl
readable-all (m ∷ ms) heard told = by (is_async m) refl told (λ t. readable-all ms heard.1 t)
  where
    both : is_readable m ≡ true → list_all is_readable ms ≡ true → (is_readable m && list_all is_readable ms) ≡ true
    both a b = ap (λ (x : Bool). x && list_all is_readable ms) a ∙ b

    by : (b : Bool) → is_async m ≡ b → list_all is_told (if b then m ∷ async_of ms else async_of ms) ≡ true → (list_all is_told (async_of ms) ≡ true → list_all is_readable ms ≡ true) →
        list_all is_readable (m ∷ ms) ≡ true
    by true is told rest =
        let t = both-true (is_told m) (list_all is_told (async_of ms)) told in both (readable-one m heard.0 (λ e. t.0)) (rest t.1)
    by false is told rest = both (readable-one m heard.0 (λ e. absurd (let no : false ≡ true = sym is ∙ e in cc))) (rest told)

-- what was handed out is told
pub told-all : {A : Type 0} (f : A → AsyncMessage) (asides : List A) (handed : List RawMessage) → map (λ a. Some (f a)) asides ≡ map async_of_raw handed → list_all is_told handed ≡ true
told-all f [] [] e = refl
told-all f [] (h ∷ handed) e = absurd cc
told-all f (a ∷ asides) [] e = absurd cc
told-all f (a ∷ asides) (h ∷ handed) e =
    let first : Some (f a) ≡ async_of_raw h = cc in
    let rest : map (λ a. Some (f a)) asides ≡ map async_of_raw handed = cc in
    ap (λ (o : Option AsyncMessage). is_some o && list_all is_told handed) (sym first) ∙ told-all f asides handed rest
