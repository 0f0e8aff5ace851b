-- How a startup goes on from message to message.
use Rattle.std.proofs.Common.{◌≡◌, ℕ, ◌+◌, Bool, true, false, List, [], ◌∷◌, ◌++◌, length, map, Option, Some, None, Result, Ok, Err, append-nil, append_assoc, length-append, refl, sym, ◌∙◌, ap, arith, ℤ}
use Rattle.std.specs.Prelude.{◌||◌, ◌==◌, filter_map, if◌then◌else◌, pos, unwrap_or}
use Rattle.std.specs.Str.{byte}
use Rattle.std.specs.List.{concat, flat_map, last_or, cons_option}
use Rattle.std.proofs.lemmas.Grind.{flat_map-append}
use Rattle.std.proofs.lemmas.List.Elements.{filter-append, filter_map-append}
use Rattle.std.proofs.lemmas.List.Sums.{fold-append}
use Rattle.pg_spec.specs.Faults.{WireFault, Io, Wire}
use Rattle.pg_spec.specs.Messages as said
use Rattle.pg_spec.specs.Messages.{message_of}
use Rattle.pg_spec.specs.Parameters.{parameter_reports, report_of}
use Rattle.pg_spec.specs.RawMessages.{RawMessage, is_aside, async_of}
use Rattle.pg_spec.specs.Startup as startups
use Rattle.pg_spec.specs.Startup.{Login, Outcome, Done, Refused, More, Phase, Move, Writes, Refuses, after_one, moved_by, dialogue, startup_move, startup_message, key_of, key_of_raw, cancel_key}
use Rattle.pg_connect.specs.Kept.{keep, keep_all}
use Rattle.pg_connect.specs.Passes.{notice_of}
use Rattle.pg_startup.specs.declared.startup.Startup.{Startup}
use Rattle.pg_startup.specs.Startups.{behind, bytes_of, Leads, Ends, HasPlace, KeepsAside, Noted, with_key}
use Rattle.pg_connect.proofs.Sorting.{aside_kind, calm_async, calm_reports, kind}

-- ---- answers

behind-push : (answers : List (List (List ℕ))) (frames : List (List ℕ)) (rest : startups.Startup) → behind (answers ++ frames ∷ []) rest ≡ behind answers (after_one frames rest)
behind-push [] frames rest = refl
behind-push (a ∷ answers) frames rest = ap (after_one a) (behind-push answers frames rest)

bytes-push : (answers : List (List (List ℕ))) (frames : List (List ℕ)) → bytes_of (answers ++ frames ∷ []) ≡ bytes_of answers ++ concat frames
bytes-push answers frames = flat_map-append concat answers (frames ∷ []) ∙ ap (λ (l : List ℕ). bytes_of answers ++ l) (append-nil (concat frames))

-- the frames of all answers
abbrev all_of : List (List (List ℕ)) → List (List ℕ)
all_of answers = flat_map (λ frames. frames) answers

concat-all : (answers : List (List (List ℕ))) → bytes_of answers ≡ concat (all_of answers)
concat-all [] = refl
concat-all (a ∷ answers) = ap (λ (l : List ℕ). concat a ++ l) (concat-all answers) ∙ sym (joined a (all_of answers))
  where
    joined : (xs ys : List (List ℕ)) → concat (xs ++ ys) ≡ concat xs ++ concat ys
    joined [] ys = refl
    joined (x ∷ xs) ys = ap (λ (l : List ℕ). x ++ l) (joined xs ys) ∙ sym (append_assoc x (concat xs) (concat ys))

-- a dialogue that is done in so many messages
abbrev done_in : List (List ℕ) → ℕ → startups.Startup
done_in frames n = record { frames = frames; outcome = Done n }

behind-done : (answers : List (List (List ℕ))) (n : ℕ) → behind answers (done_in [] n) ≡ done_in (all_of answers) (length answers + n)
behind-done [] n = ap (λ (k : ℕ). done_in [] k) (omega arith)
behind-done (a ∷ answers) n =
    ap (after_one a) (behind-done answers n) ∙ ap (λ (k : ℕ). done_in (a ++ all_of answers) k) (omega arith)

-- ---- one message more

-- nothing was read
pub leads-none : (l : Login) → Leads l [] startups.First []
leads-none l = record { answers = []; bytes = refl; each = refl; on = λ more. refl }

-- what a message does, by what it reads as
pub move-of : (l : Login) (at : Phase) (raw : RawMessage) (m : said.Message) → message_of raw ≡ Ok m → startup_move l at raw ≡ startup_message l at m
move-of l at raw m is = ap (λ (r : Result said.Message WireFault). elim r [ Ok message ↦ startup_message l at message | Err fault ↦ Refuses (Io (Wire fault)) ]) is

step : (l : Login) (read : List RawMessage) (at : Phase) (wrote : List ℕ) (raw : RawMessage) (move : Move) → (leads : Leads l read at wrote) → startup_move l at raw ≡ move →
    (more : List RawMessage) → dialogue l startups.First ((read ++ raw ∷ []) ++ more) ≡ behind leads.answers (moved_by move (λ next. dialogue l next more))
step l read at wrote raw move leads e more =
    ap (dialogue l startups.First) (append_assoc read (raw ∷ []) more) ∙ leads.on (raw ∷ more)
    ∙ ap (λ (m : Move). behind leads.answers (moved_by m (λ next. dialogue l next more))) e

length-push : {A B : Type 0} (xs : List A) (ys : List B) (x : A) (y : B) → length xs ≡ length ys → length (xs ++ x ∷ []) ≡ length (ys ++ y ∷ [])
length-push xs ys x y e = length-append xs (x ∷ []) ∙ ap (λ (n : ℕ). n + 1) e ∙ sym (length-append ys (y ∷ []))

-- a message is answered by these frames
pub leads-on : (l : Login) (read : List RawMessage) (at next : Phase) (wrote : List ℕ) (raw : RawMessage) (frames : List (List ℕ)) → Leads l read at wrote →
    startup_move l at raw ≡ Writes frames next → Leads l (read ++ raw ∷ []) next (wrote ++ concat frames)
leads-on l read at next wrote raw frames leads e = record {
  answers = leads.answers ++ frames ∷ [];
  bytes = ap (λ (b : List ℕ). b ++ concat frames) leads.bytes ∙ sym (bytes-push leads.answers frames);
  each = length-push leads.answers read frames raw leads.each;
  on = λ more. step l read at wrote raw (Writes frames next) leads e more ∙ sym (behind-push leads.answers frames (dialogue l next more));
}

-- a message ends it
pub ends-on : (l : Login) (read : List RawMessage) (at : Phase) (wrote : List ℕ) (raw : RawMessage) → Leads l read at wrote → startup_move l at raw ≡ startups.Ends →
    Ends l (read ++ raw ∷ []) wrote
ends-on l read at wrote raw leads e = record {
  frames = all_of leads.answers;
  bytes = leads.bytes ∙ concat-all leads.answers;
  over = λ more.
      step l read at wrote raw startups.Ends leads e more ∙ behind-done leads.answers 1
      ∙ ap (λ (n : ℕ). done_in (all_of leads.answers) n) (ap (λ (n : ℕ). n + 1) leads.each ∙ sym (length-append read (raw ∷ [])));
}

-- ---- what was kept

last-push : {A : Type 0} (o : Option A) (xs : List A) (x : A) → last_or o (xs ++ x ∷ []) ≡ Some x
last-push o [] x = refl
last-push o (y ∷ xs) x = last-push (Some y) xs x

last-option : {A : Type 0} (xs : List A) (more : Option A) (zero_ : A) → unwrap_or (last_or None (xs ++ cons_option more [])) zero_ ≡ unwrap_or more (unwrap_or (last_or None xs) zero_)
last-option xs None zero_ = ap (λ l. unwrap_or (last_or None l) zero_) (append-nil xs)
last-option xs (Some x) zero_ = ap (λ o. unwrap_or o zero_) (last-push None xs x)

key-push : (read : List RawMessage) (raw : RawMessage) (m : said.Message) → message_of raw ≡ Ok m → cancel_key (read ++ raw ∷ []) ≡ unwrap_or (key_of m) (cancel_key read)
key-push read raw m is =
    ap (λ (l : List (ℤ × ℤ)). unwrap_or (last_or None l) (pos 0, pos 0)) (filter_map-append key_of_raw read (raw ∷ []))
    ∙ ap (λ (o : Option (ℤ × ℤ)). unwrap_or (last_or None (filter_map key_of_raw read ++ cons_option o [])) (pos 0, pos 0))
    (ap (λ (r : Result said.Message WireFault). elim r [ Ok message ↦ key_of message | Err fault ↦ None ]) is)
    ∙ last-option (filter_map key_of_raw read) (key_of m) (pos 0, pos 0)

by_key : (read : List RawMessage) (s : Startup) (o : Option (ℤ × ℤ)) → (s.process_id, s.secret_key) ≡ cancel_key read →
    ((with_key s o).process_id, (with_key s o).secret_key) ≡ unwrap_or o (cancel_key read)
by_key read s None is = is
by_key read s (Some key) is = refl

keeps_delayed : (s : Startup) (o : Option (ℤ × ℤ)) → map notice_of (with_key s o).delayed.items ≡ map notice_of s.delayed.items
keeps_delayed s None = refl
keeps_delayed s (Some key) = refl

keeps_parameters : (s : Startup) (o : Option (ℤ × ℤ)) → (with_key s o).parameters ≡ s.parameters
keeps_parameters s None = refl
keeps_parameters s (Some key) = refl

-- a message of a batch is kept where it is the key
pub noted-calm : (read : List RawMessage) (s : Startup) (raw : RawMessage) (m : said.Message) → Noted read s → is_aside raw ≡ false → message_of raw ≡ Ok m →
    Noted (read ++ raw ∷ []) (with_key s (key_of m))
noted-calm read s raw m noted calm is = record {
  delayed = keeps_delayed s (key_of m) ∙ noted.delayed ∙ sym (append-nil (async_of read)) ∙ ap (λ (l : List RawMessage). async_of read ++ l) (sym (calm_async (raw ∷ []) (calm, tt)))
      ∙ sym (filter-append _ read (raw ∷ []));
  parameters = keeps_parameters s (key_of m) ∙ noted.parameters
      ∙ ap (keep_all []) (sym (filter_map-append _ read (raw ∷ []) ∙ ap (λ l. parameter_reports read ++ l) (calm_reports (raw ∷ []) (calm, tt)) ∙ append-nil (parameter_reports read)));
  key = by_key read s (key_of m) noted.key ∙ sym (key-push read raw m is);
}

-- process id and key
abbrev pub pair : ℤ → ℤ → ℤ × ℤ
pair a b = (a, b)

-- what was kept stays so where only the dialogue goes on
pub noted-same : (read : List RawMessage) (s t : Startup) → Noted read s → t.delayed ≡ s.delayed → t.parameters ≡ s.parameters → t.process_id ≡ s.process_id → t.secret_key ≡ s.secret_key → Noted read t
noted-same read s t noted delayed parameters process_id secret_key = record {
  delayed = ap (λ d. map notice_of d.items) delayed ∙ noted.delayed;
  parameters = parameters ∙ noted.parameters;
  key = ap (λ (p : ℤ). pair p t.secret_key) process_id ∙ ap (λ (k : ℤ). pair s.process_id k) secret_key ∙ noted.key;
}

-- ---- messages aside

-- a message of another kind isn't aside
pub not-aside : (raw : RawMessage) (m : said.Message) → kind m ≡ 0 → is_aside raw ≡ true → message_of raw ≡ Ok m → ⊥
not-aside raw m none aside means =
    let no : false ≡ true = ap (λ (t : ℕ). (t == byte "N" || t == byte "A") || t == byte "S") (sym none ∙ aside_kind raw m aside means) ∙ aside in cc

notice-body : (body fields : List ℕ) → message_of (record { tag = byte "N"; body = body }) ≡ Ok (said.NoticeResponse fields) → fields ≡ body
notice-body body fields e = let same : Ok (said.NoticeResponse body) ≡ Ok (said.NoticeResponse fields) = e in cc

notice-is : (raw : RawMessage) (fields : List ℕ) → raw.tag ≡ byte "N" → message_of raw ≡ Ok (said.NoticeResponse fields) → raw ≡ record { tag = byte "N"; body = fields }
notice-is raw fields tag means =
    ap (λ (t : ℕ). record { tag = t; body = raw.body }) tag
    ∙ ap (λ (b : List ℕ). record { tag = byte "N"; body = b }) (sym (notice-body raw.body fields (ap (λ (t : ℕ). message_of (record { tag = t; body = raw.body })) (sym tag) ∙ means)))

reports-push : (read : List RawMessage) (raw : RawMessage) (m : said.Message) → message_of raw ≡ Ok m → parameter_reports (read ++ raw ∷ []) ≡ parameter_reports read ++ cons_option (report_of m) []
reports-push read raw m means =
    filter_map-append _ read (raw ∷ [])
    ∙ ap (λ (o : Option (List ℕ × List ℕ)). parameter_reports read ++ cons_option o [])
    (ap (λ (r : Result said.Message WireFault). elim r [ Ok message ↦ report_of message | Err fault ↦ None ]) means)

async-push : (read : List RawMessage) (raw : RawMessage) (b : Bool) → (raw.tag == byte "N" || raw.tag == byte "A") ≡ b → async_of (read ++ raw ∷ []) ≡ async_of read ++ (if b then raw ∷ [] else [])
async-push read raw b is = filter-append _ read (raw ∷ []) ∙ ap (λ (x : Bool). async_of read ++ (if x then raw ∷ [] else [])) is

tag-test : (raw : RawMessage) (n : ℕ) → n ≡ raw.tag → (raw.tag == byte "N" || raw.tag == byte "A") ≡ (n == byte "N" || n == byte "A")
tag-test raw n is = ap (λ (t : ℕ). t == byte "N" || t == byte "A") (sym is)

-- a notice is delayed, a report kept
pub noted-aside : (read : List RawMessage) (s t : Startup) (raw : RawMessage) (m : said.Message) → Noted read s → is_aside raw ≡ true → message_of raw ≡ Ok m →
    HasPlace m → KeepsAside s t m → Noted (read ++ raw ∷ []) t
noted-aside read s t raw (said.NoticeResponse fields) noted aside means place keeps =
    let tag : byte "N" ≡ raw.tag = aside_kind raw (said.NoticeResponse fields) aside means in
    record {
      delayed = keeps.0 ∙ ap (λ (l : List RawMessage). l ++ (record { tag = byte "N"; body = fields }) ∷ []) noted.delayed
          ∙ ap (λ (x : RawMessage). async_of read ++ x ∷ []) (sym (notice-is raw fields (sym tag) means))
          ∙ sym (async-push read raw true (tag-test raw (byte "N") tag));
      parameters = ap (λ (x : Startup). x.parameters) keeps.1 ∙ noted.parameters
          ∙ ap (keep_all []) (sym (reports-push read raw (said.NoticeResponse fields) means ∙ append-nil (parameter_reports read)));
      key = ap (λ (x : Startup). pair x.process_id x.secret_key) keeps.1 ∙ noted.key ∙ sym (key-push read raw (said.NoticeResponse fields) means);
    }
noted-aside read s t raw (said.ParameterStatus name value) noted aside means place keeps =
    let tag : byte "S" ≡ raw.tag = aside_kind raw (said.ParameterStatus name value) aside means in
    record {
      delayed = ap (λ (x : Startup). map notice_of x.delayed.items) keeps ∙ noted.delayed ∙ sym (append-nil (async_of read))
          ∙ sym (async-push read raw false (tag-test raw (byte "S") tag));
      parameters = ap (λ (x : Startup). x.parameters) keeps ∙ ap (λ (p : List (List ℕ × List ℕ)). keep p (name, value)) noted.parameters
          ∙ sym (fold-append keep [] (parameter_reports read) ((name, value) ∷ []))
          ∙ ap (keep_all []) (sym (reports-push read raw (said.ParameterStatus name value) means));
      key = ap (λ (x : Startup). pair x.process_id x.secret_key) keeps ∙ noted.key ∙ sym (key-push read raw (said.ParameterStatus name value) means);
    }
noted-aside read s t raw (said.NotificationResponse process_id channel payload) noted aside means place keeps = absurd place
noted-aside read s t raw m noted aside means place keeps = absurd (not-aside raw m refl aside means)
