-- What crossed the link in a session that ended, both ways.
use Rattle.std.proofs.Common.{◌≡◌, ◌<◌, ◌≤◌, ℕ, suc, ◌+◌, ◌^◌, List, [], ◌∷◌, ◌++◌, length, map, Bool, true, false, ◌&&◌, if◌then◌else◌, Option, Some, refl, sym, ap, subst, ◌∙◌, arith, append-nil, length-append}
use Rattle.std.specs.Prelude.{filter, slice_get, option_map, unwrap_or}
use Rattle.std.specs.List.{list_all}
use Rattle.std.proofs.lemmas.List.{length_push, length-map}
use Rattle.std.proofs.lemmas.List.Elements.{filter-append}
use Rattle.std.proofs.lemmas.List.Folds.{list_all-append}
use Rattle.pg_spec.specs.Asides.{is_readable}
use Rattle.pg_spec.specs.Book as book
use Rattle.pg_spec.specs.Settings.{Settings}
use Rattle.pg_spec.specs.Links.{LinkView, added}
use Rattle.pg_spec.specs.Parameters.{parameter_reports, AreLastValues}
use Rattle.pg_spec.specs.RawMessages.{RawMessage, messages, bytes_left, has_bad_header, is_ready, is_whole_group, sync_of, async_of, cut_after, groups}
use Rattle.pg_spec.specs.Report as said
use Rattle.pg_spec.specs.Startup.{First, Startup, Done, dialogue, plain_login, startup_part, session_part, cancel_key}
use Rattle.pg_spec.specs.Turns.{delivered_before}
use Rattle.pg_errors.specs.declared.async_message.AsyncMessage.{AsyncMessage}
use Rattle.pg_errors.specs.Views.{async_of as aside_of}
use Rattle.pg_desk.specs.declared.event.Booking.{Booking}
use Rattle.pg_desk.proofs.Owners.{none-open}
use Rattle.pg_desk.proofs.Parts.{all-began}
use Rattle.pg_desk.specs.History.{State, start, started_of, after_all, received, finished}
use Rattle.pg_hub.specs.Standing.{Standing}
use Rattle.pg_connect.specs.declared.streams.Streams.{Streams}
use Rattle.pg_connect.specs.Kept.{keep_all}
use Rattle.pg_connect.specs.Passed.{delivered_by}
use Rattle.pg_connect.specs.Passes.{risen}
use Rattle.pg_connect.proofs.Joining.{none_lost}
use Rattle.pg_connect.proofs.Sizes.{sizes, sized}
use Rattle.pg_core.specs.Trails.{said_booking}
use Rattle.pg_promises.specs.Endings.{Report}
use Rattle.pg_spec.specs.declared.stamps.TurnMark.{TurnMark}
use Rattle.pg_session.specs.Crossed.{session_of, Crossed}
use Rattle.pg_session.specs.Sessions.{HasPlayed}
use Rattle.pg_session.proofs.Caused.Lists.{all-left}
use Rattle.pg_session.proofs.Crossing.Hub.{received-all, ends_whole, Ran, ran-all, ran-start}
use Rattle.pg_session.proofs.Crossing.{Emptied, Stood, shown}
use Rattle.pg_session.proofs.Opening.Heard.{all-heard, is_told, readable-all, told-all}
use Rattle.pg_session.proofs.Crossing.End.{finished as finish, added-is, all-out, startup-of, was-sent}
use Rattle.pg_session.proofs.Crossing.Groups.{AreWhole, all-whole, both-true}
use Rattle.pg_startup.specs.Startups.{Ends}
use Rattle.pg_connect.proofs.LastValues.{last-values}
use Rattle.pg_session.specs.Speeches.{Speech}

-- ---- lists

pub filter-short : {X : Type 0} (p : X → Bool) (xs : List X) → length (filter p xs) ≤ length xs
filter-short p [] = omega arith
filter-short {X} p (x ∷ xs) = by_test (p x) (filter-short p xs)
  where
    by_test : (b : Bool) → length (filter p xs) ≤ length xs → length (if b then x ∷ filter p xs else filter p xs) ≤ suc (length xs)
    by_test true h = omega (arith, h)
    by_test false h = omega (arith, h)

map-twice : {A B C : Type 0} (f : B → C) (g : A → B) (xs : List A) → map f (map g xs) ≡ map (λ x. f (g x)) xs
map-twice f g [] = refl
map-twice f g (x ∷ xs) = ap (λ l. f (g x) ∷ l) (map-twice f g xs)

at-end : {X : Type 0} (xs : List X) (x : X) → slice_get (xs ++ x ∷ []) (length xs) ≡ Some x
at-end [] x = refl
at-end (y ∷ xs) x = at-end xs x

-- ---- the trace

last-mark : (trace : List TurnMark) (mark : TurnMark) → delivered_before (trace ++ mark ∷ []) (length (trace ++ mark ∷ [])) ≡ mark.delivered
last-mark trace mark =
    let long : length (trace ++ mark ∷ []) ≡ suc (length trace) = omega (arith, length_push trace mark) in
    ap (delivered_before (trace ++ mark ∷ [])) long
    ∙ ap (λ (o : Option TurnMark). unwrap_or (option_map (λ m. m.delivered) o) 0) (at-end trace mark)

-- what the report's trace tells last
trace-end : (all before : List TurnMark) (mark : TurnMark) → all ≡ before ++ mark ∷ [] → delivered_before all (length all) ≡ mark.delivered
trace-end all before mark is =
    ap (λ (l : List TurnMark). delivered_before l (length l)) is ∙ last-mark before mark

-- the same, where as many were delivered as came
told-count : (all before : List TurnMark) (mark : TurnMark) (read later : List RawMessage) → all ≡ before ++ mark ∷ [] → mark.delivered ≡ length (sync_of read) → later ≡ read →
    delivered_before all (length all) ≡ length (sync_of later)
told-count all before mark read later is count same = trace-end all before mark is ∙ count ∙ ap (λ (x : List RawMessage). length (sync_of x)) (sym same)

-- the notices and notifications of a report
told-asides : (reported : List said.AsyncMessage) (asides : List AsyncMessage) (read ms : List RawMessage) → reported ≡ map aside_of asides → shown asides ≡ map said.async_of_raw (async_of read) → async_of ms ≡ async_of read →
    map (λ (m : said.AsyncMessage). Some m) reported ≡ map said.async_of_raw (async_of ms)
told-asides reported asides read ms same shows is =
    ap (map (λ (m : said.AsyncMessage). Some m)) same
    ∙ map-twice (λ (m : said.AsyncMessage). Some m) aside_of asides
    ∙ shows ∙ ap (map said.async_of_raw) (sym is)

-- ---- messages and their bytes

few-messages : (ms : List RawMessage) → length ms ≤ sizes ms
few-messages [] = omega arith
few-messages (m ∷ ms) = let h = few-messages ms in omega arith

-- there are no more messages than bytes
pub fewer-messages : (bytes : List ℕ) → length (messages bytes) ≤ length bytes
fewer-messages bytes = omega (arith, few-messages (messages bytes), sized bytes)

not-saturated : (n : ℕ) → n < 2 ^ 64 → risen 0 n ≡ n
not-saturated n low = omega arith

-- ---- all that came

-- What was read is all that came behind the startup, and all of it was passed on.
pub record AllPassed (first read given : List RawMessage) (h : State) (s : Streams) (asides : List AsyncMessage) : Type 0 where
  pub all : given ≡ first ++ read
  pub delivered : sync_of read ≡ received h.deliveries
  pub shows : shown asides ≡ map said.async_of_raw (async_of (first ++ read))
  pub kept : s.parameters ≡ keep_all [] (parameter_reports (first ++ read))
  pub count : s.given < 2 ^ 64 → s.delivered ≡ length (sync_of read)

all-passed : (opening : List ℕ) (first : List RawMessage) (base l : LinkView) (hub : Standing) (s : Streams) (asides : List AsyncMessage) →
    (h : Stood opening first base hub s asides l) → Emptied s → AllPassed first h.read (messages h.given) (after_all (start 0 0) h.events) s asides
all-passed opening first base l hub s asides h empty =
    let lost : h.lost ≡ [] = none_lost s.unread h.lost empty.unread h.unread in
    let all : messages h.given ≡ first ++ h.read =
    h.came_off ∙ ap (λ (x : List RawMessage). (first ++ h.read) ++ (x ++ messages s.buffer.items)) lost
    ∙ ap (λ (x : List RawMessage). (first ++ h.read) ++ x) empty.decoded ∙ append-nil (first ++ h.read) in
    let sync : sync_of h.read ≡ delivered_by h.events = h.delivered ∙ ap (λ (x : List RawMessage). delivered_by h.events ++ x) empty.held ∙ append-nil (delivered_by h.events) in
    record {
      all = all;
      delivered = sync ∙ sym (received-all (start 0 0) h.events);
      shows = h.shows ∙ ap (map said.async_of_raw) (sym (h.handed_out ∙ ap (λ (x : List RawMessage). h.handed ++ x) empty.delayed ∙ append-nil h.handed));
      kept = h.kept;
      count = λ low.
          let few : length (sync_of h.read) ≤ length h.read = filter-short _ h.read in
          let long : length (messages h.given) ≡ length first + length h.read = ap length all ∙ length-append first h.read in
          let fewer : length (messages h.given) ≤ length h.given = fewer-messages h.given in
          let count : s.given ≡ length h.given = h.count in
          let here : length (sync_of h.read) < 2 ^ 64 = omega (arith, few, long, fewer, count, low) in
          h.counted ∙ ap (λ (x : List RawMessage). risen 0 (length x)) (sym sync) ∙ not-saturated (length (sync_of h.read)) here;
    }

-- ---- the groups

is-true : (b : Bool) → (b ≡ false → ⊥) → b ≡ true
is-true true f = refl
is-true false f = absurd (f refl)

-- each request got one whole group
whole-groups : (opening : List ℕ) (first : List RawMessage) (base l : LinkView) (hub : Standing) (s : Streams) (asides : List AsyncMessage) →
    (h : Stood opening first base hub s asides l) → s.closing ≡ true → sync_of h.read ≡ received (after_all (start 0 0) h.events).deliveries → AreWhole (length hub.book) (groups h.read)
whole-groups opening first base l hub s asides h closing sync =
    let st = after_all (start 0 0) h.events in
    let spent = h.spent closing in
    let ran : Ran st = ran-all (start 0 0) h.events (ran-start 0 0) h.legal in
    let answered : started_of st ≤ finished st.deliveries = none-open st h.fits.in_order spent.answered in
    let ends : ends_whole st.deliveries ≡ true = is-true (ends_whole st.deliveries) (λ e. let open_ : finished st.deliveries < started_of st = ran.tail e in omega (arith, open_, answered)) in
    let out = ap (λ (x : List (List ℕ)). length x) (all-out opening first base l hub s asides h closing) in
    let began : started_of st ≡ length st.book = all-began (length st.gone_out) st.book h.fits.in_order.all (omega (arith, out)) in
    let few : finished st.deliveries ≤ started_of st = h.fits.in_order.ended in
    let count : finished st.deliveries ≡ length hub.book = omega (arith, began, few, answered, ap (λ (x : List Booking). length x) h.fits.book) in
    subst (λ (n : ℕ). AreWhole n (groups h.read)) count
    (subst (λ (x : List RawMessage). AreWhole (finished st.deliveries) (cut_after is_ready x)) (sym sync) (all-whole st.deliveries ran.cut ends))

-- ---- the messages of the startup

-- all that was handed out could be read, and so could all other messages of a startup that is done
startup-readable : (settings : Settings) (nonce : List ℕ) (first read : List RawMessage) (wrote : List ℕ) (asides : List AsyncMessage) → Ends (plain_login settings nonce) first wrote →
    shown asides ≡ map said.async_of_raw (async_of (first ++ read)) → list_all is_readable first ≡ true
startup-readable settings nonce first read wrote asides ends shows =
    let l = plain_login settings nonce in
    let done : (dialogue l First first).outcome ≡ Done (length first) =
    ap (λ (x : List RawMessage). (dialogue l First x).outcome) (sym (append-nil first)) ∙ ap (λ (x : Startup). x.outcome) (ends.over []) in
    let told : list_all is_told (async_of first ++ async_of read) ≡ true =
    ap (list_all is_told) (sym (filter-append _ first read)) ∙ told-all aside_of asides (async_of (first ++ read)) shows in
    readable-all first (all-heard l First first done)
    (both-true (list_all is_told (async_of first)) (list_all is_told (async_of read)) (sym (list_all-append is_told (async_of first) (async_of read)) ∙ told)).0

module _ {C T A E : Type 0} (speech : Speech C T A E) where
  -- ---- all together

  pub all-crossed : (settings : Settings) (nonce : List ℕ) (scripts : List (List C)) (given : List ℕ) (before after : LinkView) (report : Report A)
      (p : HasPlayed speech settings nonce scripts given before after report) → (g t : List ℕ) →
      added before.given after.given ≡ Some g → added before.taken after.taken ≡ Some t → Crossed (session_of settings nonce scripts given report g) t
  all-crossed settings nonce scripts given before after report p g t e d =
      let f = finish speech settings nonce scripts given before after report p in
      let h = f.stood in
      let sent = was-sent speech settings nonce scripts given before after report p f g t e d in
      let g-is : g ≡ h.given = added-is before.given after.given h.given g h.gave e in
      let started = startup-of speech settings nonce scripts given before after report p f g g-is in
      let empty = h.emptied f.is_last.closing in
      let passed = all-passed p.opening p.opened.read before after p.last.hub p.last.streams p.last.asynchronous h empty in
      let whole = whole-groups p.opening p.opened.read before after p.last.hub p.last.streams p.last.asynchronous h f.is_last.closing passed.delivered in
      let lost : h.lost ≡ [] = none_lost p.last.streams.unread h.lost empty.unread h.unread in
      let later : session_part settings nonce (messages g) ≡ h.read =
      started.rest ∙ ap (λ (x : List RawMessage). h.read ++ (x ++ messages p.last.streams.buffer.items)) lost
      ∙ ap (λ (x : List RawMessage). h.read ++ x) empty.decoded ∙ append-nil h.read in
      let all : messages g ≡ p.opened.read ++ h.read = ap messages g-is ∙ passed.all in
      let aside : async_of (startup_part settings nonce (messages g) ++ session_part settings nonce (messages g)) ≡ async_of (p.opened.read ++ h.read) =
      ap (λ (x : List RawMessage). async_of (x ++ session_part settings nonce (messages g))) started.part
      ∙ ap (λ (x : List RawMessage). async_of (p.opened.read ++ x)) later in
      let begun : list_all is_readable p.opened.read ≡ true = startup-readable settings nonce p.opened.read h.read p.opened.wrote p.last.asynchronous p.opened.done passed.shows in
      record {
        sends = sent;
        one_group_each = ap (λ (x : List RawMessage). length (groups x)) later ∙ whole.count
            ∙ sym (length-map p.last.hub.book said_booking) ∙ ap (λ (x : List book.Booking). length x) (sym p.reports.book);
        whole_groups = ap (λ (x : List RawMessage). list_all is_whole_group (groups x)) later ∙ whole.whole;
        delivered_all = told-count report.trace p.plays.ends.state.trace (record { turn = f.is_last.turn; delivered = p.last.streams.delivered }) h.read
            (session_part settings nonce (messages g)) (p.reports.trace ∙ f.is_last.trace) (passed.count p.counted) later;
        readable = ap (λ (x : List RawMessage). list_all is_readable x) all ∙ list_all-append is_readable p.opened.read h.read
            ∙ ap (λ (b : Bool). b && list_all is_readable h.read) begun ∙ h.readable;
        asynchronous = told-asides report.asynchronous p.last.asynchronous (p.opened.read ++ h.read)
            (startup_part settings nonce (messages g) ++ session_part settings nonce (messages g)) p.reports.asynchronous passed.shows aside;
        parameters = subst (λ (x : List (List ℕ × List ℕ)). AreLastValues (parameter_reports (messages g)) x) (sym (p.reports.parameters ∙ passed.kept))
            (subst (λ (x : List RawMessage). AreLastValues (parameter_reports x) (keep_all [] (parameter_reports (p.opened.read ++ h.read)))) (sym all) (last-values (parameter_reports (p.opened.read ++ h.read))));
        no_bad_header = ap (λ (x : List ℕ). has_bad_header (bytes_left x)) g-is
            ∙ ap has_bad_header (h.rest ∙ all-left p.last.streams.buffer.items empty.decoded) ∙ empty.header;
        key = p.reports.key ∙ p.opened.noted.key ∙ ap cancel_key (sym started.part);
      }
