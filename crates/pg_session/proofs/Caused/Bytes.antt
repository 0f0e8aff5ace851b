-- The causes of failures, by the bytes that crossed the link.
use Rattle.std.proofs.Common.{◌≡◌, ◌≢◌, inl, inr, ◌⊎◌, ◌≤◌, ℕ, List, [], ◌∷◌, ◌++◌, length, map, Bool, true, false, ◌&&◌, if◌then◌else◌, Option, Some, None, Result, Ok, Err, refl, sym, ap, subst, ◌∙◌, append_assoc, append-nil, drop, arith}
use Rattle.std.proofs.Math.Seq.{drop-append_seam}
use Rattle.std.specs.Prelude.{Contains, filter, is_some, find, ◌==◌}
use Rattle.std.specs.Str.{is_utf8}
use Rattle.std.proofs.lemmas.List.Elements.{Contains-append_left, Contains-append_right}
use Rattle.std.proofs.lemmas.Option.{same_Some}
use Rattle.pg_promises.specs.Causes.{Call, HasCause, OfPlainDialogue, Behind, IsOfBody, NeedsNoTls, OutOfTurn}
use Rattle.pg_spec.specs.Asides.{AsideBreaks, AsideUnreadable, aside_fault, unasked, out_of_turn}
use Rattle.pg_spec.specs.Settings.{Settings}
use Rattle.pg_promises.specs.ConnectionStrings.{Means}
use Rattle.pg_spec.specs.DbErrors.{DbError, db_error_of}
use Rattle.pg_spec.specs.Faults as faults
use Rattle.pg_spec.specs.Links.{LinkView, OfBytes, Grew}
use Rattle.pg_spec.specs.Messages.{Message, layouts}
use Rattle.pg_spec.specs.Messages as spec
use Rattle.pg_spec.specs.RawMessages.{RawMessage, messages, bytes_left, has_bad_header, async_of, is_ready, cut_after}
use Rattle.pg_spec.specs.Sent.{ends_unit, said_terminate, units}
use Rattle.pg_wire.specs.LinkCalls.{Keeps}
use Rattle.pg_wire.specs.Messages.{message_view}
use Rattle.pg_wire.specs.declared.body.ErrorResponseBody.{ErrorResponseBody}
use Rattle.pg_wire.specs.declared.message.Message.{Message as WireMessage}
use Rattle.pg_types.specs.declared.cause.Cause.{Cause}
use Rattle.pg_types.specs.declared.error.Error.{Error}
use Rattle.pg_desk.specs.declared.event.Event.{Event}
use Rattle.pg_desk.specs.History.{State, start, started_of, after_all, finished, wire, joined, IsFrontOf, has_open}
use Rattle.pg_desk.specs.Kept.{legal-joined}
use Rattle.pg_desk.specs.Order.{InOrder}
use Rattle.pg_desk.proofs.Owners.{none-open as none-counted}
use Rattle.pg_desk.proofs.Soundness.{legal-kept, legal-sound}
use Rattle.pg_hub.specs.Becomes.{after-joined}
use Rattle.pg_connect.specs.Answers.{fresh, left_open}
use Rattle.pg_connect.specs.Faults.{error_of}
use Rattle.pg_connect.specs.Ends.{last_is, is_closed_out}
use Rattle.pg_connect.specs.Passed.{AllEngineCalls, bytes_out_by, delivered_by}
use Rattle.pg_connect.specs.Passes.{goodbye, waiting, notice_of, delayed_in, IsUnread, CameOff}
use Rattle.pg_connect.specs.Polls.{TurnFails, EndsWhole}
use Rattle.pg_connect.specs.Reads.{BreaksLayout, LeavesUnread, LeavesDelayed, IsUnasked, has_no_request}
use Rattle.pg_connect.specs.declared.fault.ConnectionFault.{ConnectionFault}
use Rattle.pg_connect.specs.declared.fault.ConnectionFault.TheVariants as fault
use Rattle.pg_connect.specs.declared.streams.Streams.{Streams}
use Rattle.pg_connect.proofs.Joining.{rose_later}
use Rattle.pg_session.proofs.Caused.Asks.{IsTame, asks-out, tame-all, mild-engines, never-closed, wire-asks}
use Rattle.pg_session.proofs.Caused.Frames.{AreRequests, TakesRequests, front-reads, front-requests, is_kept, never-said}
use Rattle.pg_session.proofs.Crossing.Hub.{out-all}
use Rattle.pg_session.proofs.Caused.Groups.{none-open, delivered-whole, InFront, in-front}
use Rattle.pg_session.proofs.Crossing.Groups.{AreWhole}
use Rattle.pg_session.proofs.Caused.Lists.{first-stands, unfiltered, not-none, all-left, bad-left}
use Rattle.pg_session.proofs.Caused.Turns.{Broke}
use Rattle.pg_session.proofs.Crossing.End.{added-is, of-bytes}
use Rattle.pg_session.proofs.Opening.{IsDone, IsOpening, Started, done-opening, is-started}
use Rattle.pg_session.proofs.Opening.Sent.{opening-units, silent-behind}

-- a call failed behind its startup, in a turn of its connection
pub record Fails (settings : Settings) (call : Call) (former now : List Event) (t : Streams) (l : LinkView) : Type 0 where
  pub means : Means call.config settings
  pub opening : List ℕ
  pub first : List RawMessage
  pub no_tls : NeedsNoTls settings
  pub done : IsDone settings call.nonce opening first
  pub broke : Broke opening first call.before former now t call.after
  pub keeps : Keeps call.before l
  pub limit : t.max_bytes ≡ call.limit
  -- the hub's events in the turn, and what it held before
  pub calls : AllEngineCalls now
  pub tame : IsTame (after_all (start 0 0) former).book (after_all (start 0 0) former).copying (after_all (start 0 0) former).failed
  -- the link took the startup's frames whole
  pub more : List ℕ
  pub took : Grew call.before.taken call.after.taken (opening ++ more)

-- ---- faults

-- the cause of a message that can't be read is of a body
by_test : (b : Bool) (d c : faults.Cause) → IsOfBody d → (if b then None else Some d) ≡ Some c → IsOfBody c
by_test true d c h e = absurd cc
by_test false d c h e = subst IsOfBody (same_Some d c e) h

of-body : (message : Message) (c : faults.Cause) → aside_fault message ≡ Some c → IsOfBody c
of-body (spec.NoticeResponse fields) c is = by_test (is_some (db_error_of fields)) faults.Fields c tt is
of-body (spec.NotificationResponse process_id channel payload) c is = by_test (is_utf8 channel && is_utf8 payload) faults.NotText c tt is
of-body (spec.ParameterStatus name value) c is = by_test (is_utf8 name && is_utf8 value) faults.NotText c tt is
of-body _ c is = absurd cc

-- what a message may mean that comes where no request is open
abbrev pub IsOfAnswer : faults.Failure → Type 0
IsOfAnswer (faults.Db error) = Unit {0}
IsOfAnswer faults.UnexpectedMessage = Unit {0}
IsOfAnswer (faults.Parse (faults.Wire faults.UnknownTag)) = Unit {0}
IsOfAnswer (faults.Parse (faults.Wire faults.Layout)) = Unit {0}
IsOfAnswer (faults.Parse faults.Fields) = Unit {0}
IsOfAnswer _ = ⊥

of-error : (o : Option DbError) → IsOfAnswer (elim o [ None ↦ faults.Parse faults.Fields | Some error ↦ faults.Db error ])
of-error None = tt
of-error (Some error) = tt

of-message : (m : Message) → IsOfAnswer (unasked m)
of-message (spec.ErrorResponse fields) = of-error (db_error_of fields)
of-message _ = tt

-- a malformed message has a tag that none has, or is out of its layout
of-read : (read : Option Message) → IsOfAnswer (elim (elim read as (λ _. Result Message faults.WireFault) [ None ↦ Err faults.Layout | Some message ↦ Ok message ])
    as (λ _. faults.Failure) [ Err fault ↦ faults.Parse (faults.Wire fault) | Ok message ↦ unasked message ])
of-read None = tt
of-read (Some message) = of-message message

of-row : (body : List ℕ) (row : Option (ℕ × (List ℕ → Option Message))) → IsOfAnswer (elim (elim row as (λ _. Result Message faults.WireFault) [
  | None ↦ Err faults.UnknownTag
  | Some row ↦ elim (row.1 body) [ None ↦ Err faults.Layout | Some message ↦ Ok message ]
]) as (λ _. faults.Failure) [ Err fault ↦ faults.Parse (faults.Wire fault) | Ok message ↦ unasked message ])
of-row body None = tt
of-row body (Some row) = of-read (row.1 body)

of-raw : (raw : RawMessage) → IsOfAnswer (out_of_turn raw)
of-raw raw = of-row raw.body (find (λ row. row.0 == raw.tag) layouts)

pub of-batch : (batch : List RawMessage) (e : Error) → IsUnasked batch (fault.Unasked e) → IsOfAnswer e
of-batch [] e h = absurd h
of-batch (first ∷ batch) e h = subst IsOfAnswer (sym h) (of-raw first)

module _ (settings : Settings) (call : Call) (former now : List Event) (t : Streams) (l : LinkView) (f : Fails settings call former now t l) where
  -- the messages behind the startup
  abbrev pub later : List RawMessage
  later = f.broke.read ++ (f.broke.lost ++ messages t.buffer.items)

  -- what holds of the bytes that were given and taken
  pub of-bytes-of : (P : List ℕ → List ℕ → Type 0) → P f.broke.given f.broke.taken → OfBytes call.before call.after P
  of-bytes-of P h = of-bytes call.before call.after P (λ g t e d.
      subst (λ (x : List ℕ). P x t) (sym (added-is call.before.given call.after.given f.broke.given g f.broke.gave e))
      (subst (λ (x : List ℕ). P f.broke.given x) (sym (added-is call.before.taken call.after.taken f.broke.taken t f.broke.took d)) h))

  pub of-dialogue : (P : Settings → List ℕ → List ℕ → Type 0) → P settings f.broke.given f.broke.taken → OfPlainDialogue call P
  of-dialogue P h = (settings, f.means, (f.no_tls, of-bytes-of (P settings) h))

  -- the same of all that was taken, which began with the startup's frames
  pub of-taken : (P : Settings → List ℕ → List ℕ → Type 0) → ((taken : List ℕ) → taken ≡ f.broke.taken → taken ≡ f.opening ++ f.more → P settings f.broke.given taken) → OfPlainDialogue call P
  of-taken P h = (
    settings,
    f.means,
    (
      f.no_tls,
      of-bytes call.before call.after (P settings) (λ g t e d.
          subst (λ (x : List ℕ). P settings x t) (sym (added-is call.before.given call.after.given f.broke.given g f.broke.gave e))
          (h t (added-is call.before.taken call.after.taken f.broke.taken t f.broke.took d) (added-is call.before.taken call.after.taken (f.opening ++ f.more) t f.took d))),
    ),
  )

  all-messages : messages f.broke.given ≡ f.first ++ later
  all-messages = f.broke.came_off ∙ append_assoc f.first f.broke.read (f.broke.lost ++ messages t.buffer.items)

  opens : IsOpening settings f.opening
  opens = done-opening settings call.nonce f.opening f.first f.done

  started : Started settings call.nonce f.opening f.first later (messages f.broke.given)
  started = is-started settings call.nonce f.opening f.first later (messages f.broke.given) f.done all-messages

  -- what holds of the messages behind the startup
  pub behind : (P : List RawMessage → Type 0) → P later → Behind call settings f.broke.given P
  behind P h = (f.no_tls, (length f.first, started.outcome, subst P (sym started.rest) h))

  -- what came behind the startup came
  among-all : (m : RawMessage) → Contains later m → Contains (messages f.broke.given) m
  among-all m h = subst (λ (x : List RawMessage). Contains x m) (sym all-messages) (Contains-append_right f.first later m h)

  -- ---- a message aside

  layout-breaks : BreaksLayout t → AsideBreaks faults.Layout later
  layout-breaks b = (
    b.raw,
    Contains-append_right f.broke.read (f.broke.lost ++ messages t.buffer.items) b.raw
        (Contains-append_right f.broke.lost (messages t.buffer.items) b.raw
        (subst (λ (x : List RawMessage). Contains x b.raw) (sym b.front) (first-stands b.raw b.rest))),
    b.aside,
    b.broken,
  )

  came-off : (message : WireMessage) → t.unread ≡ Some message → CameOff message f.broke.lost
  came-off message is = subst (λ (o : Option WireMessage). IsUnread o f.broke.lost) is f.broke.unread

  unread-stands : (c : Cause) → LeavesUnread t c → AsideUnreadable c (messages f.broke.given)
  unread-stands c h =
      let off = came-off h.message h.unread in (
        off.raw,
        message_view h.message,
        among-all off.raw (Contains-append_right f.broke.read (f.broke.lost ++ messages t.buffer.items) off.raw
            (Contains-append_left f.broke.lost (messages t.buffer.items) off.raw
            (subst (λ (x : List RawMessage). Contains x off.raw) (sym off.alone) (first-stands off.raw [])))),
        off.means,
        h.means,
      )

  delayed-stands : (c : Cause) → LeavesDelayed t c → AsideUnreadable c (messages f.broke.given)
  delayed-stands c h =
      let raw = notice_of h.notice in
      let late : delayed_in t ≡ raw ∷ map notice_of h.others = ap (λ (x : List ErrorResponseBody). map notice_of x) h.first in
      let all : async_of (f.first ++ f.broke.read) ≡ f.broke.handed ++ raw ∷ map notice_of h.others = f.broke.handed_out ∙ ap (λ (x : List RawMessage). f.broke.handed ++ x) late in (
        raw,
        spec.NoticeResponse h.notice.fields,
        subst (λ (x : List RawMessage). Contains x raw) (sym f.broke.came_off) (Contains-append_left (f.first ++ f.broke.read) (f.broke.lost ++ messages t.buffer.items) raw
            (unfiltered _ (f.first ++ f.broke.read) raw
            (subst (λ (x : List RawMessage). Contains x raw) (sym all)
            (Contains-append_right f.broke.handed (raw ∷ map notice_of h.others) raw (first-stands raw (map notice_of h.others)))))),
        refl,
        h.means,
      )

  aside-stands : (c : Cause) → LeavesUnread t c ⊎ LeavesDelayed t c → AsideUnreadable c (messages f.broke.given)
  aside-stands c (inl h) = unread-stands c h
  aside-stands c (inr h) = delayed-stands c h

  -- ---- what was taken

  -- where the connection isn't closing, frames of requests were taken, no more units than parts that went out of the hub
  pub took-requests : t.closing ≡ false → (taken : List ℕ) → taken ≡ f.broke.taken → taken ≡ f.opening ++ f.more →
      TakesRequests (length (after_all (after_all (start 0 0) former) now).gone_out) (messages f.more)
  took-requests open_ taken same front =
      let begin = after_all (start 0 0) former in
      let last = after_all begin now in
      let joins : after_all (start 0 0) (former ++ now) ≡ last = after-joined (start 0 0) former now in
      let tame = tame-all begin now (mild-engines now f.calls) f.tame in
      let legal = legal-joined (start 0 0) former now f.broke.legal f.broke.legal_now in
      let out : IsFrontOf last.gone_out (wire last.book) =
      subst (λ (s : State). IsFrontOf s.gone_out (wire s.book)) joins (legal-sound 0 0 (former ++ now) legal).out_is_front in
      let parts : AreRequests last.gone_out = front-requests last.gone_out out.0 (subst AreRequests (sym out.1) (wire-asks last.book tame.asks)) in
      let bytes : joined last.gone_out ≡ bytes_out_by (former ++ now) = ap (λ (s : State). joined s.gone_out) (sym joins) ∙ out-all (start 0 0) (former ++ now) in
      let all : f.opening ++ joined last.gone_out ≡ f.opening ++ (f.more ++ t.unsent) =
      ap (λ (x : List ℕ). f.opening ++ x) bytes ∙ sym (append-nil (f.opening ++ bytes_out_by (former ++ now)))
      ∙ ap (λ (c : Bool). (f.opening ++ bytes_out_by (former ++ now)) ++ goodbye false c) (sym open_)
      ∙ f.broke.out ∙ ap (λ (x : List ℕ). x ++ t.unsent) (sym same ∙ front) ∙ append_assoc f.opening f.more t.unsent in
      let rest : f.more ++ t.unsent ≡ joined last.gone_out =
      sym (drop-append_seam f.opening (f.more ++ t.unsent)) ∙ ap (λ (x : List ℕ). drop (length f.opening) x) (sym all) ∙ drop-append_seam f.opening (joined last.gone_out) in
      front-reads last.gone_out f.more t.unsent parts rest

  -- where the input ended while the connection was active
  pub ends-whole : (s : Streams) → EndsWhole (fresh s) (left_open t) l call.after → HasCause call faults.Closed
  ends-whole s ends = (
    rose_later call.before.ends l.ends call.after.ends f.keeps.counts.ends ends.rose,
    of-taken _ (λ taken same front. (
      f.broke.rest ∙ ap bytes_left ends.buffer,
      ap said_terminate front ∙ silent-behind settings f.opening opens f.more (never-said (messages f.more) (took-requests ends.stays taken same front).silent),
    )),
  )

  closed-cause : (s : Streams) → EndsWhole (fresh s) (left_open t) l call.after ⊎ (last_is is_closed_out now ≡ true) → HasCause call faults.Closed
  closed-cause s (inl ends) = ends-whole s ends
  closed-cause s (inr is) = absurd (never-closed (after_all (start 0 0) former) now (mild-engines now f.calls) f.tame f.broke.legal_now is)

  -- ---- a message that no request asked for

  -- it is a failure of its own
  answer-cause : (failure : faults.Failure) → IsOfAnswer failure →
      ((taken : List ℕ) → taken ≡ f.broke.taken → taken ≡ f.opening ++ f.more → OutOfTurn failure taken later) → HasCause call failure
  answer-cause (faults.Db error) is h = of-taken _ (λ taken same front. inr (behind (OutOfTurn (faults.Db error) taken) (h taken same front)))
  answer-cause faults.UnexpectedMessage is h = of-taken _ (λ taken same front. inr (behind (OutOfTurn faults.UnexpectedMessage taken) (h taken same front)))
  answer-cause (faults.Parse (faults.Wire faults.UnknownTag)) is h =
      (tt, of-taken _ (λ taken same front. inr (inr (behind (OutOfTurn (faults.Parse (faults.Wire faults.UnknownTag)) taken) (h taken same front)))))
  answer-cause (faults.Parse (faults.Wire faults.Layout)) is h =
      (tt, of-taken _ (λ taken same front. inr (inr (behind (OutOfTurn (faults.Parse (faults.Wire faults.Layout)) taken) (h taken same front)))))
  answer-cause (faults.Parse faults.Fields) is h = (tt, of-taken _ (λ taken same front. inr (inr (behind (OutOfTurn (faults.Parse faults.Fields) taken) (h taken same front)))))
  answer-cause _ is h = absurd is

  -- it came behind whole groups, of all requests that were sent
  came-unasked : (first : RawMessage) (batch : List RawMessage) → waiting t.held ≡ first ∷ batch → last_is has_no_request now ≡ true → t.closing ≡ false →
      (taken : List ℕ) → taken ≡ f.broke.taken → taken ≡ f.opening ++ f.more → OutOfTurn (out_of_turn first) taken later
  came-unasked first batch held none open_ taken same front =
      let last = after_all (after_all (start 0 0) former) now in
      let joins : after_all (start 0 0) (former ++ now) ≡ last = after-joined (start 0 0) former now in
      let legal = legal-joined (start 0 0) former now f.broke.legal f.broke.legal_now in
      let all = after_all (start 0 0) (former ++ now) in
      let none-there : has_open all ≡ false = subst (λ (s : State). has_open s ≡ false) (sym joins) (none-open (after_all (start 0 0) former) now none f.broke.legal_now) in
      let order = (legal-kept 0 0 (former ++ now) legal).order in
      let all-answered : started_of all ≤ finished all.deliveries = none-counted all order none-there in
      let tame = tame-all (after_all (start 0 0) former) now (mild-engines now f.calls) f.tame in
      let began : started_of last ≡ length last.gone_out = asks-out last (subst InOrder joins order) tame.asks in
      let answered : length last.gone_out ≤ finished last.deliveries =
      subst (λ (n : ℕ). n ≤ finished last.deliveries) began (subst (λ (s : State). started_of s ≤ finished s.deliveries) joins all-answered) in
      let whole : AreWhole (finished last.deliveries) (cut_after is_ready (delivered_by (former ++ now))) =
      subst (λ (s : State). AreWhole (finished s.deliveries) (cut_after is_ready (delivered_by (former ++ now)))) joins
      (delivered-whole (former ++ now) legal all-answered) in
      let stands : InFront (finished last.deliveries) first later =
      in-front (finished last.deliveries) (delivered_by (former ++ now)) batch f.broke.read (f.broke.lost ++ messages t.buffer.items) first whole
      (f.broke.delivered ∙ ap (λ (x : List RawMessage). delivered_by (former ++ now) ++ x) held) in
      let sent = (took-requests open_ taken same front).units in
      let few : length (units taken) ≡ length (cut_after ends_unit (filter is_kept (messages f.more))) =
      ap (λ (x : List ℕ). length (units x)) front ∙ ap (λ (us : List (List RawMessage)). length us) (opening-units settings f.opening opens f.more) in
      record {
        before = finished last.deliveries;
        group = stands.group;
        first = first;
        stands = stands.stands;
        unasked = omega (arith, few, sent, answered);
        means = refl;
      }

  unasked-by : (held : List RawMessage) (e : Error) → waiting t.held ≡ held → IsUnasked held (fault.Unasked e) → last_is has_no_request now ≡ true → t.closing ≡ false →
      HasCause call e
  unasked-by [] e is h none open_ = absurd h
  unasked-by (first ∷ batch) e is h none open_ = subst (λ (x : faults.Failure). HasCause call x) (sym h)
      (answer-cause (out_of_turn first) (of-raw first) (came-unasked first batch is none open_))

  pub unasked-cause : (e : Error) → IsUnasked (waiting t.held) (fault.Unasked e) → last_is has_no_request now ≡ true → t.closing ≡ false → HasCause call e
  unasked-cause e h none open_ = unasked-by (waiting t.held) e refl h none open_

-- ---- why a turn fails

pub cause-of : (settings : Settings) (call : Call) (former now : List Event) (s t : Streams) (l : LinkView) → Fails settings call former now t l → (e : ConnectionFault) →
    TurnFails (fresh s) (left_open t) l call.after e now → HasCause call (error_of e)
cause-of settings call former now s t l f fault.Link ends = rose_later call.before.faults l.faults call.after.faults f.keeps.counts.faults ends
cause-of settings call former now s t l f (fault.LimitReached given limit) ends = record {
  asked = ends.1 ∙ f.limit;
  more = ends.2;
  counted = of-bytes-of settings call former now t l f (λ g t. length g ≡ given) (sym (ends.0 ∙ f.broke.count));
}
cause-of settings call former now s t l f fault.Ended ends =
    let left : bytes_left f.broke.given ≡ t.buffer.items = f.broke.rest ∙ all-left t.buffer.items ends.decoded.none_whole in (
      rose_later call.before.ends l.ends call.after.ends f.keeps.counts.ends ends.rose,
      (
        settings,
        f.means,
        inl (
          f.no_tls,
          of-bytes-of settings call former now t l f _
              (subst (λ (x : List ℕ). x ≢ []) (sym left) (not-none t.buffer.items ends.some), ap has_bad_header left ∙ ends.decoded.no_bad_header),
        ),
      ),
    )
cause-of settings call former now s t l f fault.BadLength ends =
    of-dialogue settings call former now t l f _ (inl (refl, ap has_bad_header f.broke.rest ∙ bad-left t.buffer.items ends.header))
cause-of settings call former now s t l f fault.Layout ends =
    of-dialogue settings call former now t l f _ (inr (inr (behind settings call former now t l f (AsideBreaks faults.Layout)
    (layout-breaks settings call former now t l f (record { raw = ends.raw; rest = ends.rest; front = ends.front; aside = ends.aside; broken = ends.broken; held = ends.held; delayed = ends.delayed; unread = ends.unread })))))
cause-of settings call former now s t l f (fault.Unreadable c) ends = (
  aside-body c ends,
  of-dialogue settings call former now t l f _ (inr (inl (aside-stands settings call former now t l f c (aside-in c ends)))),
)
  where
    aside-in : (c : Cause) → LeavesUnread (left_open t) c ⊎ (LeavesDelayed (left_open t) c × (now ≡ [])) → LeavesUnread t c ⊎ LeavesDelayed t c
    aside-in c (inl h) = inl (record { message = h.message; unread = h.unread; means = h.means; held = h.held; delayed = h.delayed })
    aside-in c (inr h) = inr (record { notice = h.0.notice; others = h.0.others; first = h.0.first; means = h.0.means })

    aside-body : (c : Cause) → LeavesUnread (left_open t) c ⊎ (LeavesDelayed (left_open t) c × (now ≡ [])) → IsOfBody c
    aside-body c (inl h) = of-body (message_view h.message) c h.means
    aside-body c (inr h) = of-body (spec.NoticeResponse h.0.notice.fields) c h.0.means
cause-of settings call former now s t l f fault.OutOfMemory ends = tt
cause-of settings call former now s t l f fault.Closed ends = closed-cause settings call former now t l f s ends
cause-of settings call former now s t l f (fault.Unasked e) ends = unasked-cause settings call former now t l f e ends.1 ends.0 ends.2
