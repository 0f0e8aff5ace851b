-- Where a legal list refuses a command that decides in time, memory lacked, or its request is gone.
use Rattle.std.proofs.Common.{◌≡◌, ◌⊎◌, inl, inr, ℕ, ◌≤◌, nat_lt, List, [], ◌∷◌, ◌++◌, length, take, drop, Bool, true, false, if◌then◌else◌, Option, Some, None, Result, Ok, Err, refl, sym, ap, subst, ◌∙◌, arith}
use Rattle.std.proofs.lemmas.Bool.Decides.{nat_tests}
use Rattle.std.proofs.lemmas.List.{map-append, take-append-le}
use Rattle.std.specs.List.{list_any}
use Rattle.pg_spec.specs.RawMessages.{RawMessage, is_ready, ends_in}
use Rattle.pg_spec.specs.declared.stamps.Stamp.{Stamp}
use Rattle.pg_desk.specs.declared.event.DeskFault.{DeskFault}
use Rattle.pg_desk.specs.declared.event.DeskFault.TheVariants as fault
use Rattle.pg_desk.specs.declared.event.Take.TheVariants as taking
use Rattle.pg_desk.specs.declared.event.Event.{Event}
use Rattle.pg_desk.specs.declared.event.Event.TheVariants.{Take as TakeEvent, HangUp}
use Rattle.pg_desk.specs.History.{State, finished, has_ended, joined, waiting, is_hung_up, after, after_all, take_answer, take_of_waiting, Allows, IsFrontOf, IsLegal, kept}
use Rattle.pg_desk.specs.Kept.{stored-part}
use Rattle.pg_desk.proofs.Soundness.{AllCut, legal-kept}
use Rattle.pg_types.specs.declared.error.Error.{Error}
use Rattle.pg_types.specs.declared.error.Error.TheVariants.{OutOfMemory}
use Rattle.pg_query.specs.Faults.{of_fault}
use Rattle.pg_query.specs.Dialogue as code
use Rattle.pg_query.specs.Dialogue.{Dialogue, Answer, Steps, feed}
use Rattle.pg_query.specs.Lives.{Deed, Leads}
use Rattle.pg_query.specs.Meaning.{Place}
use Rattle.pg_query.specs.Requests.{IsBehind, Refuses, IsRefused}
use Rattle.pg_query.specs.Scripts.{IsRead, IsPut}
use Rattle.pg_query.proofs.Questions.{told-asks}
use Rattle.pg_core.specs.Deeds.{Serves, EndsRefused, additions_in, answers_in, bookings_in, got_after}
use Rattle.pg_core.specs.Lists.{events_of, came_of, got_of, state_behind, IsReached}
use Rattle.pg_core.specs.Runs.{Ran, of_request, At, Waits, ReadsNothing}
use Rattle.pg_core.specs.Times.{IsTimely}
use Rattle.pg_core.specs.Trails.{Moment, ran_by, goes_on, IsRunning, moment_of, LedTo, Waiting, Answering, Refusing, PollsOn}
use Rattle.pg_core.proofs.Steps.{all-taken, firm, poll-served, reached-on, taken-within}
use Rattle.pg_core.proofs.Fed.{feed-put}
use Rattle.pg_core.proofs.Fitting.{told-fitting}
use Rattle.pg_core.proofs.Timely.{IsUndecided, in-time, undecided, group-ends, never-over}
use Rattle.pg_core.proofs.Trail.{polled}

-- one of these deeds told that its request is gone
pub record HasGone (ds : List Deed) : Type 0 where
  pub before : List Deed
  pub last : Deed
  pub behind : List Deed
  pub is_last : ds ≡ before ++ last ∷ behind
  pub id : ℕ
  pub gone : last.event ≡ TakeEvent id (Ok taking.Gone)

-- ---- lists, by their last

record InTwo {T : Type 0} (d : Dialogue T) (id : ℕ) (ds : List Deed) (a : Deed) (q : Dialogue T) (end : ℕ) : Type 0 where
  mid : Dialogue T
  at : ℕ
  before : Leads d id ds mid at
  step : Steps a.stamp mid at a.event q end

in-two : {T : Type 0} (d : Dialogue T) (id : ℕ) (ds : List Deed) (a : Deed) (q : Dialogue T) (end : ℕ) → Leads d id (ds ++ a ∷ []) q end → InTwo d id ds a q end
in-two {T} d id [] a q end (mid, n, s, l) = record {
  mid = d;
  at = id;
  before = (refl, refl);
  step = subst (λ (x : Dialogue T). Steps a.stamp d id a.event x end) (sym l.0) (subst (λ (k : ℕ). Steps a.stamp d id a.event mid k) (sym l.1) s);
}
in-two d id (b ∷ ds) a q end (mid, n, s, l) = let t = in-two mid n ds a q end l in record { mid = t.mid; at = t.at; before = (mid, n, s, t.before); step = t.step }

legal-two : (s : State) (es : List Event) (e : Event) → IsLegal s (es ++ e ∷ []) → IsLegal s es × Allows (after_all s es) e
legal-two s [] e l = (tt, l.0)
legal-two s (x ∷ es) e l = let t = legal-two (after s x) es e l.1 in ((l.0, t.0), t.1)

-- replies end in their ReadyForQuery
whole-ends : (s : State) (k : ℕ) → IsReached s → has_ended k s.deliveries ≡ true → ends_in is_ready (came_of s k) ≡ true
whole-ends s k h ended_k =
    let sound = firm s h [] tt in
    let cut : AllCut s.deliveries = subst (λ (x : State). AllCut x.deliveries) (sym h.is) (legal-kept h.statements h.portals h.before h.legal).all_cut in
    let counted : nat_lt k (finished s.deliveries) ≡ true = sym (sound.ended_in_order k) ∙ ended_k in
    ap (λ (l : List (List RawMessage)). ends_in is_ready (joined l)) (sound.given_is_between k) ∙ group-ends k s.deliveries cut (grind (arith, nat_tests, counted))

-- ---- over

over-waits : (s : State) (k : ℕ) (w : List (List RawMessage)) → taking.Over ≡ take_of_waiting s k w → (w ≡ []) × (has_ended k s.deliveries ≡ true)
over-waits s k (ms ∷ w) h = absurd cc
over-waits s k [] h = by s.failed (has_ended k s.deliveries) h
  where
    by : (b c : Bool) → taking.Over ≡ (if b then taking.Gone else (if c then taking.Over else taking.Empty)) → (◌≡◌ {A = List (List RawMessage)} [] []) × (c ≡ true)
    by true c h = absurd cc
    by false true h = (refl, refl)
    by false false h = absurd cc

took-over : (s : State) (k : ℕ) → taking.Over ≡ take_answer s k → (waiting s k ≡ []) × (has_ended k s.deliveries ≡ true)
took-over s k h = by (nat_lt k (length s.book)) (is_hung_up s k) h
  where
    by : (b c : Bool) → taking.Over ≡ (if b then (if c then taking.Gone else take_of_waiting s k (waiting s k)) else taking.Gone) → (waiting s k ≡ []) × (has_ended k s.deliveries ≡ true)
    by false c h = absurd cc
    by true true h = absurd cc
    by true false h = over-waits s k (waiting s k) h

-- where its turns led, a command that decides in time reads nothing of a group that ended
stands-over : {T : Type 0} (came : ℕ → List RawMessage) (at : Option ℕ) (n : ℕ) (d : Dialogue T) → IsRead d → IsTimely came at n d → IsUndecided came at n d → ends_in is_ready (of_request came at) ≡ true → ⊥
stands-over came at n (code.Read cleanup decides next) reads timely none whole = never-over came at n cleanup decides next timely none whole
stands-over came at n (code.Answer r) reads timely none whole = reads
stands-over came at n (code.Ask copying part d) reads timely none whole = reads
stands-over came at n (code.Send part refused d) reads timely none whole = reads
stands-over came at n (code.Leave id d) reads timely none whole = reads
stands-over came at n (code.Put cleanup part d) reads timely none whole = reads
stands-over came at n (code.Finish part d) reads timely none whole = reads
stands-over came at n (code.Close part d) reads timely none whole = reads
stands-over came at n (code.HangUp d) reads timely none whole = reads
stands-over came at n (code.Call q refused next) reads timely none whole = reads
stands-over came at n (code.Hear next) reads timely none whole = reads

reads-not : {T : Type 0} (d : Dialogue T) → ReadsNothing d → IsRead d → ⊥
reads-not (code.Read cleanup decides next) nothing reads = nothing
reads-not (code.Answer r) nothing reads = reads
reads-not (code.Ask copying part d) nothing reads = reads
reads-not (code.Send part refused d) nothing reads = reads
reads-not (code.Leave id d) nothing reads = reads
reads-not (code.Put cleanup part d) nothing reads = reads
reads-not (code.Finish part d) nothing reads = reads
reads-not (code.Close part d) nothing reads = reads
reads-not (code.HangUp d) nothing reads = reads
reads-not (code.Call q refused next) nothing reads = reads
reads-not (code.Hear next) nothing reads = reads

-- messages don't make a part that is put a reading
put-not-read : {T : Type 0} (ms : List RawMessage) (d : Dialogue T) → IsPut d → IsRead (feed ms d) → ⊥
put-not-read ms (code.Put cleanup part d) puts reads = subst IsRead (feed-put ms cleanup part d) reads
put-not-read ms (code.Answer r) puts reads = puts
put-not-read ms (code.Ask copying part d) puts reads = puts
put-not-read ms (code.Send part refused d) puts reads = puts
put-not-read ms (code.Leave id d) puts reads = puts
put-not-read ms (code.Read cleanup decides next) puts reads = puts
put-not-read ms (code.Finish part d) puts reads = puts
put-not-read ms (code.Close part d) puts reads = puts
put-not-read ms (code.HangUp d) puts reads = puts
put-not-read ms (code.Call q refused next) puts reads = puts
put-not-read ms (code.Hear next) puts reads = puts

-- so much of what was taken is so much of what came
pub timely-as : {T : Type 0} (got came : ℕ → List RawMessage) (at : Option ℕ) (n : ℕ) (d : Dialogue T) → IsFrontOf (of_request got at) (of_request came at) → n ≤ length (of_request got at) → IsTimely got at n d → IsTimely came at n d
timely-as got came at n d front le (t, inl h) = (t, inl h)
timely-as got came at n d front le (t, inr h) =
    (t, inr (ap (λ (ms : List RawMessage). list_any is_ready (take n ms)) (sym front.1) ∙ ap (list_any is_ready) (take-append-le n (of_request got at) front.0 le) ∙ h))

pub timely-back : {T : Type 0} (got came : ℕ → List RawMessage) (at : Option ℕ) (n : ℕ) (d : Dialogue T) → IsFrontOf (of_request got at) (of_request came at) → n ≤ length (of_request got at) → IsTimely came at n d → IsTimely got at n d
timely-back got came at n d front le (t, inl h) = (t, inl h)
timely-back got came at n d front le (t, inr h) =
    (t, inr (ap (list_any is_ready) (sym (take-append-le n (of_request got at) front.0 le)) ∙ ap (λ (ms : List RawMessage). list_any is_ready (take n ms)) front.1 ∙ h))

-- a take of Over is made where it reads, of the request that is read
over-there : {T : Type 0} (stamp : Stamp) (d : Dialogue T) (id which : ℕ) (d' : Dialogue T) (id' : ℕ) → Steps stamp d id (TakeEvent which (Ok taking.Over)) d' id' → IsRead d × (which ≡ id)
over-there stamp (code.Read cleanup decides next) id which d' id' s = (tt, s.0)
over-there stamp (code.Answer r) id which d' id' s = absurd s
over-there stamp (code.Ask c p d) id which d' id' s = absurd s
over-there stamp (code.Send p refused d) id which d' id' s = absurd s
over-there stamp (code.Leave k d) id which d' id' s = absurd s
over-there stamp (code.Put cleanup p d) id which d' id' s = absurd s
over-there stamp (code.Finish p d) id which d' id' s = absurd s
over-there stamp (code.Close p d) id which d' id' s = absurd s
over-there stamp (code.HangUp d) id which d' id' s = absurd s
over-there stamp (code.Call q refused next) id which d' id' s = absurd (told-asks q (TakeEvent which (Ok taking.Over)) s.0 s.1)
over-there stamp (code.Hear next) id which d' id' s = absurd s

-- a request that is gone is hung up behind it; behind all other refusals nothing is done
gone-or-last : (e : Event) (ds : List Deed) → IsBehind e ds → ((id : ℕ) × (e ≡ TakeEvent id (Ok taking.Gone))) ⊎ (ds ≡ [])
gone-or-last (TakeEvent id (Ok taking.Gone)) ds b = inl (id, refl)
gone-or-last e ds b = inr b

module _ {T : Type 0} (d : Dialogue T) (trail : List Moment) (s : State) (p : Place T) (reached : IsReached s) (runs : IsRunning d trail (got_of s) p)
    (timely : IsTimely (got_of s) (ran_by d trail).at (ran_by d trail).read (ran_by d trail).left) where
  -- it isn't told that its reply is over
  not-over : (before : List Deed) (mid : Dialogue T) (n : ℕ) → Leads p.dialogue p.reads before mid n → IsLegal s (events_of before) → IsRead mid → taking.Over ≡ take_answer (after_all s (events_of before)) n → ⊥
  not-over before mid n l legal reads over = by (c.leads (Waits reads (served.1 n ∙ whole)))
    where
      t : State
      t = state_behind s before

      is : t ≡ after_all s (events_of before)
      is = (stored-part s (events_of before)).state

      stored : IsLegal s (kept (events_of before))
      stored = (stored-part s (events_of before)).legal legal

      tells : (waiting t n ≡ []) × (has_ended n t.deliveries ≡ true)
      tells = took-over t n (over ∙ ap (λ (x : State). take_answer x n) (sym is))

      whole : got_of t n ≡ came_of t n
      whole = all-taken t n (firm t (reached-on s (kept (events_of before)) reached stored) [] tt) tells.0

      served : Serves (came_of t) (got_of s) before × ((k : ℕ) → got_after (got_of s) before k ≡ got_of t k)
      served = poll-served s before reached stored

      q : Place T
      q = record { dialogue = mid; reads = n }

      c : PollsOn d (moment_of 0 (came_of t) before) trail (got_of s) before q
      c = polled d trail (came_of t) (got_of s) p 0 before q runs (taken-within s (kept (events_of before)) (ran_by d trail).at reached) l served.0

      r : Ran T
      r = goes_on (ran_by d trail) (moment_of 0 (came_of t) before)

      ends : ends_in is_ready (came_of t n) ≡ true
      ends = whole-ends t n (reached-on s (kept (events_of before)) reached stored) tells.1

      by-at : (at : Option ℕ) → r.at ≡ at → At at n r.left → IsRead r.left → ⊥
      by-at None e nothing there = reads-not r.left nothing there
      by-at (Some k) e same there =
          stands-over (came_of t) r.at r.read r.left there
          (in-time (came_of t) (ran_by d trail).at (ran_by d trail).read (ran_by d trail).left (bookings_in before) (answers_in before) (additions_in before) (told-fitting before) c.met.1
          (timely-as (got_of s) (came_of t) (ran_by d trail).at (ran_by d trail).read (ran_by d trail).left (taken-within s (kept (events_of before)) (ran_by d trail).at reached) runs.within timely))
          (undecided (came_of t) (ran_by d trail).at (ran_by d trail).read (ran_by d trail).left _ _ _)
          (ap (λ (x : Option ℕ). ends_in is_ready (of_request (came_of t) x)) e ∙ ap (λ (x : ℕ). ends_in is_ready (came_of t x)) same ∙ ends)

      by : LedTo d (moment_of 0 (came_of t) before ∷ trail) (got_of s) before q → ⊥
      by (Waiting h (inl there)) = by-at r.at refl h.at there
      by (Waiting h (inr puts)) = absurd (put-not-read (drop r.read (of_request (got_after (got_of s) before) r.at)) r.left puts (subst IsRead h.place reads))
      by (Answering x e gave) = subst IsRead e reads
      by (Refusing x) = subst IsRead x.is reads

  -- a take or a hanging up, where nothing stands behind it
  refused-last : (ds : List Deed) (q : Place T) → Leads p.dialogue p.reads ds q.dialogue q.reads → IsLegal s (events_of ds) →
      (before : List Deed) (last : Deed) → ds ≡ before ++ last ∷ [] → (r : Result T Error) → Refuses last.event r → q.dialogue ≡ Answer r → (q.dialogue ≡ Answer (Err OutOfMemory)) ⊎ HasGone ds
  refused-last ds q l legal before last is_last r refuses answer = by-event last.event refl two.1 refuses walked.step
    where
      split : events_of ds ≡ events_of before ++ last.event ∷ []
      split = ap events_of is_last ∙ map-append (λ (a : Deed). a.event) before (last ∷ [])

      mid : State
      mid = after_all s (events_of before)

      two : IsLegal s (events_of before) × Allows mid last.event
      two = legal-two s (events_of before) last.event (subst (IsLegal s) split legal)

      walked : InTwo p.dialogue p.reads before last q.dialogue q.reads
      walked = in-two p.dialogue p.reads before last q.dialogue q.reads (subst (λ (L : List Deed). Leads p.dialogue p.reads L q.dialogue q.reads) is_last l)

      lacked : (f : DeskFault) → r ≡ Err (of_fault f) → f ≡ fault.OutOfMemory → (q.dialogue ≡ Answer (Err OutOfMemory)) ⊎ HasGone ds
      lacked f e is = inl (answer ∙ ap (λ (x : Result T Error). Answer x) e ∙ ap (λ (x : DeskFault). Answer (Err (of_fault x))) is)

      by-event : (e : Event) → last.event ≡ e → Allows mid e → Refuses e r → Steps last.stamp walked.mid walked.at e q.dialogue q.reads → (q.dialogue ≡ Answer (Err OutOfMemory)) ⊎ HasGone ds
      by-event (TakeEvent id (Ok (taking.Batch ms))) is a x st = absurd x
      by-event (TakeEvent id (Ok taking.Empty)) is a x st = absurd x
      by-event (TakeEvent id (Ok taking.Over)) is a x st =
          let there = over-there last.stamp walked.mid walked.at id q.dialogue q.reads st in
          absurd (not-over before walked.mid walked.at walked.before two.0 there.0 (a ∙ ap (take_answer mid) there.1))
      by-event (TakeEvent id (Ok taking.Gone)) is a x st = inr (record { before = before; last = last; behind = []; is_last = is_last; id = id; gone = is })
      by-event (TakeEvent id (Err f)) is a x st = lacked f x a
      by-event (HangUp id (Ok y)) is a x st = absurd x
      by-event (HangUp id (Err f)) is a x st = lacked f x a
      by-event e is a x st = absurd x

  -- Where a desk refuses it a take or a hanging up, memory lacked, or its request is gone.
  pub refused-why : (ds : List Deed) (q : Place T) → Leads p.dialogue p.reads ds q.dialogue q.reads → IsLegal s (events_of ds) → EndsRefused ds q.dialogue →
      (q.dialogue ≡ Answer (Err OutOfMemory)) ⊎ HasGone ds
  refused-why ds q l legal x = by (gone-or-last h.last.event h.behind h.is_behind)
    where
      h : IsRefused ds x.answer
      h = x.refused

      by : ((id : ℕ) × (h.last.event ≡ TakeEvent id (Ok taking.Gone))) ⊎ (h.behind ≡ []) → (q.dialogue ≡ Answer (Err OutOfMemory)) ⊎ HasGone ds
      by (inl (id, is)) = inr (record { before = h.before; last = h.last; behind = h.behind; is_last = h.is_last; id = id; gone = is })
      by (inr none) = refused-last ds q l legal h.before h.last (h.is_last ∙ ap (λ (l : List Deed). h.before ++ h.last ∷ l) none) x.answer h.refuses x.is
