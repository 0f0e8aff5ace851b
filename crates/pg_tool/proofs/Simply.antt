-- What a session of simple queries alone promises in the words of these, by what it promises over any commands.
use Rattle.std.proofs.Common.{◌≡◌, ◌<◌, ℕ, List, [], length, Option, Some, Result, Ok, Err, inl, inr, refl, sym, ap, subst, ◌∙◌}
use Rattle.std.specs.Prelude.{IfSome, OnOk}
use Rattle.pg_promises.specs.Calls.{Call, apart}
use Rattle.pg_promises.specs.Completeness as must
use Rattle.pg_promises.specs.Kept as any
use Rattle.pg_promises.specs.Sent as orders
use Rattle.pg_promises.proofs.NoFlush.{answers}
use Rattle.pg_types.specs.declared.error.Error.{Error}
use Rattle.pg_types.specs.declared.error.Error.TheVariants as error
use Rattle.pg_promises.specs.Endings as ending
use Rattle.pg_promises.specs.Endings.{EndedWell, IsRun}
use Rattle.pg_promises.proofs.Strings.{means_one}
use Rattle.pg_promises.specs.Causes.{HasCause, MustRefuse, RefusedFor, Unless}
use Rattle.pg_promises.specs.EndedWell as landed
use Rattle.pg_promises.specs.Promises.{EndsWell, MustEndWell, NoneKeptBack, SentInOrder}
use Rattle.pg_session.proofs.Complete.Course.{of-some}
use Rattle.pg_spec.specs.Faults.{Failure, LimitReached, OutOfMemory}
use Rattle.pg_spec.specs.Links.{LinkView, OfBytes, added}
use Rattle.pg_spec.specs.Report as said
use Rattle.pg_spec.specs.Settings.{Settings}
use Rattle.pg_table.proofs.Headlines.{answers-one, ended-as-before, kept-as-before, run-as-before, sent-as-before}
use Rattle.pg_table.specs.Headlines.{AnsweredSimply, simple_call, told_in}
use Rattle.pg_table.specs.Table.{table}
use Rattle.pg_text.specs.Views.{as_answers, as_scripts, simple_report}
use Rattle.pg_text.specs.declared.command.Answer.{Answer}
use Rattle.pg_text.specs.declared.command.Command.{Command}
use Rattle.pg_text.specs.declared.report.Report.{Report}
use Rattle.pg_session.specs.Speeches.{meaning_of}
use Rattle.pg_wire.specs.LinkCalls.{Continues, Extends}
use Rattle.pg_tool.specs.SessionContract.{KeepsLimit, SendsInOrder, SessionContract, ToldSimply}
use Rattle.pg_tool.specs.SessionContract as simple
use Rattle.pg_tool.specs.TableContract as by_table
use Rattle.pg_tool.specs.TableContract.{TableContract, session_of, table_result}
use Rattle.pg_tool.proofs.AtTable.{no-flush}
use Rattle.pg_tool.proofs.Limiting.{map_bytes}

-- the bytes of a call that are told, where it gave and took none before
pub told_bytes : (before after : LinkView) (taken : List ℕ) (P : List ℕ → List ℕ → Type 0) → Continues before after → before.given ≡ Some [] → before.taken ≡ Some [] → after.taken ≡ Some taken →
    OfBytes before after P → (given : List ℕ) × P given taken
told_bytes before after taken P goes none_given none_taken told h =
    let given = subst (λ (o : Option (List ℕ)). Extends o after.given) none_given goes.given in
    let g : added before.given after.given ≡ Some given.0 = ap (λ o. added o after.given) none_given ∙ ap (λ o. added (Some []) o) given.1 in
    let t : added before.taken after.taken ≡ Some taken = ap (λ o. added o after.taken) none_taken ∙ ap (λ o. added (Some []) o) told in (
      given.0,
      of-some (added before.taken after.taken) taken (λ t. P given.0 t) t (of-some (added before.given after.given) given.0 (λ g. IfSome (added before.taken after.taken) (λ t. P g t)) g h),
    )

module _ (call : Call Command) (scripts : List (List said.Command)) (are : call.scripts ≡ as_scripts scripts) where
  -- ---- where it fails

  -- the cause is no matter of the scripts
  cause_simply : (e : Error) → HasCause (apart call) e → HasCause (simple_call call scripts) e
  cause_simply (error.Stalled before after) h = record {
    lulls = h.lulls;
    from = h.from;
    to = h.to;
    rose = h.rose;
    round = h.round;
    last = h.last;
    exact = h.exact;
    awaited = h.awaited;
  }
  cause_simply (error.LimitReached given limit) h = record { asked = h.asked; more = h.more; counted = h.counted }
  cause_simply _ h = h

  -- nor is the answer that a report would have been told in
  unless_so : (R S : Type 0) (P : Failure → Type 0) (e : Failure) → Unless {R = R} P (Err e) → Unless {R = S} P (Err e)
  unless_so R S P OutOfMemory h = tt
  unless_so R S P _ h = h

  limit_simply : (e : Error) → by_table.KeepsLimit call (Err e) → KeepsLimit (simple_call call scripts) (Err e)
  limit_simply e h =
      map_bytes call.before call.after (λ g t. call.limit < length g → Unless {R = ending.Report Answer} (λ failure. failure ≡ LimitReached (length g) call.limit) (Err e))
      (λ g t. call.limit < length g → Unless {R = said.Report} (λ failure. failure ≡ LimitReached (length g) call.limit) (Err e))
      (λ g t less more. unless_so (ending.Report Answer) said.Report (λ failure. failure ≡ LimitReached (length g) call.limit) e (less more)) h

  sent_simply : (e : Error) → by_table.SendsInOrder call (Err e) → SendsInOrder (simple_call call scripts) (Err e)
  sent_simply e sends = λ w.
      let d = sends w in (
        d.0,
        d.1,
        map_bytes call.before call.after (λ g t. orders.SentInOrder (meaning_of table) call d.0 g t) (λ g t. SentInOrder (simple_call call scripts) d.0 g t)
            (λ g t sent. sent-as-before call scripts d.0 g t are sent) d.2,
      )

  -- the same of the answer in other words
  kept_told : (e : Error) → any.NoneKeptBack {T = ending.Report Answer} (meaning_of table) call (Err e) → any.NoneKeptBack {T = said.Report} (meaning_of table) call (Err e)
  kept_told (error.Stalled a b) h = h
  kept_told (error.Tls c) h = h
  kept_told _ h = tt

  kept_simply : (e : Error) → any.NoneKeptBack {T = ending.Report Answer} (meaning_of table) call (Err e) → NoneKeptBack (simple_call call scripts) (Err e)
  kept_simply e kept = kept-as-before call scripts (Err e) are (kept_told e kept)

  ends_landed : (e : Error) → must.EndsWell {T = ending.Report Answer} (Err e) → EndsWell (Err e)
  ends_landed error.OutOfMemory h = tt
  ends_landed _ h = h

  -- simple queries send no Flush
  must_simply : (e : Error) → Continues call.before call.after → must.MustEndWell {T = ending.Report Answer} call (Err e) → by_table.SendsInOrder call (Err e) → MustEndWell (simple_call call scripts) (Err e)
  must_simply e goes ends sent = λ plan s taken none_given none_taken planned told means valid conforms.
      let crossed = sent (s, means, tt) in
      let bytes = told_bytes call.before call.after taken (λ g t. orders.SentInOrder (meaning_of table) call crossed.0 g t) goes none_given none_taken told crossed.2 in
      let in_order : orders.SentInOrder (meaning_of table) call s bytes.0 taken =
      subst (λ (x : Settings). orders.SentInOrder (meaning_of table) call x bytes.0 taken) (means_one call.config crossed.0 s crossed.1 means) bytes.1 in
      let none = no-flush call s bytes.0 taken valid.no_tls in_order in
      ends_landed e (ends plan s taken none_given none_taken planned told means
      (record { user = valid.user; nonce = valid.nonce; frame = valid.frame; no_tls = valid.no_tls; no_binding = valid.no_binding; limit = valid.limit })
      (record {
        opens = record {
          untroubled = conforms.opens.untroubled;
          whole = conforms.opens.whole;
          frames = conforms.opens.frames;
          started = conforms.opens.started;
          each_frame = conforms.opens.each_frame;
          all_frames = conforms.opens.all_frames;
          readable = conforms.opens.readable;
        };
        later = answers plan conforms.opens.frames taken none conforms.later;
      }))

  same_failure : {R : Type 0} (e f : Failure) → (let r : Result R Failure = Err e in r) ≡ Err f → e ≡ f
  same_failure e f is = cc

  refused_simply : (e f : Failure) → RefusedFor {R = ending.Report Answer} f (apart call) (Err e) → RefusedFor {R = said.Report} f (simple_call call scripts) (Err e)
  refused_simply e f h = record {
    answer = elim h.answer [
      | inl is ↦ inl (ap (λ (x : Failure). let r : Result said.Report Failure = Err x in r) (same_failure {R = ending.Report Answer} e f is))
      | inr is ↦ inr (ap (λ (x : Failure). let r : Result said.Report Failure = Err x in r) (same_failure {R = ending.Report Answer} e OutOfMemory is))
    ];
    untouched = h.untouched;
  }

  refuse_simply : (e : Error) → MustRefuse {R = ending.Report Answer} (apart call) (Err e) → MustRefuse {R = said.Report} (simple_call call scripts) (Err e)
  refuse_simply e h = record {
    text = λ cause means. refused_simply e _ (h.text cause means);
    user = λ w. refused_simply e _ (h.user w);
    nonce = λ w out. refused_simply e _ (h.nonce w out);
    direct = λ w form. refused_simply e _ (h.direct w form);
  }

  failed_simply : (e : Error) → TableContract call (Err e) → SessionContract (simple_call call scripts) (Err e)
  failed_simply e c = record {
    ended_well = tt;
    has_run = tt;
    closed = tt;
    stays_open = c.stays_open;
    link = c.link;
    cause = cause_simply e c.cause;
    limit = limit_simply e c.limit;
    sent = sent_simply e c.sent;
    none_kept_back = kept_simply e c.none_kept_back;
    must_end_well = must_simply e c.link c.must_end_well c.sent;
    must_refuse = refuse_simply e c.must_refuse;
  }

  -- ---- where it answers Ok

  module _ (report : Report) where
    -- the answers are these
    answered_simply : IsRun (meaning_of table) call.scripts call.turns (told_in report) →
        AnsweredSimply report.answers (λ answers. simple.IsRun (simple_call call scripts) (simple_report report answers))
    answered_simply run =
        run-as-before scripts call.turns (told_in report) (subst (λ (x : List (List Command)). IsRun (meaning_of table) x call.turns (told_in report)) are run)

    ended_simply : (answers : List (List said.Answer)) → report.answers ≡ as_answers answers → by_table.IsEndedWell call (told_in report) →
        simple.IsEndedWell (simple_call call scripts) (simple_report report answers)
    ended_simply answers so ended = (
      ended.0,
      ended.1,
      map_bytes call.before call.after (λ g t. EndedWell (meaning_of table) (session_of call ended.0 g (told_in report)) t)
          (λ g t. landed.EndedWell (simple.session_of (simple_call call scripts) ended.0 g (simple_report report answers)) t)
          (λ g t well.
          let h = ended-as-before (session_of call ended.0 g (told_in report)) scripts t are well in
          subst (λ (a : List (List said.Answer)). landed.EndedWell (simple.session_of (simple_call call scripts) ended.0 g (simple_report report a)) t)
          (answers-one h.simple answers (sym h.are ∙ so)) h.holds) ended.2,
    )

    refused_never : (f : Failure) → RefusedFor {R = ending.Report Answer} f (apart call) (Ok (told_in report)) → ⊥
    refused_never f h = elim h.answer [ inl is ↦ (let no : (let r : Result (ending.Report Answer) Failure = Ok (told_in report) in r) ≡ Err f = is in cc) | inr is ↦ (let no : (let r : Result (ending.Report Answer) Failure = Ok (told_in report) in r) ≡ Err OutOfMemory = is in cc) ]

    well_simply : TableContract call (Ok (told_in report)) → ToldSimply (Ok report) (SessionContract (simple_call call scripts))
    well_simply c =
        let run = answered_simply c.has_run in
        record {
          simple = Ok (simple_report report run.simple);
          said_so = (run.simple, run.are, refl);
          holds = record {
            ended_well = ended_simply run.simple run.are c.ended_well;
            has_run = run.holds;
            closed = c.closed;
            stays_open = tt;
            link = c.link;
            cause = tt;
            limit = c.limit;
            sent = tt;
            none_kept_back = c.none_kept_back;
            must_end_well = λ plan s taken none_given none_taken planned told means valid conforms. tt;
            must_refuse = record {
              text = λ cause means. absurd (refused_never _ (c.must_refuse.text cause means));
              user = λ w. absurd (refused_never _ (c.must_refuse.user w));
              nonce = λ w out. absurd (refused_never _ (c.must_refuse.nonce w out));
              direct = λ w form. absurd (refused_never _ (c.must_refuse.direct w form));
            };
          };
        }

  -- by what it answered
  pub keeps_simply : (r : Result Report Error) → TableContract call (table_result r) → ToldSimply r (SessionContract (simple_call call scripts))
  keeps_simply (Ok report) c = well_simply report c
  keeps_simply (Err e) c = record { simple = Err e; said_so = refl; holds = failed_simply e c }
