-- A session that must end well does so, and so does the program that plays it.
use Rattle.std.proofs.Common.{◌≡◌, ◌≤◌, ◌+◌, ◌⊎◌, ℕ, inl, inr, List, [], ◌∷◌, length, codes, Option, Some, None, Result, Ok, Err, IfErr, refl, sym, ◌∙◌, ap, subst, arith}
use Rattle.std.specs.Prelude.{IfSome}
use Rattle.pg_promises.specs.Causes.{HasCause}
use Rattle.pg_spec.specs.Faults.{Failure, OutOfMemory}
use Rattle.pg_spec.specs.Links.{LinkView, Plan, Rose, added}
use Rattle.pg_promises.specs.Promises.{AnswersStartup, IsValid}
use Rattle.pg_spec.specs.ReportText as simply
use Rattle.pg_spec.specs.SessionText as said
use Rattle.pg_spec.specs.Settings.{Settings}
use Rattle.pg_promises.proofs.Strings.{means_one}
use Rattle.pg_wire.specs.LinkCalls.{Continues, Tells}
use Rattle.pg_wire.specs.Streams.{SinkView}
use Rattle.pg_types.specs.declared.error.Error.{Error}
use Rattle.pg_text.specs.ReportText.{report_text}
use Rattle.pg_text.specs.Sessions.{as_session}
use Rattle.pg_text.specs.SessionText.{IsSessionText, SessionText}
use Rattle.pg_text.specs.declared.report.Report.{Report}
use Rattle.pg_text.proofs.ReadLaws.{one_session, refused_is_none}
use Rattle.pg_text.proofs.SimpleReports.{prints-simply}
use Rattle.pg_text.proofs.SimpleTexts.{text-as}
use Rattle.pg_session.proofs.Complete.Course.{in-plan, of-some}
use Rattle.pg_promises.specs.Calls as any
use Rattle.pg_promises.specs.Completeness as must
use Rattle.pg_promises.specs.Sent.{SentInOrder}
use Rattle.pg_promises.specs.Endings.{Report as Told}
use Rattle.pg_table.specs.Table.{table}
use Rattle.pg_session.specs.Speeches.{meaning_of}
use Rattle.pg_text.specs.declared.command.Answer.{Answer}
use Rattle.pg_text.specs.declared.command.Command.{Command}
use Rattle.pg_tool.proofs.AtTable.{must-end-well}
use Rattle.pg_tool.proofs.Simply.{keeps_simply}
use Rattle.pg_tool.proofs.WellMade.{made_simply}
use Rattle.pg_tool.specs.TableContract as by_table
use Rattle.pg_tool.specs.TableContract.{table_result}
use Rattle.pg_tool.specs.Reading.{longest_text, ReadWhole}
use Rattle.pg_tool.specs.RunContract.{EndsWith, IsOver, IsOverSimply, IsPlayed, IsPlayedSimply, IsWellMade, MustPlay, PlayedSession, PlayedText, PlaysSimpleText, PlaysSimply, Run, SaysResult, SaysSimply, SessionAnswer, SummedUp, WritesSummary, call_of, call_over, new_link, plan_of, simple_call_of}
use Rattle.pg_gen.specs.Generated.{IsCount, generated}
use Rattle.pg_gen.proofs.WellMade.{well_made}
use Rattle.pg_tool.specs.Words.{Asks, play}
use Rattle.pg_tool.specs.declared.numbers.Numbers.{Numbers}
use Rattle.pg_tool.specs.declared.over.Over.{Over}
use Rattle.pg_tool.specs.declared.over.Over.TheVariants as over
use Rattle.pg_tool.specs.SessionContract.{IsSaidSo, SessionResult, ToldSimply}

-- by what a session answered
pub must_all : (call : any.Call Command) (r : Result Report Error) → Tells call.before → Tells call.after → Continues call.before call.after → by_table.SendsInOrder call (table_result r) →
    IfErr r (HasCause (any.apart call)) → must.MustEndWell call (table_result r)
must_all call (Ok report) before after goes sent causes = λ plan s taken none_given none_taken planned told means valid conforms. tt
must_all call (Err e) before after goes sent causes = must-end-well call e before after goes sent causes

-- ---- the program

-- a call that ended elsewhere was asked the same
same_valid : (text : SessionText) (a b : LinkView) (s : Settings) (plan : Plan) → IsValid (any.apart (call_of text a)) s plan → IsValid (any.apart (call_of text b)) s plan
same_valid text a b s plan v = record { user = v.user; nonce = v.nonce; frame = v.frame; no_tls = v.no_tls; no_binding = v.no_binding; limit = v.limit }

abbrev same_startup : (text : SessionText) (a b : LinkView) (s : Settings) (plan : Plan) → AnswersStartup (any.apart (call_of text a)) s plan → AnswersStartup (any.apart (call_of text b)) s plan
same_startup text a b s plan c = record {
  untroubled = c.untroubled;
  whole = c.whole;
  frames = c.frames;
  started = c.started;
  each_frame = c.each_frame;
  all_frames = c.all_frames;
  readable = c.readable;
}

same_sent : (text : SessionText) (a b : LinkView) (s : Settings) (given taken : List ℕ) → SentInOrder (meaning_of table) (call_of text a) s given taken → SentInOrder (meaning_of table) (call_of text b) s given taken
same_sent text a b s given taken h = record { book = h.book; asked = h.asked; order = h.order; front = h.front }

-- only want of memory ends well in place of a report
only_memory : (failure : Failure) → must.EndsWell {T = Told Answer} (Err failure) → failure ≡ OutOfMemory
only_memory OutOfMemory well = refl
only_memory _ well = absurd well

-- what was sent is in order
in_order : (text : SessionText) (failure : Failure) (p : IsPlayed text (Err failure)) (made : IsWellMade text) → SentInOrder (meaning_of table) (call_of text p.after) made.settings p.given p.taken
in_order text failure p made =
    let call = call_of text p.after in
    let crossed = p.by_table.sent (made.settings, made.means, tt) in
    let same : crossed.0 ≡ made.settings = means_one text.config crossed.0 made.settings crossed.1 made.means in
    let gave : added (Some []) p.after.given ≡ Some p.given = ap (λ o. added (Some []) o) p.told_given in
    let took : added (Some []) p.after.taken ≡ Some p.taken = ap (λ o. added (Some []) o) p.told_taken in
    let t = of-some (added (Some []) p.after.taken) p.taken (λ t. SentInOrder (meaning_of table) call crossed.0 p.given t) took
    (of-some (added (Some []) p.after.given) p.given (λ g. IfSome (added (Some []) p.after.taken) (λ t. SentInOrder (meaning_of table) call crossed.0 g t)) gave crossed.2) in
    subst (λ (x : Settings). SentInOrder (meaning_of table) call x p.given p.taken) same t

ends_well : (text : SessionText) (failure : Failure) → IsPlayed text (Err failure) → IsWellMade text → must.EndsWell {T = Told Answer} (Err failure)
ends_well text failure p made =
    let front = in-plan (any.apart (call_of text p.after)) (plan_of text) p.taken p.by_table.link refl refl refl p.told_taken p.given p.told_given in
    p.by_table.must_end_well (plan_of text) made.settings p.taken refl refl refl p.told_taken made.means (same_valid text (new_link text) p.after made.settings (plan_of text) made.valid)
    (record {
      opens = same_startup text (new_link text) p.after made.settings (plan_of text) made.opens;
      later = made.answers p.given p.taken front (same_sent text p.after (new_link text) made.settings p.given p.taken (in_order text failure p made));
    })

-- a session that is well made fails for want of memory alone
fails_memory : (text : SessionText) (e : Failure) → IsPlayed text (Err e) → IsWellMade text → e ≡ OutOfMemory
fails_memory text e p made = only_memory e (ends_well text e p made)

-- the text due was written, or memory lacked
ends_so : (old new : SinkView) (text : List ℕ) (status : ℕ) → EndsWith old new text 0 status → (status ≡ 4 → ⊥) → (status ≡ 0) ⊎ (status ≡ 5)
ends_so old new text status (inl wrote) calm = inl wrote.0
ends_so old new text status (inr (inl four, front)) calm = absurd (calm four)
ends_so old new text status (inr (inr five, front)) calm = inr five

result_so : (text : SessionText) (old new : SinkView) (status : ℕ) (result : SessionAnswer) → PlayedSession IsPlayed text old new status result → IsWellMade text →
    (Rose old.faults new.faults → ⊥) → (status ≡ 0) ⊎ (status ≡ 5)
result_so text old new status (Ok report) played made calm = ends_so old new (report_text report) status played.answered.says (λ four. calm (played.answered.sink_failed four))
result_so text old new status (Err failure) played made calm =
    let memory = fails_memory text failure played.played made in
    inr (subst (λ (f : Failure). SaysResult old new status (Err f)) memory played.answered.says).0

text_so : (bytes : List ℕ) (text : SessionText) (old new : SinkView) (status : ℕ) (result : Option SessionAnswer) → PlayedText IsPlayed bytes old new status result → length bytes ≤ longest_text →
    IsSessionText bytes text → IsWellMade text → (Rose old.faults new.faults → ⊥) → (status ≡ 0) ⊎ (status ≡ 5)
text_so bytes text old new status (Some result) played within is made calm =
    result_so text old new status result (subst (λ (t : SessionText). PlayedSession IsPlayed t old new status result) (one_session bytes played.0 text played.1 is) played.2) made calm
text_so bytes text old new status None (inl (None, long, wrote)) within is made calm = absurd (omega (arith, long, within))
text_so bytes text old new status None (inl (Some n, refused, wrote)) within is made calm = absurd (refused_is_none bytes n text refused is)
text_so bytes text old new status None (inr nothing) within is made calm = inr nothing.0

-- over its own link
own_text : (a b : LinkView) (bytes : List ℕ) (old new : SinkView) (status : ℕ) (result : Option SessionAnswer) → PlayedText (IsOver over.Own a b) bytes old new status result → PlayedText IsPlayed bytes old new status result
own_text a b bytes old new status None played = played
own_text a b bytes old new status (Some result) played = (played.0, played.1, record { answered = played.2.answered; played = played.2.played.0 })

-- a text was read and played
pub must_text : (run : Run) (which : Over) (bytes : List ℕ) → Asks run.words which → ReadWhole run.source_before bytes →
    PlayedText (IsOver which run.link_before run.link_after) bytes run.sink_before run.sink_after run.status run.result → MustPlay run
must_text run over.Own bytes asks read played told text words left within is made calm_source calm_sink =
    let same : told ≡ bytes = of-some run.source_before.left told (λ l. l ≡ bytes) left read.all in
    text_so bytes text run.sink_before run.sink_after run.status run.result (own_text run.link_before run.link_after bytes run.sink_before run.sink_after run.status run.result played) read.within
    (subst (λ (l : List ℕ). IsSessionText l text) same is) made calm_sink
must_text run over.Handed bytes asks read played told text words left within is made calm_source calm_sink = absurd (let no : play ≡ codes "pipe" ∷ asks.0 ∷ asks.1 ∷ [] = sym words ∙ asks.2 in cc)

-- ---- texts of simple queries alone, in the words of these

-- what a session of simple queries promises over its own link, in the words of these
pub played_simply : (text : said.SessionText) (result : SessionAnswer) → IsPlayed (as_session text) result → ToldSimply result (IsPlayedSimply text)
played_simply text result p =
    let told = keeps_simply (call_of (as_session text) p.after) text.scripts refl result p.by_table in
    record {
      simple = told.simple;
      said_so = told.said_so;
      holds = record {
        after = p.after;
        given = p.given;
        taken = p.taken;
        told_given = p.told_given;
        told_taken = p.told_taken;
        tells = p.tells;
        rest = p.rest;
        front = p.front;
        no_fault = p.no_fault;
        session = told.holds;
      };
    }

-- the one session of the text's bytes
same_text : (bytes : List ℕ) (text : said.SessionText) (other : SessionText) → said.IsSessionText bytes text → IsSessionText bytes other → other ≡ as_session text
same_text bytes text other is also = one_session bytes other (as_session text) also (text-as bytes text is)

-- what was written
says_simply : (old new : SinkView) (status : ℕ) (result : SessionAnswer) (told : SessionResult) → IsSaidSo result told → SaysResult old new status result → SaysSimply old new status told
says_simply old new status (Ok report) (Ok simple) so says =
    subst (λ (text : List ℕ). EndsWith old new text 0 status) (prints-simply report so.0 so.1 ∙ ap simply.report_text (sym so.2)) says
says_simply old new status (Ok report) (Err failure) so says = absurd so
says_simply old new status (Err e) (Ok simple) so says = absurd so
says_simply old new status (Err e) (Err failure) so says = subst (λ (f : Failure). SaysSimply old new status (Err f)) (sym so) (failed_simply old new status e says)
  where
    failed_simply : (old new : SinkView) (status : ℕ) (e : Failure) → SaysResult old new status (Err e) → SaysSimply old new status (Err e)
    failed_simply old new status OutOfMemory says = says
    failed_simply old new status _ says = says

-- by the link that was asked for
over_simply : (which : Over) (before after : LinkView) (text : said.SessionText) (result : SessionAnswer) → IsOver which before after (as_session text) result → ToldSimply result (IsOverSimply which before after text)
over_simply over.Own before after text result p =
    let told = played_simply text result p.0 in record { simple = told.simple; said_so = told.said_so; holds = (told.holds, p.1) }
over_simply over.Handed before after text result p = keeps_simply (call_over (as_session text) before after) text.scripts refl result p.by_table

-- words ask for one link
one_link : (words : List (List ℕ)) (a b : Over) → Asks words a → Asks words b → a ≡ b
one_link words over.Own over.Own x y = refl
one_link words over.Handed over.Handed x y = refl
one_link words over.Own over.Handed x y = absurd (let no : play ≡ codes "pipe" ∷ y.0 ∷ y.1 ∷ [] = sym x ∙ y.2 in cc)
one_link words over.Handed over.Own x y = absurd (let no : play ≡ codes "pipe" ∷ x.0 ∷ x.1 ∷ [] = sym y ∙ x.2 in cc)

simple_text : (run : Run) (which : Over) (bytes : List ℕ) (text : said.SessionText) (result : Option SessionAnswer) → said.IsSessionText bytes text →
    PlayedText (IsOver which run.link_before run.link_after) bytes run.sink_before run.sink_after run.status result → IfSome result (PlaysSimply run which text)
simple_text run which bytes text None is played = tt
simple_text run which bytes text (Some result) is played =
    let session = subst (λ (t : SessionText). PlayedSession (IsOver which run.link_before run.link_after) t run.sink_before run.sink_after run.status result) (same_text bytes text played.0 is played.1) played.2 in
    let told = over_simply which run.link_before run.link_after text result session.played in
    record { simple = told.simple; said_so = told.said_so; holds = (says_simply run.sink_before run.sink_after run.status result told.simple told.said_so session.answered.says, told.holds) }

-- a text was read and played
pub simply_text : (run : Run) (which : Over) (bytes : List ℕ) → Asks run.words which → ReadWhole run.source_before bytes →
    PlayedText (IsOver which run.link_before run.link_after) bytes run.sink_before run.sink_after run.status run.result → PlaysSimpleText run
simply_text run which bytes asks read played other told text also left is =
    let same : told ≡ bytes = of-some run.source_before.left told (λ l. l ≡ bytes) left read.all in
    subst (λ (o : Over). IfSome run.result (PlaysSimply run o text)) (one_link run.words which other asks also)
    (simple_text run which bytes text run.result (subst (λ (l : List ℕ). said.IsSessionText l text) same is) played)

-- ---- a generated session

-- its result was told; it fails for want of memory alone
pub summed_up : (x : Numbers) (old new : SinkView) (status : ℕ) (r : SessionAnswer) → IsCount x.commands → IsPlayed (as_session (generated x.commands x.seed)) r → WritesSummary old new status r → SummedUp old new status r
summed_up x old new status (Ok report) count played w = record { says = w.ends; sink_failed = w.sink_failed (λ e. cc e) }
summed_up x old new status (Err failure) count played nothing =
    let text = generated x.commands x.seed in
    record {
      says = (fails_memory (as_session text) failure played (made_simply text (well_made x.commands x.seed (simple_call_of text (new_link (as_session text))) count (record { nonce = refl; limit = refl }))), nothing);
      sink_failed = λ is. absurd (omega (arith, nothing.0, is));
    }
