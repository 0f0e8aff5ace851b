-- What a run of the program wrote, and its status.
use Rattle.std.proofs.Common.{◌≡◌, ◌≢◌, ◌⊎◌, ℕ, ◌≤◌, inl, inr, List, [], ◌∷◌, codes, length, Option, Some, None, Ok, Err, refl, sym, subst, ◌∙◌, arith}
use Rattle.std.specs.Prelude.{IfSome}
use Rattle.pg_spec.specs.Faults.{Failure, OutOfMemory}
use Rattle.pg_spec.specs.Links.{Rose}
use Rattle.pg_spec.specs.ReportText.{error_text}
use Rattle.pg_text.specs.ReportText.{report_text}
use Rattle.pg_text.specs.SessionText.{SessionText, IsRefusedAt}
use Rattle.pg_text.specs.declared.report.Report.{Report}
use Rattle.pg_wire.specs.Streams.{SinkView}
use Rattle.pg_types.specs.declared.error.Error.{Error}
use Rattle.pg_types.specs.declared.error.Error.TheVariants as error
use Rattle.pg_gen.specs.Generated.{generated}
use Rattle.pg_tool.specs.Reading.{longest_text, ReadWhole}
use Rattle.pg_tool.proofs.Completing.{must_text, played_simply, simply_text}
use Rattle.pg_tool.specs.RunContract.{Answered, EndsWith, IsOver, IsRefused, IsRefusedFor, NotPlayed, PlayedText, PlaysNumbers, PlaysText, RefusedLine, Run, RunContract, SaysResult, SessionAnswer, StatusSays, SumsUp, Written, usage}
use Rattle.pg_tool.specs.Words.{AreOthers, Asks, IsGen, play}
use Rattle.pg_tool.specs.declared.numbers.Numbers.{Numbers}
use Rattle.pg_tool.specs.declared.over.Over.TheVariants as over
use Rattle.pg_tool.specs.declared.over.Over.{Over}

-- ---- a session's result

pub answered_ok : (old new : SinkView) (status : ℕ) (report : Report) → Written old new (report_text report) 0 status → Answered old new status (Ok report)
answered_ok old new status report w = record { says = w.ends; sink_failed = w.sink_failed (λ e. cc e) }

says_failed : (old new : SinkView) (status : ℕ) (e : Error) → e ≢ error.OutOfMemory → EndsWith old new (error_text e) 1 status → SaysResult old new status (Err e)
says_failed old new status error.OutOfMemory other ends = absurd (other refl)
says_failed old new status _ other ends = ends

pub answered_failed : (old new : SinkView) (status : ℕ) (e : Error) → e ≢ error.OutOfMemory → Written old new (error_text e) 1 status → Answered old new status (Err e)
answered_failed old new status e other w = record { says = says_failed old new status e other w.ends; sink_failed = w.sink_failed (λ e. cc e) }

-- ---- no status but those

ends_not_3 : (old new : SinkView) (text : List ℕ) (due status : ℕ) → EndsWith old new text due status → due ≢ 3 → status ≡ 3 → ⊥
ends_not_3 old new text due status (inl wrote) other is = other (sym wrote.0 ∙ is)
ends_not_3 old new text due status (inr (inl e, front)) other is = omega (arith, e, is)
ends_not_3 old new text due status (inr (inr e, front)) other is = omega (arith, e, is)

failed_not_3 : (old new : SinkView) (status : ℕ) (failure : Failure) → SaysResult old new status (Err failure) → status ≡ 3 → ⊥
failed_not_3 old new status OutOfMemory says is = omega (arith, says.0, is)
failed_not_3 old new status _ says is = ends_not_3 old new _ 1 status says (λ e. cc e) is

text_not_3 : (Is : SessionText → SessionAnswer → Type 0) (bytes : List ℕ) (old new : SinkView) (status : ℕ) (result : Option SessionAnswer) → PlayedText Is bytes old new status result → status ≡ 3 → ⊥
text_not_3 Is bytes old new status None (inl refused) is = ends_not_3 old new _ 2 status refused.2.ends (λ e. cc e) is
text_not_3 Is bytes old new status None (inr nothing) is = omega (arith, nothing.0, is)
text_not_3 Is bytes old new status (Some (Ok report)) played is = ends_not_3 old new _ 0 status played.2.answered.says (λ e. cc e) is
text_not_3 Is bytes old new status (Some (Err failure)) played is = failed_not_3 old new status failure played.2.answered.says is

text_sink_failed : (Is : SessionText → SessionAnswer → Type 0) (bytes : List ℕ) (old new : SinkView) (status : ℕ) (result : Option SessionAnswer) → PlayedText Is bytes old new status result → status ≡ 4 → Rose old.faults new.faults
text_sink_failed Is bytes old new status None (inl refused) is = refused.2.sink_failed (λ e. cc e) is
text_sink_failed Is bytes old new status None (inr nothing) is = absurd (omega (arith, nothing.0, is))
text_sink_failed Is bytes old new status (Some result) played is = played.2.answered.sink_failed is

-- ---- a text that is refused

-- for a line of it
pub line_refused : (bytes : List ℕ) (old new : SinkView) (number status : ℕ) → IsRefusedAt bytes number → RefusedLine old new number status → NotPlayed bytes old new status
line_refused bytes old new number status at (inl w) = inl (Some number, at, w)
line_refused bytes old new number status at (inr nothing) = inr nothing

-- ---- the run

-- what holds of the bytes that were read holds of the source's, where it tells them
of_left : (P : List ℕ → Type 0) (left : Option (List ℕ)) (bytes : List ℕ) → IfSome left (λ l. l ≡ bytes) → P bytes → IfSome left P
of_left P None bytes all p = tt
of_left P (Some l) bytes all p = subst P (sym all) p

-- where no session was played nothing is said of one
no_session : (P : SessionAnswer → Type 0) (result : Option SessionAnswer) → result ≡ None → IfSome result P
no_session P result none = subst (λ r. IfSome r P) (sym none) tt

-- other words
pub run_usage : (run : Run) → run.link_after ≡ run.link_before → run.source_after ≡ run.source_before → AreOthers run.words → run.result ≡ None → Written run.sink_before run.sink_after usage 2 run.status → RunContract run
run_usage run unused unread other none w = record {
  link = λ e. unused;
  status = subst (λ r. StatusSays run r) (sym none) (inl (other, unread, w.ends));
  source_failed = λ is. absurd (ends_not_3 _ _ _ 2 run.status w.ends (λ e. cc e) is);
  sink_failed = w.sink_failed (λ e. cc e);
  session = no_session _ run.result none;
  simply = λ which bytes text words left is. no_session _ run.result none;
  must_play = λ bytes text words left within is made calm_source calm_sink. absurd (other.0.0 words);
  must_sum = λ x words. absurd (other.1 x words);
}

refused_so : (bytes : List ℕ) (why : Option ℕ) → length bytes ≤ longest_text → IsRefusedFor bytes why → IsRefused bytes why
refused_so bytes None within refused = refused
refused_so bytes (Some n) within refused = (within, refused)

text_status : (run : Run) (which : Over) (bytes : List ℕ) (result : Option SessionAnswer) → Asks run.words which → IfSome run.source_before.left (λ left. left ≡ bytes) → length bytes ≤ longest_text →
    PlayedText (IsOver which run.link_before run.link_after) bytes run.sink_before run.sink_after run.status result → StatusSays run result
text_status run which bytes (Some result) words all within played = inl (which, words, played.2.answered.says)
text_status run which bytes None words all within (inl refused) =
    inr (inl (which, words, inl (refused.0, of_left (λ text. IsRefused text refused.0) run.source_before.left bytes all (refused_so bytes refused.0 within refused.1), refused.2.ends)))
text_status run which bytes None words all within (inr nothing) = inr (inl (which, words, inr (inr nothing.0, nothing.1)))

text_session : (run : Run) (which : Over) (bytes : List ℕ) (result : Option SessionAnswer) → Asks run.words which → ReadWhole run.source_before bytes →
    PlayedText (IsOver which run.link_before run.link_after) bytes run.sink_before run.sink_after run.status result →
    IfSome result (λ result. PlaysText run result ⊎ PlaysNumbers run result)
text_session run which bytes None words read played = tt
text_session run which bytes (Some result) words read played = inl (which, words, bytes, read.all, read.within, played.0, played.1, played.2.played)

-- words that play a text aren't those of a generated session
not_gen : (words : List (List ℕ)) (which : Over) (x : Numbers) → Asks words which → IsGen words x → ⊥
not_gen words over.Own x asks gen = let no : play ≡ codes "gen" ∷ gen.0 ∷ gen.1 ∷ [] = sym asks ∙ gen.2 in cc
not_gen words over.Handed x asks gen = let no : codes "pipe" ∷ asks.0 ∷ asks.1 ∷ [] ≡ codes "gen" ∷ gen.0 ∷ gen.1 ∷ [] = sym asks.2 ∙ gen.2 in cc

-- a text was read
pub run_text : (run : Run) (which : Over) (bytes : List ℕ) → (run.result ≡ None → run.link_after ≡ run.link_before) → Asks run.words which → ReadWhole run.source_before bytes →
    PlayedText (IsOver which run.link_before run.link_after) bytes run.sink_before run.sink_after run.status run.result → RunContract run
run_text run which bytes unused words read played = record {
  link = unused;
  status = text_status run which bytes run.result words read.all read.within played;
  source_failed = λ is. absurd (text_not_3 _ bytes _ _ run.status run.result played is);
  sink_failed = text_sink_failed _ bytes _ _ run.status run.result played;
  session = text_session run which bytes run.result words read played;
  simply = simply_text run which bytes words read played;
  must_play = must_text run which bytes words read played;
  must_sum = λ x gen. absurd (not_gen run.words which x words gen);
}

-- ---- a generated session

-- a status that says so is one of three
summary_one_of : (old new : SinkView) (text : List ℕ) (status : ℕ) → EndsWith old new text 0 status → (status ≡ 0) ⊎ ((status ≡ 4) ⊎ (status ≡ 5))
summary_one_of old new text status (inl wrote) = inl wrote.0
summary_one_of old new text status (inr front) = inr front.0

sums_one_of : (x : Numbers) (old new : SinkView) (status : ℕ) (result : Option SessionAnswer) → SumsUp x old new status result → (status ≡ 0) ⊎ ((status ≡ 4) ⊎ (status ≡ 5))
sums_one_of x old new status None nothing = inr (inr nothing.0)
sums_one_of x old new status (Some (Ok report)) sums = summary_one_of old new _ status sums.0.says
sums_one_of x old new status (Some (Err failure)) sums = inr (inr sums.0.says.1.0)

not_3 : (status : ℕ) → (status ≡ 0) ⊎ ((status ≡ 4) ⊎ (status ≡ 5)) → status ≡ 3 → ⊥
not_3 status (inl zero) is = omega (arith, zero, is)
not_3 status (inr (inl four)) is = omega (arith, four, is)
not_3 status (inr (inr five)) is = omega (arith, five, is)

sums_status : (run : Run) (x : Numbers) (result : Option SessionAnswer) → IsGen run.words x → SumsUp x run.sink_before run.sink_after run.status result → StatusSays run result
sums_status run x None gen nothing = inr (inr (x, gen, nothing))
sums_status run x (Some result) gen sums = inr (x, gen, sums.0.says)

sums_failed : (x : Numbers) (old new : SinkView) (status : ℕ) (result : Option SessionAnswer) → SumsUp x old new status result → status ≡ 4 → Rose old.faults new.faults
sums_failed x old new status None nothing is = absurd (omega (arith, nothing.0, is))
sums_failed x old new status (Some result) sums is = sums.0.sink_failed is

sums_session : (run : Run) (x : Numbers) (result : Option SessionAnswer) → run.link_after ≡ run.link_before → run.source_after ≡ run.source_before → IsGen run.words x →
    SumsUp x run.sink_before run.sink_after run.status result → IfSome result (λ result. PlaysText run result ⊎ PlaysNumbers run result)
sums_session run x None unused unread gen sums = tt
sums_session run x (Some result) unused unread gen sums = inr (x, gen, sums.1, played_simply (generated x.commands x.seed) result sums.1, unread, unused)

pub run_sums : (run : Run) (x : Numbers) → run.link_after ≡ run.link_before → run.source_after ≡ run.source_before → IsGen run.words x →
    SumsUp x run.sink_before run.sink_after run.status run.result → RunContract run
run_sums run x unused unread gen sums = record {
  link = λ e. unused;
  status = sums_status run x run.result gen sums;
  source_failed = λ is. absurd (not_3 run.status (sums_one_of x _ _ run.status run.result sums) is);
  sink_failed = sums_failed x _ _ run.status run.result sums;
  session = sums_session run x run.result unused unread gen sums;
  simply = λ which bytes text words left is. absurd (not_gen run.words which x words gen);
  must_play = λ bytes text words left within is made calm_source calm_sink. absurd (not_gen run.words over.Own x words gen);
  must_sum = λ y asks. sums_one_of x _ _ run.status run.result sums;
}
