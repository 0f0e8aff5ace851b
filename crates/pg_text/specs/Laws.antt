-- Laws of session texts and reports.
use Rattle.std.specs.Prelude.{◌≡◌, ◌↔◌, ℕ, List}
use Rattle.std.specs.List.{AllZip}
use Rattle.pg_spec.specs.Report as said
use Rattle.pg_spec.specs.ReportText as simply
use Rattle.pg_text.specs.ReportText.{report_text}
use Rattle.pg_text.specs.SessionText.{IsRefusedAt, IsSessionText, Line, SessionText, Spells}
use Rattle.pg_spec.specs.SessionText as simple
use Rattle.pg_text.specs.Sessions.{as_session}
use Rattle.pg_text.specs.Views.{as_answers, simple_report}
use Rattle.pg_text.specs.declared.report.Report.{Report}

-- a text is that of at most one session
abbrev pub OneSession : Type 0
OneSession = (text : List ℕ) (s t : SessionText) → IsSessionText text s → IsSessionText text t → s ≡ t

-- what is refused at a line is the text of no session
abbrev pub RefusedIsNone : Type 0
RefusedIsNone = (text : List ℕ) (n : ℕ) (s : SessionText) → IsRefusedAt text n → IsSessionText text s → ⊥

-- what is spelled is one line
abbrev pub OneLine : Type 0
OneLine = (l m : Line) (spelled : List ℕ) → Spells l spelled → Spells m spelled → l ≡ m

-- a report whose answers are those of simple queries prints as the definition on these says
abbrev pub PrintsSimply : Type 0
PrintsSimply = (r : Report) (answers : List (List said.Answer)) → r.answers ≡ as_answers answers → report_text r ≡ simply.report_text (simple_report r answers)

-- a text is that of a session of simple queries alone exactly where it is so by the definition on these
abbrev pub TextsStay : Type 0
TextsStay = (text : List ℕ) (s : simple.SessionText) → simple.IsSessionText text s ↔ IsSessionText text (as_session s)

-- where a text is refused behind lines of simple queries alone, the definition on these refuses it there too
abbrev pub RefusalsStay : Type 0
RefusalsStay = (text : List ℕ) (n : ℕ) (r : IsRefusedAt text n) (lines : List simple.Line) → AllZip simple.Spells lines r.before → simple.IsRefusedAt text n
