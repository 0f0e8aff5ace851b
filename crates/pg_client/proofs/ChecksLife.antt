-- The whole life of a check of a session.
use Rattle.std.proofs.Common.{◌≡◌, List, Bool, true, false, Option, Some, None, is_some, Result, Ok, Err, refl, sym, ap, ◌∙◌, subst}
use Rattle.pg_config.specs.declared.modes.TargetSessionAttrs.{TargetSessionAttrs}
use Rattle.pg_config.specs.declared.modes.TargetSessionAttrs.TheVariants.{Any, ReadWrite, ReadOnly}
use Rattle.pg_spec.specs.RawMessages.{RawMessage}
use Rattle.pg_types.specs.declared.error.Error.TheVariants.{OutOfMemory}
use Rattle.pg_query.specs.Dialogue.{Dialogue, Answer}
use Rattle.pg_query.specs.Leaving.{Holds, Nothing, Request, after_reading, LetsGo, AllOwed, AllLetGo}
use Rattle.pg_query.specs.Lives.{Turn, Lives, deeds}
use Rattle.pg_query.specs.Meaning.{Place}
use Rattle.pg_query.specs.Reading.{ends}
use Rattle.pg_query.specs.Scripts.{IsRead}
use Rattle.pg_query.proofs.LeavingLaws.{life-lets-go}
use Rattle.pg_query.proofs.RequestLaws.{life-answers, life-awaits, life-still}
use Rattle.pg_client.specs.Showing.{Told, AnswersCheck, AwaitsCheck, asks_setting, session_check, show_frame, show_reading}

-- ---- no request is left open

ends-free : (h : Holds) (o : Option Told) → is_some o ≡ true → LetsGo h (ends true o)
ends-free h (Some (Ok x)) e = tt
ends-free h (Some (Err failure)) e = tt
ends-free h None e = absurd cc

setting-free : (attrs : TargetSessionAttrs) → LetsGo Nothing (asks_setting attrs)
setting-free attrs = (tt, λ ms h. ends-free (after_reading Request ms) (show_reading attrs ms) h)

pub check-free : (attrs : TargetSessionAttrs) → LetsGo Nothing (session_check attrs)
check-free Any = tt
check-free ReadWrite = setting-free ReadWrite
check-free ReadOnly = setting-free ReadOnly

pub check-lets-go : (attrs : TargetSessionAttrs) (begin end : Place (Unit {0})) (turns : List Turn) (r : Told) →
    begin.dialogue ≡ session_check attrs → Lives begin turns end → end.dialogue ≡ Answer r → (r ≡ Err OutOfMemory → ⊥) → AllOwed (deeds turns) → AllLetGo (deeds turns)
check-lets-go attrs begin end turns r is l answered none owed =
    life-lets-go begin turns end r (subst (λ (d : Dialogue (Unit {0})). LetsGo Nothing d) (sym is) (check-free attrs)) l answered none owed

-- ---- what it answers

pub check-answers : (attrs : TargetSessionAttrs) (begin end : Place (Unit {0})) (turns : List Turn) (r : Told) →
    begin.dialogue ≡ session_check attrs → Lives begin turns end → end.dialogue ≡ Answer r → AnswersCheck attrs (deeds turns) r
check-answers Any begin end turns r is l answered =
    let s = life-still (Ok tt) begin turns end is l in
    let c : Answer r ≡ Answer (Ok tt) = sym answered ∙ s.1 in
    (s.0, cc)
check-answers ReadWrite begin end turns r is l answered = life-answers true show_frame (show_reading ReadWrite) begin turns end is l r answered
check-answers ReadOnly begin end turns r is l answered = life-answers true show_frame (show_reading ReadOnly) begin turns end is l r answered

pub check-awaits : (attrs : TargetSessionAttrs) (begin end : Place (Unit {0})) (turns : List Turn) →
    begin.dialogue ≡ session_check attrs → Lives begin turns end → IsRead end.dialogue → AwaitsCheck attrs (deeds turns)
check-awaits Any begin end turns is l reads-there = subst IsRead (life-still (Ok tt) begin turns end is l).1 reads-there
check-awaits ReadWrite begin end turns is l reads-there = life-awaits true show_frame (show_reading ReadWrite) begin turns end is l reads-there
check-awaits ReadOnly begin end turns is l reads-there = life-awaits true show_frame (show_reading ReadOnly) begin turns end is l reads-there
