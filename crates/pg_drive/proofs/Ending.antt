-- How a line is closed.
use Rattle.std.proofs.Common.{◌≡◌, inr, ℕ, Bool, true, false, List, [], Option, Some, None, is_none, Result, Ok, Err, refl, sym, ◌∙◌, ap, subst}
use Rattle.std.specs.Prelude.{IsTrue, is_some, not}
use Rattle.std.proofs.lemmas.Bool.{both_ways}
use Rattle.futures.specs.declared.task.Poll.{Poll}
use Rattle.futures.specs.declared.task.Poll.TheVariants.{Ready, Pending}
use Rattle.pg_spec.specs.Links.{LinkView}
use Rattle.pg_types.specs.declared.error.Error.{Error}
use Rattle.pg_errors.specs.declared.async_message.AsyncMessage.{AsyncMessage}
use Rattle.pg_desk.specs.declared.event.Event.{Event}
use Rattle.pg_connect.specs.Answers.{PollAnswers}
use Rattle.pg_connect.specs.declared.streams.Streams.{Streams}
use Rattle.pg_drive.specs.declared.line.Lull.{Lull}
use Rattle.pg_drive.specs.declared.line.Lull.TheVariants.{Moved, Still, Waited}
use Rattle.pg_drive.specs.Lines.{Advances, LineView, PauseEnds, has_moved, told_by}
use Rattle.pg_drive.specs.Closings.{Advanced, Closes, ClosesThen, IsShut, RequestsClose}

-- whether nothing was told
pub none-of : (told : Option Bool) (over : Bool) → is_some told ≡ not over → over ≡ is_none told
none-of None true e = refl
none-of None false e = absurd (both_ways true (sym e) refl)
none-of (Some x) false e = refl
none-of (Some x) true e = absurd (both_ways true e refl)

-- only the end tells nothing
at-end : (answer : Poll (Option (Result AsyncMessage Error))) (t : Streams) (told : Option Bool) → told ≡ told_by answer t → true ≡ is_none told → answer ≡ Ready None
at-end Pending t told is e = absurd (both_ways true (e ∙ ap is_none is) refl)
at-end (Ready None) t told is e = refl
at-end (Ready (Some x)) t told is e = absurd (both_ways true (e ∙ ap is_none is) refl)

-- behind a poll that moved something the link is left
link-left : (was : Lull) (from to : ℕ) (l m : LinkView) (next : Result Lull Error) → PauseEnds was true from to l m next → m ≡ l
link-left Moved from to l m next h = h.1
link-left Still from to l m next h = h.1
link-left Waited from to l m next h = h.1

module _ {H : Type 0} (becomes : H → List Event → H → Type 0) where
  -- the last step shut the link down
  last-shuts : (a b : LineView H) → Advances becomes a b true → IsShut b
  last-shuts a b last =
      let paused = last.paused in
      let mid = paused.mid in
      let polled = paused.polled in
      let is = at-end polled.answer mid.streams paused.told polled.says last.says in
      let ended : PollAnswers becomes a.hub mid.hub a.streams mid.streams a.link mid.link (Ready None) =
      subst (λ (x : Poll (Option (Result AsyncMessage Error))). PollAnswers becomes a.hub mid.hub a.streams mid.streams a.link mid.link x) is polled.polled in
      let over = ended.turns.goes.ended in
      let told : has_moved paused.told ≡ true = ap has_moved (polled.says ∙ ap (λ (x : Poll (Option (Result AsyncMessage Error))). told_by x mid.streams) is) in
      let link : b.link ≡ mid.link =
      link-left a.lull a.link.quiet mid.link.quiet mid.link b.link (Ok b.lull)
      (subst (λ (m : Bool). PauseEnds a.lull m a.link.quiet mid.link.quiet mid.link b.link (Ok b.lull)) told paused.pause) in
      record {
        sent = ap (λ (x : LineView H). x.streams.unsent) paused.same ∙ over.sent;
        shut = subst (λ (l : LinkView). IsTrue l.shut) (sym link) over.shut;
      }

  pub closed-shut : (a b : LineView H) → Closes becomes a b (Ok tt) → IsShut b
  closed-shut a b closes = let out = closes.out in last-shuts out.last b out.ends

  -- requests were closed, and the rest ended so
  pub closes-by : (a mid b : LineView H) (r : Result (Unit {0}) Error) → RequestsClose becomes a mid (Ok tt) → Advanced becomes mid b r → Closes becomes a b r
  closes-by a mid b (Ok x) closed out = record { mid = mid; closed = closed; out = out }
  closes-by a mid b (Err e) closed out = inr (record { mid = mid; closed = closed; out = out })
