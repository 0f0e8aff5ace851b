-- The mark that each turn of a session leaves.
use Rattle.std.proofs.Common.{◌≡◌, ℕ, zero, suc, ◌<◌, ◌≤◌, Bool, true, false, List, [], ◌∷◌, ◌++◌, length, get_or, Option, Some, None, Result, Ok, Err, inl, inr, refl, sym, ap, subst, ◌∙◌, arith, append_assoc}
use Rattle.std.proofs.lemmas.List.{append-nil}
use Rattle.futures.specs.declared.task.Poll.{Poll}
use Rattle.futures.specs.declared.task.Poll.TheVariants.{Ready, Pending}
use Rattle.pg_spec.specs.Links.{LinkView}
use Rattle.pg_spec.specs.Turns.{turn_of, delivered_after, delivered_before}
use Rattle.pg_desk.specs.declared.event.Event.{Event}
use Rattle.pg_errors.specs.declared.async_message.AsyncMessage.{AsyncMessage}
use Rattle.pg_types.specs.declared.error.Error.{Error}
use Rattle.pg_connect.specs.Answers.{PollAnswers}
use Rattle.pg_connect.specs.Passes.{risen}
use Rattle.pg_connect.specs.declared.streams.Streams.{Streams}
use Rattle.pg_spec.specs.declared.stamps.TurnMark.{TurnMark}
use Rattle.pg_session.specs.States.{SessionState}
use Rattle.pg_session.specs.Turns.{HandsOn, Makes}
use Rattle.pg_session.specs.Sessions.{MakesAll, EndsWith}
use Rattle.pg_session.specs.Speeches.{Speech}

rose : (a b n : ℕ) → b ≡ risen a n → a ≤ b
rose a b n e = omega arith

-- a poll that ended in no error took no delivery back
poll_rises : {H : Type 0} (becomes : H → List Event → H → Type 0) (a b : H) (old new : Streams) (l m : LinkView)
    (answer : Poll (Option (Result AsyncMessage Error))) (before after : List AsyncMessage) (over : Bool) →
    PollAnswers becomes a b old new l m answer → HandsOn answer before after over → old.delivered ≤ new.delivered
poll_rises becomes a b old new l m Pending before after over polled hands =
    rose old.delivered new.delivered _ polled.turns.goes.passes.delivered_count
poll_rises becomes a b old new l m (Ready None) before after over polled hands =
    rose old.delivered new.delivered _ polled.turns.goes.passes.delivered_count
poll_rises becomes a b old new l m (Ready (Some (Ok message))) before after over polled hands =
    rose old.delivered new.delivered _ polled.turns.goes.passes.delivered_count
poll_rises becomes a b old new l m (Ready (Some (Err e))) before after over polled hands = absurd hands

-- ---- turns one after another

-- These marks tell these turns in order, and how many messages were delivered behind each: no less than
-- before it, and as many where it was a handle's.
abbrev pub Marks : (handles before : ℕ) (turns : List ℕ) (marks : List TurnMark) (behind : ℕ) → Type 0
Marks handles before [] [] behind = behind ≡ before
Marks handles before [] (mark ∷ marks) behind = ⊥
Marks handles before (turn ∷ turns) [] behind = ⊥
Marks handles before (turn ∷ turns) (mark ∷ marks) behind =
    (mark.turn ≡ turn) × (before ≤ mark.delivered) × (turn < handles → mark.delivered ≡ before) × Marks handles mark.delivered turns marks behind

-- ---- what the marks tell

pub length-marks : (handles before : ℕ) (turns : List ℕ) (marks : List TurnMark) (behind : ℕ) → Marks handles before turns marks behind → length marks ≡ length turns
length-marks handles before [] [] behind tell = refl
length-marks handles before [] (mark ∷ marks) behind tell = absurd tell
length-marks handles before (turn ∷ turns) [] behind tell = absurd tell
length-marks handles before (turn ∷ turns) (mark ∷ marks) behind tell = ap suc (length-marks handles mark.delivered turns marks behind tell.3)

-- each tells its turn
pub marks_turn : (handles before : ℕ) (turns : List ℕ) (marks : List TurnMark) (behind : ℕ) → Marks handles before turns marks behind →
    (place : ℕ) → turn_of marks place ≡ get_or turns place 0
marks_turn handles before [] [] behind tell place = refl
marks_turn handles before [] (mark ∷ marks) behind tell place = absurd tell
marks_turn handles before (turn ∷ turns) [] behind tell place = absurd tell
marks_turn handles before (turn ∷ turns) (mark ∷ marks) behind tell zero = tell.0
marks_turn handles before (turn ∷ turns) (mark ∷ marks) behind tell (suc place) = marks_turn handles mark.delivered turns marks behind tell.3 place

-- what was delivered before a turn, where so much was before the first
abbrev pub count_before : ℕ → List TurnMark → ℕ → ℕ
count_before before marks zero = before
count_before before marks (suc place) = delivered_after marks place

pub count_from_none : (marks : List TurnMark) (place : ℕ) → count_before 0 marks place ≡ delivered_before marks place
count_from_none marks zero = refl
count_from_none marks (suc place) = refl

count_more : (before : ℕ) (mark : TurnMark) (marks : List TurnMark) (place : ℕ) → count_before before (mark ∷ marks) (suc place) ≡ count_before mark.delivered marks place
count_more before mark marks zero = refl
count_more before mark marks (suc place) = refl

-- none was taken back, and none delivered in a turn of a handle
pub record Delivers (handles before : ℕ) (marks : List TurnMark) (place : ℕ) : Type 0 where
  pub rises : count_before before marks place ≤ delivered_after marks place
  pub keeps : turn_of marks place < handles → delivered_after marks place ≡ count_before before marks place

pub marks_deliver : (handles before : ℕ) (turns : List ℕ) (marks : List TurnMark) (behind : ℕ) → Marks handles before turns marks behind →
    (place : ℕ) → place < length marks → Delivers handles before marks place
marks_deliver handles before turns [] behind tell place low = absurd (omega arith)
marks_deliver handles before [] (mark ∷ marks) behind tell place low = absurd tell
marks_deliver handles before (turn ∷ turns) (mark ∷ marks) behind tell zero low = record {
  rises = tell.1;
  keeps = λ own. tell.2 (subst (λ (x : ℕ). x < handles) tell.0 own);
}
marks_deliver handles before (turn ∷ turns) (mark ∷ marks) behind tell (suc place) low =
    let more = marks_deliver handles mark.delivered turns marks behind tell.3 place (omega arith) in
    let same = count_more before mark marks place in
    record {
      rises = subst (λ (x : ℕ). x ≤ delivered_after marks place) (sym same) more.rises;
      keeps = λ own. more.keeps own ∙ sym same;
    }

module _ {C T A E : Type 0} (speech : Speech C T A E) where
  -- ---- one turn

  -- what a turn adds to the trace
  pub record LeavesMark (handles turn : ℕ) (s t : SessionState T A E) : Type 0 where
    pub mark : TurnMark
    pub trace : t.trace ≡ s.trace ++ mark ∷ []
    pub owner : mark.turn ≡ turn
    pub delivered : mark.delivered ≡ t.streams.delivered
    pub rises : s.streams.delivered ≤ mark.delivered
    pub keeps : turn < handles → mark.delivered ≡ s.streams.delivered

  pub leaves_mark : (scripts : List (List C)) (turn : ℕ) (s t : SessionState T A E) (l m : LinkView) (over : Bool) →
      Makes speech scripts turn s t l m over → LeavesMark (length scripts) turn s t
  leaves_mark scripts turn s t l m over (inl h) = record {
    mark = record { turn = turn; delivered = s.streams.delivered };
    trace = h.made.trace;
    owner = refl;
    delivered = ap (λ (x : Streams). x.delivered) (sym h.made.streams);
    rises = omega arith;
    keeps = λ own. refl;
  }
  leaves_mark scripts turn s t l m over (inr c) =
      let risen = poll_rises _ s.hub t.hub s.streams t.streams l m c.made.answer s.asynchronous t.asynchronous over c.made.polled c.made.hands in
      record {
        mark = record { turn = turn; delivered = t.streams.delivered };
        trace = c.made.trace;
        owner = refl;
        delivered = refl;
        rises = risen;
        keeps = λ own. absurd (let other = c.other in omega arith);
      }

  -- only the connection's turn is the last
  pub last_is_connections : (scripts : List (List C)) (turn : ℕ) (s t : SessionState T A E) (l m : LinkView) → Makes speech scripts turn s t l m true → length scripts ≤ turn
  last_is_connections scripts turn s t l m (inl h) = absurd (let goes_on = h.goes_on in cc)
  last_is_connections scripts turn s t l m (inr c) = c.other

  -- what turns add to the trace
  pub record LeaveMarks (handles : ℕ) (turns : List ℕ) (s t : SessionState T A E) : Type 0 where
    pub marks : List TurnMark
    pub trace : t.trace ≡ s.trace ++ marks
    pub tell : Marks handles s.streams.delivered turns marks t.streams.delivered

  -- no turn
  no_marks : (handles : ℕ) (s t : SessionState T A E) → t ≡ s → LeaveMarks handles [] s t
  no_marks handles s t same = record {
    marks = [];
    trace = ap (λ (x : SessionState T A E). x.trace) same ∙ sym (append-nil s.trace);
    tell = ap (λ (x : SessionState T A E). x.streams.delivered) same;
  }

  -- a turn and then others
  one_mark_then : (handles turn : ℕ) (turns : List ℕ) (s mid t : SessionState T A E) → LeavesMark handles turn s mid → LeaveMarks handles turns mid t → LeaveMarks handles (turn ∷ turns) s t
  one_mark_then handles turn turns s mid t first then = record {
    marks = first.mark ∷ then.marks;
    trace = then.trace ∙ ap (λ (x : List TurnMark). x ++ then.marks) first.trace ∙ append_assoc s.trace (first.mark ∷ []) then.marks;
    tell = (
      first.owner,
      first.rises,
      first.keeps,
      subst (λ (n : ℕ). Marks handles n turns then.marks t.streams.delivered) (sym first.delivered) then.tell,
    );
  }

  pub leave_marks : (scripts : List (List C)) (turns : List ℕ) (s : SessionState T A E) (l : LinkView) (t : SessionState T A E) (m : LinkView) →
      MakesAll speech scripts turns s l t m → LeaveMarks (length scripts) turns s t
  leave_marks scripts [] s l t m made = no_marks (length scripts) s t made.0
  leave_marks scripts (turn ∷ turns) s l t m made =
      one_mark_then (length scripts) turn turns s made.1 t (leaves_mark scripts turn s made.1 made.0 made.2 false made.4) (leave_marks scripts turns made.1 made.2 t m made.5)

  -- turns and then others
  marks_then : (handles : ℕ) (xs ys : List ℕ) (s mid t : SessionState T A E) → LeaveMarks handles xs s mid → LeaveMarks handles ys mid t → LeaveMarks handles (xs ++ ys) s t
  marks_then handles xs ys s mid t first then = record {
    marks = first.marks ++ then.marks;
    trace = then.trace ∙ ap (λ (x : List TurnMark). x ++ then.marks) first.trace ∙ append_assoc s.trace first.marks then.marks;
    tell = tell_then handles s.streams.delivered mid.streams.delivered t.streams.delivered xs ys first.marks then.marks first.tell then.tell;
  }
    where
      tell_then : (handles a b c : ℕ) (xs ys : List ℕ) (ms ns : List TurnMark) → Marks handles a xs ms b → Marks handles b ys ns c →
          Marks handles a (xs ++ ys) (ms ++ ns) c
      tell_then handles a b c [] ys [] ns first then = subst (λ (n : ℕ). Marks handles n ys ns c) first then
      tell_then handles a b c [] ys (m ∷ ms) ns first then = absurd first
      tell_then handles a b c (x ∷ xs) ys [] ns first then = absurd first
      tell_then handles a b c (x ∷ xs) ys (m ∷ ms) ns first then =
          (first.0, first.1, first.2, tell_then handles m.delivered b c xs ys ms ns first.3 then)

  -- the last turn's mark stands behind those of the others
  pub marks_to_end : (scripts : List (List C)) (turns : List ℕ) (last : ℕ) (s : SessionState T A E) (l : LinkView) (t : SessionState T A E) (m : LinkView) →
      EndsWith speech scripts turns last s l t m → LeaveMarks (length scripts) (turns ++ last ∷ []) s t
  marks_to_end scripts turns last s l t m e =
      marks_then (length scripts) turns (last ∷ []) s e.state t (leave_marks scripts turns s l e.state e.link e.before)
      (one_mark_then (length scripts) last [] e.state t t (leaves_mark scripts last e.state t e.link m true e.over) (no_marks (length scripts) t t refl))
