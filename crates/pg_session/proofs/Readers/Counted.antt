-- How many commands the handles of a session have answered, and how many are left.
use Rattle.std.proofs.Common.{◌≡◌, ℕ, zero, suc, ◌+◌, ◌-◌, ◌≤◌, List, [], ◌∷◌, length, set, Some, sym, ap, ◌∙◌, subst, arith, inl, inr, ◌⊎◌, slice_get, Bool, false}
use Rattle.std.proofs.lemmas.Bool.{cases_eq}
use Rattle.std.proofs.lemmas.List.{length-map, length-set}
use Rattle.pg_spec.specs.Links.{LinkView}
use Rattle.pg_session.proofs.Left.{left-new, left-set}
use Rattle.pg_session.proofs.Rows.{get-within}
use Rattle.pg_session.specs.SessionKept.{left}
use Rattle.pg_session.proofs.Lists.{one-more, set-here, set-there}
use Rattle.pg_session.specs.declared.handle_turn.Polling.{Polling}
use Rattle.pg_session.specs.declared.handle_turn.Polling.TheVariants as polling
use Rattle.pg_session.specs.Handles.{HandleState, idle_handle}
use Rattle.pg_session.specs.Sessions.{MakesAll, IsNewSession}
use Rattle.pg_session.specs.Speeches.{Speech}
use Rattle.pg_session.specs.States.{SessionState, new_handles}
use Rattle.pg_session.specs.Turns.{HandleMade, Makes, left_behind}

-- how many commands answer in a turn
abbrev answered_in : Polling → ℕ
answered_in polling.Answered = 1
answered_in other = 0

-- how many are left then
left-then : (did : Polling) (old script new answers : ℕ) (now : ℕ) → new ≡ answers + answered_in did → answers + answered_in did ≤ script →
    now + (script - answers) ≡ old + (script - new) → left_behind did old ≡ now
left-then polling.Idle old script new answers now e f g = omega (arith, e, f, g)
left-then polling.Began old script new answers now e f g = omega (arith, e, f, g)
left-then polling.Waits old script new answers now e f g = omega (arith, e, f, g)
left-then polling.Answered old script new answers now e f g = omega (arith, e, f, g)

pub idle-there : {C T A E : Type 0} (begins : E) (scripts : List (List C)) (i : ℕ) (h : HandleState T A E) → slice_get (new_handles {C = C} begins scripts) i ≡ Some h → h ≡ idle_handle begins
idle-there begins [] i h e = absurd cc
idle-there begins (script ∷ scripts) zero h e = cc
idle-there begins (script ∷ scripts) (suc i) h e = idle-there begins scripts i h e

module _ {C T A E : Type 0} (speech : Speech C T A E) where
  -- Each script has its handle, which answered no more commands than there are, and the others are left.
  pub record Counted (scripts : List (List C)) (s : SessionState T A E) : Type 0 where
    pub many : length s.handles ≡ length scripts
    pub within : (i : ℕ) (script : List C) (h : HandleState T A E) → slice_get scripts i ≡ Some script → slice_get s.handles i ≡ Some h → length h.answers ≤ length script
    pub unanswered : s.unanswered ≡ left scripts s.handles

  -- a handle behind its turn
  record Grew (script : List C) (old new : HandleState T A E) (did : Polling) : Type 0 where
    more : length new.answers ≡ length old.answers + answered_in did
    room : length old.answers + answered_in did ≤ length script

  grew : (scripts : List (List C)) (turn : ℕ) (s t : SessionState T A E) (did : Polling) (made : HandleMade speech scripts turn s t did) → length made.old.answers ≤ length made.script →
      Grew made.script made.old made.new did
  grew scripts turn s t polling.Idle made le =
      let same : length made.new.answers ≡ length made.old.answers = ap (λ (h : HandleState T A E). length h.answers) made.turns.handle in
      record { more = omega (arith, same); room = omega (arith, le) }
  grew scripts turn s t polling.Began made le =
      let same : length made.new.answers ≡ length made.old.answers = ap (λ (h : HandleState T A E). length h.answers) made.turns.handle in
      record { more = omega (arith, same); room = omega (arith, le) }
  grew scripts turn s t polling.Waits made le =
      let same : length made.new.answers ≡ length made.old.answers = ap (λ (h : HandleState T A E). length h.answers) made.turns.handle in
      record { more = omega (arith, same); room = omega (arith, le) }
  grew scripts turn s t polling.Answered made le =
      let one = ap (λ (h : HandleState T A E). length h.answers) made.turns.handle ∙ one-more made.old.answers (speech.ends made.old.own made.turns.command made.turns.answer).answer in
      let lt = get-within made.script (length made.old.answers) made.turns.command made.turns.stands in
      record { more = omega (arith, one); room = omega (arith, lt) }

  counted-handle : (scripts : List (List C)) (turn : ℕ) (s t : SessionState T A E) (did : Polling) → HandleMade speech scripts turn s t did → Counted scripts s → Counted scripts t
  counted-handle scripts turn s t did made h = record {
    many = ap (λ (hs : List (HandleState T A E)). length hs) made.handles ∙ length-set s.handles turn made.new ∙ h.many;
    within = λ i script g e at. by i script g e (ap (λ (hs : List (HandleState T A E)). slice_get hs i) (sym made.handles) ∙ at) (cases_eq i turn);
    unanswered = made.unanswered
        ∙ left-then did s.unanswered (length made.script) (length made.new.answers) (length made.old.answers) (left scripts (set s.handles turn made.new)) now.more now.room
        (let was = left-set scripts s.handles turn made.script made.old made.new made.script_at made.old_at in let u = h.unanswered in omega (arith, was, u))
        ∙ ap (left scripts) (sym made.handles);
  }
    where
      now : Grew made.script made.old made.new did
      now = grew scripts turn s t did made (h.within turn made.script made.old made.script_at made.old_at)

      by : (i : ℕ) (script : List C) (g : HandleState T A E) → slice_get scripts i ≡ Some script → slice_get (set s.handles turn made.new) i ≡ Some g → (i ≡ turn) ⊎ (i ≡ turn → ⊥) →
          length g.answers ≤ length script
      by i script g e at (inl same) =
          let is : g ≡ made.new = set-here s.handles turn made.old made.new g made.old_at (ap (slice_get (set s.handles turn made.new)) (sym same) ∙ at) in
          let mine : made.script ≡ script = (let k : Some made.script ≡ Some script = sym made.script_at ∙ ap (slice_get scripts) (sym same) ∙ e in cc) in
          let answers : length g.answers ≡ length made.new.answers = ap (λ (x : HandleState T A E). length x.answers) is in
          let long : length made.script ≡ length script = ap (λ (x : List C). length x) mine in
          let more = now.more in
          let room = now.room in
          omega (arith, answers, long, more, room)
      by i script g e at (inr other) = h.within i script g e (sym (set-there s.handles turn i made.new other) ∙ at)

  pub counted-turn : (scripts : List (List C)) (turn : ℕ) (s t : SessionState T A E) (l m : LinkView) (over : Bool) → Makes speech scripts turn s t l m over → Counted scripts s → Counted scripts t
  counted-turn scripts turn s t l m over (inl handle) h = counted-handle scripts turn s t handle.did handle.made h
  counted-turn scripts turn s t l m over (inr connection) h =
      let made = connection.made in
      record {
        many = ap (λ (hs : List (HandleState T A E)). length hs) made.handles ∙ h.many;
        within = λ i script g e at. h.within i script g e (ap (λ (hs : List (HandleState T A E)). slice_get hs i) (sym made.handles) ∙ at);
        unanswered = made.unanswered ∙ h.unanswered ∙ ap (left scripts) (sym made.handles);
      }

  pub counted-turns : (scripts : List (List C)) (turns : List ℕ) (s : SessionState T A E) (l : LinkView) (t : SessionState T A E) (m : LinkView) → MakesAll speech scripts turns s l t m →
      Counted scripts s → Counted scripts t
  counted-turns scripts [] s l t m made h = subst (λ (x : SessionState T A E). Counted scripts x) (sym made.0) h
  counted-turns scripts (turn ∷ turns) s l t m (rested, mid, passed, rests, makes, more) h =
      counted-turns scripts turns mid passed t m more (counted-turn scripts turn s mid rested passed false makes h)

  pub counted-new : (scripts : List (List C)) (s : SessionState T A E) → IsNewSession speech scripts s → Counted scripts s
  counted-new scripts s h = record {
    many = ap (λ (hs : List (HandleState T A E)). length hs) h.handles ∙ length-map scripts (λ (script : List C). idle_handle speech.begins);
    within = λ i script g e at.
        let is : g ≡ idle_handle speech.begins = idle-there speech.begins scripts i g (ap (λ (hs : List (HandleState T A E)). slice_get hs i) (sym h.handles) ∙ at) in
        let none : length g.answers ≡ 0 = ap (λ (x : HandleState T A E). length x.answers) is in
        omega (arith, none);
    unanswered = h.unanswered ∙ sym (left-new T A speech.begins scripts) ∙ ap (left scripts) (sym h.handles);
  }
