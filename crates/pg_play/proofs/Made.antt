-- A turn of a handle, step by step.
use Rattle.std.proofs.Common.{◌≡◌, ◌≤◌, ◌<◌, ℕ, suc, inl, inr, List, take, None, option_map, arith, [], ◌∷◌, ◌++◌, length, map, Bool, Option, Some, IfOk, OnOk, Result, Ok, Err, slice_get, slice_set, refl, sym, ◌∙◌, ap, subst}
use Rattle.std.proofs.Math.Seq.{take-append_seam}
use Rattle.std.specs.List.{All}
use Rattle.pg_types.specs.declared.error.Error.{Error}
use Rattle.pg_hub.specs.Fits.{HubBecomes}
use Rattle.pg_hub.specs.Standing.{Standing}
use Rattle.pg_session.specs.Turns.{HandleTurns}
use Rattle.pg_connect.specs.Answers.{PollAnswers}
use Rattle.pg_spec.specs.Links.{LinkView}
use Rattle.pg_session.specs.Turns.{ClosesBehind, ConnectionTurn, HandsOn, Turns, left_behind, moved_by, moved_in_poll, untouched}
use Rattle.pg_session.specs.declared.handle_turn.Polling.{Polling}
use Rattle.pg_play.specs.declared.handle.Handle.{Handle}
use Rattle.pg_play.specs.declared.play.Play.{Play}
use Rattle.pg_session.specs.States.{new_handles}
use Rattle.pg_session.specs.Handles.{idle_handle}
use Rattle.pg_play.specs.Handles.{IsIdleHandle, OneTurned, view_of}
use Rattle.pg_play.specs.Plays.{ConnectionPolled, HandlePolled, is_over, state_of}
use Rattle.pg_session.specs.Speeches.{Speech}
use Rattle.pg_session.specs.States.{SessionState}
use Rattle.pg_query.specs.Meaning.{Place}

module _ {S C T A O : Type 0} (speech : Speech C T A O) (stands : S → Place T) where
  -- a slice that is written back whole
  pub written_back : {X : Type 0} (n : ℕ) (xs ys : List X) → n ≡ length xs → take n (xs ++ ys) ≡ xs
  written_back n xs ys is = ap (λ k. take k (xs ++ ys)) is ∙ take-append_seam xs ys

  -- handles that have begun no command
  pub idle_views : (handles : List (Handle S A O)) (scripts : List (List C)) → length handles ≡ length scripts → All (IsIdleHandle speech.begins) handles → map (view_of stands) handles ≡ new_handles speech.begins scripts
  idle_views [] [] count idle = refl
  idle_views [] (script ∷ scripts) count idle = absurd (omega (arith, count))
  idle_views (h ∷ hs) [] count idle = absurd (omega (arith, count))
  idle_views (h ∷ hs) (script ∷ scripts) count idle =
      let first : IsIdleHandle speech.begins h = idle 0 h (omega arith) in
      let views : view_of stands h ≡ idle_handle speech.begins =
      ap (λ r. record { running = option_map stands r; answers = h.answers.items; own = h.slots }) first.running
      ∙ ap (λ items. record { running = None; answers = items; own = h.slots }) first.answers
      ∙ ap (λ slots. record { running = None; answers = []; own = slots }) first.slots in
      ap (λ v. v ∷ map (view_of stands) hs) views
      ∙ ap (λ vs. idle_handle speech.begins ∷ vs) (idle_views hs scripts (omega (arith, count)) (λ k d within. idle (suc k) d (omega (arith, within))))

  -- the handle was polled, requests were closed behind it, and the turn was noted
  pub handle_made : {E : Type 0} (scripts : List (List C)) (turn turns : ℕ) (p q u : Play S A O) (script : List C) (first hub : Standing) (olds news : List (Handle S A O)) (did : Polling) (r : Result (Option Bool) E) →
      slice_get scripts turn ≡ Some script → turns ≡ length p.trace.items → first ≡ untouched p.hub → olds ≡ p.handles.items →
      OneTurned HubBecomes speech script (λ old. record { owner = turn; command = length old.answers; turn = turns }) turn
      first (map (view_of stands) olds) hub (map (view_of stands) news) did →
      ClosesBehind did p.unanswered hub q.hub → q.handles.items ≡ news → q.streams ≡ p.streams → q.unanswered ≡ left_behind did p.unanswered →
      q.asynchronous ≡ p.asynchronous → q.trace ≡ p.trace → u ≡ record q { trace = u.trace } → (moved : Bool) → moved ≡ moved_by did hub →
      IfOk r (λ passed. passed ≡ Some moved) →
      OnOk r (u.trace.items ≡ q.trace.items ++ record { turn = turn; delivered = q.streams.delivered } ∷ []) →
      IfOk r (HandlePolled speech scripts turn (state_of stands p) (state_of stands u))
  handle_made scripts turn turns p q u script first hub olds news did (Err e) at count touched old turned closes handles streams unanswered asynchronous trace same moved says passes marks = tt
  handle_made scripts turn turns p q u script first hub olds news did (Ok passed) at count touched old turned closes handles streams unanswered asynchronous trace same moved says passes marks = record {
    did = did;
    says = passes ∙ ap (λ m. Some m) says;
    made = record {
      script = script;
      script_at = at;
      old = turned.old;
      old_at = subst (λ hs. slice_get (map (view_of stands) hs) turn ≡ Some turned.old) old turned.old_at;
      new = turned.new;
      hub = hub;
      turns = subst (λ n. HandleTurns HubBecomes speech script (record { owner = turn; command = length turned.old.answers; turn = n }) (untouched p.hub) turned.old hub turned.new did) count
          (subst (λ h. HandleTurns HubBecomes speech script (record { owner = turn; command = length turned.old.answers; turn = turns }) h turned.old hub turned.new did) touched turned.turns);
      closes = subst (λ h. ClosesBehind did p.unanswered hub h) (sym (ap (λ (x : Play S A O). x.hub) same)) closes;
      handles = ap (λ (x : Play S A O). map (view_of stands) x.handles.items) same ∙ ap (map (view_of stands)) handles ∙ turned.handles ∙ ap (λ hs. slice_set (map (view_of stands) hs) turn turned.new) old;
      unanswered = ap (λ (x : Play S A O). x.unanswered) same ∙ unanswered;
      streams = ap (λ (x : Play S A O). x.streams) same ∙ streams;
      asynchronous = ap (λ (x : Play S A O). x.asynchronous.items) same ∙ ap (λ x. x.items) asynchronous;
      trace = marks ∙ ap (λ t. t.items ++ record { turn = turn; delivered = q.streams.delivered } ∷ []) trace
          ∙ ap (λ s. p.trace.items ++ record { turn = turn; delivered = s.delivered } ∷ []) streams;
    };
  }

  -- the answers of handles
  pub answers_view : (handles : List (Handle S A O)) → map (λ h. h.answers.items) handles ≡ map (λ h. h.answers) (map (view_of stands) handles)
  answers_view [] = refl
  answers_view (h ∷ hs) = ap (λ rest. h.answers.items ∷ rest) (answers_view hs)

  some_is : (x y : Bool) → Some x ≡ Some y → y ≡ x
  some_is x y e = cc

  -- what holds of what was made holds of what is told of it
  pub noted_so : {A E F : Type 0} (P : A → Type 0) (made : Result A E) (r : Result A F) → IfOk r (λ x. made ≡ Ok x) → IfOk made P → IfOk r P
  noted_so P made (Err e) is so = tt
  noted_so P made (Ok x) is so = subst (λ m. IfOk m P) is so

  pub noted_on : {A E F : Type 0} (P : Type 0) (made : Result A E) (r : Result A F) → IfOk r (λ x. made ≡ Ok x) → OnOk made P → OnOk r P
  noted_on P made (Err e) is so = tt
  noted_on P made (Ok x) is so = subst (λ m. OnOk m P) is so

  -- a handle's turn, by what it answers
  pub handle_turns : (scripts : List (List C)) (turn : ℕ) (s t : SessionState T A O) (l : LinkView) (r : Result (Option Bool) Error) → turn < length scripts →
      IfOk r (HandlePolled speech scripts turn s t) → IfOk r (Turns speech scripts turn s t l l)
  handle_turns scripts turn s t l (Err e) own polled = tt
  handle_turns scripts turn s t l (Ok None) own polled = absurd (let no : None ≡ Some (moved_by polled.did polled.made.hub) = polled.says in cc)
  handle_turns scripts turn s t l (Ok (Some moved)) own polled = (
    inl (record { own = own; did = polled.did; made = polled.made; link = refl; goes_on = refl }),
    some_is moved (moved_by polled.did polled.made.hub) polled.says,
  )

  abbrev made_so : (scripts : List (List C)) (turn : ℕ) (p q u : Play S A O) (l m : LinkView) (moved : Option Bool) → length scripts ≤ turn →
      ConnectionPolled (state_of stands p) (state_of stands q) l m moved → u ≡ record q { trace = u.trace } →
      u.trace.items ≡ q.trace.items ++ record { turn = turn; delivered = q.streams.delivered } ∷ [] → ConnectionTurn scripts turn (state_of stands p) (state_of stands u) l m (is_over moved)
  made_so scripts turn p q u l m moved other polled same marks = record {
    other = other;
    made = record {
      answer = polled.answer;
      polled = subst (λ (x : Play S A O). PollAnswers HubBecomes p.hub x.hub p.streams x.streams l m polled.answer) (sym same) polled.polled;
      misses = polled.misses;
      hands = subst (λ (x : Play S A O). HandsOn polled.answer p.asynchronous.items x.asynchronous.items (is_over moved)) (sym same) polled.hands;
      handles = ap (λ (x : Play S A O). map (view_of stands) x.handles.items) same ∙ polled.handles;
      unanswered = ap (λ (x : Play S A O). x.unanswered) same ∙ polled.unanswered;
      trace = marks ∙ ap (λ t. t ++ record { turn = turn; delivered = q.streams.delivered } ∷ []) polled.trace
          ∙ ap (λ (x : Play S A O). p.trace.items ++ record { turn = turn; delivered = x.streams.delivered } ∷ []) (sym same);
    };
  }

  turns_so : (scripts : List (List C)) (turn : ℕ) (p q u : Play S A O) (l m : LinkView) (moved : Option Bool) → length scripts ≤ turn →
      ConnectionPolled (state_of stands p) (state_of stands q) l m moved → u ≡ record q { trace = u.trace } →
      u.trace.items ≡ q.trace.items ++ record { turn = turn; delivered = q.streams.delivered } ∷ [] → Turns speech scripts turn (state_of stands p) (state_of stands u) l m moved
  turns_so scripts turn p q u l m None other polled same marks = inr (made_so scripts turn p q u l m None other polled same marks)
  turns_so scripts turn p q u l m (Some moved) other polled same marks = (
    inr (made_so scripts turn p q u l m (Some moved) other polled same marks),
    ap (λ (x : Play S A O). moved_in_poll polled.answer x.streams) same ∙ polled.says,
  )

  -- the connection's turn, by what it answers
  pub connection_turns : (scripts : List (List C)) (turn : ℕ) (p q u : Play S A O) (l m : LinkView) (moved : Option Bool) (r : Result (Option Bool) Error) → length scripts ≤ turn →
      ConnectionPolled (state_of stands p) (state_of stands q) l m moved → u ≡ record q { trace = u.trace } → IfOk r (λ passed. passed ≡ moved) →
      OnOk r (u.trace.items ≡ q.trace.items ++ record { turn = turn; delivered = q.streams.delivered } ∷ []) → IfOk r (Turns speech scripts turn (state_of stands p) (state_of stands u) l m)
  connection_turns scripts turn p q u l m moved (Err e) other polled same passes marks = tt
  connection_turns scripts turn p q u l m moved (Ok passed) other polled same passes marks =
      subst (λ x. Turns speech scripts turn (state_of stands p) (state_of stands u) l m x) (sym passes) (turns_so scripts turn p q u l m moved other polled same marks)
