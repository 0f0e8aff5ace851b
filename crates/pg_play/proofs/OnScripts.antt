-- Each handle is on its script, from its beginning on.
use Rattle.std.proofs.Common.{◌≡◌, ◌⊎◌, ℕ, zero, suc, inl, inr, List, [], ◌∷◌, length, map, Bool, Option, Some, None, IfSome, option_map, slice_get, slice_set, refl, sym, ap, subst, ◌∙◌}
use Rattle.pg_desk.specs.declared.event.Event.{Event}
use Rattle.pg_hub.specs.Fits.{HubBecomes}
use Rattle.pg_spec.specs.Links.{LinkView}
use Rattle.pg_spec.specs.declared.stamps.Stamp.{Stamp}
use Rattle.pg_session.specs.Handles.{idle_handle}
use Rattle.pg_session.specs.Sessions.{IsNewSession}
use Rattle.pg_session.specs.States.{new_handles}
use Rattle.pg_session.specs.Turns.{HandleTurns, Makes, untouched}
use Rattle.pg_session.specs.declared.handle_turn.Polling.{Polling}
use Rattle.pg_session.specs.declared.handle_turn.Polling.TheVariants as polling
use Rattle.pg_play.specs.declared.handle.Handle.{Handle}
use Rattle.pg_play.specs.Handles.{AreOnScripts, IsOnScript, view_of}
use Rattle.pg_session.specs.Speeches.{Speech}
use Rattle.pg_session.specs.States.{SessionState}
use Rattle.pg_session.specs.Handles.{HandleState}
use Rattle.pg_query.specs.Meaning.{Place}

module _ {S C T A O : Type 0} (speech : Speech C T A O) (stands : S → Place T) where
  -- ---- one handle

  never : {X : Type 0} (o : Option X) (x : X) → o ≡ Some x → o ≡ None → ⊥
  never o x some none = let no : Some x ≡ None = sym some ∙ none in cc

  -- its own turn
  own_turn : {D : Type 0} (becomes : D → List Event → D → Type 0) (script : List C) (stamp : Stamp) (a : D) (old : HandleState T A O) (b : D) (new : HandleState T A O) (did : Polling) →
      HandleTurns becomes speech script stamp a old b new did → IsOnScript script old → IsOnScript script new
  own_turn becomes script stamp a old b new polling.Idle turns on = subst (λ (h : HandleState T A O). IsOnScript script h) (sym turns.handle) on
  own_turn becomes script stamp a old b new polling.Began turns on = λ none.
      absurd (never (slice_get script (length old.answers)) turns.starts.next turns.starts.stands
      (sym (ap (λ (h : HandleState T A O). slice_get script (length h.answers)) turns.handle) ∙ none))
  own_turn becomes script stamp a old b new polling.Waits turns on = λ none.
      absurd (never old.running turns.from turns.starts (on (sym (ap (λ (h : HandleState T A O). slice_get script (length h.answers)) turns.handle) ∙ none)))
  own_turn becomes script stamp a old b new polling.Answered turns on = λ none. ap (λ (h : HandleState T A O). h.running) turns.handle

  -- ---- all of them

  -- what stands behind a write
  set_cases : {X : Type 0} (xs : List X) (i j : ℕ) (new x : X) → slice_get (slice_set xs i new) j ≡ Some x → ((j ≡ i) × (x ≡ new)) ⊎ (slice_get xs j ≡ Some x)
  set_cases [] i j new x e = inr e
  set_cases (y ∷ xs) zero zero new x e = let same : x ≡ new = cc in inl (refl, same)
  set_cases (y ∷ xs) zero (suc j) new x e = inr e
  set_cases (y ∷ xs) (suc i) zero new x e = inr e
  set_cases {X} (y ∷ xs) (suc i) (suc j) new x e = by (set_cases xs i j new x e)
    where
      by : ((j ≡ i) × (x ≡ new)) ⊎ (slice_get xs j ≡ Some x) → ((suc j ≡ suc i) × (x ≡ new)) ⊎ (slice_get xs j ≡ Some x)
      by (inl k) = inl (ap suc k.0, k.1)
      by (inr k) = inr k

  same_script : (scripts : List (List C)) (i j : ℕ) (a b : List C) → slice_get scripts i ≡ Some a → slice_get scripts j ≡ Some b → j ≡ i → a ≡ b
  same_script scripts i j a b at there same = let e : slice_get scripts i ≡ Some b = ap (slice_get scripts) (sym same) ∙ there in cc

  -- one of them made its turn
  set_on : (scripts : List (List C)) (handles : List (HandleState T A O)) (turn : ℕ) (script : List C) (new : HandleState T A O) → slice_get scripts turn ≡ Some script → IsOnScript script new →
      AreOnScripts scripts handles → AreOnScripts scripts (slice_set handles turn new)
  set_on scripts handles turn script new script_at on all place other h at is = by (set_cases handles turn place new h is)
    where
      by : ((place ≡ turn) × (h ≡ new)) ⊎ (slice_get handles place ≡ Some h) → IsOnScript other h
      by (inl k) =
          subst (λ (s : List C). IsOnScript s h) (same_script scripts turn place script other script_at at k.0)
          (subst (λ (x : HandleState T A O). IsOnScript script x) (sym k.1) on)
      by (inr there) = all place other h at there

  -- the next turn of a session
  pub next_on : (scripts : List (List C)) (turn : ℕ) (s t : SessionState T A O) (l m : LinkView) (over : Bool) → Makes speech scripts turn s t l m over → AreOnScripts scripts s.handles → AreOnScripts scripts t.handles
  next_on scripts turn s t l m over (inl handle) on =
      let made = handle.made in
      subst (λ (hs : List (HandleState T A O)). AreOnScripts scripts hs) (sym made.handles)
      (set_on scripts s.handles turn made.script made.new made.script_at
      (own_turn HubBecomes made.script (record { owner = turn; command = length made.old.answers; turn = length s.trace }) (untouched s.hub) made.old made.hub made.new handle.did made.turns
      (on turn made.script made.old made.script_at made.old_at)) on)
  next_on scripts turn s t l m over (inr connection) on = subst (λ (hs : List (HandleState T A O)). AreOnScripts scripts hs) (sym connection.made.handles) on

  -- before the first turn none runs
  idle_at : (scripts : List (List C)) (place : ℕ) (h : HandleState T A O) → slice_get (new_handles speech.begins scripts) place ≡ Some h → h.running ≡ None
  idle_at [] place h e = absurd cc
  idle_at (script ∷ scripts) zero h e = let same : idle_handle speech.begins ≡ h = cc in ap (λ (x : HandleState T A O). x.running) (sym same)
  idle_at (script ∷ scripts) (suc place) h e = idle_at scripts place h e

  pub new_on : (scripts : List (List C)) (s : SessionState T A O) → IsNewSession speech scripts s → AreOnScripts scripts s.handles
  new_on scripts s new place script h at is none = idle_at scripts place h (sym (ap (λ (hs : List (HandleState T A O)). slice_get hs place) new.handles) ∙ is)

  -- ---- the handle at a place

  some_map : (handles : List (Handle S A O)) (place : ℕ) (o : Option (Handle S A O)) → slice_get handles place ≡ o → slice_get (map (view_of stands) handles) place ≡ option_map (view_of stands) o
  some_map [] place o e = ap (option_map (view_of stands)) e
  some_map (h ∷ handles) zero o e = ap (option_map (view_of stands)) e
  some_map (h ∷ handles) (suc place) o e = some_map handles place o e

  -- it is on its script
  pub on_at : (scripts : List (List C)) (script : List C) (handles olds : List (Handle S A O)) (place : ℕ) → olds ≡ handles → slice_get scripts place ≡ Some script → AreOnScripts scripts (map (view_of stands) handles) →
      IfSome (slice_get olds place) (λ handle. IsOnScript script (view_of stands handle))
  on_at scripts script handles olds place same at on = by (slice_get olds place) (ap (λ (hs : List (Handle S A O)). slice_get hs place) (sym same))
    where
      by : (o : Option (Handle S A O)) → slice_get handles place ≡ o → IfSome o (λ handle. IsOnScript script (view_of stands handle))
      by None is = tt
      by (Some handle) is = on place script (view_of stands handle) at (some_map handles place (Some handle) is)

  -- told of what stands there
  pub on_there : (script : List C) (handles : List (Handle S A O)) (place : ℕ) (handle : Handle S A O) → slice_get handles place ≡ Some handle → IfSome (slice_get handles place) (λ h. IsOnScript script (view_of stands h)) →
      IsOnScript script (view_of stands handle)
  on_there script handles place handle is on = subst (λ (o : Option (Handle S A O)). IfSome o (λ h. IsOnScript script (view_of stands h))) is on
