-- A session goes on, and each turn and round leaves less to do where something moved.
use Rattle.std.proofs.Common.{◌≡◌, ◌≤◌, ◌||◌, ℕ, Bool, true, false, List, Option, Some, None, Result, Ok, Err, IfOk, OnOk, inl, inr, refl, sym, ap, subst, ◌∙◌}
use Rattle.std.specs.Prelude.{IfSome, is_some}
use Rattle.futures.specs.declared.task.Poll.{Poll}
use Rattle.futures.specs.declared.task.Poll.TheVariants.{Ready, Pending}
use Rattle.pg_spec.specs.Links.{LinkView}
use Rattle.pg_connect.specs.Answers.{IsWithinPoll, PollAnswers}
use Rattle.pg_connect.specs.declared.streams.Streams.{Streams}
use Rattle.pg_errors.specs.declared.async_message.AsyncMessage.{AsyncMessage}
use Rattle.pg_types.specs.declared.error.Error.{Error}
use Rattle.pg_hub.specs.Fits.{HubBecomes}
use Rattle.pg_hub.specs.Standing.{Standing}
use Rattle.pg_session.specs.Measure.{IsNearer}
use Rattle.pg_session.specs.Turns.{HandsOn, Makes, Turns}
use Rattle.pg_session.proofs.Nearer.{answered-nearer, nearer-so}
use Rattle.pg_session.proofs.Nearer.Puts.{whole-put-none}
use Rattle.pg_play.specs.declared.play.Play.{Play}
use Rattle.pg_play.proofs.OnScripts.{next_on}
use Rattle.pg_play.specs.Plays.{ConnectionPolled, HandlePolled, IsGoing, IsLimited, Leaves, is_over, state_of}
use Rattle.pg_session.specs.Speeches.{Speech}
use Rattle.pg_session.specs.States.{SessionState}
use Rattle.pg_query.specs.Meaning.{Place}
use Rattle.pg_session.specs.Speeches.{BookWhole}

module _ {S C T A O : Type 0} (speech : Speech C T A O) (stands : S → Place T) (whole : BookWhole speech) where
  first_false : (a b : Bool) → (a || b) ≡ false → a ≡ false
  first_false true b e = absurd cc
  first_false false b e = refl

  -- a poll behind which the connection isn't over left it open
  left_so : (a b : Standing) (old new : Streams) (l m : LinkView) (answer : Poll (Option (Result AsyncMessage Error))) (was now : List AsyncMessage) →
      PollAnswers HubBecomes a b old new l m answer → HandsOn answer was now false → new.ended ≡ false
  left_so a b old new l m Pending was now p hands = first_false new.ended new.at_end (first_false _ (is_some new.unread) p.stands)
  left_so a b old new l m (Ready None) was now p hands = absurd (let no : false ≡ true = hands.1 in cc)
  left_so a b old new l m (Ready (Some (Ok message))) was now p hands = first_false new.ended new.at_end (first_false _ (is_some new.unread) p.stands)
  left_so a b old new l m (Ready (Some (Err e))) was now p hands = absurd hands

  -- the link gave no more than it may, up to the end of a turn that ends nothing
  within_so : (scripts : List (List C)) (turn : ℕ) (s t : SessionState T A O) (l m : LinkView) → Makes speech scripts turn s t l m false → s.streams.given ≤ s.streams.max_bytes →
      (t.streams.ended ≡ false → t.streams.given ≤ t.streams.max_bytes) → t.streams.given ≤ t.streams.max_bytes
  within_so scripts turn s t l m (inl handle) was open_ = subst (λ (x : Streams). x.given ≤ x.max_bytes) (sym handle.made.streams) was
  within_so scripts turn s t l m (inr connection) was open_ =
      let made = connection.made in open_ (left_so s.hub t.hub s.streams t.streams l m made.answer s.asynchronous t.asynchronous made.polled made.hands)

  -- the session goes on, and less is left to do where something moved
  pub record GoesOn (scripts : List (List C)) (p u : Play S A O) (moved : Bool) : Type 0 where
    pub going : IsGoing stands scripts u
    pub nearer : IsNearer scripts moved (state_of stands p) (state_of stands u)

  goes_so : (scripts : List (List C)) (turn : ℕ) (p u : Play S A O) (l m : LinkView) (moved : Option Bool) → IsGoing stands scripts p →
      (u.streams.ended ≡ false → u.streams.given ≤ u.streams.max_bytes) → Turns speech scripts turn (state_of stands p) (state_of stands u) l m moved → IfSome moved (GoesOn scripts p u)
  goes_so scripts turn p u l m None going within turns = tt
  goes_so scripts turn p u l m (Some moved) going within turns =
      let limited = within_so scripts turn (state_of stands p) (state_of stands u) l m turns.0 going.within within in
      let so = answered-nearer speech (whole-put-none speech whole) scripts turn (state_of stands p) (state_of stands u) l m moved turns going.under_way limited in
      record {
        going = record { under_way = so.under_way; on_scripts = next_on speech stands scripts turn (state_of stands p) (state_of stands u) l m false turns.0 going.on_scripts; within = limited };
        nearer = nearer-so scripts moved (state_of stands p) (state_of stands u) so.falls;
      }

  -- the same by what the turn answered
  pub turn_goes : (scripts : List (List C)) (turn : ℕ) (p u : Play S A O) (l m : LinkView) (r : Result (Option Bool) Error) → IsGoing stands scripts p →
      (u.streams.ended ≡ false → u.streams.given ≤ u.streams.max_bytes) → IfOk r (Turns speech scripts turn (state_of stands p) (state_of stands u) l m) → IfOk r (λ moved. IfSome moved (GoesOn scripts p u))
  turn_goes scripts turn p u l m (Err e) going within turns = tt
  turn_goes scripts turn p u l m (Ok moved) going within turns = goes_so scripts turn p u l m moved going within turns

  -- ---- the limit

  -- a poll that didn't fail gave no more than it may
  kept_so : (a b : Standing) (old new : Streams) (l m : LinkView) (answer : Poll (Option (Result AsyncMessage Error))) (was now : List AsyncMessage) (over : Bool) →
      PollAnswers HubBecomes a b old new l m answer → HandsOn answer was now over → (old.ended ≡ false → IsWithinPoll new answer) → new.given ≤ new.max_bytes
  kept_so a b old new l m Pending was now over p hands kept = kept (first_false old.ended old.at_end (first_false _ (is_some old.unread) p.was_open))
  kept_so a b old new l m (Ready None) was now over p hands kept = kept (first_false old.ended old.at_end (first_false _ (is_some old.unread) p.was_open))
  kept_so a b old new l m (Ready (Some (Ok message))) was now over p hands kept = kept (first_false old.ended old.at_end (first_false _ (is_some old.unread) p.was_open))
  kept_so a b old new l m (Ready (Some (Err e))) was now over p hands kept = absurd hands

  -- a connection's turn
  pub connection_limited : (p q u : Play S A O) (l m : LinkView) (moved : Option Bool) (r : Result (Option Bool) Error) → ConnectionPolled (state_of stands p) (state_of stands q) l m moved →
      q.streams.max_bytes ≡ p.streams.max_bytes → u ≡ record q { trace = u.trace } → IfOk r (λ x. IsLimited p u)
  connection_limited p q u l m moved (Err e) polled limit same = tt
  connection_limited p q u l m moved (Ok x) polled limit same =
      subst (λ (y : Play S A O). IsLimited p y) (sym same)
      (kept_so p.hub q.hub p.streams q.streams l m polled.answer p.asynchronous.items q.asynchronous.items (is_over moved) polled.polled polled.hands polled.kept, limit)

  handle_so : (scripts : List (List C)) (turn : ℕ) (p u : Play S A O) (moved : Option Bool) → IsGoing stands scripts p → HandlePolled speech scripts turn (state_of stands p) (state_of stands u) moved → IsLimited p u
  handle_so scripts turn p u moved going polled =
      (subst (λ (x : Streams). x.given ≤ x.max_bytes) (sym polled.made.streams) going.within, ap (λ (x : Streams). x.max_bytes) polled.made.streams)

  -- a handle's turn
  pub handle_limited : (scripts : List (List C)) (turn : ℕ) (p u : Play S A O) (r : Result (Option Bool) Error) → IsGoing stands scripts p → IfOk r (HandlePolled speech scripts turn (state_of stands p) (state_of stands u)) →
      IfOk r (λ x. IsLimited p u)
  handle_limited scripts turn p u (Err e) going polled = tt
  handle_limited scripts turn p u (Ok moved) going polled = handle_so scripts turn p u moved going polled

  -- behind others under the same limit
  pub limited_then : (p q u : Play S A O) (r : Result (Unit {0}) Error) → q.streams.max_bytes ≡ p.streams.max_bytes → OnOk r (IsLimited q u) → OnOk r (IsLimited p u)
  limited_then p q u (Err e) same limited = tt
  limited_then p q u (Ok x) same limited = (limited.0, limited.1 ∙ same)

  -- ---- what is left

  pub leaves_of : (scripts : List (List C)) (p u : Play S A O) (r : Result (Option Bool) Error) → IfOk r (λ x. IsLimited p u) →
      IfOk r (λ moved. IfSome moved (GoesOn scripts p u)) → IfOk r (Leaves stands scripts p u)
  leaves_of scripts p u (Err e) limited goes = tt
  leaves_of scripts p u (Ok None) limited goes = record { limited = limited; going = tt; nearer = tt }
  leaves_of scripts p u (Ok (Some moved)) limited goes = record { limited = limited; going = goes.going; nearer = goes.nearer }
