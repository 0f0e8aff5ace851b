-- Every turn of a session carries on what passed.
use Rattle.std.proofs.Common.{◌≡◌, inl, inr, ℕ, zero, suc, ◌-◌, List, [], ◌∷◌, ◌++◌, map, Bool, true, false, Option, Some, None, Result, Ok, Err, refl, sym, ap, subst, ◌∙◌, append-nil}
use Rattle.std.proofs.lemmas.List.{map-append}
use Rattle.futures.specs.declared.task.Poll.{Poll}
use Rattle.futures.specs.declared.task.Poll.TheVariants.{Ready, Pending}
use Rattle.pg_spec.specs.Links.{LinkView}
use Rattle.pg_spec.specs.RawMessages.{RawMessage}
use Rattle.pg_spec.specs.Report as said
use Rattle.pg_errors.specs.declared.async_message.AsyncMessage.{AsyncMessage}
use Rattle.pg_types.specs.declared.error.Error.{Error}
use Rattle.pg_errors.specs.Views.{async_of as aside_of}
use Rattle.pg_spec.specs.declared.stamps.Stamp.{Stamp}
use Rattle.pg_desk.specs.declared.event.Out.TheVariants as out
use Rattle.pg_desk.specs.declared.event.Deliver.TheVariants as delivering
use Rattle.pg_desk.specs.declared.event.Event.{Event}
use Rattle.pg_desk.specs.declared.event.Event.TheVariants.{NextOut, Deliver as DeliverEvent, CloseRequests}
use Rattle.pg_hub.specs.Standing.{Standing}
use Rattle.pg_hub.specs.Fits.{Fits, HubBecomes}
use Rattle.pg_hub.specs.Becomes.{fits-touched}
use Rattle.pg_connect.specs.declared.streams.Streams.{Streams}
use Rattle.pg_connect.specs.Answers.{PollAnswers}
use Rattle.pg_connect.specs.Passed.{delivered_in, delivered_by, bytes_out_in, bytes_out_by}
use Rattle.pg_connect.specs.Reads.{Carries}
use Rattle.pg_query.proofs.Questions.{told-asks}
use Rattle.pg_query.specs.Dialogue.{Dialogue, Answer, Ask, Send, Leave, Read, Put, Finish, Close, HangUp, Call, Hear, Steps, Walks}
use Rattle.pg_query.specs.Meaning.{Place}
use Rattle.pg_query.specs.Meaning as meaning
use Rattle.pg_session.specs.declared.handle_turn.Polling.{Polling}
use Rattle.pg_session.specs.declared.handle_turn.Polling.TheVariants as polling
use Rattle.pg_session.specs.Turns.{HandleTurns}
use Rattle.pg_session.specs.Sessions.{MakesAll}
use Rattle.pg_session.specs.Handles.{HandleState}
use Rattle.pg_session.specs.States.{SessionState}
use Rattle.pg_session.specs.Turns.{untouched, Closes, ClosesBehind, HandsOn, Makes}
use Rattle.pg_session.proofs.Crossing.Hub.{by_kind}
use Rattle.pg_session.proofs.Crossing.{Moves, moves-by, Quiet, shown, Stood, stood-quiet, stood-rests, Passing, stood-passing}
use Rattle.pg_session.specs.Speeches.{Speech}

-- ---- a dialogue delivers nothing and lets nothing out

never_out : {T : Type 0} (stamp : Stamp) (d : Dialogue T) (id : ℕ) (part : List ℕ) (d' : Dialogue T) (id' : ℕ) →
    Steps stamp d id (NextOut (Ok (out.Part part))) d' id' → ⊥
never_out stamp (Answer r) id part d' id' h = h
never_out stamp (Ask copying p d) id part d' id' h = h
never_out stamp (Send p refused d) id part d' id' h = h
never_out stamp (Put cleanup p d) id part d' id' h = h
never_out stamp (Finish p d) id part d' id' h = h
never_out stamp (Close p d) id part d' id' h = h
never_out stamp (Leave sent d) id part d' id' h = h
never_out stamp (Read cleanup decides next) id part d' id' h = h
never_out stamp (HangUp d) id part d' id' h = h
never_out stamp (Call q refused next) id part d' id' h = told-asks q (NextOut (Ok (out.Part part))) h.0 h.1
never_out stamp (Hear next) id part d' id' h = h

never_in : {T : Type 0} (stamp : Stamp) (d : Dialogue T) (id : ℕ) (batch : List RawMessage) (complete : Bool) (d' : Dialogue T) (id' : ℕ) →
    Steps stamp d id (DeliverEvent batch complete delivering.Taken) d' id' → ⊥
never_in stamp (Answer r) id batch complete d' id' h = h
never_in stamp (Ask copying p d) id batch complete d' id' h = h
never_in stamp (Send p refused d) id batch complete d' id' h = h
never_in stamp (Put cleanup p d) id batch complete d' id' h = h
never_in stamp (Finish p d) id batch complete d' id' h = h
never_in stamp (Close p d) id batch complete d' id' h = h
never_in stamp (Leave sent d) id batch complete d' id' h = h
never_in stamp (Read cleanup decides next) id batch complete d' id' h = h
never_in stamp (HangUp d) id batch complete d' id' h = h
never_in stamp (Call q refused next) id batch complete d' id' h = told-asks q (DeliverEvent batch complete delivering.Taken) h.0 h.1
never_in stamp (Hear next) id batch complete d' id' h = h

-- the same of one event
record QuietOne (e : Event) : Type 0 where
  none_in : delivered_in e ≡ []
  none_out : bytes_out_in e ≡ []

quiet-one : {T : Type 0} (stamp : Stamp) (d : Dialogue T) (id : ℕ) (e : Event) (d' : Dialogue T) (id' : ℕ) → Steps stamp d id e d' id' → QuietOne e
quiet-one stamp d id e d' id' = by_kind (λ e. Steps stamp d id e d' id' → QuietOne e)
    (λ stamp' part copying new h. record { none_in = refl; none_out = refl })
    (λ part h. absurd (never_out stamp d id part d' id' h))
    (λ batch complete h. absurd (never_in stamp d id batch complete d' id' h))
    (λ h. record { none_in = refl; none_out = refl })
    (λ which part h. record { none_in = refl; none_out = refl })
    (λ which part h. record { none_in = refl; none_out = refl })
    (λ e plain h. record { none_in = plain.none_in; none_out = plain.none_out })
    e

both-none : {A : Type 0} (xs ys : List A) → xs ≡ [] → ys ≡ [] → xs ++ ys ≡ []
both-none {A} xs ys p q = ap (λ (l : List A). l ++ ys) p ∙ q

pub quiet-walk : {T : Type 0} (stamp : Stamp) (d : Dialogue T) (id : ℕ) (es : List Event) (d' : Dialogue T) (id' : ℕ) → Walks stamp d id es d' id' → Quiet es
quiet-walk stamp d id [] d' id' h = record { none_in = refl; none_out = refl }
quiet-walk stamp d id (e ∷ es) d' id' h =
    let one = quiet-one stamp d id e h.0 h.1 h.2 in
    let rest = quiet-walk stamp h.0 h.1 es d' id' h.3 in
    record {
      none_in = both-none (delivered_in e) (delivered_by es) one.none_in rest.none_in;
      none_out = both-none (bytes_out_in e) (bytes_out_by es) one.none_out rest.none_out;
    }

-- ---- a turn of a handle

-- The hub went on by events that delivered nothing and let nothing out.
pub record GoesQuietly (a b : Standing) : Type 0 where
  pub events : List Event
  pub moves : Moves a events b
  pub quiet : Quiet events

none-quiet : Quiet []
none-quiet = record { none_in = refl; none_out = refl }

same-hub : (a b : Standing) → b ≡ a → GoesQuietly a b
same-hub a b same = record { events = []; moves = λ s f. (tt, subst (λ (x : Standing). Fits s x) (sym same) f); quiet = none-quiet }

untouched-hub : (a b : Standing) → b ≡ untouched a → GoesQuietly a b
untouched-hub a b same = record {
  events = [];
  moves = λ s f. (tt, subst (λ (x : Standing). Fits s x) (sym same) (fits-touched s a false f));
  quiet = none-quiet;
}

walked : {T : Type 0} (stamp : Stamp) (a b : Standing) (p q : Place T) → meaning.Goes HubBecomes stamp (untouched a) p b q → GoesQuietly a b
walked stamp a b p q goes = record {
  events = goes.events;
  moves = λ s f. moves-by (untouched a) b goes.events goes.became s (fits-touched s a false f);
  quiet = quiet-walk stamp p.dialogue p.reads goes.events q.dialogue q.reads goes.walked;
}

pub closes-goes : (left : ℕ) (a b : Standing) → Closes left a b → GoesQuietly a b
closes-goes zero a b h = record { events = CloseRequests (Ok tt) ∷ []; moves = moves-by a b _ h; quiet = record { none_in = refl; none_out = refl } }
closes-goes (suc left) a b h = same-hub a b h

behind-goes : (did : Polling) (left : ℕ) (a b : Standing) → ClosesBehind did left a b → GoesQuietly a b
behind-goes polling.Idle left a b h = same-hub a b h
behind-goes polling.Began left a b h = same-hub a b h
behind-goes polling.Waits left a b h = untouched-hub a b h
behind-goes polling.Answered left a b h = closes-goes (left - 1) a b h

-- ---- a turn of the connection

by-append : (old new : List AsyncMessage) (message : AsyncMessage) (handed : List RawMessage) → new ≡ old ++ message ∷ [] → Carries handed message →
    shown new ≡ shown old ++ map said.async_of_raw handed
by-append old new message handed is carries =
    ap shown is ∙ map-append (λ m. Some (aside_of m)) old (message ∷ [])
    ∙ ap (λ (x : Option said.AsyncMessage). shown old ++ x ∷ []) (sym carries.means)
    ∙ ap (λ (x : List RawMessage). shown old ++ map said.async_of_raw x) (sym carries.alone)

by-none : (old new : List AsyncMessage) (handed : List RawMessage) → new ≡ old → handed ≡ [] → shown new ≡ shown old ++ map said.async_of_raw handed
by-none old new handed same none =
    ap shown same ∙ sym (append-nil (shown old)) ∙ ap (λ (x : List RawMessage). shown old ++ map said.async_of_raw x) (sym none)

pub passing : (a b : Standing) (s t : Streams) (l m : LinkView) (old new : List AsyncMessage) (over : Bool) (answer : Poll (Option (Result AsyncMessage Error))) →
    PollAnswers HubBecomes a b s t l m answer → HandsOn answer old new over → Passing a b s t old new l m
passing a b s t l m old new over Pending h hands = record {
  events = h.turns.goes.events;
  handed = h.turns.handed;
  moves = moves-by a b h.turns.goes.events h.turns.goes.became;
  passes = h.turns.goes.passes;
  began = h.turns.goes.ended.began;
  still = h.turns.goes.ended.still;
  shows = by-none old new h.turns.handed hands.0 h.turns.which;
}
passing a b s t l m old new over (Ready None) h hands = record {
  events = h.turns.goes.events;
  handed = h.turns.handed;
  moves = moves-by a b h.turns.goes.events h.turns.goes.became;
  passes = h.turns.goes.passes;
  began = h.turns.goes.ended.began;
  still = h.turns.goes.ended.still;
  shows = by-none old new h.turns.handed hands.0 h.turns.which;
}
passing a b s t l m old new over (Ready (Some (Ok message))) h hands = record {
  events = h.turns.goes.events;
  handed = h.turns.handed;
  moves = moves-by a b h.turns.goes.events h.turns.goes.became;
  passes = h.turns.goes.passes;
  began = λ c. absurd (let no : true ≡ false = sym c ∙ h.turns.goes.ended.stays in cc);
  still = λ c. absurd (let no : true ≡ false = sym c ∙ h.turns.goes.ended.active in cc);
  shows = by-append old new message h.turns.handed hands.0 h.turns.which;
}
passing a b s t l m old new over (Ready (Some (Err e))) h hands = absurd hands

module _ {C T A E : Type 0} (speech : Speech C T A E) where
  handle-goes : (script : List C) (stamp : Stamp) (a b : Standing) (old new : HandleState T A E) (did : Polling) →
      HandleTurns HubBecomes speech script stamp (untouched a) old b new did → GoesQuietly a b
  handle-goes script stamp a b old new polling.Idle h = untouched-hub a b h.desk
  handle-goes script stamp a b old new polling.Began h = walked stamp a b h.from h.to h.pauses.goes
  handle-goes script stamp a b old new polling.Waits h = walked stamp a b h.from h.to h.pauses.goes
  handle-goes script stamp a b old new polling.Answered h = walked stamp a b h.from h.goes.last h.goes.goes

  -- ---- all turns

  -- what stands between two turns
  abbrev pub StoodIn : List ℕ → List RawMessage → LinkView → SessionState T A E → LinkView → Type 0
  StoodIn opening startup base s l = Stood opening startup base s.hub s.streams s.asynchronous l

  pub stood-turn : (opening : List ℕ) (startup : List RawMessage) (base l m : LinkView) (scripts : List (List C)) (turn : ℕ) (s t : SessionState T A E) (over : Bool) →
      StoodIn opening startup base s l → Makes speech scripts turn s t l m over → StoodIn opening startup base t m
  stood-turn opening startup base l m scripts turn s t over h (inl made) =
      let first = handle-goes made.made.script _ s.hub made.made.hub made.made.old made.made.new made.did made.made.turns in
      let then = behind-goes made.did s.unanswered made.made.hub t.hub made.made.closes in
      let now = stood-quiet opening startup base l made.made.hub t.hub s.streams s.asynchronous then.events
      (stood-quiet opening startup base l s.hub made.made.hub s.streams s.asynchronous first.events h first.moves first.quiet) then.moves then.quiet in
      subst (λ (x : LinkView). Stood opening startup base t.hub t.streams t.asynchronous x) (sym made.link)
      (subst (λ (x : Streams). Stood opening startup base t.hub x t.asynchronous l) (sym made.made.streams)
      (subst (λ (x : List AsyncMessage). Stood opening startup base t.hub s.streams x l) (sym made.made.asynchronous) now))
  stood-turn opening startup base l m scripts turn s t over h (inr made) =
      stood-passing opening startup base l m s.hub t.hub s.streams t.streams s.asynchronous t.asynchronous h
      (passing s.hub t.hub s.streams t.streams l m s.asynchronous t.asynchronous over made.made.answer made.made.polled made.made.hands)

  pub stood-all : (opening : List ℕ) (startup : List RawMessage) (base : LinkView) (scripts : List (List C)) (turns : List ℕ)
      (s : SessionState T A E) (l : LinkView) (t : SessionState T A E) (m : LinkView) → StoodIn opening startup base s l → MakesAll speech scripts turns s l t m →
      StoodIn opening startup base t m
  stood-all opening startup base scripts [] s l t m h made =
      subst (λ (x : SessionState T A E). StoodIn opening startup base x m) (sym made.0)
      (stood-rests opening startup base l m s.hub s.streams s.asynchronous made.1.bytes.given made.1.bytes.taken h)
  stood-all opening startup base scripts (turn ∷ turns) s l t m h made =
      let rested = stood-rests opening startup base l made.0 s.hub s.streams s.asynchronous made.3.bytes.given made.3.bytes.taken h in
      stood-all opening startup base scripts turns made.1 made.2 t m
      (stood-turn opening startup base made.0 made.2 scripts turn s made.1 false rested made.4) made.5
