-- Where a request leads that closes a statement.
use Rattle.std.proofs.Common.{◌≡◌, ℕ, false, List, [], ◌∷◌, Option, Some, None, Result, Ok, Err, refl, sym, ap, subst, inl}
use Rattle.pg_spec.specs.RawMessages.{RawMessage}
use Rattle.pg_spec.specs.declared.stamps.Stamp.{Stamp}
use Rattle.pg_desk.specs.declared.event.DeskFault.{DeskFault}
use Rattle.pg_desk.specs.declared.event.Event.{Event}
use Rattle.pg_desk.specs.declared.event.Event.TheVariants as call
use Rattle.pg_types.specs.declared.error.Error.{Error}
use Rattle.pg_query.specs.Dialogue.{Dialogue, Answer, Leave, HangUp, Walks, cleaning}
use Rattle.pg_query.specs.Faults.{of_fault}
use Rattle.pg_query.specs.Meaning.{GoesToAnswer}
use Rattle.pg_query.specs.declared.desk_call.Cleanup.TheVariants.{Release}
use Rattle.pg_execute.specs.Executes.{posts, posts_before}
use Rattle.pg_streams.specs.Collecting.{Drops, Dropped, FailsBehind, Kept, Posts, Sends, Sent, Refused, error_behind, family_behind, hung, was_told}
use Rattle.pg_streams.specs.Families.{AnswersFor, Family}
use Rattle.pg_streams.specs.Handing.{alone}
use Rattle.pg_streams.specs.Hearing.{First}
use Rattle.pg_streams.specs.declared.giving.Told.{Told}
use Rattle.pg_streams.specs.declared.giving.Told.TheVariants.{Ends, Fails}
use Rattle.pg_streams.specs.declared.items.Items.{Items}
use Rattle.pg_streams.proofs.Going.{Joins, TakesNone, brings-none}

-- where it is answered so
abbrev pub settled : {T : Type 0} → Result T Error → Result (Unit {0}) Error → Dialogue T
settled r (Ok x) = Answer r
settled r (Err e) = Answer (Err e)

-- the events of it, and where they lead from any answer
pub record Closes {D : Type 0} (becomes : D → List Event → D → Type 0) (stamp : Stamp) (a : D) (close : Option (List ℕ)) (b : D) (T : Type 0) (id : ℕ) (said : Result (Unit {0}) Error) : Type 0 where
  pub events : List Event
  pub became : becomes a events b
  pub walked : (r : Result T Error) → Walks stamp (posts_before close r) id events (settled r said) id
  pub quiet : TakesNone events

sent-said : {D : Type 0} (becomes : D → List Event → D → Type 0) (stamp : Stamp) (a : D) (part : List ℕ) (b : D) (T : Type 0) (id sent : ℕ) (answer : Result (Unit {0}) DeskFault) →
    becomes a (call.Book stamp part false (Ok sent) ∷ call.HangUp sent answer ∷ []) b → Closes becomes stamp a (Some part) b T id (hung answer)
sent-said becomes stamp a part b T id sent (Ok x) ev = record {
  events = call.Book stamp part false (Ok sent) ∷ call.HangUp sent (Ok x) ∷ [];
  became = ev;
  walked = λ r. (Leave sent (Answer r), id, (refl, refl, refl, refl, refl), (Answer r, id, (refl, refl, refl), (refl, refl)));
  quiet = (refl, (refl, tt));
}
sent-said becomes stamp a part b T id sent (Err e) ev = record {
  events = call.Book stamp part false (Ok sent) ∷ call.HangUp sent (Err e) ∷ [];
  became = ev;
  walked = λ r. (Leave sent (Answer r), id, (refl, refl, refl, refl, refl), (Answer (Err (of_fault e)), id, (refl, refl, refl), (refl, refl)));
  quiet = (refl, (refl, tt));
}

by-sending : {D : Type 0} (becomes : D → List Event → D → Type 0) (stamp : Stamp) (a : D) (part : List ℕ) (b : D) (T : Type 0) (id : ℕ) (said : Result (Unit {0}) Error) →
    Sends becomes stamp a part b said → Closes becomes stamp a (Some part) b T id said
by-sending becomes stamp a part b T id said (Sent sent answer ev is) = subst (λ (x : Result (Unit {0}) Error). Closes becomes stamp a (Some part) b T id x) (sym is) (sent-said becomes stamp a part b T id sent answer ev)
by-sending becomes stamp a part b T id said (Refused fault ev is) = subst (λ (x : Result (Unit {0}) Error). Closes becomes stamp a (Some part) b T id x) (sym is) (record {
  events = call.Book stamp part false (Err fault) ∷ [];
  became = ev;
  walked = λ r. (Answer (Err (of_fault fault)), id, (refl, refl, refl, refl, refl), (refl, refl));
  quiet = (refl, tt);
})

-- of a request that there may be
pub closes : {D : Type 0} (becomes : D → List Event → D → Type 0) → ((a : D) → becomes a [] a) → (stamp : Stamp) (a : D) (close : Option (List ℕ)) (b : D) (T : Type 0) (id : ℕ) (said : Result (Unit {0}) Error) →
    Posts becomes stamp a close b said → Closes becomes stamp a close b T id said
closes becomes stays stamp a (Some part) b T id said h = by-sending becomes stamp a part b T id said h
closes becomes stays stamp a None b T id said h =
    subst (λ (x : Result (Unit {0}) Error). Closes becomes stamp a None b T id x) (sym h.1) (record {
      events = [];
      became = subst (λ (x : _). becomes a [] x) (sym h.0) (stays a);
      walked = λ r. (refl, refl);
      quiet = tt;
    })

-- the events of a hanging up and a close, and where they lead from any answer
pub record Leads {D : Type 0} (becomes : D → List Event → D → Type 0) (stamp : Stamp) (a : D) (id : ℕ) (close : Option (List ℕ)) (b : D) (T : Type 0) (said : Result (Unit {0}) Error) : Type 0 where
  pub events : List Event
  pub became : becomes a events b
  pub walked : (r : Result T Error) → Walks stamp (HangUp (posts_before close r)) id events (settled r said) id
  pub quiet : TakesNone events

pub drops : {D : Type 0} (becomes : D → List Event → D → Type 0) → ((a : D) → becomes a [] a) → Joins becomes → (stamp : Stamp) (a : D) (id : ℕ) (close : Option (List ℕ)) (b : D) (T : Type 0) (said : Result (Unit {0}) Error) →
    Drops becomes stamp a id close b said → Leads becomes stamp a id close b T said
drops becomes stays joins stamp a id close b T said (Dropped mid ev posted) =
    let k = closes becomes stays stamp mid close b T id said posted in
    record {
      events = call.HangUp id (Ok tt) ∷ k.events;
      became = joins a mid b (call.HangUp id (Ok tt) ∷ []) k.events ev k.became;
      walked = λ r. (posts_before close r, id, (refl, refl, refl), k.walked r);
      quiet = (refl, k.quiet);
    }
drops becomes stays joins stamp a id close b T said (Kept fault ev is) =
    subst (λ (x : Result (Unit {0}) Error). Leads becomes stamp a id close b T x) (sym is) (record {
      events = call.HangUp id (Err fault) ∷ [];
      became = ev;
      walked = λ r. (Answer (Err (of_fault fault)), id, (refl, refl, refl), (refl, refl));
      quiet = (refl, tt);
    })

-- what is left to do of a stream is to close it behind nothing
pub left-cleaned : (close : Option (List ℕ)) → cleaning (Release ∷ posts close) ≡ HangUp (posts_before close (Ok tt))
left-cleaned None = refl
left-cleaned (Some part) = refl

-- a settled answer is that answer
pub answered : (said : Result (Unit {0}) Error) → settled (Ok tt) said ≡ Answer said
answered (Ok x) = refl
answered (Err e) = refl

-- they are given up
pub given-up : {D : Type 0} (becomes : D → List Event → D → Type 0) → ((a : D) → becomes a [] a) → Joins becomes → (stamp : Stamp) (a : D) (id : ℕ) (close : Option (List ℕ)) (b : D) (said : Result (Unit {0}) Error) →
    Drops becomes stamp a id close b said → GoesToAnswer becomes stamp a (record { dialogue = cleaning (Release ∷ posts close); reads = id }) b said
given-up becomes stays joins stamp a id close b said h =
    let k = drops becomes stays joins stamp a id close b (Unit {0}) said h in
    record {
      last = record { dialogue = settled (Ok tt) said; reads = id };
      goes = record {
        events = k.events;
        became = k.became;
        walked = subst (λ (d : Dialogue (Unit {0})). Walks stamp d id k.events (settled (Ok tt) said) id) (sym (left-cleaned close)) (k.walked (Ok tt));
      };
      answers = inl (answered said);
    }

-- ---- what was told is settled

-- an answer, where the close was answered so
abbrev pub unless : {T : Type 0} → Result T Error → Result (Unit {0}) Error → Result T Error
unless r (Ok x) = r
unless r (Err e) = Err e

settled-unless : {T : Type 0} (r : Result T Error) (said : Result (Unit {0}) Error) → settled r said ≡ Answer (unless r said)
settled-unless r (Ok x) = refl
settled-unless r (Err e) = refl

module _ {D G I W : Type 0} {becomes : D → List Event → D → Type 0} (stays : (a : D) → becomes a [] a) (joins : Joins becomes) {stamp : Stamp} {a b : D}
    (tells : G → List RawMessage → Option (Result W Error)) (with_item : I → W → W) (at_end : G → W) (s : Items G) (close : Option (List ℕ)) (same : close ≡ s.close) (said : Result (Unit {0}) Error) where
  -- the end
  pub end-settled : (told : Told I) → told ≡ Ends → Posts becomes stamp a close b said → (IsFirst : First G I → Type 0) → IsFirst (record { told = Some Ends; giving = s.giving; left = [] }) →
      AnswersFor becomes stamp a (family_behind tells with_item at_end told s) b (λ before. unless (Ok (before (at_end s.giving))) said) IsFirst
  end-settled told is h IsFirst first =
      let k = closes becomes stays stamp a s.close b W s.id said (subst (λ (o : Option (List ℕ)). Posts becomes stamp a o b said) same h) in
      let last : Family (W → W) W G I = record { place = λ before. record { dialogue = settled (Ok (before (at_end s.giving))) said; reads = s.id }; first = was_told Ends s } in
      subst (λ (t : Told I). AnswersFor becomes stamp a (family_behind tells with_item at_end t s) b (λ before. unless (Ok (before (at_end s.giving))) said) IsFirst) (sym is) (record {
        last = last;
        goes = record { events = k.events; became = k.became; walked = λ before. k.walked (Ok (before (at_end s.giving))); brought = brings-none (was_told Ends s) k.events k.quiet };
        answers = λ before. inl (settled-unless (Ok (before (at_end s.giving))) said);
        found = inl first;
      })

  -- an error
  pub error-settled : (told : Told I) (e : Error) → told ≡ Fails e → Drops becomes stamp a s.id close b said → (IsFirst : First G I → Type 0) → IsFirst (record { told = Some (Fails e); giving = s.giving; left = [] }) →
      AnswersFor becomes stamp a (family_behind tells with_item at_end told s) b (λ before. unless (Err e) said) IsFirst
  error-settled told e is h IsFirst first =
      let k = drops becomes stays joins stamp a s.id s.close b W said (subst (λ (o : Option (List ℕ)). Drops becomes stamp a s.id o b said) same h) in
      let last : Family (W → W) W G I = record { place = λ before. record { dialogue = settled (Err e) said; reads = s.id }; first = was_told (Fails e) s } in
      subst (λ (t : Told I). AnswersFor becomes stamp a (family_behind tells with_item at_end t s) b (λ before. unless (Err e) said) IsFirst) (sym is) (record {
        last = last;
        goes = record { events = k.events; became = k.became; walked = λ before. k.walked (Err e); brought = brings-none (was_told (Fails e) s) k.events k.quiet };
        answers = λ before. inl (settled-unless (Err e) said);
        found = inl first;
      })

-- ---- refused values

failed-by : {T : Type 0} (e : Error) (said : Result (Unit {0}) Error) (given : Error) → given ≡ error_behind said e → settled {T = T} (Err e) said ≡ Answer (Err given)
failed-by {T} e (Ok x) given is = ap (λ (y : Error). let d : Dialogue T = Answer (Err y) in d) (sym is)
failed-by {T} e (Err refused) given is = ap (λ (y : Error). let d : Dialogue T = Answer (Err y) in d) (sym is)

-- the statement is closed before the error is given
pub refused-closed : {D W G I : Type 0} (becomes : D → List Event → D → Type 0) → ((a : D) → becomes a [] a) → (stamp : Stamp) (a b : D) (d : Dialogue W) (n : ℕ) (close : Option (List ℕ)) (e given : Error) (first : List RawMessage → First G I) (IsFirst : First G I → Type 0) →
    d ≡ posts_before close (Err e) → FailsBehind becomes stamp a close e b given → IsFirst (first []) → AnswersFor becomes stamp a (alone (record { dialogue = d; reads = n }) first) b (λ plan. Err given) IsFirst
refused-closed {W = W} becomes stays stamp a b d n close e given first IsFirst is h found =
    let k = closes becomes stays stamp a close b W n h.said h.posted in
    record {
      last = alone (record { dialogue = settled (Err e) h.said; reads = n }) first;
      goes = record {
        events = k.events;
        became = k.became;
        walked = λ plan. subst (λ (x : Dialogue W). Walks stamp x n k.events (settled (Err e) h.said) n) (sym is) (k.walked (Err e));
        brought = brings-none first k.events k.quiet;
      };
      answers = λ plan. inl (failed-by e h.said given h.gives);
      found = inl found;
    }
