-- The cases of a handle's turn: nothing is left to do, its command waits, or it answered.
use Rattle.std.proofs.Common.{◌≡◌, ◌≢◌, ◌⊎◌, inl, inr, ℕ, suc, ◌+◌, ◌<◌, ◌≤◌, List, [], ◌∷◌, ◌++◌, length, map, Bool, Option, Some, None, Result, Err, refl, sym, ap, subst, ◌∙◌, arith, slice_get}
use Rattle.std.proofs.lemmas.List.{append-nil, map-append}
use Rattle.std.proofs.lemmas.Option.{same_Some}
use Rattle.std.specs.Prelude.{⊤}
use Rattle.pg_spec.specs.RawMessages.{RawMessage}
use Rattle.pg_spec.specs.Turns.{IsFirstTurn}
use Rattle.pg_spec.specs.declared.stamps.Stamp.{Stamp}
use Rattle.pg_desk.specs.History.{IsLegal, State, after_all}
use Rattle.pg_desk.specs.declared.event.Event.{Event}
use Rattle.pg_types.specs.declared.error.Error.{Error}
use Rattle.pg_types.specs.declared.error.Error.TheVariants.{OutOfMemory}
use Rattle.pg_query.specs.Dialogue.{Dialogue, Answer}
use Rattle.pg_query.specs.Lives.{Deed, Leads}
use Rattle.pg_query.specs.Meaning.{Place}
use Rattle.pg_core.specs.Runs.{MayWait}
use Rattle.pg_query.specs.declared.desk_call.DeskCall.{DeskCall}
use Rattle.pg_query.specs.declared.desk_call.Reply.{Reply}
use Rattle.pg_query.proofs.RequestLaws.{stays-answered}
use Rattle.pg_spec.specs.Courses.{Asked, Course, Who, begun_in, nowhere, questions_of, requests_of, stamp_of}
use Rattle.pg_core.specs.Counters.{Counts}
use Rattle.pg_core.specs.Lists.{events_of}
use Rattle.pg_core.specs.Outcomes.{asked}
use Rattle.pg_core.specs.Trails.{PollEnds, point_of, ran_by}
use Rattle.pg_core.proofs.Polls.{IsPoll, answer-ends, pause-ends, poll-is, under_stamp}
use Rattle.pg_core.proofs.Waiting.{may-wait}
use Rattle.pg_session.proofs.Lists.{get-cases, one-more}
use Rattle.pg_session.specs.Speeches.{AreCommands, Speech}
use Rattle.pg_session.specs.Handles.{HandleState}
use Rattle.pg_session.specs.HandleTurns.{Answers, Idles, Waits}
use Rattle.pg_session.specs.Kept.{Does, HandleKept, HasDone, Now, Past, Rests, book_of, first_at, free_of, states_of}
use Rattle.pg_session.proofs.HandleTurn.{IsTurnAt, Started, StateBecomes, TurnSo, answered-many, done-before, none-behind, polled-so, starts}
use Rattle.pg_session.proofs.Others.{done-on}
use Rattle.pg_session.proofs.OwnCalls.{own-keep}
use Rattle.pg_session.proofs.OwnTurn.{Grows, IsPolled, answers-so, behind_turn, grew, moment_in, waits-on}
use Rattle.pg_session.proofs.Rows.{free-before, free-last, get-within, places-below, states-before, states-last}
use Rattle.pg_session.proofs.Told as told

module _ {C T A E : Type 0} (speech : Speech C T A E) (course : Course DeskCall Reply) (script : List C) (handle : ℕ) (now : Now) (later : List RawMessage) (old : HandleState T A E) (past : List (Past A E))
    (commands : AreCommands speech) (at : IsTurnAt course handle (length past) (length script) now later) (k : HandleKept speech course script handle old past now) where
  many : length old.answers ≡ length past
  many = answered-many speech course script handle old past now k

  -- ---- nothing is left to do

  idle-kept : old.running ≡ None → slice_get script (length past) ≡ None → HandleKept speech course script handle old past (behind_turn now [])
  idle-kept runs left =
      let same : now.asked ++ [] ≡ now.asked = append-nil now.asked in
      subst (λ (qs : List (Asked DeskCall Reply)). HandleKept speech course script handle old past (record { turns = suc now.turns; asked = qs; state = now.state })) (sym same)
      (record {
        answers = k.answers;
        own = k.own;
        done = λ j x stands. done-on speech course script handle past past now (record { turns = suc now.turns; asked = now.asked; state = now.state }) j x refl refl refl refl (k.done j x stands);
        does = subst (λ (o : Option (Place T)). Does speech course script handle old.own past (record { turns = suc now.turns; asked = now.asked; state = now.state }) o) (sym runs)
            (let rests : Rests course script handle past now = subst (λ (o : Option (Place T)). Does speech course script handle old.own past now o) runs k.does in record {
              requests = rests.requests;
              questions = rests.questions;
              no_turn = λ command stands. absurd (let no_way : Some command ≡ None = sym stands ∙ left in cc);
            });
        free = (let f = k.free in omega (arith, f));
        none_later = k.none_later;
      })

  nothing-grows : Grows (record { handle = handle; command = length past }) now []
  nothing-grows = record {
    numbered = tt;
    book = sym (append-nil (book_of now));
    others = λ owner command apart. refl;
    told = tt;
    counts = subst (λ (qs : List DeskCall). Counts qs now.state) (sym (append-nil (map (λ a. a.question) now.asked))) at.counts;
  }

  within : length past ≤ length script
  within =
      let le = places-below past 0 (length script) (omega arith) (λ j x stands. let d = k.done j x stands in let lt = get-within script j d.command d.stands in omega (arith, lt)) in
      omega (arith, le)

  pub idle-turn : (b : State) (new : HandleState T A E) → Idles script now.state old b new → TurnSo speech course script handle now old new b [] 0
  idle-turn b new h = subst (λ (x : HandleState T A E). TurnSo speech course script handle now old x b [] 0) (sym h.handle) (record {
    legal = tt;
    state = h.desk;
    same = record { deliveries = refl; closed = refl; failed = refl };
    place = length past;
    grows = nothing-grows;
    known = inl refl;
    spares = λ n lt other. (tt, tt);
    past = past;
    kept = idle-kept h.none_runs (ap (slice_get script) (sym many) ∙ h.none_left);
    grew = omega arith;
    room = (let w = within in omega (arith, w, many));
  })

  -- ---- its command waits

  waits-kept : (from : Place T) (stamp : Stamp) (ds : List Deed) (q : Place T) (st : Started speech course script handle now old past from) →
      IsPolled course (record { handle = handle; command = length past }) (speech.says old.own st.command) st.trail (free_of past (length past)) now from stamp ds q →
      MayWait q.dialogue → Grows (record { handle = handle; command = length past }) now ds →
      HandleKept speech course script handle (record { running = Some q; answers = old.answers; own = old.own }) past (behind_turn now ds)
  waits-kept from stamp ds q st p reads g = record {
    answers = k.answers;
    own = k.own;
    done = λ j x stands. done-before speech course script handle old past past now ds j x k g (get-within past j x stands) stands refl refl;
    does = record {
      command = st.command;
      stands = st.stands;
      under_way = waits-on course (record { handle = handle; command = length past }) (speech.says old.own st.command) st.trail (free_of past (length past)) now from stamp ds q p reads;
    };
    free = (let f = k.free in omega (arith, f));
    none_later = λ j lt. none-behind speech course script handle old past now ds j k g lt;
  }

  pub waits-turn : (stamp : Stamp) (b : State) (new : HandleState T A E) (begins : Bool) → stamp ≡ record { owner = handle; command = length old.answers; turn = now.turns } →
      (h : Waits StateBecomes speech script stamp now.state old b new begins) → TurnSo speech course script handle now old new b (under_stamp stamp h.pauses.goes.events) 0
  waits-turn stamp b new begins stamped h = by (starts speech course script handle now later old past h.from commands at k begins h.starts)
    where
      ds : List Deed
      ds = under_stamp stamp h.pauses.goes.events

      poll : IsPoll stamp h.from h.pauses.goes.events h.to
      poll = poll-is StateBecomes stamp now.state h.from b h.to h.pauses.goes

      legal : IsLegal now.state (events_of (under_stamp stamp h.pauses.goes.events))
      legal = subst (λ (es : List Event). IsLegal now.state es) (sym poll.events) h.pauses.goes.became.0

      as_stamped : stamp ≡ stamp_of (record { handle = handle; command = length past }) now.turns
      as_stamped = stamped ∙ ap (λ (n : ℕ). let x : Stamp = record { owner = handle; command = n; turn = now.turns } in x) many

      none-waits : MayWait {T = T} (Answer (Err OutOfMemory)) → ⊥
      none-waits (inl reads) = reads
      none-waits (inr puts) = puts

      by : Started speech course script handle now old past h.from ⊎ (h.from.dialogue ≡ Answer (Err OutOfMemory)) → TurnSo speech course script handle now old new b (under_stamp stamp h.pauses.goes.events) 0
      by (inr lacks) =
          let gone = stays-answered (Err OutOfMemory) h.from.reads (under_stamp stamp h.pauses.goes.events) h.to.dialogue h.to.reads
          (subst (λ (d : Dialogue T). Leads d h.from.reads (under_stamp stamp h.pauses.goes.events) h.to.dialogue h.to.reads) lacks poll.leads) in
          absurd (none-waits (subst (λ (x : Dialogue T). MayWait x) gone.1 (may-wait h.to h.pauses.goes.events h.pauses.waits)))
      by (inl st) =
          let who : Who = record { handle = handle; command = length past } in
          let p = polled-so speech course script handle now later old past h.from stamp (under_stamp stamp h.pauses.goes.events) h.to at st as_stamped poll.under poll.leads legal
          (pause-ends StateBecomes stamp now.state h.from b h.to h.pauses) in
          let g = grew course who (speech.says old.own st.command) st.trail (free_of past (length past)) now h.from stamp (under_stamp stamp h.pauses.goes.events) h.to p in
          subst (λ (x : HandleState T A E). TurnSo speech course script handle now old x b (under_stamp stamp h.pauses.goes.events) 0) (sym h.handle) (record {
            legal = legal;
            state = h.pauses.goes.became.1 ∙ ap (after_all now.state) (sym poll.events);
            same = own-keep now.state h.from.dialogue h.from.reads (under_stamp stamp h.pauses.goes.events) h.to.dialogue h.to.reads poll.leads;
            place = length past;
            grows = g;
            known = inr (st.command, st.stands);
            spares = λ n lt other. st.spares (under_stamp stamp h.pauses.goes.events) h.to.dialogue h.to.reads n legal poll.leads lt other;
            past = past;
            kept = waits-kept h.from stamp (under_stamp stamp h.pauses.goes.events) h.to st p (may-wait h.to h.pauses.goes.events h.pauses.waits) g;
            grew = omega arith;
            room = (let w = within in omega (arith, w, many));
          })

  -- ---- its command answered

  answers-kept : (from : Place T) (stamp : Stamp) (ds : List Deed) (q : Place T) (st : Started speech course script handle now old past from) (r : Result T Error) →
      IsPolled course (record { handle = handle; command = length past }) (speech.says old.own st.command) st.trail (free_of past (length past)) now from stamp ds q →
      q.dialogue ≡ Answer r → r ≢ Err OutOfMemory → Grows (record { handle = handle; command = length past }) now ds →
      (y : Past A E) → y ≡ record {
        ending = speech.ends old.own st.command r;
        times = record { begins = first_at now.turns st.trail; answers = now.turns };
        at = point_of now.turns (ran_by (speech.says old.own st.command) (moment_in now ds ∷ st.trail));
      } →
      HandleKept speech course script handle (record { running = None; answers = old.answers ++ y.ending.answer ∷ []; own = y.ending.own }) (past ++ y ∷ []) (behind_turn now ds)
  answers-kept from stamp ds q st r p is memory g y y-is = record {
    answers = ap (λ (as_ : List A). as_ ++ y.ending.answer ∷ []) k.answers ∙ sym (map-append (λ (x : Past A E). x.ending.answer) past (y ∷ []));
    own = ap (slice_get (states_of speech.begins (past ++ y ∷ []))) (one-more past y) ∙ states-last speech.begins past y;
    done = λ j x stands. done-so j x (get-cases past y x j stands);
    does = record {
      requests = ap (requests_of (book_of (behind_turn now ds)) handle) (one-more past y) ∙ (none-behind speech course script handle old past now ds (suc (length past)) k g (omega arith)).0;
      questions = ap (questions_of (behind_turn now ds).asked handle) (one-more past y) ∙ (none-behind speech course script handle old past now ds (suc (length past)) k g (omega arith)).1;
      no_turn = λ command stands place from' to own.
          let f = free in omega (arith, f, from', to);
    };
    free = (let f = free in omega (arith, f));
    none_later = λ j lt. none-behind speech course script handle old past now ds j k g (let e = one-more past y in omega (arith, e, lt));
  }
    where
      free : free_of (past ++ y ∷ []) (length (past ++ y ∷ [])) ≡ suc now.turns
      free = ap (free_of (past ++ y ∷ [])) (one-more past y) ∙ free-last past y ∙ ap (λ (x : Past A E). x.times.answers + 1) y-is ∙ (let e : now.turns + 1 ≡ suc now.turns = omega arith in e)

      new-one : HasDone speech course script handle (past ++ y ∷ []) (behind_turn now ds) (length past) y
      new-one = subst (λ (x : Past A E). HasDone speech course script handle (past ++ y ∷ []) (behind_turn now ds) (length past) x) (sym y-is) (record {
        command = st.command;
        stands = st.stands;
        before = old.own;
        had = states-before speech.begins past y (length past) (omega arith) ∙ k.own;
        begins = subst (λ (n : ℕ). IsFirstTurn course.trace handle n (λ place. ⊤) (first_at now.turns st.trail)) (sym (free-before past y (length past) (omega arith))) st.begins;
        in_turn = refl;
        unfolds = told.told-so course handle (begun_in nowhere (first_at now.turns st.trail)) (asked (speech.says old.own st.command)) (speech.ends old.own st.command)
            (requests_of (book_of (behind_turn now ds)) handle (length past)) (questions_of (behind_turn now ds).asked handle (length past)) _
            (answers-so course (record { handle = handle; command = length past }) (speech.says old.own st.command) st.trail (free_of past (length past)) now from stamp ds q p r is memory);
      })

      done-so : (j : ℕ) (x : Past A E) → ((j < length past) × (slice_get past j ≡ Some x)) ⊎ ((j ≡ length past) × (x ≡ y)) → HasDone speech course script handle (past ++ y ∷ []) (behind_turn now ds) j x
      done-so j x (inl (lt, stands)) =
          done-before speech course script handle old past (past ++ y ∷ []) now ds j x k g lt stands (states-before speech.begins past y j (omega (arith, lt))) (free-before past y j (omega (arith, lt)))
      done-so j x (inr (e, same)) =
          subst (λ (n : ℕ). HasDone speech course script handle (past ++ y ∷ []) (behind_turn now ds) n x) (sym e)
          (subst (λ (z : Past A E). HasDone speech course script handle (past ++ y ∷ []) (behind_turn now ds) (length past) z) (sym same) new-one)

  pub answers-turn : (stamp : Stamp) (b : State) (new : HandleState T A E) → stamp ≡ record { owner = handle; command = length old.answers; turn = now.turns } →
      (h : Answers StateBecomes speech script stamp now.state old b new) → TurnSo speech course script handle now old new b (under_stamp stamp h.goes.goes.events) 1
  answers-turn stamp b new stamped h = by (starts speech course script handle now later old past h.from commands at k h.begins h.starts) (answer-ends StateBecomes stamp now.state h.from b h.answer h.goes)
    where
      poll : IsPoll stamp h.from h.goes.goes.events h.goes.last
      poll = poll-is StateBecomes stamp now.state h.from b h.goes.last h.goes.goes

      legal : IsLegal now.state (events_of (under_stamp stamp h.goes.goes.events))
      legal = subst (λ (es : List Event). IsLegal now.state es) (sym poll.events) h.goes.goes.became.0

      as_stamped : stamp ≡ stamp_of (record { handle = handle; command = length past }) now.turns
      as_stamped = stamped ∙ ap (λ (n : ℕ). let x : Stamp = record { owner = handle; command = n; turn = now.turns } in x) many

      is : h.goes.last.dialogue ≡ Answer h.answer
      is = by h.goes.answers
        where
          by : (h.goes.last.dialogue ≡ Answer h.answer) ⊎ (h.answer ≡ Err OutOfMemory) → h.goes.last.dialogue ≡ Answer h.answer
          by (inl e) = e
          by (inr e) = absurd (h.memory e)

      by : Started speech course script handle now old past h.from ⊎ (h.from.dialogue ≡ Answer (Err OutOfMemory)) → PollEnds (under_stamp stamp h.goes.goes.events) h.goes.last ⊎ (h.answer ≡ Err OutOfMemory) →
          TurnSo speech course script handle now old new b (under_stamp stamp h.goes.goes.events) 1
      by s (inr lacks) = absurd (h.memory lacks)
      by (inr lacks) (inl ends) =
          let gone = stays-answered (Err OutOfMemory) h.from.reads (under_stamp stamp h.goes.goes.events) h.goes.last.dialogue h.goes.last.reads
          (subst (λ (d : Dialogue T). Leads d h.from.reads (under_stamp stamp h.goes.goes.events) h.goes.last.dialogue h.goes.last.reads) lacks poll.leads) in
          let same : Answer h.answer ≡ Answer (Err OutOfMemory) = sym is ∙ gone.1 in
          absurd (h.memory cc)
      by (inl st) (inl ends) =
          let who : Who = record { handle = handle; command = length past } in
          let ds = under_stamp stamp h.goes.goes.events in
          let p = polled-so speech course script handle now later old past h.from stamp ds h.goes.last at st as_stamped poll.under poll.leads legal ends in
          let g = grew course who (speech.says old.own st.command) st.trail (free_of past (length past)) now h.from stamp ds h.goes.last p in
          let same_command : h.command ≡ st.command = same_Some h.command st.command (sym h.stands ∙ ap (slice_get script) many ∙ st.stands) in
          let y : Past A E = record {
            ending = speech.ends old.own st.command h.answer;
            times = record { begins = first_at now.turns st.trail; answers = now.turns };
            at = point_of now.turns (ran_by (speech.says old.own st.command) (moment_in now ds ∷ st.trail));
          } in
          let new_is : new ≡ record { running = None; answers = old.answers ++ y.ending.answer ∷ []; own = y.ending.own } =
          h.handle ∙ ap (λ (c : C). let x : HandleState T A E = record { running = None; answers = old.answers ++ (speech.ends old.own c h.answer).answer ∷ []; own = (speech.ends old.own c h.answer).own } in x) same_command in
          subst (λ (x : HandleState T A E). TurnSo speech course script handle now old x b ds 1) (sym new_is) (record {
            legal = legal;
            state = h.goes.goes.became.1 ∙ ap (after_all now.state) (sym poll.events);
            same = own-keep now.state h.from.dialogue h.from.reads ds h.goes.last.dialogue h.goes.last.reads poll.leads;
            place = length past;
            grows = g;
            known = inr (st.command, st.stands);
            spares = λ n lt other. st.spares ds h.goes.last.dialogue h.goes.last.reads n legal poll.leads lt other;
            past = past ++ y ∷ [];
            kept = answers-kept h.from stamp ds h.goes.last st h.answer p is h.memory g y refl;
            grew = one-more old.answers y.ending.answer ∙ (let e : suc (length old.answers) ≡ length old.answers + 1 = omega arith in e);
            room = (let lt = get-within script (length past) st.command st.stands in omega (arith, lt, many));
          })
