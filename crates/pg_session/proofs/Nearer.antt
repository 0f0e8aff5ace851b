-- Each turn of a session leaves less to do where something moved in it.
pub mod Falling
pub mod Sums
pub mod Hub
pub mod Puts
pub mod Counted
pub mod Copies
pub mod Handle
pub mod OneTurn
pub mod Link
use Rattle.std.proofs.Common.{◌≡◌, inl, inr, ℕ, ◌+◌, ◌≤◌, List, [], ◌∷◌, Bool, true, false, ◌||◌, Option, Some, None, Result, Ok, Err, refl, sym, ap, subst, arith}
use Rattle.futures.specs.declared.task.Poll.{Poll}
use Rattle.futures.specs.declared.task.Poll.TheVariants.{Ready, Pending}
use Rattle.pg_spec.specs.Links.{LinkView}
use Rattle.pg_errors.specs.declared.async_message.AsyncMessage.{AsyncMessage}
use Rattle.pg_types.specs.declared.error.Error.{Error}
use Rattle.pg_connect.specs.declared.streams.Streams.{Streams}
use Rattle.pg_connect.specs.Answers.{PollAnswers}
use Rattle.pg_desk.specs.History.{start}
use Rattle.pg_hub.specs.Fits.{HubBecomes}
use Rattle.pg_hub.specs.Standing.{Standing}
use Rattle.pg_session.specs.Measure.{AllMayPut, AllRead, AllWait, IsNearer, IsNearerWithin, IsUnderWay, IsUnderWayWith, IsUnderWayWithin, IsWithinLimit, LeavesLess, Left, Nears, PutNone, PutWithin, bounds_in, bounds_of, left_to_do, left_with, left_within, put_of, reading_left, scripts_left, still_to_put, unsent_left}
use Rattle.pg_session.specs.declared.handle_turn.Polling.{Polling}
use Rattle.pg_session.specs.Handles.{HandleState}
use Rattle.pg_session.specs.Sessions.{IsNewSession, MakesAll}
use Rattle.pg_session.specs.Speeches.{Speech}
use Rattle.pg_session.specs.States.{SessionState, new_handles, commands_in}
use Rattle.pg_session.specs.Turns.{HandsOn, HandleMade, ConnectionMade, Makes, Turns, moved_by, moved_in, moved_in_poll}
use Rattle.pg_session.proofs.Nearer.Counted.{none-put-yet}
use Rattle.pg_session.proofs.Nearer.Falling.{one_if, one-or, Falls, Unsent, falls-less, falls-no-more, less-falls, no-more-falls, falls-joined, falls-beside, falls-sent}
use Rattle.pg_session.proofs.Nearer.Link.{poll-less, left_of_link}
use Rattle.pg_session.proofs.Nearer.Puts.{all-read, all-wait, no_parts, none-may, puts-changed}
use Rattle.pg_session.proofs.Nearer.Sums.{scripts-changed, waits-at, waits-set}
use Rattle.pg_session.proofs.Nearer.OneTurn.{handle-less, left_of, closes}

streams-within : (s t : Streams) → t ≡ s → t.given ≤ t.max_bytes → s.given ≤ s.max_bytes
streams-within s t same h = subst (λ (x : Streams). x.given ≤ x.max_bytes) same h

-- the link doesn't take bytes back
poll-within : (a b : Standing) (s t : Streams) (l m : LinkView) (old new : List AsyncMessage) (answer : Poll (Option (Result AsyncMessage Error))) →
    PollAnswers HubBecomes a b s t l m answer → HandsOn answer old new false → t.given ≤ t.max_bytes → s.given ≤ s.max_bytes
poll-within a b s t l m old new Pending p hands h = omega (arith, p.turns.goes.passes.count, p.turns.goes.passes.limit, h)
poll-within a b s t l m old new (Ready None) p hands h = let no : false ≡ true = hands.1 in absurd cc
poll-within a b s t l m old new (Ready (Some (Ok message))) p hands h = omega (arith, p.turns.goes.passes.count, p.turns.goes.passes.limit, h)
poll-within a b s t l m old new (Ready (Some (Err e))) p hands h = absurd hands

-- what is nearer
pub nearer-so : {C T A E : Type 0} (scripts : List (List C)) (moved : Bool) (s t : SessionState T A E) → Falls (one_if moved) (left_to_do scripts t) (left_to_do scripts s) → IsNearer scripts moved s t
nearer-so scripts true s t h = falls-less (left_to_do scripts t) (left_to_do scripts s) h
nearer-so scripts false s t h = falls-no-more (left_to_do scripts t) (left_to_do scripts s) h

so-nearer : {C T A E : Type 0} (scripts : List (List C)) (moved : Bool) (s t : SessionState T A E) → IsNearer scripts moved s t → Falls (one_if moved) (left_to_do scripts t) (left_to_do scripts s)
so-nearer scripts true s t h = less-falls 1 (left_to_do scripts t) (left_to_do scripts s) (omega arith) h
so-nearer scripts false s t h = no-more-falls (left_to_do scripts t) (left_to_do scripts s) h

-- one turn and another behind it
pub nearer-joined : {C T A E : Type 0} (scripts : List (List C)) (a b : Bool) (s t u : SessionState T A E) → IsNearer scripts a s t → IsNearer scripts b t u → IsNearer scripts (a || b) s u
nearer-joined scripts a b s t u h k =
    nearer-so scripts (a || b) s u (falls-joined (one_if b) (one_if a) (one_if (a || b)) (left_to_do scripts u) (left_to_do scripts t) (left_to_do scripts s) (so-nearer scripts b t u k) (so-nearer scripts a s t h)
    (omega (arith, one-or a b)))

-- a session goes on, and less is left to do
pub record GoesNearer {C T A E : Type 0} (scripts : List (List C)) (moved : Bool) (s t : SessionState T A E) : Type 0 where
  pub falls : Falls (one_if moved) (left_to_do scripts t) (left_to_do scripts s)
  pub under_way : IsUnderWay t

-- The same where commands may still put so many parts, and put some: less is left to do, by any numbers of parts that may still be put, of
-- which the second is less by those.
pub record GoesWith {C T A E : Type 0} (bound : C → ℕ) (scripts : List (List C)) (parts : ℕ) (moved : Bool) (s t : SessionState T A E) : Type 0 where
  pub left : ℕ
  pub put : ℕ
  pub few : left + put ≤ parts
  pub counted : put_of t.hub ≡ put_of s.hub + put
  pub falls : (before after : ℕ) → after + put ≤ before → Falls (one_if moved) (left_with scripts after t) (left_with scripts before s)
  pub under_way : IsUnderWayWith bound scripts left t

-- what is left is told by what was put
pub record GoesWithin {C T A E : Type 0} (bound : C → ℕ) (scripts : List (List C)) (moved : Bool) (s t : SessionState T A E) : Type 0 where
  pub nearer : IsNearerWithin bound scripts moved s t
  pub under_way : IsUnderWayWithin bound scripts t

nears-so : (moved : Bool) (x y : Left) → Falls (one_if moved) x y → Nears moved y x
nears-so true x y h = falls-less x y h
nears-so false x y h = falls-no-more x y h

so-nears : (moved : Bool) (x y : Left) → Nears moved y x → Falls (one_if moved) x y
so-nears true x y h = less-falls 1 x y (omega arith) h
so-nears false x y h = no-more-falls x y h

-- one turn and another behind it
pub nears-joined : (a b : Bool) (x y z : Left) → Nears a x y → Nears b y z → Nears (a || b) x z
nears-joined a b x y z h k = nears-so (a || b) z x (falls-joined (one_if b) (one_if a) (one_if (a || b)) z y x (so-nears b z y k) (so-nears a y x h) (omega (arith, one-or a b)))

-- where it goes so, no more may be put
leaves-so : {C T A E : Type 0} (bound : C → ℕ) (scripts : List (List C)) (parts : ℕ) (moved : Bool) (s t : SessionState T A E) → GoesWith bound scripts parts moved s t → LeavesLess bound scripts parts moved s t
leaves-so bound scripts parts moved s t w =
    let few = w.few in
    record {
      left = w.left;
      no_more = omega (arith, few);
      under_way = w.under_way;
      nearer = nears-so moved (left_with scripts w.left t) (left_with scripts parts s) (w.falls parts w.left few);
    }

within-so : {C T A E : Type 0} (bound : C → ℕ) (scripts : List (List C)) (moved : Bool) (s t : SessionState T A E) (h : IsUnderWayWithin bound scripts s) → GoesWith bound scripts h.parts moved s t →
    GoesWithin bound scripts moved s t
within-so bound scripts moved s t h w =
    let few = w.few in
    let before = h.few in
    let counted = w.counted in
    let falls : still_to_put bound scripts t.hub + w.put ≤ still_to_put bound scripts s.hub = omega (arith, few, before, counted) in
    record {
      nearer = nears-so moved (left_within bound scripts t) (left_within bound scripts s) (w.falls (still_to_put bound scripts s.hub) (still_to_put bound scripts t.hub) falls);
      under_way = record { parts = w.left; under_way = w.under_way; few = omega (arith, few, before, counted) };
    }

-- what is left where no command puts a part
pub none-left : {C T A E : Type 0} (scripts : List (List C)) (s : SessionState T A E) → left_to_do scripts s ≡ left_with scripts 0 s
none-left scripts s =
    let same : scripts_left scripts s.handles ≡ scripts_left scripts s.handles + 0 = omega arith in
    ap (λ (n : ℕ). record { unread = (left_to_do scripts s).unread; commands = n; unsent = (left_to_do scripts s).unsent }) same

module _ {C T A E : Type 0} (speech : Speech C T A E) where
  module _ (bound : C → ℕ) (may : PutWithin speech bound) where
    handle-with : (scripts : List (List C)) (parts turn : ℕ) (s t : SessionState T A E) (did : Polling) → (made : HandleMade speech scripts turn s t did) → IsUnderWayWith bound scripts parts s →
        GoesWith bound scripts parts (moved_by did made.hub) s t
    handle-with scripts parts turn s t did made h =
        let c = puts-changed bound scripts s.handles turn made.script made.old parts made.script_at made.old_at h.puts in
        let less = handle-less speech bound may did made.script c.own _ s.unanswered h.state s.hub made.hub t.hub made.old made.new h.fits (waits-at s.handles turn made.old h.waits made.old_at) c.may made.turns made.closes in
        let changed = scripts-changed scripts s.handles turn made.script made.old made.new made.script_at made.old_at in
        let handles = ap (scripts_left scripts) made.handles in
        let unsent = ap unsent_left made.streams in
        let reading = ap reading_left made.streams in
        let set = c.set made.new less.left less.may in
        let total = set.2 in
        let few = less.few in
        record {
          left = set.0;
          put = less.put;
          few = omega (arith, total, few);
          counted = less.counted;
          falls = λ before after le.
              falls-beside (one_if (moved_by did made.hub)) (left_of made.script t.hub made.new after) (left_of made.script s.hub made.old before) (left_with scripts after t) (left_with scripts before s)
              (less.falls before after le) (omega (arith, reading)) (omega (arith, changed, handles)) (omega (arith, unsent));
          under_way = record {
            state = less.state;
            fits = less.fits;
            waits = subst (λ (hs : List (HandleState T A E)). AllWait hs) (sym made.handles) (waits-set s.handles turn made.new h.waits less.runs);
            puts = subst (λ (hs : List (HandleState T A E)). AllMayPut bound scripts hs set.0) (sym made.handles) set.1;
          };
        }

    link-with : (scripts : List (List C)) (parts turn : ℕ) (s t : SessionState T A E) (l m : LinkView) → (made : ConnectionMade turn s t l m false) → IsUnderWayWith bound scripts parts s → IsWithinLimit t →
        GoesWith bound scripts parts (moved_in_poll made.answer t.streams) s t
    link-with scripts parts turn s t l m made h within =
        let commands = scripts_left scripts s.handles + parts in
        let less = poll-less commands h.state s.hub t.hub s.streams t.streams l m s.asynchronous t.asynchronous made.answer h.fits made.polled made.hands within in
        let moved = moved_in_poll made.answer t.streams in
        let same = ap (scripts_left scripts) made.handles in
        let put = less.put in
        record {
          left = parts;
          put = 0;
          few = omega arith;
          counted = omega (arith, put);
          falls = λ before after le.
              falls-joined 0 (one_if moved) (one_if moved) (left_with scripts after t) (left_with scripts before t) (left_with scripts before s)
              (falls-sent 0 (left_with scripts after t) (left_with scripts before t) refl (omega (arith, le)) (omega arith))
              (falls-beside (one_if moved) (left_of_link commands t.hub t.streams) (left_of_link commands s.hub s.streams) (left_with scripts before t) (left_with scripts before s)
              less.falls (omega arith) (omega (arith, same)) (omega arith))
              (omega arith);
          under_way = record {
            state = less.state;
            fits = less.fits;
            waits = subst (λ (hs : List (HandleState T A E)). AllWait hs) (sym made.handles) h.waits;
            puts = subst (λ (hs : List (HandleState T A E)). AllMayPut bound scripts hs parts) (sym made.handles) h.puts;
          };
        }

    -- one turn
    pub turn-with : (scripts : List (List C)) (parts turn : ℕ) (s t : SessionState T A E) (l m : LinkView) → (made : Makes speech scripts turn s t l m false) → IsUnderWayWith bound scripts parts s → IsWithinLimit t →
        GoesWith bound scripts parts (moved_in speech scripts turn s t l m false made) s t
    turn-with scripts parts turn s t l m (inl handle) h within = handle-with scripts parts turn s t handle.did handle.made h
    turn-with scripts parts turn s t l m (inr link) h within = link-with scripts parts turn s t l m link.made h within

    pub turn-leaves : (scripts : List (List C)) (parts turn : ℕ) (s t : SessionState T A E) (l m : LinkView) → (made : Makes speech scripts turn s t l m false) → IsUnderWayWith bound scripts parts s → IsWithinLimit t →
        LeavesLess bound scripts parts (moved_in speech scripts turn s t l m false made) s t
    turn-leaves scripts parts turn s t l m made h within =
        leaves-so bound scripts parts (moved_in speech scripts turn s t l m false made) s t (turn-with scripts parts turn s t l m made h within)

    pub turn-within-bound : (scripts : List (List C)) (turn : ℕ) (s t : SessionState T A E) (l m : LinkView) → (made : Makes speech scripts turn s t l m false) → IsUnderWayWithin bound scripts s → IsWithinLimit t →
        GoesWithin bound scripts (moved_in speech scripts turn s t l m false made) s t
    turn-within-bound scripts turn s t l m made h within =
        within-so bound scripts (moved_in speech scripts turn s t l m false made) s t h (turn-with scripts h.parts turn s t l m made h.under_way within)

    -- the same by what the turn answers
    pub answered-within : (scripts : List (List C)) (turn : ℕ) (s t : SessionState T A E) (l m : LinkView) (moved : Bool) → Turns speech scripts turn s t l m (Some moved) →
        IsUnderWayWithin bound scripts s → IsWithinLimit t → GoesWithin bound scripts moved s t
    answered-within scripts turn s t l m moved h under_way within =
        subst (λ (b : Bool). GoesWithin bound scripts b s t) h.1 (turn-within-bound scripts turn s t l m h.0 under_way within)

  -- ---- a new session

  may-new : (bound : C → ℕ) (begins : E) (scripts : List (List C)) → AllMayPut {T = T} {A = A} bound scripts (new_handles begins scripts) (bounds_in bound scripts)
  may-new bound begins [] = refl
  may-new bound begins (script ∷ scripts) = (bounds_of bound script, bounds_in bound scripts, refl, may-new bound begins scripts, refl)

  wait-new : (begins : E) (scripts : List (List C)) → AllWait {T = T} {A = A} (new_handles begins scripts)
  wait-new begins [] = tt
  wait-new begins (script ∷ scripts) = (tt, wait-new begins scripts)

  read-new : (begins : E) (scripts : List (List C)) → AllRead {T = T} {A = A} (new_handles begins scripts)
  read-new begins [] = tt
  read-new begins (script ∷ scripts) = (tt, read-new begins scripts)

  pub new-with : (bound : C → ℕ) (scripts : List (List C)) (s : SessionState T A E) → IsNewSession speech scripts s → IsUnderWayWith bound scripts (bounds_in bound scripts) s
  new-with bound scripts s new =
      let hub = closes (commands_in scripts) (start 0 0) new.hub s.hub new.new new.closes in
      record {
        state = hub.state;
        fits = hub.fits;
        waits = subst (λ (hs : List (HandleState T A E)). AllWait hs) (sym new.handles) (wait-new speech.begins scripts);
        puts = subst (λ (hs : List (HandleState T A E)). AllMayPut bound scripts hs (bounds_in bound scripts)) (sym new.handles) (may-new bound speech.begins scripts);
      }

  pub new-within : (bound : C → ℕ) (scripts : List (List C)) (s : SessionState T A E) → IsNewSession speech scripts s → IsUnderWayWithin bound scripts s
  new-within bound scripts s new =
      let hub = closes (commands_in scripts) (start 0 0) new.hub s.hub new.new new.closes in
      let same = hub.put in
      let none = none-put-yet new.hub new.new.book in
      record { parts = bounds_in bound scripts; under_way = new-with bound scripts s new; few = omega (arith, same, none) }

  pub new-under-way : (scripts : List (List C)) (s : SessionState T A E) → IsNewSession speech scripts s → IsUnderWay s
  new-under-way scripts s new =
      let hub = closes (commands_in scripts) (start 0 0) new.hub s.hub new.new new.closes in
      record { state = hub.state; fits = hub.fits; handles = subst (λ (hs : List (HandleState T A E)). AllRead hs) (sym new.handles) (read-new speech.begins scripts) }

  turn-within : (scripts : List (List C)) (turn : ℕ) (s t : SessionState T A E) (l m : LinkView) → Makes speech scripts turn s t l m false → IsWithinLimit t → IsWithinLimit s
  turn-within scripts turn s t l m (inl handle) h = streams-within s.streams t.streams handle.made.streams h
  turn-within scripts turn s t l m (inr link) h =
      poll-within s.hub t.hub s.streams t.streams l m s.asynchronous t.asynchronous link.made.answer link.made.polled link.made.hands h

  all-within : (scripts : List (List C)) (turns : List ℕ) (s : SessionState T A E) (l : LinkView) (t : SessionState T A E) (m : LinkView) →
      MakesAll speech scripts turns s l t m → IsWithinLimit t → IsWithinLimit s
  all-within scripts [] s l t m made h = subst IsWithinLimit made.0 h
  all-within scripts (turn ∷ turns) s l t m made h =
      turn-within scripts turn s made.1 made.0 made.2 made.4 (all-within scripts turns made.1 made.2 t m made.5 h)

  -- ---- turns one after another

  module _ (bound : C → ℕ) (may : PutWithin speech bound) where
    turns-with : (scripts : List (List C)) (parts : ℕ) (turns : List ℕ) (s : SessionState T A E) (l : LinkView) (t : SessionState T A E) (m : LinkView) →
        MakesAll speech scripts turns s l t m → IsUnderWayWith bound scripts parts s → IsWithinLimit t → GoesWith bound scripts parts false s t
    turns-with scripts parts [] s l t m made h within =
        subst (λ (x : SessionState T A E). GoesWith bound scripts parts false s x) (sym made.0)
        (record {
          left = parts;
          put = 0;
          few = omega arith;
          counted = omega arith;
          falls = λ before after le. falls-sent 0 (left_with scripts after s) (left_with scripts before s) refl (omega (arith, le)) (omega arith);
          under_way = h;
        })
    turns-with scripts parts (turn ∷ turns) s l t m made h within =
        let one = turn-with bound may scripts parts turn s made.1 made.0 made.2 made.4 h (all-within scripts turns made.1 made.2 t m made.5 within) in
        let more = turns-with scripts one.left turns made.1 made.2 t m made.5 one.under_way within in
        let moved = moved_in speech scripts turn s made.1 made.0 made.2 false made.4 in
        let few = one.few in
        let fewer = more.few in
        let counted = one.counted in
        let later = more.counted in
        record {
          left = more.left;
          put = one.put + more.put;
          few = omega (arith, few, fewer);
          counted = omega (arith, counted, later);
          falls = λ before after le.
              falls-joined 0 (one_if moved) 0 (left_with scripts after t) (left_with scripts (after + more.put) made.1) (left_with scripts before s)
              (more.falls (after + more.put) after (omega arith)) (one.falls before (after + more.put) (omega (arith, le))) (omega arith);
          under_way = more.under_way;
        }

    pub turns-leave : (scripts : List (List C)) (parts : ℕ) (turns : List ℕ) (s : SessionState T A E) (l : LinkView) (t : SessionState T A E) (m : LinkView) →
        MakesAll speech scripts turns s l t m → IsUnderWayWith bound scripts parts s → IsWithinLimit t → LeavesLess bound scripts parts false s t
    turns-leave scripts parts turns s l t m made h within = leaves-so bound scripts parts false s t (turns-with scripts parts turns s l t m made h within)

    pub turns-within-bound : (scripts : List (List C)) (turns : List ℕ) (s : SessionState T A E) (l : LinkView) (t : SessionState T A E) (m : LinkView) →
        MakesAll speech scripts turns s l t m → IsUnderWayWithin bound scripts s → IsWithinLimit t → GoesWithin bound scripts false s t
    turns-within-bound scripts turns s l t m made h within = within-so bound scripts false s t h (turns-with scripts h.parts turns s l t m made h.under_way within)

  -- ---- where no part is put

  module _ (none : PutNone speech) where
    -- one turn
    pub turn-nearer : (scripts : List (List C)) (turn : ℕ) (s t : SessionState T A E) (l m : LinkView) → (made : Makes speech scripts turn s t l m false) → IsUnderWay s → IsWithinLimit t →
        GoesNearer scripts (moved_in speech scripts turn s t l m false made) s t
    turn-nearer scripts turn s t l m made h within =
        let now : IsUnderWayWith no_parts scripts 0 s = record { state = h.state; fits = h.fits; waits = all-wait s.handles h.handles; puts = none-may scripts s.handles h.handles } in
        let w = turn-with no_parts none scripts 0 turn s t l m made now within in
        let few = w.few in
        let none_left : w.left ≡ 0 = omega (arith, few) in
        record {
          falls = falls-beside (one_if (moved_in speech scripts turn s t l m false made)) (left_with scripts 0 t) (left_with scripts 0 s) (left_to_do scripts t) (left_to_do scripts s)
              (w.falls 0 0 (omega (arith, few))) (omega arith) (omega arith) (omega arith);
          under_way = record { state = w.under_way.state; fits = w.under_way.fits; handles = all-read scripts t.handles w.left w.under_way.puts none_left w.under_way.waits };
        }

    -- the same by what it answers
    pub answered-nearer : (scripts : List (List C)) (turn : ℕ) (s t : SessionState T A E) (l m : LinkView) (moved : Bool) → Turns speech scripts turn s t l m (Some moved) →
        IsUnderWay s → IsWithinLimit t → GoesNearer scripts moved s t
    answered-nearer scripts turn s t l m moved h under_way within =
        subst (λ (b : Bool). GoesNearer scripts b s t) h.1 (turn-nearer scripts turn s t l m h.0 under_way within)

    -- turns one after another leave no more to do
    pub turns-nearer : (scripts : List (List C)) (turns : List ℕ) (s : SessionState T A E) (l : LinkView) (t : SessionState T A E) (m : LinkView) →
        MakesAll speech scripts turns s l t m → IsUnderWay s → IsWithinLimit t → GoesNearer scripts false s t
    turns-nearer scripts [] s l t m made h within =
        subst (λ (x : SessionState T A E). GoesNearer scripts false s x) (sym made.0) (record { falls = Unsent refl refl (omega arith); under_way = h })
    turns-nearer scripts (turn ∷ turns) s l t m made h within =
        let one = turn-nearer scripts turn s made.1 made.0 made.2 made.4 h (all-within scripts turns made.1 made.2 t m made.5 within) in
        let more = turns-nearer scripts turns made.1 made.2 t m made.5 one.under_way within in
        let moved = moved_in speech scripts turn s made.1 made.0 made.2 false made.4 in
        record {
          falls = falls-joined 0 (one_if moved) 0 (left_to_do scripts t) (left_to_do scripts made.1) (left_to_do scripts s) more.falls one.falls (omega arith);
          under_way = more.under_way;
        }
