-- What holds of a session from its first turn to its last.
use Rattle.std.proofs.Common.{◌≡◌, inl, inr, ℕ, zero, suc, List, [], ◌∷◌, ◌++◌, length, map, Bool, true, false, Some, Ok, refl, sym, ap, subst, ◌∙◌, arith, slice_get, append_assoc}
use Rattle.std.proofs.lemmas.List.{append-nil, length-map}
use Rattle.pg_spec.specs.Links.{LinkView}
use Rattle.pg_spec.specs.RawMessages.{RawMessage, sync_of}
use Rattle.pg_spec.specs.Turns.{delivered_before}
use Rattle.pg_spec.specs.declared.stamps.TurnMark.{TurnMark}
use Rattle.pg_connect.proofs.Joining.{delivered_by-append}
use Rattle.pg_connect.specs.Passed.{delivered_by}
use Rattle.pg_desk.specs.declared.event.Event.TheVariants.{CloseRequests}
use Rattle.pg_desk.specs.History.{IsFrontOf, State, after_all, received, start}
use Rattle.pg_hub.specs.Fits.{Fits}
use Rattle.pg_hub.specs.Standing.{Standing}
use Rattle.pg_query.specs.declared.desk_call.DeskCall.{DeskCall}
use Rattle.pg_query.specs.declared.desk_call.Reply.{Reply}
use Rattle.pg_spec.specs.Courses.{Asked, Course}
use Rattle.pg_core.proofs.Counted.{counts-start}
use Rattle.pg_core.proofs.Steps.{reached-start}
use Rattle.pg_session.specs.Turns.{Closes}
use Rattle.pg_session.specs.Speeches.{AreCommands, Speech}
use Rattle.pg_session.specs.Handles.{HandleState, idle_handle}
use Rattle.pg_session.specs.States.{SessionState, commands_in, new_handles}
use Rattle.pg_session.specs.Turns.{Makes}
use Rattle.pg_session.specs.Sessions.{IsNewSession, MakesAll, Plays}
use Rattle.pg_session.specs.Calls.{asked_in_all, asked_in_turn, asked_of, calls_in, calls_in_turn, calls_of}
use Rattle.pg_session.specs.Kept.{AllKept, HandleKept, Past}
use Rattle.pg_session.specs.SessionKept.{IsWithin, SessionKept, left}
use Rattle.pg_session.proofs.AllKept.{nobodys-keep}
use Rattle.pg_session.proofs.Connection.{connection-keeps, over-closing}
use Rattle.pg_session.proofs.Hubs.{becomes, closing-nobodys, nobodys}
use Rattle.pg_session.proofs.Known.{none-known}
use Rattle.pg_session.proofs.Left.{left-new}
use Rattle.pg_session.proofs.Session.{front-short, handle-keeps}

front-then : {A : Type 0} (xs ys zs : List A) → IsFrontOf xs ys → IsFrontOf ys zs → IsFrontOf xs zs
front-then {A} xs ys zs (more, e) (rest, f) = (more ++ rest, sym (append_assoc xs more rest) ∙ ap (λ (l : List A). l ++ rest) e ∙ f)

-- ---- one turn

pub turn-keeps-on : {C T A E : Type 0} (speech : Speech C T A E) (scripts : List (List C)) (course : Course DeskCall Reply) (later : List RawMessage) (asked : List (Asked DeskCall Reply)) (came : List RawMessage) (turn : ℕ) (s t : SessionState T A E) (l m : LinkView) (over : Bool) → AreCommands speech →
    (made : Makes speech scripts turn s t l m over) → IsWithin course later t.trace came → SessionKept speech scripts course asked came s →
    SessionKept speech scripts course (asked ++ asked_in_turn speech scripts turn s t l m over made) (came ++ delivered_by (calls_in_turn speech scripts turn s t l m over made)) t
turn-keeps-on speech scripts course later asked came turn s t l m over commands (inl handle) within k =
    subst (λ (ms : List RawMessage). SessionKept speech scripts course (asked ++ asked_in_turn speech scripts turn s t l m over (inl handle)) ms t) (sym (append-nil came))
    (handle-keeps speech scripts course later asked came turn s t handle.did commands handle.made within k)
turn-keeps-on speech scripts course later asked came turn s t l m over commands (inr connection) within k =
    subst (λ (qs : List (Asked DeskCall Reply)). SessionKept speech scripts course qs (came ++ delivered_by (calls_in_turn speech scripts turn s t l m over (inr connection))) t) (sym (append-nil asked))
    (connection-keeps speech scripts course later asked came turn s t l m over connection.other connection.made within k)

turn-trace : {C T A E : Type 0} (speech : Speech C T A E) (scripts : List (List C)) (turn : ℕ) (s t : SessionState T A E) (l m : LinkView) (over : Bool) → Makes speech scripts turn s t l m over → IsFrontOf s.trace t.trace
turn-trace speech scripts turn s t l m over (inl handle) = (_, sym handle.made.trace)
turn-trace speech scripts turn s t l m over (inr connection) = (_, sym connection.made.trace)

turns-trace : {C T A E : Type 0} (speech : Speech C T A E) (scripts : List (List C)) (turns : List ℕ) (s : SessionState T A E) (l : LinkView) (t : SessionState T A E) (m : LinkView) → MakesAll speech scripts turns s l t m → IsFrontOf s.trace t.trace
turns-trace {C} {T} {A} {E} speech scripts [] s l t m made = subst (λ (x : SessionState T A E). IsFrontOf s.trace x.trace) (sym made.0) ([], append-nil s.trace)
turns-trace speech scripts (turn ∷ turns) s l t m (rested, mid, passed, rests, makes, more) =
    front-then s.trace mid.trace t.trace (turn-trace speech scripts turn s mid rested passed false makes) (turns-trace speech scripts turns mid passed t m more)

-- what came first is a front too
front-first : (came now more whole : List RawMessage) → IsFrontOf ((came ++ now) ++ more) whole → IsFrontOf came whole
front-first came now more whole h = front-then came ((came ++ now) ++ more) whole (now ++ more, sym (append_assoc came now more)) h

within-before : (course : Course DeskCall Reply) (later : List RawMessage) (trace whole : List TurnMark) (came all : List RawMessage) → IsFrontOf trace whole → IsFrontOf came all → IsWithin course later whole all → IsWithin course later trace came
within-before course later trace whole came all f g w = record { turns = front-then trace whole course.trace f w.turns; front = front-then came all (sync_of later) g w.front; replies = w.replies; small = (let a = front-short came all g in let b = w.small in omega (arith, a, b)) }

pub turns-keep : {C T A E : Type 0} (speech : Speech C T A E) (scripts : List (List C)) (course : Course DeskCall Reply) (later : List RawMessage) (asked : List (Asked DeskCall Reply)) (came : List RawMessage) (turns : List ℕ) (s : SessionState T A E) (l : LinkView) (t : SessionState T A E) (m : LinkView) → AreCommands speech →
    (made : MakesAll speech scripts turns s l t m) → IsWithin course later t.trace (came ++ delivered_by (calls_in speech scripts turns s l t m made)) → SessionKept speech scripts course asked came s →
    SessionKept speech scripts course (asked ++ asked_in_all speech scripts turns s l t m made) (came ++ delivered_by (calls_in speech scripts turns s l t m made)) t
turns-keep {C} {T} {A} {E} speech scripts course later asked came [] s l t m commands made within k =
    subst (λ (x : SessionState T A E). SessionKept speech scripts course (asked ++ []) (came ++ []) x) (sym made.0)
    (subst (λ (ms : List RawMessage). SessionKept speech scripts course (asked ++ []) ms s) (sym (append-nil came))
    (subst (λ (qs : List (Asked DeskCall Reply)). SessionKept speech scripts course qs came s) (sym (append-nil asked)) k))
turns-keep {C} {T} {A} {E} speech scripts course later asked came (turn ∷ turns) s l t m commands (rested, mid, passed, rests, makes, more) within k =
    let now = calls_in_turn speech scripts turn s mid rested passed false makes in
    let next = calls_in speech scripts turns mid passed t m more in
    let qs = asked_in_turn speech scripts turn s mid rested passed false makes in
    let rs = asked_in_all speech scripts turns mid passed t m more in
    let joined : came ++ delivered_by (now ++ next) ≡ (came ++ delivered_by now) ++ delivered_by next =
    ap (λ (ms : List RawMessage). came ++ ms) (delivered_by-append now next) ∙ sym (append_assoc came (delivered_by now) (delivered_by next)) in
    let all : IsWithin course later t.trace ((came ++ delivered_by now) ++ delivered_by next) = subst (λ (ms : List RawMessage). IsWithin course later t.trace ms) joined within in
    let first = turn-keeps-on speech scripts course later asked came turn s mid rested passed false commands makes
    (within-before course later mid.trace t.trace came ((came ++ delivered_by now) ++ delivered_by next) (turns-trace speech scripts turns mid passed t m more)
    (delivered_by now ++ delivered_by next, sym (append_assoc came (delivered_by now) (delivered_by next))) all) k in
    let rest = turns-keep speech scripts course later (asked ++ qs) (came ++ delivered_by now) turns mid passed t m commands more all first in
    subst (λ (ms : List RawMessage). SessionKept speech scripts course (asked ++ (qs ++ rs)) ms t) (sym joined)
    (subst (λ (xs : List (Asked DeskCall Reply)). SessionKept speech scripts course xs ((came ++ delivered_by now) ++ delivered_by next) t) (append_assoc asked qs rs) rest)

-- ---- the first state

record Opens {C T A E : Type 0} (speech : Speech C T A E) (scripts : List (List C)) (course : Course DeskCall Reply) (handles : List (HandleState T A E)) (now : Standing) (n : ℕ) : Type 0 where
  state : State
  fits : Fits state now
  come : received state.deliveries ≡ []
  failed : now.failed ≡ false
  closed : now.closed ≡ true → n ≡ 0
  all : AllKept speech scripts course (record { turns = 0; asked = []; state = state }) handles

none-there : {C T A E : Type 0} (begins : E) (scripts : List (List C)) (i : ℕ) (h : HandleState T A E) → slice_get (new_handles {C = C} begins scripts) i ≡ Some h → h ≡ idle_handle begins
none-there begins [] i h e = absurd cc
none-there begins (script ∷ scripts) zero h e = cc
none-there begins (script ∷ scripts) (suc i) h e = none-there begins scripts i h e

no-past : {C P : Type 0} (scripts : List (List C)) (i : ℕ) (past : List P) → slice_get (map (λ (script : List C). let none : List P = [] in none) scripts) i ≡ Some past → past ≡ []
no-past [] i past e = absurd cc
no-past (script ∷ scripts) zero past e = cc
no-past (script ∷ scripts) (suc i) past e = no-past scripts i past e

idle-kept : {C T A E : Type 0} (speech : Speech C T A E) (course : Course DeskCall Reply) (script : List C) (i : ℕ) → HandleKept {T = T} {A = A} speech course script i (idle_handle speech.begins) [] (record { turns = 0; asked = []; state = start 0 0 })
idle-kept speech course script i = record {
  answers = refl;
  own = refl;
  done = λ j x e. absurd cc;
  does = record { requests = refl; questions = refl; no_turn = λ command stands place ge lt own. omega (arith, lt) };
  free = omega arith;
  none_later = λ j lt. (refl, refl);
}

all-new : {C T A E : Type 0} (speech : Speech C T A E) (scripts : List (List C)) (course : Course DeskCall Reply) → AllKept speech scripts course (record { turns = 0; asked = []; state = start 0 0 }) (new_handles {C = C} {T = T} {A = A} speech.begins scripts)
all-new {C} {T} {A} {E} speech scripts course = record {
  reached = reached-start 0 0;
  counts = counts-start;
  pasts = map (λ (script : List C). let none : List (Past A E) = [] in none) scripts;
  as_many = length-map scripts (λ (script : List C). let none : List (Past A E) = [] in none);
  each = λ i script h past e f g.
      subst (λ (x : HandleState T A E). HandleKept speech course script i x past (record { turns = 0; asked = []; state = start 0 0 })) (sym (none-there speech.begins scripts i h f))
      (subst (λ (x : List (Past A E)). HandleKept speech course script i (idle_handle speech.begins) x (record { turns = 0; asked = []; state = start 0 0 })) (sym (no-past scripts i past g)) (idle-kept speech course script i));
  book = none-known scripts _ _ _ 0;
  questions = none-known scripts _ _ _ 0;
  told = tt;
  asked_first = λ k lt. absurd (omega (arith, lt));
}

opens : {C T A E : Type 0} (speech : Speech C T A E) (scripts : List (List C)) (course : Course DeskCall Reply) (n : ℕ) (hub now : Standing) → Fits (start 0 0) hub → Closes n hub now → Opens {T = T} {A = A} speech scripts course (new_handles speech.begins scripts) now n
opens speech scripts course zero hub now f h =
    let b = becomes (start 0 0) hub now (CloseRequests (Ok tt) ∷ []) f h in
    record {
      state = after_all (start 0 0) (CloseRequests (Ok tt) ∷ []);
      fits = b.fits;
      come = refl;
      failed = b.fits.failed;
      closed = λ e. refl;
      all = nobodys-keep speech scripts course (record { turns = 0; asked = []; state = start 0 0 }) (new_handles speech.begins scripts) (nobodys (CloseRequests (Ok tt) ∷ [])) 0
          (closing-nobodys course (length scripts) (record { turns = 0; asked = []; state = start 0 0 })) (all-new speech scripts course);
    }
opens {C} {T} {A} {E} speech scripts course (suc n) hub now f h =
    subst (λ (x : Standing). Opens {T = T} {A = A} speech scripts course (new_handles speech.begins scripts) x (suc n)) (sym h)
    (record {
      state = start 0 0;
      fits = f;
      come = refl;
      failed = f.failed;
      closed = λ e. absurd (let no_way : true ≡ false = sym e ∙ f.closed in cc);
      all = all-new speech scripts course;
    })

pub new-kept : {C T A E : Type 0} (speech : Speech C T A E) (scripts : List (List C)) (course : Course DeskCall Reply) (s : SessionState T A E) → IsNewSession speech scripts s → s.streams.closing ≡ false → s.streams.delivered ≡ 0 →
    SessionKept speech scripts course [] [] s
new-kept {C} {T} {A} {E} speech scripts course s h active none =
    let o = opens {T = T} {A = A} speech scripts course (commands_in scripts) h.hub s.hub h.new h.closes in
    record {
      state = o.state;
      fits = o.fits;
      received = o.come;
      closed = λ e. h.unanswered ∙ o.closed e;
      failed = o.failed;
      closing = λ e. absurd (let no_way : true ≡ false = sym e ∙ active in cc);
      unanswered = h.unanswered ∙ sym (left-new T A speech.begins scripts) ∙ ap (left scripts) (sym h.handles);
      many = ap (λ (hs : List (HandleState T A E)). length hs) h.handles ∙ length-map scripts (λ (script : List C). idle_handle speech.begins);
      marked = ap (λ (tr : List TurnMark). delivered_before tr (length tr)) h.trace ∙ sym none;
      counted = none;
      all = subst (λ (tr : List TurnMark). AllKept speech scripts course (record { turns = length tr; asked = []; state = o.state }) s.handles) (sym h.trace)
          (subst (λ (hs : List (HandleState T A E)). AllKept speech scripts course (record { turns = 0; asked = []; state = o.state }) hs) (sym h.handles) o.all);
    }

-- ---- the last state

last-closing : {C T A E : Type 0} (speech : Speech C T A E) (scripts : List (List C)) (turn : ℕ) (s t : SessionState T A E) (l m : LinkView) → Makes speech scripts turn s t l m true → t.streams.closing ≡ true
last-closing speech scripts turn s t l m (inl handle) = absurd (let no_way : true ≡ false = handle.goes_on in cc)
last-closing speech scripts turn s t l m (inr connection) =
    let made = connection.made in
    over-closing s.hub t.hub s.streams t.streams l m made.answer made.polled s.asynchronous t.asynchronous made.hands

-- what holds at the end
pub record SessionEnds {C T A E : Type 0} (speech : Speech C T A E) (scripts : List (List C)) (course : Course DeskCall Reply) (asked : List (Asked DeskCall Reply)) (came : List RawMessage) (t : SessionState T A E) : Type 0 where
  pub kept : SessionKept speech scripts course asked came t
  pub none_left : t.unanswered ≡ 0

pub session-ends : {C T A E : Type 0} (speech : Speech C T A E) (scripts : List (List C)) (given : List ℕ) (course : Course DeskCall Reply) (later : List RawMessage) (s : SessionState T A E) (l : LinkView) (t : SessionState T A E) (m : LinkView) → AreCommands speech →
    IsNewSession speech scripts s → s.streams.closing ≡ false → s.streams.delivered ≡ 0 → (plays : Plays speech scripts given s l t m) → IsWithin course later t.trace (delivered_by (calls_of speech scripts given s l t m plays)) →
    SessionEnds speech scripts course (asked_of speech scripts given s l t m plays) (delivered_by (calls_of speech scripts given s l t m plays)) t
session-ends speech scripts given course later s l t m commands new active none plays within =
    let ends = plays.ends in
    let es = calls_in speech scripts plays.turns s l ends.state ends.link ends.before in
    let fs = calls_in_turn speech scripts plays.last ends.state t ends.link m true ends.over in
    let qs = asked_in_all speech scripts plays.turns s l ends.state ends.link ends.before in
    let rs = asked_in_turn speech scripts plays.last ends.state t ends.link m true ends.over in
    let joined : delivered_by (es ++ fs) ≡ delivered_by es ++ delivered_by fs = delivered_by-append es fs in
    let all : IsWithin course later t.trace (delivered_by es ++ delivered_by fs) = subst (λ (ms : List RawMessage). IsWithin course later t.trace ms) joined within in
    let first = new-kept speech scripts course s new active none in
    let mid = within-before course later ends.state.trace t.trace (delivered_by es) (delivered_by es ++ delivered_by fs) (turn-trace speech scripts plays.last ends.state t ends.link m true ends.over) (delivered_by fs, refl) all in
    let before = turns-keep speech scripts course later [] [] plays.turns s l ends.state ends.link commands ends.before mid first in
    let last = turn-keeps-on speech scripts course later qs (delivered_by es) plays.last ends.state t ends.link m true commands ends.over
    (within-before course later t.trace t.trace (delivered_by es) (delivered_by es ++ delivered_by fs) ([], append-nil t.trace) (delivered_by fs, refl) all) before in
    record {
      kept = subst (λ (ms : List RawMessage). SessionKept speech scripts course (qs ++ rs) ms t) (sym joined) last;
      none_left = last.closed (last.closing (last-closing speech scripts plays.last ends.state t ends.link m ends.over));
    }
