-- A command turn by turn: its equations are kept, and where it answers it unfolds.
use Rattle.std.proofs.Common.{◌≡◌, ℕ, ◌+◌, ◌<◌, ◌≤◌, nat_le, List, [], ◌∷◌, ◌++◌, length, take, drop, Bool, true, false, Option, Some, None, Result, refl, inl, inr, sym, ap, subst, ◌∙◌, arith, append_assoc}
use Rattle.std.proofs.lemmas.Bool.Decides.{nat_tests}
use Rattle.std.proofs.lemmas.List.{append-nil, take-append-drop, length-take-le, length-append}
use Rattle.pg_spec.specs.RawMessages.{RawMessage}
use Rattle.pg_spec.specs.Turns.{turn_of}
use Rattle.pg_desk.specs.History.{IsFrontOf}
use Rattle.pg_types.specs.declared.error.Error.{Error}
use Rattle.pg_query.specs.Dialogue as code
use Rattle.pg_query.specs.Dialogue.{feed}
use Rattle.pg_query.specs.Lives.{Deed, Leads}
use Rattle.pg_query.specs.Meaning.{Place}
use Rattle.pg_query.specs.Scripts.{IsRead, IsPut}
use Rattle.pg_query.specs.declared.desk_call.DeskCall.{DeskCall}
use Rattle.pg_query.specs.declared.desk_call.Reply.{Reply}
use Rattle.pg_spec.specs.Courses.{Asked, Course, Request, Point, Given, Unfolds, begun_in, nowhere, delivered_to, Who}
use Rattle.pg_spec.specs.Dialogues.{Dialogue, Reads}
use Rattle.pg_core.proofs.Walk.{Step, is_delivered, may_read, with_parts}
use Rattle.pg_core.proofs.Living.{Went, went}
use Rattle.pg_core.specs.Deeds.{Serves, bookings_in, answers_in, additions_in, got_after, granted}
use Rattle.pg_core.specs.Runs as runs
use Rattle.pg_core.specs.Runs.{Ran, of_request, run, ReadsNothing, IsTidy, At, Holds, Ends, Answered, Stands, Comes, MayWait}
use Rattle.pg_core.specs.Outcomes.{asked}
use Rattle.pg_core.specs.Trails.{point_of, Moment, then_ran, goes_on, ran_by, AreMet, IsRunning, moment_of, LedTo, Waiting, Answering, Refusing, PollsOn, NoneBetween, IsTurnOf, AreTurnsOf, begun_at}
use Rattle.pg_core.proofs.Core.{comes}
use Rattle.pg_core.proofs.Goes.{step_of, goes-so}
use Rattle.pg_core.proofs.Later.{GivesNone, NoneRead, Another, gives-none}

-- ---- from turn to turn

le-of : (a b : ℕ) → nat_le a b ≡ true → a ≤ b
le-of a b e = grind (arith, nat_tests, e)

no-le : (a b : ℕ) → nat_le a b ≡ false → a ≤ b → ⊥
no-le a b e le = grind (arith, nat_tests, e, le)

abbrev later : Point → ℕ → Point
later at turn = record { turn = turn; request = at.request; read = at.read; parts = at.parts }

-- it wasn't ready in its handle's turns from where it stands up to a place
abbrev NotYet : {Q R A : Type 0} → Course Q R → (handle : ℕ) → Point → Dialogue Q R A → (to : ℕ) → Type 0
NotYet course handle at d to = (p : ℕ) → at.turn ≤ p → p < to → turn_of course.trace p ≡ handle → may_read course p at d ≡ false

-- so it may as well be read from there
rebased : {Q R A : Type 0} (course : Course Q R) (handle : ℕ) (at : Point) (to : ℕ) (decides : List RawMessage → Bool) (next : List RawMessage → Dialogue Q R A) (requests : List Request) (asked : List (Asked Q R)) (given : Given A) →
    at.turn ≤ to → NotYet course handle at (Reads decides next) to → Unfolds course handle (later at to) (Reads decides next) requests asked given →
    Unfolds course handle at (Reads decides next) requests asked given
rebased course handle at to decides next requests asked given le not_yet (n, decided, turn, first, h) = (
  n,
  decided,
  turn,
  record {
    made = first.made;
    own = first.own;
    no_sooner = let far : to ≤ turn = first.no_sooner in omega (arith, le, far);
    holds = first.holds;
    first = sooner;
  },
  h,
)
  where
    sooner : (earlier : ℕ) → at.turn ≤ earlier → earlier < turn → turn_of course.trace earlier ≡ handle → at.read + n ≤ delivered_to course at.request earlier → ⊥
    sooner earlier from before mine holds = by (nat_le to earlier) refl
      where
        by : (b : Bool) → nat_le to earlier ≡ b → ⊥
        by true e = first.first earlier (le-of to earlier e) before mine holds
        by false e =
            let lt : earlier < to = grind (arith, nat_tests, e) in
            let not : is_delivered course at earlier (Some n) ≡ false = sym (ap (is_delivered course at earlier) decided) ∙ not_yet earlier from lt mine in
            no-le (at.read + n) (delivered_to course at.request earlier) not holds

-- it waits in the turn in which it stands, and where it unfolds from there, whatever parts come later, it unfolds from its begin
record Carries {T : Type 0} (course : Course DeskCall Reply) (who : Who) (d : code.Dialogue T) (m : Moment) (before : List Moment) : Type 0 where
  stuck : may_read course m.place (point_of m.place (ran_by d (m ∷ before))) (asked (ran_by d (m ∷ before)).left) ≡ false
  back : (coming : List (List ℕ)) (more : List Request) (others : List (Asked DeskCall Reply)) (given : Given (Result T Error)) →
      Unfolds course who.handle (with_parts coming (point_of m.place (ran_by d (m ∷ before)))) (asked (ran_by d (m ∷ before)).left) more others given →
      Unfolds course who.handle (with_parts ((ran_by d (m ∷ before)).parts coming) (begun_in nowhere (begun_at m before))) (asked d) ((ran_by d (m ∷ before)).whole coming ++ more) ((ran_by d (m ∷ before)).asked ++ others) given

-- one turn, by the law of one turn
turn-went : {T : Type 0} (tells : List DeskCall → DeskCall → Reply) (course : Course DeskCall Reply) (who : Who) (d : code.Dialogue T) (m : Moment) (before : List Moment) (number : ℕ) (former : List DeskCall) → IsTurnOf tells course who d before number former m →
    (goes_on (ran_by d before) m).asked ≡ granted m.answers →
    Went course who.handle (point_of m.place (ran_by d before)) (asked (ran_by d before).left) (step_of m.place (goes_on (ran_by d before) m))
turn-went {T} tells course who d m before number former t same =
    let s = ran_by d before in
    let g = goes-so tells course who m.place m.came t.came number former s.at s.read s.left m.bookings m.answers m.additions t.within t.booked t.answered t.all_added t.numbered t.told same t.settled in
    subst (λ (x : Step DeskCall Reply (Result T Error)). Went course who.handle (point_of m.place s) (asked s.left) x) g.1
    (went tells course who number former (point_of m.place s) (asked s.left) g.0 t.own)

-- where it may wait, from the former turn
from-former : {T : Type 0} (course : Course DeskCall Reply) (handle : ℕ) (former next : ℕ) (s : Ran T) (coming : List (List ℕ)) (d : code.Dialogue T) → s.left ≡ d → MayWait d → former < next → NoneBetween course handle former next →
    may_read course former (point_of former s) (asked s.left) ≡ false →
    (more : List Request) (others : List (Asked DeskCall Reply)) (given : Given (Result T Error)) → Unfolds course handle (with_parts coming (point_of next s)) (asked s.left) more others given →
    Unfolds course handle (with_parts coming (point_of former s)) (asked s.left) more others given
from-former {T} course handle former next s coming (code.Read cleanup decides next_d) is (inl reads) lt none stuck more others given u =
    subst (λ (x : code.Dialogue T). Unfolds course handle (with_parts coming (point_of former s)) (asked x) more others given) (sym is)
    (rebased course handle (with_parts coming (point_of former s)) next decides (λ ms. asked (next_d ms)) more others given (omega (arith, lt)) not_yet
    (subst (λ (x : code.Dialogue T). Unfolds course handle (with_parts coming (point_of next s)) (asked x) more others given) is u))
  where
    not_yet : NotYet course handle (with_parts coming (point_of former s)) (Reads decides (λ ms. asked (next_d ms))) next
    not_yet p from before mine = by (nat_le p former) refl
      where
        by : (b : Bool) → nat_le p former ≡ b → may_read course p (point_of former s) (asked (code.Read cleanup decides next_d)) ≡ false
        by true e =
            let up : p ≤ former = le-of p former e in
            let here : former ≡ p = omega (arith, from, up) in
            subst (λ (k : ℕ). may_read course k (point_of former s) (asked (code.Read cleanup decides next_d)) ≡ false) here
            (subst (λ (x : code.Dialogue T). may_read course former (point_of former s) (asked x) ≡ false) is stuck)
        by false e = absurd (none p (grind (arith, nat_tests, e)) before mine)
from-former {T} course handle former next s coming (code.Put cleanup part d) is (inr puts) lt none stuck more others given u =
    subst (λ (x : code.Dialogue T). Unfolds course handle (with_parts coming (point_of former s)) (asked x) more others given) (sym is)
    (sooner (subst (λ (x : code.Dialogue T). Unfolds course handle (with_parts coming (point_of next s)) (asked x) more others given) is u))
  where
    sooner : Unfolds course handle (with_parts coming (point_of next s)) (asked (code.Put cleanup part d)) more others given → Unfolds course handle (with_parts coming (point_of former s)) (asked (code.Put cleanup part d)) more others given
    sooner (turn, own, rest, first, h) = (turn, record { made = own.made; own = own.own; no_sooner = let far : next ≤ turn = own.no_sooner in omega (arith, lt, far) }, rest, first, h)
from-former course handle former next s coming (code.Read cleanup decides next_d) is (inr h) lt none stuck more others given u = absurd h
from-former course handle former next s coming (code.Put cleanup part d) is (inl h) lt none stuck more others given u = absurd h
from-former course handle former next s coming (code.Answer r) is (inl h) lt none stuck more others given u = absurd h
from-former course handle former next s coming (code.Answer r) is (inr h) lt none stuck more others given u = absurd h
from-former course handle former next s coming (code.Ask copying part d) is (inl h) lt none stuck more others given u = absurd h
from-former course handle former next s coming (code.Ask copying part d) is (inr h) lt none stuck more others given u = absurd h
from-former course handle former next s coming (code.Send part refused d) is (inl h) lt none stuck more others given u = absurd h
from-former course handle former next s coming (code.Send part refused d) is (inr h) lt none stuck more others given u = absurd h
from-former course handle former next s coming (code.Leave id d) is (inl h) lt none stuck more others given u = absurd h
from-former course handle former next s coming (code.Leave id d) is (inr h) lt none stuck more others given u = absurd h
from-former course handle former next s coming (code.Finish part d) is (inl h) lt none stuck more others given u = absurd h
from-former course handle former next s coming (code.Finish part d) is (inr h) lt none stuck more others given u = absurd h
from-former course handle former next s coming (code.Close part d) is (inl h) lt none stuck more others given u = absurd h
from-former course handle former next s coming (code.Close part d) is (inr h) lt none stuck more others given u = absurd h
from-former course handle former next s coming (code.HangUp d) is (inl h) lt none stuck more others given u = absurd h
from-former course handle former next s coming (code.HangUp d) is (inr h) lt none stuck more others given u = absurd h
from-former course handle former next s coming (code.Call q refused next_d) is (inl h) lt none stuck more others given u = absurd h
from-former course handle former next s coming (code.Call q refused next_d) is (inr h) lt none stuck more others given u = absurd h
from-former course handle former next s coming (code.Hear next_d) is (inl h) lt none stuck more others given u = absurd h
from-former course handle former next s coming (code.Hear next_d) is (inr h) lt none stuck more others given u = absurd h

carried : {T : Type 0} (tells : List DeskCall → DeskCall → Reply) (course : Course DeskCall Reply) (who : Who) (d : code.Dialogue T) (m : Moment) (before : List Moment) → AreTurnsOf tells course who d (m ∷ before) → AreMet d (m ∷ before) →
    Carries course who d m before
carried tells course who d m [] (number, asked_before, t, ts) (requests, same, added, met) =
    let w = turn-went tells course who d m [] number asked_before t same in
    record { stuck = w.stuck; back = w.unfolds }
carried {T} tells course who d m (former ∷ before) (number, asked_before, t, ts) (requests, same, added, met) =
    let w = turn-went tells course who d m (former ∷ before) number asked_before t same in
    let h = carried tells course who d former before ts met in
    let s = ran_by d (former ∷ before) in
    let r = goes_on s m in
    record {
      stuck = w.stuck;
      back = λ coming more others given u.
          let begin = with_parts (s.parts (r.parts coming)) (begun_in nowhere (begun_at former before)) in
          subst (λ (rs : List Request). Unfolds course who.handle begin (asked d) rs ((s.asked ++ r.asked) ++ others) given) (sym (append_assoc (s.whole (r.parts coming)) (r.whole coming) more))
          (subst (λ (qs : List (Asked DeskCall Reply)). Unfolds course who.handle begin (asked d) (s.whole (r.parts coming) ++ (r.whole coming ++ more)) qs given) (sym (append_assoc s.asked r.asked others))
          (h.back (r.parts coming) (r.whole coming ++ more) (r.asked ++ others) given
          (from-former course who.handle former.place m.place s (r.parts coming) s.left refl t.next.2 t.next.0 t.next.1 h.stuck (r.whole coming ++ more) (r.asked ++ others) given (w.unfolds coming more others given u))));
    }

-- no part is added before the first request
gives-by : {T : Type 0} (d : code.Dialogue T) (trail : List Moment) → GivesNone (ran_by d trail)
gives-by d [] = NoneRead refl (λ later. refl)
gives-by {T} d (m ∷ before) = by (gives-by d before)
  where
    s : Ran T
    s = ran_by d before

    both : (at : Option ℕ) → at ≡ None → ((later : List (List ℕ)) → s.parts later ≡ later) → GivesNone (run m.came at s.read s.left m.bookings m.answers m.additions) → GivesNone (then_ran s (run m.came at s.read s.left m.bookings m.answers m.additions))
    both at e same (NoneRead none all) = NoneRead none (λ later. same ((run m.came at s.read s.left m.bookings m.answers m.additions).parts later) ∙ all later)
    both at e same (Another none) = Another (λ later. same ((run m.came at s.read s.left m.bookings m.answers m.additions).parts later) ∙ none later)

    by : GivesNone s → GivesNone (ran_by d (m ∷ before))
    by (Another none) = Another (λ later. none ((goes_on s m).parts later))
    by (NoneRead e same) = both s.at e same (subst (λ (at : Option ℕ). GivesNone (run m.came at s.read s.left m.bookings m.answers m.additions)) (sym e) (gives-none m.came s.read s.left m.bookings m.answers m.additions))

none-by : {T : Type 0} (d : code.Dialogue T) (trail : List Moment) → (ran_by d trail).parts [] ≡ []
none-by {T} d trail = by (gives-by d trail)
  where
    by : GivesNone (ran_by d trail) → (ran_by d trail).parts [] ≡ []
    by (NoneRead e same) = same []
    by (Another none) = none []

pub trail-unfolds : {T : Type 0} (tells : List DeskCall → DeskCall → Reply) (course : Course DeskCall Reply) (who : Who) (d : code.Dialogue T) (m : Moment) (before : List Moment) (a : Result T Error) → AreTurnsOf tells course who d (m ∷ before) →
    AreMet d (m ∷ before) → (ran_by d (m ∷ before)).left ≡ code.Answer a →
    Unfolds course who.handle (begun_in nowhere (begun_at m before)) (asked d) ((ran_by d (m ∷ before)).whole []) (ran_by d (m ∷ before)).asked (record { at = point_of m.place (ran_by d (m ∷ before)); answer = a })
trail-unfolds {T} tells course who d m before a turns met is =
    let s = ran_by d (m ∷ before) in
    let g : Given (Result T Error) = record { at = point_of m.place s; answer = a } in
    let begin : Point = begun_in nowhere (begun_at m before) in
    subst (λ (ps : List (List ℕ)). Unfolds course who.handle (with_parts ps begin) (asked d) (s.whole []) s.asked g) (none-by d (m ∷ before))
    (subst (λ (rs : List Request). Unfolds course who.handle (with_parts (s.parts []) begin) (asked d) rs s.asked g) (append-nil (s.whole []))
    (subst (λ (qs : List (Asked DeskCall Reply)). Unfolds course who.handle (with_parts (s.parts []) begin) (asked d) (s.whole [] ++ []) qs g) (append-nil s.asked)
    ((carried tells course who d m before turns met).back [] [] [] g
    (subst (λ (x : code.Dialogue T). Unfolds course who.handle (with_parts [] (point_of m.place s)) (asked x) [] [] g) (sym is) (refl, refl, refl, refl)))))

-- ---- the equations are kept

pub begins : {T : Type 0} (d : code.Dialogue T) (got : ℕ → List RawMessage) (p : Place T) → p.dialogue ≡ d → IsTidy d → ReadsNothing d → IsRunning d [] got p
begins d got p is tidy nothing = record { met = tt; at = nothing; tidy = tidy; within = omega arith; place = is }

-- by turns of others, which take nothing of the request that it reads
pub others : {T : Type 0} (d : code.Dialogue T) (trail : List Moment) (got more : ℕ → List RawMessage) (p : Place T) → of_request more (ran_by d trail).at ≡ of_request got (ran_by d trail).at → IsRunning d trail got p → IsRunning d trail more p
others d trail got more p same h = record {
  met = h.met;
  at = h.at;
  tidy = h.tidy;
  within = let e = ap length same in let w = h.within in omega (arith, e, w);
  place = h.place ∙ ap (λ (ms : List RawMessage). feed (drop (ran_by d trail).read ms) (ran_by d trail).left) (sym same);
}

-- what it holds when its next turn begins
held : (came got : ℕ → List RawMessage) (at : Option ℕ) (n : ℕ) → n ≤ length (of_request got at) → IsFrontOf (of_request got at) (of_request came at) → Holds came got at n (drop n (of_request got at))
held came got at n le front = record {
  read = take n (of_request got at);
  count = length-take-le n (of_request got at) le;
  took = sym (take-append-drop n (of_request got at));
  more = front.0;
  all = sym (append_assoc (take n (of_request got at)) (drop n (of_request got at)) front.0) ∙ ap (λ (ms : List RawMessage). ms ++ front.0) (take-append-drop n (of_request got at)) ∙ front.1;
}

-- by a turn of its own
pub polled : {T : Type 0} (d : code.Dialogue T) (trail : List Moment) (came got : ℕ → List RawMessage) (p : Place T) (place : ℕ) (ds : List Deed) (q : Place T) → IsRunning d trail got p →
    IsFrontOf (of_request got (ran_by d trail).at) (of_request came (ran_by d trail).at) → Leads p.dialogue p.reads ds q.dialogue q.reads → Serves came got ds →
    PollsOn d (moment_of place came ds) trail got ds q
polled {T} d trail came got p place ds q h front l serves = record {
  met = (c.requests, c.asked, c.added, h.met);
  within = let w = h.within in let e : length (of_request got s.at ++ front.0) ≡ length (of_request got s.at) + length front.0 = length-append (of_request got s.at) front.0 in let f = ap length front.1 in omega (arith, w, e, f);
  leads = λ ends. by ends (c.stands ends);
}
  where
    s : Ran T
    s = ran_by d trail

    c : Comes came got (run came s.at s.read s.left (bookings_in ds) (answers_in ds) (additions_in ds)) ds q.dialogue q.reads
    c = comes came got s.at s.read (drop s.read (of_request got s.at)) s.left p.reads ds q.dialogue q.reads h.tidy h.at (held came got s.at s.read h.within front)
        (subst (λ (x : code.Dialogue T). Leads x p.reads ds q.dialogue q.reads) h.place l) serves

    r : Ran T
    r = run came s.at s.read s.left (bookings_in ds) (answers_in ds) (additions_in ds)

    settled : (x : Result T Error) → q.dialogue ≡ code.Answer x → MayWait q.dialogue → ⊥
    settled x e (inl reads) = subst IsRead e reads
    settled x e (inr puts) = subst IsPut e puts

    by : Ends came got ds q.dialogue q.reads → Stands came got r ds q.dialogue q.reads → LedTo d (moment_of place came ds ∷ trail) got ds q
    by ends (runs.Gave x is left) = Answering x is left
    by (Answered x e) (runs.Rests here there waits tidy le is) = absurd (settled x e there)
    by ends (runs.Rests here there waits tidy le is) = Waiting
        (record {
          met = (c.requests, c.asked, c.added, h.met);
          at = subst (λ (at : Option ℕ). At at q.reads r.left) (sym here) refl;
          tidy = tidy;
          within = (let e = ap (λ (at : Option ℕ). length (of_request (got_after got ds) at)) here in omega (arith, le, e));
          place = is ∙ ap (λ (at : Option ℕ). feed (drop r.read (of_request (got_after got ds) at)) r.left) (sym here);
        })
        waits
    by ends (runs.Refused x) = Refusing x
