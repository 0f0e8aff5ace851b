-- How far reading goes.
use Rattle.std.proofs.Common.{◌≡◌, ℕ, ◌+◌, ◌≤◌, ◌||◌, List, [], ◌∷◌, ◌++◌, length, None, Result, Ok, Err, refl, sym, ap, subst, ◌∙◌, arith, inl, inr, append_assoc, length-append}
use Rattle.std.proofs.lemmas.List.{append-nil}
use Rattle.pg_spec.specs.Links.{LinkView}
use Rattle.std.specs.List.{list_all}
use Rattle.pg_spec.specs.Asides.{is_readable}
use Rattle.pg_spec.specs.RawMessages.{RawMessage, messages, bytes_left, has_bad_header, sync_of, async_of}
use Rattle.pg_desk.specs.declared.event.Event.{Event}
use Rattle.pg_connect.specs.declared.streams.Streams.{Streams}
use Rattle.pg_connect.specs.Passed.{delivered_by}
use Rattle.pg_connect.specs.Passes.{Passes, Goes, Hands, waiting, delayed_in, moves}
use Rattle.pg_connect.specs.Reads.{AllDecoded, EndsAt, GaveDue, NeedsMore, NoneFull, Paced, ReadsOn, ReadStops, TakesIn, piece_size}
use Rattle.pg_connect.specs.declared.fault.ConnectionFault.{ConnectionFault}
use Rattle.pg_connect.specs.declared.fault.ConnectionFault.TheVariants as fault
use Rattle.pg_connect.specs.declared.ends.ReadEnd.{ReadEnd}
use Rattle.pg_connect.specs.declared.ends.ReadEnd.TheVariants as ending
use Rattle.pg_connect.proofs.Joining.{calls-then, joined-got, passes-joined, delivered_by-append, none_lost, keeps_same, untouched_same}
use Rattle.pg_connect.proofs.Parts.{Joins}
use Rattle.pg_connect.proofs.Passing.{goes-quietly, none_full-then}
use Rattle.pg_connect.proofs.Dues.{due_none, due_then}
use Rattle.pg_connect.proofs.Sizes.{all-left}
use Rattle.pg_connect.proofs.Taking.{piece_none}

-- ---- lists

no_length : {X : Type 0} (xs : List X) → length xs ≡ 0 → xs ≡ []
no_length [] e = refl
no_length (x ∷ xs) e = absurd (omega (arith, e))

first_none : {X : Type 0} (xs ys : List X) → xs ++ ys ≡ [] → xs ≡ []
first_none [] ys e = refl
first_none (x ∷ xs) ys e = absurd cc

-- a list that stands in front of others of the same length as all is empty
none_before : {X : Type 0} (xs ys zs all : List X) → all ≡ xs ++ (ys ++ zs) → length all ≡ length zs → xs ≡ []
none_before {X} xs ys zs all is same =
    no_length xs (omega (arith, ap (λ (l : List X). length l) is, same, length-append xs (ys ++ zs), length-append ys zs))

-- ---- what was given

-- no byte came where the count is as before
pub no_more : (s t : Streams) (l m : LinkView) (es : List Event) (hs : List RawMessage) (p : Passes s t l m es hs) → t.given ≡ s.given → p.got ≡ []
no_more s t l m es hs p same = no_length p.got (omega (arith, p.count, same))

-- the same, with the messages that were handed out as another list
abbrev pub handed-as : (a c : Streams) (l n : LinkView) (es : List Event) (hs js : List RawMessage) → hs ≡ js → Passes a c l n es hs → Passes a c l n es js
handed-as a c l n es hs js same p = record {
  got = p.got;
  sent = p.sent;
  read = p.read;
  lost = p.lost;
  over = p.over;
  given = p.given;
  taken = p.taken;
  came_off = p.came_off;
  rest = p.rest;
  all_read = p.all_read;
  unread = p.unread;
  readable = p.readable;
  delivered = p.delivered;
  held_last = p.held_last;
  handed_out = p.handed_out ∙ ap (λ (x : List RawMessage). x ++ delayed_in c) same;
  kept = p.kept;
  out = p.out;
  one_part = p.one_part;
  still_closing = p.still_closing;
  nothing_more = p.nothing_more;
  count = p.count;
  delivered_count = p.delivered_count;
  limit = p.limit;
  flag = p.flag;
  moved = p.moved ∙ ap (λ (x : List RawMessage). a.moved || (moves p.got p.sent x es || p.over)) same;
  at_end = p.at_end;
  ended_there = p.ended_there;
  still = p.still;
  link = p.link;
}

-- ---- pieces

abbrev pub paced_none : (s : Streams) (got : List ℕ) (es : List Event) → got ≡ [] → Paced s got es
paced_none s got es none = record { front = []; piece = []; all = none; fits = omega arith; needed = inl none }

pub needs_later : (s : Streams) (front : List ℕ) (es fs : List Event) → NeedsMore s front es → NeedsMore s front (es ++ fs)
needs_later s front es fs n = record {
  no_delayed = n.no_delayed;
  none_aside = n.none_aside;
  readable = n.readable;
  no_bad_header = n.no_bad_header;
  earlier = n.earlier;
  later = n.later ++ fs;
  calls = ap (λ (x : List Event). x ++ fs) n.calls ∙ append_assoc n.earlier n.later fs;
  passed_on = n.passed_on;
  none_full = n.none_full;
  within = n.within;
}

-- calls behind, in which nothing is read
abbrev pub paced_later : (s : Streams) (got all : List ℕ) (es fs : List Event) → all ≡ got → Paced s got es → Paced s all (es ++ fs)
paced_later s got all es fs same was = record {
  front = was.front;
  piece = was.piece;
  all = same ∙ was.all;
  fits = was.fits;
  needed = elim was.needed [ inl nothing ↦ inl (same ∙ nothing) | inr n ↦ inr (needs_later s was.front es fs n) ];
}

-- what was given in both, where the later calls read nothing
pub got_before : (a b c : Streams) (l m n : LinkView) (es fs : List Event) (hs js : List RawMessage) (p : Passes a b l m es hs) (q : Passes b c m n fs js) → c.given ≡ b.given →
    (passes-joined a b c l m n es fs hs js p q).got ≡ p.got
got_before a b c l m n es fs hs js p q same =
    joined-got a b c l m n es fs hs js p q ∙ ap (λ (x : List ℕ). p.got ++ x) (no_more b c m n fs js q same) ∙ append-nil p.got

-- where all that came is passed on, and no mailbox was full
needs_more : (s t : Streams) (l m : LinkView) (es : List Event) (p : Passes s t l m es []) → AllDecoded t → t.held ≡ None → t.unread ≡ None → delayed_in s ≡ [] → delayed_in t ≡ [] →
    NoneFull es → t.given ≤ t.max_bytes → NeedsMore s p.got es
needs_more s t l m es p decoded held unread early late none within =
    let all : messages (s.buffer.items ++ p.got) ≡ p.read =
    p.came_off ∙ ap (λ (x : List RawMessage). p.read ++ (x ++ messages t.buffer.items)) (none_lost t.unread p.lost unread p.unread)
    ∙ ap (λ (x : List RawMessage). p.read ++ x) decoded.none_whole ∙ append-nil p.read in
    record {
      no_delayed = early;
      readable = ap (list_all is_readable) all ∙ p.readable;
      no_bad_header = ap has_bad_header (p.rest ∙ all-left t.buffer.items decoded.none_whole) ∙ decoded.no_bad_header;
      none_aside = ap async_of all ∙ sym (ap (λ (x : List RawMessage). x ++ async_of p.read) early) ∙ p.handed_out ∙ late;
      earlier = es;
      later = [];
      calls = sym (append-nil es);
      passed_on = sym (append-nil (delivered_by es)) ∙ ap (λ (x : List RawMessage). delivered_by es ++ x) (sym (ap waiting held)) ∙ sym p.delivered
          ∙ ap (λ (x : List RawMessage). waiting s.held ++ sync_of x) (sym all);
      none_full = none;
      within = omega (arith, p.count, p.limit, within);
    }

-- ---- with the calls of the hub

-- the calls so far, and how far they read
pub record PacedGoes {H : Type 0} (becomes : H → List Event → H → Type 0) (a b : H) (old new : Streams) (before after : LinkView) : Type 0 where
  pub goes : Goes becomes a b old new before after [] NoneFull
  pub paced : Paced old goes.passes.got goes.events
  pub due : GaveDue before.due after.due goes.passes.got

-- nothing yet
pub paced-start : {H : Type 0} (becomes : H → List Event → H → Type 0) (h : H) → becomes h [] h → (s : Streams) (v : LinkView) → s.unread ≡ None → PacedGoes becomes h h s s v v
paced-start becomes h stays s v read =
    let goes = goes-quietly becomes h stays s s v v [] NoneFull (piece_none s s.buffer s.piece v v read refl (untouched_same v) (keeps_same v)) refl in
    let none = no_more s s v v goes.events [] goes.passes refl in
    record { goes = goes; paced = paced_none s goes.passes.got goes.events none; due = due_none v.due v.due goes.passes.got refl none }

-- what was buffered was passed on
pub paced-all : {H : Type 0} (becomes : H → List Event → H → Type 0) → Joins becomes → (h i k : H) (s t u : Streams) (l v : LinkView) →
    PacedGoes becomes h i s t l v → Goes becomes i k t u v v [] NoneFull → u.given ≡ t.given → PacedGoes becomes h k s u l v
paced-all becomes joins h i k s t u l v so_far more same =
    let es = so_far.goes.events in
    let fs = more.events in
    let p = so_far.goes.passes in
    let q = more.passes in
    record {
      goes = record {
        events = es ++ fs;
        calls = calls-then es fs so_far.goes.calls more.calls;
        became = joins h i k es fs so_far.goes.became more.became;
        passes = passes-joined s t u l v v es fs [] [] p q;
        ended = none_full-then es fs so_far.goes.ended more.ended;
      };
      paced = paced_later s p.got (passes-joined s t u l v v es fs [] [] p q).got es fs (got_before s t u l v v es fs [] [] p q same) so_far.paced;
      due = subst (λ (x : List ℕ). GaveDue l.due v.due x) (sym (got_before s t u l v v es fs [] [] p q same)) so_far.due;
    }

-- what a piece leads to
abbrev paced_piece : (s u w : Streams) (l v n : LinkView) (es : List Event) (p : Passes s u l v es []) (q : Passes u w v n [] []) → AllDecoded u → u.held ≡ None → u.unread ≡ None →
    delayed_in s ≡ [] → delayed_in u ≡ [] → NoneFull es → u.given ≤ u.max_bytes → w.given ≤ u.given + piece_size →
    Paced s (passes-joined s u w l v n es [] [] [] p q).got (es ++ [])
paced_piece s u w l v n es p q decoded held unread early late none within small = record {
  front = p.got;
  piece = q.got;
  all = joined-got s u w l v n es [] [] [] p q;
  fits = omega (arith, q.count, small);
  needed = inr (needs_later s p.got es [] (needs_more s u l v es p decoded held unread early late none within));
}

-- what was given in both was due
due_piece : (s u w : Streams) (l v n : LinkView) (es : List Event) (p : Passes s u l v es []) (q : Passes u w v n [] []) → GaveDue l.due v.due p.got → GaveDue v.due n.due q.got →
    GaveDue l.due n.due (passes-joined s u w l v n es [] [] [] p q).got
due_piece s u w l v n es p q first then =
    subst (λ (x : List ℕ). GaveDue l.due n.due x) (sym (joined-got s u w l v n es [] [] [] p q)) (due_then l.due v.due n.due p.got q.got first then)

-- all that came is passed on, so a piece may be read
pub record MayRead (s u : Streams) : Type 0 where
  pub decoded : AllDecoded u
  pub held : u.held ≡ None
  pub unread : u.unread ≡ None
  pub early : delayed_in s ≡ []
  pub late : delayed_in u ≡ []
  pub within : u.given ≤ u.max_bytes

-- a piece came
pub paced-piece : {H : Type 0} (becomes : H → List Event → H → Type 0) → Joins becomes → ((h : H) → becomes h [] h) → (h i : H) (s u w : Streams) (l v n : LinkView) →
    PacedGoes becomes h i s u l v → TakesIn u w v n → MayRead s u → w.given ≤ u.given + piece_size → PacedGoes becomes h i s w l n
paced-piece becomes joins stays h i s u w l v n so_far took may small =
    let q = took.passes in
    let es = so_far.goes.events in
    let p = so_far.goes.passes in
    record {
      goes = record {
        events = es ++ [];
        calls = calls-then es [] so_far.goes.calls tt;
        became = joins h i i es [] so_far.goes.became (stays i);
        passes = passes-joined s u w l v n es [] [] [] p q;
        ended = none_full-then es [] so_far.goes.ended refl;
      };
      paced = paced_piece s u w l v n es p q may.decoded may.held may.unread may.early may.late so_far.goes.ended may.within small;
      due = due_piece s u w l v n es p q so_far.due took.due;
    }

-- reading ended at the link, or with a piece
pub paced-last : {H : Type 0} (becomes : H → List Event → H → Type 0) → Joins becomes → ((h : H) → becomes h [] h) → (h i : H) (s u w : Streams) (l v n : LinkView) (W : List RawMessage → Type 0)
    (F : List Event → Type 0) (S : (got piece : List ℕ) → Type 0) →
    PacedGoes becomes h i s u l v → (took : TakesIn u w v n) → MayRead s u → w.given ≤ u.given + piece_size → W [] → ((es : List Event) → F es) → ((got : List ℕ) → S got took.passes.got) →
    ReadsOn becomes h i s w l n W F S
paced-last becomes joins stays h i s u w l v n W F S so_far took may small none ends stops =
    let q = took.passes in
    let es = so_far.goes.events in
    let p = so_far.goes.passes in
    record {
      hands = record {
        handed = [];
        is = none;
        goes = record {
          events = es ++ [];
          calls = calls-then es [] so_far.goes.calls tt;
          became = joins h i i es [] so_far.goes.became (stays i);
          passes = passes-joined s u w l v n es [] [] [] p q;
          ended = ends (es ++ []);
        };
      };
      paced = paced_piece s u w l v n es p q may.decoded may.held may.unread may.early may.late so_far.goes.ended may.within small;
      stops_there = stops (passes-joined s u w l v n es [] [] [] p q).got;
      due = due_piece s u w l v n es p q so_far.due took.due;
    }

-- passing on ended the step
pub paced-hands : {H : Type 0} (becomes : H → List Event → H → Type 0) → Joins becomes → (h i k : H) (s t u : Streams) (l v : LinkView) (W V : List RawMessage → Type 0) (F G : List Event → Type 0) (S : (got piece : List ℕ) → Type 0) →
    (so_far : PacedGoes becomes h i s t l v) (more : Hands becomes i k t u v v W F) → u.given ≡ t.given → ((handed : List RawMessage) → W handed → V handed) →
    ((es fs : List Event) → F fs → G (es ++ fs)) → (F more.goes.events → S so_far.goes.passes.got so_far.paced.piece) → ReadsOn becomes h k s u l v V G S
paced-hands becomes joins h i k s t u l v W V F G S so_far more same which ends stops =
    let es = so_far.goes.events in
    let fs = more.goes.events in
    let p = so_far.goes.passes in
    let q = more.goes.passes in
    record {
      hands = record {
        handed = more.handed;
        is = which more.handed more.is;
        goes = record {
          events = es ++ fs;
          calls = calls-then es fs so_far.goes.calls more.goes.calls;
          became = joins h i k es fs so_far.goes.became more.goes.became;
          passes = passes-joined s t u l v v es fs [] more.handed p q;
          ended = ends es fs more.goes.ended;
        };
      };
      paced = paced_later s p.got (passes-joined s t u l v v es fs [] more.handed p q).got es fs (got_before s t u l v v es fs [] more.handed p q same) so_far.paced;
      stops_there = subst (λ (x : List ℕ). S x so_far.paced.piece) (sym (got_before s t u l v v es fs [] more.handed p q same)) (stops more.goes.ended);
      due = subst (λ (x : List ℕ). GaveDue l.due v.due x) (sym (got_before s t u l v v es fs [] more.handed p q same)) so_far.due;
    }

-- nothing was read
pub paced-still : {H : Type 0} (becomes : H → List Event → H → Type 0) (h i : H) (s t : Streams) (l : LinkView) (W : List RawMessage → Type 0) (F : List Event → Type 0)
    (S : (got piece : List ℕ) → Type 0) → Hands becomes h i s t l l W F → t.given ≡ s.given → S [] [] → ReadsOn becomes h i s t l l W F S
paced-still becomes h i s t l W F S hands same stops =
    let none = no_more s t l l hands.goes.events hands.handed hands.goes.passes same in
    record {
      hands = hands;
      paced = paced_none s hands.goes.passes.got hands.goes.events none;
      stops_there = subst (λ (x : List ℕ). S x []) (sym none) stops;
      due = due_none l.due l.due hands.goes.passes.got refl none;
    }

needs_behind : (s t : Streams) (front : List ℕ) (es fs : List Event) → t.given ≡ s.given → t.max_bytes ≡ s.max_bytes → t.buffer.items ≡ s.buffer.items → delayed_in s ≡ [] → waiting t.held ≡ [] →
    delivered_by es ≡ waiting s.held → NoneFull es → NeedsMore t front fs → NeedsMore s front (es ++ fs)
needs_behind s t front es fs given limit buffer early held delivered none n = record {
  no_delayed = early;
  none_aside = ap (λ (x : List ℕ). async_of (messages (x ++ front))) (sym buffer) ∙ n.none_aside;
  readable = ap (λ (x : List ℕ). list_all is_readable (messages (x ++ front))) (sym buffer) ∙ n.readable;
  no_bad_header = ap (λ (x : List ℕ). has_bad_header (bytes_left (x ++ front))) (sym buffer) ∙ n.no_bad_header;
  earlier = es ++ n.earlier;
  later = n.later;
  calls = ap (λ (x : List Event). es ++ x) n.calls ∙ sym (append_assoc es n.earlier n.later);
  passed_on = delivered_by-append es n.earlier ∙ ap (λ (x : List RawMessage). x ++ delivered_by n.earlier) delivered
      ∙ ap (λ (x : List RawMessage). waiting s.held ++ x) (n.passed_on ∙ ap (λ (x : List RawMessage). x ++ sync_of (messages (t.buffer.items ++ front))) held)
      ∙ ap (λ (x : List ℕ). waiting s.held ++ sync_of (messages (x ++ front))) buffer;
  none_full = none_full-then es n.earlier none n.none_full;
  within = omega (arith, given, limit, n.within);
}

-- what was held was delivered, and then the link was read
pub paced-behind : {H : Type 0} (becomes : H → List Event → H → Type 0) → Joins becomes → (h i k : H) (s t u : Streams) (v n : LinkView) (W : List RawMessage → Type 0) (F G : List Event → Type 0) (R S : (got piece : List ℕ) → Type 0) →
    (first : Goes becomes h i s t v v [] NoneFull) → ReadsOn becomes i k t u v n W F R → t.given ≡ s.given → t.buffer.items ≡ s.buffer.items → delayed_in t ≡ [] → t.held ≡ None → t.unread ≡ None →
    ((es fs : List Event) → F fs → G (es ++ fs)) → ((got piece : List ℕ) → R got piece → S got piece) → ReadsOn becomes h k s u v n W G S
paced-behind becomes joins h i k s t u v n W F G R S first more given buffer late held unread ends stops =
    let es = first.events in
    let fs = more.hands.goes.events in
    let p = first.passes in
    let q = more.hands.goes.passes in
    let none : p.got ≡ [] = no_more s t v v es [] p given in
    let all : (passes-joined s t u v v n es fs [] more.hands.handed p q).got ≡ q.got =
    joined-got s t u v v n es fs [] more.hands.handed p q ∙ ap (λ (x : List ℕ). x ++ q.got) none in
    let read : p.read ≡ [] =
    none_before p.read p.lost (messages t.buffer.items) (messages (s.buffer.items ++ p.got)) p.came_off
    (ap (λ (x : List ℕ). length (messages (s.buffer.items ++ x))) none ∙ ap (λ (x : List ℕ). length (messages x)) (append-nil s.buffer.items ∙ sym buffer)) in
    let early : delayed_in s ≡ [] = first_none (delayed_in s) (async_of p.read) (p.handed_out ∙ late) in
    let delivered : delivered_by es ≡ waiting s.held =
    sym (append-nil (delivered_by es)) ∙ ap (λ (x : List RawMessage). delivered_by es ++ x) (sym (ap waiting held)) ∙ sym p.delivered
    ∙ ap (λ (x : List RawMessage). waiting s.held ++ sync_of x) read ∙ append-nil (waiting s.held) in
    record {
      hands = record {
        handed = more.hands.handed;
        is = more.hands.is;
        goes = record {
          events = es ++ fs;
          calls = calls-then es fs first.calls more.hands.goes.calls;
          became = joins h i k es fs first.became more.hands.goes.became;
          passes = passes-joined s t u v v n es fs [] more.hands.handed p q;
          ended = ends es fs more.hands.goes.ended;
        };
      };
      paced = record {
        front = more.paced.front;
        piece = more.paced.piece;
        all = all ∙ more.paced.all;
        fits = more.paced.fits;
        needed = elim more.paced.needed [
          | inl nothing ↦ inl (all ∙ nothing)
          | inr needs ↦ inr (needs_behind s t more.paced.front es fs given p.limit buffer early (ap waiting held) delivered first.ended needs)
        ];
      };
      stops_there = subst (λ (x : List ℕ). S x more.paced.piece) (sym all) (stops q.got more.paced.piece more.stops_there);
      due = subst (λ (x : List ℕ). GaveDue v.due n.due x) (sym all) more.due;
    }

-- where nothing was read
pub still_stops : (s t : Streams) (e : ConnectionFault) → ReadStops s t (Err e) [] []
still_stops s t (fault.LimitReached given most) = (t.buffer.items, sym (append-nil t.buffer.items))
still_stops s t _ = tt

-- how reading stopped, where the same bytes stood there before, and no notice is delayed any more
pub stops_before : (s t u : Streams) (r : Result ReadEnd ConnectionFault) (got piece : List ℕ) → t.buffer.items ≡ s.buffer.items → t.delayed.items ≡ [] → ReadStops t u r got piece → ReadStops s u r got piece
stops_before s t u (Ok (ending.Handed message)) got piece same none (inl was) = absurd (omega (arith, was.delayed, ap length none))
stops_before s t u (Ok (ending.Handed message)) got piece same none (inr was) = inr (subst (λ (x : List ℕ). EndsAt (x ++ got) u.buffer.items message) same was)
stops_before s t u (Err (fault.LimitReached given most)) got piece same none was = was
stops_before s t u _ got piece same none was = tt
