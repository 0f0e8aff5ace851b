-- What single calls pass on, on the way out.
use Rattle.std.proofs.Common.{◌≡◌, ℕ, ◌≤◌, zero, suc, Bool, true, false, not, ◌||◌, IsTrue, List, [], ◌∷◌, ◌++◌, length, take, drop, Option, None, refl, sym, ap, subst, ◌∙◌, arith, inl}
use Rattle.std.proofs.lemmas.List.{append-nil, take-append-drop}
use Rattle.std.specs.List.{list_any}
use Rattle.pg_spec.specs.Batches.{is_nothing}
use Rattle.pg_spec.specs.Frames.{terminate_frame}
use Rattle.pg_spec.specs.RawMessages.{messages, bytes_left}
use Rattle.pg_spec.specs.Links.{LinkView, Grew}
use Rattle.pg_wire.specs.LinkCalls.{Keeps, Takes}
use Rattle.pg_wire.specs.declared.message.Message.{Message}
use Rattle.pg_desk.specs.declared.event.Event.{Event}
use Rattle.pg_connect.specs.declared.streams.Streams.{Streams}
use Rattle.pg_connect.specs.Passed.{delivered_by, bytes_out_by, last_part, moves_in, parts_out_by}
use Rattle.pg_connect.specs.Passes.{Passes, StandsLast, Untouched, waiting, delayed_in, IsUnread, farewell, goodbye, moves}
use Rattle.pg_connect.proofs.LastParts.{farewell_same}
use Rattle.pg_connect.proofs.Joining.{grew_same, goodbye_same, keeps_same, untouched_same}

pub or_false : (b : Bool) → b ≡ (b || false)
or_false true = refl
or_false false = refl

pub or_true : (b : Bool) → true ≡ (b || true)
or_true true = refl
or_true false = refl

-- nothing is read: bytes go out of the hub, or are taken by the link, or Terminate is queued
pub sends : (s : Streams) (unsent : List ℕ) (closing moved : Bool) (before after : LinkView) (sent : List ℕ) (events : List Event) →
    s.unread ≡ None → after.given ≡ before.given → Grew before.taken after.taken sent → delivered_by events ≡ [] →
    (s.unsent ++ bytes_out_by events) ++ goodbye s.closing closing ≡ sent ++ unsent →
    StandsLast unsent (last_part s.unsent (parts_out_by events ++ farewell s.closing closing)) →
    (IsTrue s.closing → IsTrue closing) → (IsTrue s.closing → bytes_out_by events ≡ []) →
    moved ≡ (s.moved || (moves [] sent [] events || false)) → (moved ≡ false → Untouched before after) → Keeps before after →
    Passes s (record s { unsent = unsent; closing = closing; moved = moved }) before after events []
sends s unsent closing moved before after sent events read given taken none out last still nothing moves untouched link = record {
  got = [];
  sent = sent;
  read = [];
  lost = [];
  over = false;
  given = grew_same before.given after.given given;
  taken = taken;
  came_off = ap messages (append-nil s.buffer.items);
  rest = ap bytes_left (append-nil s.buffer.items);
  all_read = read;
  unread = subst (λ (o : Option Message). IsUnread o []) (sym read) refl;
  readable = refl;
  delivered = append-nil (waiting s.held) ∙ ap (λ x. x ++ waiting s.held) (sym none);
  held_last = inl (refl, refl);
  handed_out = append-nil (delayed_in s);
  kept = refl;
  out = out;
  one_part = last;
  still_closing = still;
  nothing_more = nothing;
  count = omega arith;
  delivered_count = omega (arith, ap length none);
  limit = refl;
  flag = refl;
  moved = moves;
  at_end = or_false s.at_end;
  ended_there = λ never. let no : false ≡ true = never in cc;
  still = untouched;
  link = link;
}

out_of_nothing : (u : List ℕ) (c : Bool) → (u ++ []) ++ goodbye c c ≡ u
out_of_nothing u c = ap (λ x. (u ++ []) ++ x) (goodbye_same c) ∙ append-nil (u ++ []) ∙ append-nil u

-- no part went out, and Terminate wasn't queued
rest_same : (u v : List ℕ) (c : Bool) (parts : List (List ℕ)) → parts ≡ [] → StandsLast v u → StandsLast v (last_part u (parts ++ farewell c c))
rest_same u v c parts none is =
    subst (λ (x : List ℕ). StandsLast v x) (sym (ap (λ (x : List (List ℕ)). last_part u (x ++ farewell c c)) none ∙ ap (last_part u) (farewell_same c))) is

pub some_taken : (n : ℕ) (xs : List ℕ) → 1 ≤ n → n ≤ length xs → not (is_nothing (take n xs)) ≡ true
some_taken zero xs some fits = absurd (omega arith)
some_taken (suc n) [] some fits = absurd (omega arith)
some_taken (suc n) (x ∷ xs) some fits = refl

-- the link took a front of what is unsent
pub passes_took : (s : Streams) (before after : LinkView) (n : ℕ) → s.unread ≡ None → Takes before after s.unsent n → Keeps before after →
    Passes s (record s { unsent = drop n s.unsent; moved = true }) before after [] []
passes_took s before after n read takes link =
    sends s (drop n s.unsent) s.closing true before after (take n s.unsent) [] read takes.given takes.taken refl
    (out_of_nothing s.unsent s.closing ∙ sym (take-append-drop n s.unsent))
    (rest_same s.unsent (drop n s.unsent) s.closing [] refl (take n s.unsent, sym (take-append-drop n s.unsent))) (λ x. x) (λ x. refl)
    (or_true s.moved ∙ ap (λ (x : Bool). s.moved || (((false || x) || (false || false)) || false)) (sym (some_taken n s.unsent takes.some takes.fits))) (λ none. absurd cc) link

-- nothing passed
pub passes_nothing : (s : Streams) (before after : LinkView) (events : List Event) → s.unread ≡ None → Untouched before after → Keeps before after →
    delivered_by events ≡ [] → bytes_out_by events ≡ [] → parts_out_by events ≡ [] → list_any moves_in events ≡ false → Passes s s before after events []
passes_nothing s before after events read same link none no_bytes no_part still =
    sends s s.unsent s.closing s.moved before after [] events read same.bytes.given (grew_same before.taken after.taken same.bytes.taken) none
    (ap (λ x. (s.unsent ++ x) ++ goodbye s.closing s.closing) no_bytes ∙ out_of_nothing s.unsent s.closing)
    (rest_same s.unsent s.unsent s.closing (parts_out_by events) no_part ([], refl)) (λ x. x) (λ x. no_bytes)
    (or_false s.moved ∙ ap (λ (x : Bool). s.moved || (((false || false) || (false || x)) || false)) (sym still)) (λ none. same) link

-- the same, of the slice that was offered
pub passes_took_of : (s t : Streams) (before after : LinkView) (n : ℕ) (offered : List ℕ) → s.unread ≡ None → offered ≡ s.unsent → Takes before after offered n → Keeps before after →
    t ≡ record s { unsent = drop n s.unsent; moved = true } → Passes s t before after [] []
passes_took_of s t before after n offered read same takes link is =
    subst (λ (x : Streams). Passes s x before after [] []) (sym is)
    (passes_took s before after n read (subst (λ (x : List ℕ). Takes before after x n) same takes) link)

-- a part came out of the hub, where nothing is unsent
pub passes_part : (s : Streams) (l : LinkView) (part : List ℕ) (events : List Event) → s.unread ≡ None → s.unsent ≡ [] → s.closing ≡ false →
    delivered_by events ≡ [] → bytes_out_by events ≡ part → parts_out_by events ≡ part ∷ [] → list_any moves_in events ≡ true → Passes s (record s { unsent = part; moved = true }) l l events []
passes_part s l part events read sent active none out one came =
    sends s part s.closing true l l [] events read refl (grew_same l.taken l.taken refl) none
    (ap (λ x. (s.unsent ++ bytes_out_by events) ++ x) (goodbye_same s.closing) ∙ append-nil (s.unsent ++ bytes_out_by events)
    ∙ ap (λ x. x ++ bytes_out_by events) sent ∙ out)
    ([], ap (λ (x : List (List ℕ)). last_part s.unsent (x ++ farewell s.closing s.closing)) one ∙ ap (last_part part) (farewell_same s.closing))
    (λ x. x) (λ x. let no : false ≡ true = sym active ∙ x in cc)
    (or_true s.moved ∙ ap (λ (x : Bool). s.moved || (((false || false) || (false || x)) || false)) (sym came)) (λ none. absurd cc) (keeps_same l)

-- Terminate is queued, where nothing is unsent
pub passes_goodbye : (s : Streams) (l : LinkView) → s.unread ≡ None → s.unsent ≡ [] → s.closing ≡ false →
    Passes s (record s { unsent = terminate_frame; closing = true }) l l [] []
passes_goodbye s l read sent active =
    sends s terminate_frame true s.moved l l [] [] read refl (grew_same l.taken l.taken refl) refl
    (ap (λ x. (x ++ []) ++ goodbye s.closing true) sent ∙ ap (λ x. goodbye x true) active)
    ([], ap (λ (x : Bool). last_part s.unsent (farewell x true)) active)
    (λ x. refl) (λ x. refl) (or_false s.moved) (λ none. untouched_same l) (keeps_same l)
