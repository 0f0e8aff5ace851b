-- A poll around its turn.
use Rattle.std.proofs.Common.{◌≡◌, Bool, true, false, ◌||◌, List, [], ◌∷◌, Option, None, Result, Ok, Err, refl, sym, ap, subst, ◌∙◌}
use Rattle.std.specs.Prelude.{is_some}
use Rattle.pg_spec.specs.Links.{LinkView}
use Rattle.pg_wire.specs.declared.message.Message.{Message}
use Rattle.pg_desk.specs.declared.event.DeskFault.{DeskFault}
use Rattle.pg_desk.specs.declared.event.Event.{Event}
use Rattle.pg_desk.specs.declared.event.Event.TheVariants.{Fail}
use Rattle.pg_types.specs.declared.error.Error.{Error}
use Rattle.pg_connect.specs.declared.fault.ConnectionFault.{ConnectionFault}
use Rattle.pg_connect.specs.declared.ends.TurnEnd.{TurnEnd}
use Rattle.pg_connect.specs.declared.streams.Streams.{Streams}
use Rattle.pg_connect.specs.Faults.{error_of}
use Rattle.pg_connect.specs.Polls.{Turns}
use Rattle.pg_connect.specs.Answers.{is_over, fresh, left_open, Turned, Failed}

first_false : (a b : Bool) → (a || b) ≡ false → a ≡ false
first_false true b e = absurd cc
first_false false b e = refl

last_false : (a b : Bool) → (a || b) ≡ false → b ≡ false
last_false true b e = absurd cc
last_false false b e = e

-- the turn left it open
was_left : {H : Type 0} (becomes : H → List Event → H → Type 0) (a b : H) (s began t : Streams) (l m : LinkView) (r : Result TurnEnd ConnectionFault) → is_over s ≡ false →
    began ≡ fresh s → Turns becomes a b began t l m r → t ≡ left_open t
was_left becomes a b s began t l m r active is turns =
    ap (λ (x : Bool). record t { ended = x }) (turns.goes.passes.flag ∙ ap (λ (x : Streams). x.ended) is ∙ first_false s.ended s.at_end (first_false (s.ended || s.at_end) (is_some s.unread) active))

-- it goes on
pub turned_on : {H : Type 0} (becomes : H → List Event → H → Type 0) (a b : H) (s began t : Streams) (l m : LinkView) (x y : TurnEnd) → is_over s ≡ false → began ≡ fresh s → y ≡ x →
    t.unread ≡ None → t.at_end ≡ began.at_end → Turns becomes a b began t l m (Ok y) → Turned becomes a b s t l m x false
turned_on becomes a b s began t l m x y active is at read more turns =
    let same = was_left becomes a b s began t l m (Ok y) active is turns in
    record {
      was_open = active;
      stands = ap (λ (u : Streams). (u.ended || u.at_end) || is_some u.unread) same ∙ ap (λ (o : Option Message). (false || t.at_end) || is_some o) read
          ∙ ap (λ (b : Bool). b || false) (more ∙ ap (λ (u : Streams). u.at_end) is ∙ last_false s.ended s.at_end (first_false (s.ended || s.at_end) (is_some s.unread) active));
      turns = subst (λ (z : TurnEnd). Turns becomes a b (fresh s) (left_open t) l m (Ok z)) at
          (subst (λ (u : Streams). Turns becomes a b u (left_open t) l m (Ok y)) is (subst (λ (u : Streams). Turns becomes a b began u l m (Ok y)) same turns));
    }

-- it has ended
pub turned_over : {H : Type 0} (becomes : H → List Event → H → Type 0) (a b : H) (s began t u : Streams) (l m : LinkView) (x y : TurnEnd) → is_over s ≡ false → began ≡ fresh s → y ≡ x →
    u ≡ record t { ended = true } → Turns becomes a b began t l m (Ok y) → Turned becomes a b s u l m x true
turned_over becomes a b s began t u l m x y active is at ended turns =
    let same = was_left becomes a b s began t l m (Ok y) active is turns in
    record {
      was_open = active;
      stands = ap (λ (v : Streams). (v.ended || v.at_end) || is_some v.unread) ended;
      turns = subst (λ (v : Streams). Turns becomes a b (fresh s) v l m (Ok x)) (sym (ap left_open ended))
          (subst (λ (z : TurnEnd). Turns becomes a b (fresh s) (left_open t) l m (Ok z)) at
          (subst (λ (v : Streams). Turns becomes a b v (left_open t) l m (Ok y)) is (subst (λ (v : Streams). Turns becomes a b began v l m (Ok y)) same turns)));
    }

-- it failed, and so did the hub
pub turned_failed : {H : Type 0} (becomes : H → List Event → H → Type 0) (a b c : H) (s began t u : Streams) (l m : LinkView) (f : ConnectionFault) (e : Error)
    (answer : Result (Unit {0}) DeskFault) → is_over s ≡ false → began ≡ fresh s → u ≡ record t { ended = true } → e ≡ error_of f → Turns becomes a b began t l m (Err f) →
    becomes b (Fail answer ∷ []) c → Failed becomes a c s u l m e
turned_failed becomes a b c s began t u l m f e answer active is ended means turns failed =
    let same = was_left becomes a b s began t l m (Err f) active is turns in
    record {
      was_open = active;
      fault = f;
      means = means;
      between = b;
      turns = subst (λ (v : Streams). Turns becomes a b (fresh s) v l m (Err f)) (sym (ap left_open ended))
          (subst (λ (v : Streams). Turns becomes a b v (left_open t) l m (Err f)) is (subst (λ (v : Streams). Turns becomes a b began v l m (Err f)) same turns));
      answer = answer;
      failed = failed;
    }
