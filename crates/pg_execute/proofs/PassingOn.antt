-- A script inside another that goes on with its value: what it wants, hears and reads is so in the whole.
use Rattle.std.proofs.Common.{◌≡◌, ◌≤◌, ◌+◌, ℕ, List, [], Result, Ok, Err, IfOk, refl, sym, ◌∙◌, ap, subst, append-nil, arith}
use Rattle.std.specs.declared.alloc.AllocError.{AllocError}
use Rattle.pg_spec.specs.RawMessages.{RawMessage}
use Rattle.pg_types.specs.declared.error.Error.{Error}
use Rattle.pg_query.specs.declared.desk_call.Cleanup.{Cleanup}
use Rattle.pg_query.specs.declared.desk_call.Reply.{Reply}
use Rattle.pg_query.specs.declared.script.Want.{Want}
use Rattle.pg_query.specs.declared.script.Want.TheVariants as want
use Rattle.pg_query.specs.declared.script.Action.{Action}
use Rattle.pg_query.specs.declared.script.Action.TheVariants as act
use Rattle.pg_query.specs.Dialogue.{Dialogue, feed_one}
use Rattle.pg_query.specs.Scripts.{Waiting, Nothing, AMessage, AReply, Falls, GoesOn, IsHear, IsMessage, IsRead, IsReply, IsWanted, cleanup_of, heard, wanting}
use Rattle.pg_core.specs.Sequences.{or_answer, then_do}
use Rattle.pg_core.specs.Thens.{IsThrough, then_dialogue, then_refuses, then_waits, waits_through}
use Rattle.pg_core.specs.declared.then.Then.TheVariants.{First}
use Rattle.pg_core.proofs.Following.{acts-through, first-heard, first-left, first-message, first-reply, reads-through}
use Rattle.pg_execute.specs.Passing.{Passes}

-- ---- steps

-- an action of the one that stands inside is a step of the whole
pub passes-falls : {X T : Type 0} (w : Want X) (v : Want T) (n m k : ℕ) → Passes w v → Falls w n m → Falls v (n + k) (m + k)
passes-falls (want.Answer (Ok x)) v n m k p h = absurd p
passes-falls {X} {T} (want.Answer (Err e)) v n m k p h = subst (λ (x : Want T). Falls x (n + k) (m + k)) (sym p) tt
passes-falls {X} {T} (want.Act a) v n m k p h = subst (λ (x : Want T). Falls x (n + k) (m + k)) (sym p) (omega (arith, h))
passes-falls {X} {T} want.Read v n m k p h = subst (λ (x : Want T). Falls x (n + k) (m + k)) (sym p) tt

-- the same where there are none behind it
pub passes-on : {X T : Type 0} (w : Want X) (v : Want T) (n m : ℕ) → Passes w v → Falls w n m → Falls v n m
passes-on (want.Answer (Ok x)) v n m p h = absurd p
passes-on {X} {T} (want.Answer (Err e)) v n m p h = subst (λ (x : Want T). Falls x n m) (sym p) tt
passes-on {X} {T} (want.Act a) v n m p h = subst (λ (x : Want T). Falls x n m) (sym p) h
passes-on {X} {T} want.Read v n m p h = subst (λ (x : Want T). Falls x n m) (sym p) tt

-- the same where it has none behind it
pub passes-all : {X T : Type 0} (w : Want X) (v : Want T) (n k : ℕ) → Passes w v → Falls w n 0 → Falls v (n + k) k
passes-all (want.Answer (Ok x)) v n k p h = absurd p
passes-all {X} {T} (want.Answer (Err e)) v n k p h = subst (λ (x : Want T). Falls x (n + k) k) (sym p) tt
passes-all {X} {T} (want.Act a) v n k p h = subst (λ (x : Want T). Falls x (n + k) k) (sym p) (omega (arith, h))
passes-all {X} {T} want.Read v n k p h = subst (λ (x : Want T). Falls x (n + k) k) (sym p) tt

-- it is one of more steps
pub falls-more : {T : Type 0} (w : Want T) (n m k : ℕ) → Falls w m k → Falls w (n + m) k
falls-more (want.Answer r) n m k h = tt
falls-more (want.Act a) n m k h = omega (arith, h)
falls-more want.Read n m k h = tt

-- it is one of as many steps or more
pub falls-in : {T : Type 0} (r : Result (Want T) AllocError) (n m k : ℕ) → n ≤ m → IfOk r (λ w. Falls w n k) → IfOk r (λ w. Falls w m k)
falls-in (Ok (want.Answer x)) n m k e h = tt
falls-in (Ok (want.Act a)) n m k e h = omega (arith, e, h)
falls-in (Ok want.Read) n m k e h = tt
falls-in (Err x) n m k e h = tt

-- the same in front of others
pub falls-within : {T : Type 0} (r : Result (Want T) AllocError) (n m k j : ℕ) → n ≤ m → IfOk r (λ w. Falls w (n + k) j) → IfOk r (λ w. Falls w (m + k) j)
falls-within (Ok (want.Answer x)) n m k j e h = tt
falls-within (Ok (want.Act a)) n m k j e h = omega (arith, e, h)
falls-within (Ok want.Read) n m k j e h = tt
falls-within (Err x) n m k j e h = tt

-- none in front of others
pub falls-alone : {T : Type 0} (r : Result (Want T) AllocError) (k j : ℕ) → IfOk r (λ w. Falls w (0 + k) j) → IfOk r (λ w. Falls w k j)
falls-alone (Ok (want.Answer x)) k j h = tt
falls-alone (Ok (want.Act a)) k j h = omega (arith, h)
falls-alone (Ok want.Read) k j h = tt
falls-alone (Err x) k j h = tt

-- ---- one that stands as another does

module _ {R S T : Type 0} (one : R → Dialogue T) (one_refuses : R → Error → Dialogue T) (one_waits : (r : R) → Waiting (one r))
    (other : S → Dialogue T) (other_refuses : S → Error → Dialogue T) (other_waits : (s : S) → Waiting (other s)) where
  wanted-as : (r : R) (s : S) → one r ≡ other s → (IsMessage (one_waits r) → IsMessage (other_waits s)) → (IsReply (one_waits r) → IsReply (other_waits s)) →
      (w : Want T) → IsWanted one one_waits w r → IsWanted other other_waits w s
  wanted-as r s e m a (want.Answer x) h = tt
  wanted-as r s e m a (want.Act (act.Ask copying part)) h = tt
  wanted-as r s e m a (want.Act (act.Send part)) h = tt
  wanted-as r s e m a (want.Act (act.Put offer)) h = tt
  wanted-as r s e m a (want.Act (act.Finish part)) h = tt
  wanted-as r s e m a (want.Act (act.Close part)) h = tt
  wanted-as r s e m a (want.Act act.HangUp) h = tt
  wanted-as r s e m a (want.Act (act.Call q)) h = record { waiting = a h.waiting; there = subst (λ (d : Dialogue T). IsHear d) e h.there }
  wanted-as r s e m a want.Read h = record { waiting = m h.waiting; there = subst (λ (d : Dialogue T). IsRead d) e h.there }

  pub goes-as : (r : R) (s : S) → one r ≡ other s → one_refuses r ≡ other_refuses s → (IsMessage (one_waits r) → IsMessage (other_waits s)) → (IsReply (one_waits r) → IsReply (other_waits s)) →
      (from : Dialogue T) (w : Want T) → GoesOn one one_refuses one_waits from w r → GoesOn other other_refuses other_waits from w s
  goes-as r s e f m a from w h = record { is = (λ i. wanting w (sym e i) (sym f i)) ∙ h.is; wanted = wanted-as r s e m a w h.wanted }

-- ---- a part, and what comes behind its value

-- nothing more is left to do
abbrev none : {X T : Type 0} → (X → Dialogue T) → List Cleanup
none k = []

-- what comes behind it
abbrev goes : {X T : Type 0} → (X → Dialogue T) → Result X Error → Dialogue T
goes k = or_answer k

-- an action stays as it is
through-none : (x : Action) → IsThrough [] x x
through-none (act.Put offer) = (offer, refl, refl, sym (append-nil offer.cleanup.items))
through-none (act.Ask copying part) = refl
through-none (act.Send part) = refl
through-none (act.Finish part) = refl
through-none (act.Close part) = refl
through-none act.HangUp = refl
through-none (act.Call q) = refl

message-inside : {X T : Type 0} (extra : List Cleanup) (f : Result X Error → Dialogue T) (d : Dialogue X) (w : Waiting d) → IsMessage (waits_through extra f d w) → IsMessage w
message-inside extra f d Nothing h = absurd h
message-inside extra f d (AMessage r) h = tt
message-inside extra f d (AReply r) h = absurd h

module _ {A X S T : Type 0} (first : A → Dialogue X) (first_refuses : A → Error → Dialogue X) (first_waits : (a : A) → Waiting (first a)) (f : X → Dialogue T)
    (whole : S → Dialogue T) (whole_refuses : S → Error → Dialogue T) (whole_waits : (s : S) → Waiting (whole s)) where
  wants-so : (a : A) (d : Dialogue X) (w : Want X) (v : Want T) → Passes w v → GoesOn first first_refuses first_waits d w a →
      GoesOn (then_dialogue first none goes whole) (then_refuses first_refuses none goes whole_refuses) (then_waits first first_waits none goes whole whole_waits) (then_do d f) v (First a f)
  wants-so a d (want.Answer (Ok x)) v p h = absurd p
  wants-so a d (want.Answer (Err e)) v p h =
      subst (λ (x : Want T). GoesOn (then_dialogue first none goes whole) (then_refuses first_refuses none goes whole_refuses) (then_waits first first_waits none goes whole whole_waits) (then_do d f) x (First a f)) (sym p)
      (record { is = ap (λ (c : Dialogue X). then_do c f) h.is; wanted = tt })
  wants-so a d (want.Act x) v p h =
      subst (λ (x : Want T). GoesOn (then_dialogue first none goes whole) (then_refuses first_refuses none goes whole_refuses) (then_waits first first_waits none goes whole whole_waits) (then_do d f) x (First a f)) (sym p)
      (acts-through first first_refuses first_waits none goes whole whole_refuses whole_waits a f d x x (through-none x) h)
  wants-so a d want.Read v p h =
      subst (λ (x : Want T). GoesOn (then_dialogue first none goes whole) (then_refuses first_refuses none goes whole_refuses) (then_waits first first_waits none goes whole whole_waits) (then_do d f) x (First a f)) (sym p)
      (reads-through first first_refuses first_waits none goes whole whole_refuses whole_waits a f d h)

  -- what it wants but a value, the whole wants
  pub stage-passes : (a : A) (s : S) → then_do (first a) f ≡ whole s → (λ (e : Error). then_do (first_refuses a e) f) ≡ whole_refuses s →
      (IsMessage (waits_through [] (or_answer f) (first a) (first_waits a)) → IsMessage (whole_waits s)) → (IsReply (waits_through [] (or_answer f) (first a) (first_waits a)) → IsReply (whole_waits s)) →
      (d : Dialogue X) (w : Want X) (v : Want T) → Passes w v → GoesOn first first_refuses first_waits d w a → GoesOn whole whole_refuses whole_waits (then_do d f) v s
  stage-passes a s at refused m r d w v p h =
      goes-as (then_dialogue first none goes whole) (then_refuses first_refuses none goes whole_refuses) (then_waits first first_waits none goes whole whole_waits) whole whole_refuses whole_waits
      (First a f) s at refused m r (then_do d f) v (wants-so a d w v p h)

  -- a message for it, and what becomes of it
  pub stage-message : (t s : S) (a : A) → t ≡ s → then_do (first a) f ≡ whole s → (IsMessage (whole_waits s) → IsMessage (waits_through [] (or_answer f) (first a) (first_waits a))) →
      (m : RawMessage) → IsMessage (whole_waits t) → (w : Want X) (new : A) → (IsMessage (first_waits a) → GoesOn first first_refuses first_waits (feed_one m (first a)) w new) →
      (Q : Dialogue T → Type 0) → ((d : Dialogue X) → GoesOn first first_refuses first_waits d w new → Q (then_do d f)) → Q (feed_one m (whole t))
  stage-message t s a e at inside m h w new g Q went =
      subst (λ (x : S). Q (feed_one m (whole x))) (sym e) (subst (λ (d : Dialogue T). Q (feed_one m d)) at
      (first-message first first_refuses first_waits none goes whole whole_refuses whole_waits (First a f) a f refl m (inside (subst (λ (x : S). IsMessage (whole_waits x)) e h)) w new g Q went))

  -- the same for a reply
  pub stage-reply : (t s : S) (a : A) → t ≡ s → then_do (first a) f ≡ whole s → (IsReply (whole_waits s) → IsReply (waits_through [] (or_answer f) (first a) (first_waits a))) →
      (r : Reply) → IsReply (whole_waits t) → (w : Want X) (new : A) → (IsReply (first_waits a) → GoesOn first first_refuses first_waits (heard r (first a)) w new) →
      (Q : Dialogue T → Type 0) → ((d : Dialogue X) → GoesOn first first_refuses first_waits d w new → Q (then_do d f)) → Q (heard r (whole t))
  stage-reply t s a e at inside r h w new g Q went =
      subst (λ (x : S). Q (heard r (whole x))) (sym e) (subst (λ (d : Dialogue T). Q (heard r d)) at
      (first-reply first first_refuses first_waits none goes whole whole_refuses whole_waits (First a f) a f refl r (inside (subst (λ (x : S). IsReply (whole_waits x)) e h)) w new g Q went))

  -- where the whole waits for a reply, so does it
  pub stage-heard : (t s : S) (a : A) → t ≡ s → (IsReply (whole_waits s) → IsReply (waits_through [] (or_answer f) (first a) (first_waits a))) → IsReply (whole_waits t) → IsReply (first_waits a)
  stage-heard t s a e inside h =
      first-heard first first_refuses first_waits none goes whole whole_refuses whole_waits (First a f) a f refl (inside (subst (λ (x : S). IsReply (whole_waits x)) e h))

  -- what is left to do
  pub stage-left : (t s : S) (a : A) → t ≡ s → then_do (first a) f ≡ whole s → (IsMessage (whole_waits s) → IsMessage (waits_through [] (or_answer f) (first a) (first_waits a))) →
      (Q : List Cleanup → Type 0) → (IsMessage (first_waits a) → Q (cleanup_of (first a))) → IsMessage (whole_waits t) → Q (cleanup_of (whole t))
  stage-left t s a e at inside Q g h =
      let there = inside (subst (λ (x : S). IsMessage (whole_waits x)) e h) in
      let same = sym (append-nil (cleanup_of (first a)))
      ∙ first-left first first_refuses first_waits none goes whole whole_refuses whole_waits (First a f) a f refl there (cleanup_of (first a)) (λ x. refl) in
      subst (λ (x : S). Q (cleanup_of (whole x))) (sym e) (subst (λ (d : Dialogue T). Q (cleanup_of d)) at (subst Q same (g (message-inside [] (or_answer f) (first a) (first_waits a) there))))
