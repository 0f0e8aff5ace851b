-- A part inside a whole: a body that is closed behind, and a target. What the part wants, hears and reads is so in the whole.
use Rattle.std.proofs.Common.{◌≡◌, ℕ, ◌<◌, ◌≤◌, ◌+◌, List, [], ◌++◌, Option, Some, None, Result, refl, sym, ap, subst, append-nil, arith}
use Rattle.pg_spec.specs.RawMessages.{RawMessage}
use Rattle.pg_types.specs.declared.error.Error.{Error}
use Rattle.pg_query.specs.declared.desk_call.Cleanup.{Cleanup}
use Rattle.pg_query.specs.declared.desk_call.Reply.{Reply}
use Rattle.pg_query.specs.declared.script.Want.{Want}
use Rattle.pg_query.specs.declared.script.Want.TheVariants as want
use Rattle.pg_query.specs.declared.script.Action.{Action}
use Rattle.pg_query.specs.declared.script.Action.TheVariants as act
use Rattle.pg_query.specs.Dialogue.{Dialogue, Answer, Ask, Send, Leave, Read, Put, Finish, Close, HangUp, Call, Hear, feed_one}
use Rattle.pg_query.specs.Scripts.{Waiting, waiting_at, IsMessage, IsReply, IsRead, IsHear, heard, wanting, IsWanted, GoesOn, Falls, cleanup_of}
use Rattle.pg_core.specs.Behind.{behind}
use Rattle.pg_core.specs.declared.then.Then.{Then}
use Rattle.pg_core.specs.declared.then.Then.TheVariants.{First}
use Rattle.pg_core.specs.Thens.{then_dialogue, then_refuses, then_waits, waits_through, IsThrough}
use Rattle.pg_core.proofs.Following.{acts-through, reads-through, first-message, first-reply, first-heard, first-left}
use Rattle.pg_execute.specs.Executes.{posts}
use Rattle.pg_execute.specs.Closings.{closed_as, closes_at, closes_dialogue, closes_refuses, closes_steps, closes_waits, posts_by, refused_at, steps_at, waits_at}
use Rattle.pg_execute.specs.declared.closes.Closing.TheVariants.{Behind}
use Rattle.pg_execute.specs.declared.closes.Closes.{Closes}

-- ---- what is wanted, whatever script stands there

abbrev pub WantedAt : {T : Type 0} (d : Dialogue T) → Waiting d → Want T → Type 0
WantedAt d w want.Read = IsMessage w × IsRead d
WantedAt d w (want.Act (act.Call q)) = IsReply w × IsHear d
WantedAt d w _ = Unit {0}

pub record GoesAt {T : Type 0} (d : Dialogue T) (refuses : Error → Dialogue T) (w : Waiting d) (from : Dialogue T) (x : Want T) : Type 0 where
  pub is : wanting x d refuses ≡ from
  pub wanted : WantedAt d w x

module _ {S T : Type 0} (dialogue : S → Dialogue T) (refuses : S → Error → Dialogue T) (waits : (s : S) → Waiting (dialogue s)) where
  wanted-at : (x : Want T) (s : S) → IsWanted dialogue waits x s → WantedAt (dialogue s) (waits s) x
  wanted-at (want.Answer r) s h = tt
  wanted-at (want.Act (act.Ask copying part)) s h = tt
  wanted-at (want.Act (act.Send part)) s h = tt
  wanted-at (want.Act (act.Put offer)) s h = tt
  wanted-at (want.Act (act.Finish part)) s h = tt
  wanted-at (want.Act (act.Close part)) s h = tt
  wanted-at (want.Act act.HangUp) s h = tt
  wanted-at (want.Act (act.Call q)) s h = (h.waiting, h.there)
  wanted-at want.Read s h = (h.waiting, h.there)

  wanted-of : (x : Want T) (s : S) → WantedAt (dialogue s) (waits s) x → IsWanted dialogue waits x s
  wanted-of (want.Answer r) s h = tt
  wanted-of (want.Act (act.Ask copying part)) s h = tt
  wanted-of (want.Act (act.Send part)) s h = tt
  wanted-of (want.Act (act.Put offer)) s h = tt
  wanted-of (want.Act (act.Finish part)) s h = tt
  wanted-of (want.Act (act.Close part)) s h = tt
  wanted-of (want.Act act.HangUp) s h = tt
  wanted-of (want.Act (act.Call q)) s h = record { waiting = h.0; there = h.1 }
  wanted-of want.Read s h = record { waiting = h.0; there = h.1 }

  pub goes-at : (from : Dialogue T) (x : Want T) (s : S) → GoesOn dialogue refuses waits from x s → GoesAt (dialogue s) (refuses s) (waits s) from x
  goes-at from x s h = record { is = h.is; wanted = wanted-at x s h.wanted }

  pub at-goes : (from : Dialogue T) (x : Want T) (s : S) → GoesAt (dialogue s) (refuses s) (waits s) from x → GoesOn dialogue refuses waits from x s
  at-goes from x s h = record { is = h.is; wanted = wanted-of x s h.wanted }

-- ---- a script, and a dialogue behind its answer

module _ {B X T : Type 0} (first : B → Dialogue X) (refuses : B → Error → Dialogue X) (waits : (b : B) → Waiting (first b)) (extra : List Cleanup) (f : Result X Error → Dialogue T) where
  abbrev Whole : Type 0
  Whole = Then B (Unit {0}) (Dialogue T)

  abbrev left-behind : Unit {0} → List Cleanup
  left-behind u = extra

  abbrev goes-behind : Unit {0} → Result X Error → Dialogue T
  goes-behind u = f

  abbrev itself : Dialogue T → Dialogue T
  itself d = d

  abbrev same : Dialogue T → Error → Dialogue T
  same d e = d

  abbrev whole : Whole → Dialogue T
  whole = then_dialogue first left-behind goes-behind itself

  abbrev whole_refuses : Whole → Error → Dialogue T
  whole_refuses = then_refuses refuses left-behind goes-behind same

  abbrev whole_waits : (t : Whole) → Waiting (whole t)
  whole_waits = then_waits first waits left-behind goes-behind itself waiting_at

  pub act-at : (b : B) (d : Dialogue X) (x y : Action) → IsThrough extra x y → GoesOn first refuses waits d (want.Act x) b →
      GoesAt (behind extra (first b) f) (λ e. behind extra (refuses b e) f) (waits_through extra f (first b) (waits b)) (behind extra d f) (want.Act y)
  act-at b d x y t h = goes-at whole whole_refuses whole_waits (behind extra d f) (want.Act y) (First b tt)
      (acts-through first refuses waits left-behind goes-behind itself same waiting_at b tt d x y t h)

  pub read-at : (b : B) (d : Dialogue X) → GoesOn first refuses waits d want.Read b →
      GoesAt (behind extra (first b) f) (λ e. behind extra (refuses b e) f) (waits_through extra f (first b) (waits b)) (behind extra d f) want.Read
  read-at b d h = goes-at whole whole_refuses whole_waits (behind extra d f) want.Read (First b tt)
      (reads-through first refuses waits left-behind goes-behind itself same waiting_at b tt d h)

  pub message-at : (b : B) (m : RawMessage) → IsMessage (waits_through extra f (first b) (waits b)) → (w : Want X) (new : B) →
      (IsMessage (waits b) → GoesOn first refuses waits (feed_one m (first b)) w new) →
      (Q : Dialogue T → Type 0) → ((d : Dialogue X) → GoesOn first refuses waits d w new → Q (behind extra d f)) → Q (feed_one m (behind extra (first b) f))
  message-at b m h w new g Q went = first-message first refuses waits left-behind goes-behind itself same waiting_at (First b tt) b tt refl m h w new g Q went

  pub reply-at : (b : B) (r : Reply) → IsReply (waits_through extra f (first b) (waits b)) → (w : Want X) (new : B) →
      (IsReply (waits b) → GoesOn first refuses waits (heard r (first b)) w new) →
      (Q : Dialogue T → Type 0) → ((d : Dialogue X) → GoesOn first refuses waits d w new → Q (behind extra d f)) → Q (heard r (behind extra (first b) f))
  reply-at b r h w new g Q went = first-reply first refuses waits left-behind goes-behind itself same waiting_at (First b tt) b tt refl r h w new g Q went

  pub hears-at : (b : B) → IsReply (waits_through extra f (first b) (waits b)) → IsReply (waits b)
  hears-at b h = first-heard first refuses waits left-behind goes-behind itself same waiting_at (First b tt) b tt refl h

  pub left-at : (b : B) → IsMessage (waits_through extra f (first b) (waits b)) → (own : List Cleanup) → (IsMessage (waits b) → own ≡ cleanup_of (first b)) →
      own ++ extra ≡ cleanup_of (behind extra (first b) f)
  left-at b h own g = first-left first refuses waits left-behind goes-behind itself same waiting_at (First b tt) b tt refl h own g

-- each action goes through where nothing is left behind
pub through-nothing : (x : Action) → IsThrough [] x x
through-nothing (act.Put offer) = (offer, refl, refl, sym (append-nil offer.cleanup.items))
through-nothing (act.Ask copying part) = refl
through-nothing (act.Send part) = refl
through-nothing (act.Finish part) = refl
through-nothing (act.Close part) = refl
through-nothing act.HangUp = refl
through-nothing (act.Call q) = refl

-- a dialogue that is closed by nothing is itself
pub closed-nothing : {T : Type 0} (d : Dialogue T) → closed_as Behind None d ≡ d
closed-nothing (Answer r) = refl
closed-nothing (Ask copying part d) = λ i. Ask copying part (closed-nothing d i)
closed-nothing (Send part refused d) = λ i. Send part (λ e. closed-nothing (refused e) i) (closed-nothing d i)
closed-nothing (Leave id d) = λ i. Leave id (closed-nothing d i)
closed-nothing (Read cleanup decides next) = λ i. Read (append-nil cleanup i) decides (λ ms. closed-nothing (next ms) i)
closed-nothing (Put cleanup part d) = λ i. Put (append-nil cleanup i) part (closed-nothing d i)
closed-nothing (Finish part d) = λ i. Finish part (closed-nothing d i)
closed-nothing (Close part d) = λ i. Close part (closed-nothing d i)
closed-nothing (HangUp d) = λ i. HangUp (closed-nothing d i)
closed-nothing (Call q refused next) = λ i. Call q (λ e. closed-nothing (refused e) i) (λ r. closed-nothing (next r) i)
closed-nothing (Hear next) = λ i. Hear (λ r. closed-nothing (next r) i)

-- more steps are enough too
pub falls-more : {T : Type 0} (w : Want T) (m n k : ℕ) → m ≤ n → Falls w m k → Falls w n k
falls-more (want.Act a) m n k more h = omega (arith, more, h)
falls-more (want.Answer r) m n k more h = tt
falls-more want.Read m n k more h = tt

-- ---- a body that is closed behind

module _ {B T : Type 0} (first : B → Dialogue T) (refuses : B → Error → Dialogue T) (waits : (b : B) → Waiting (first b)) (steps : B → ℕ) where
  abbrev Goes : Dialogue T → Want T → Closes B T → Type 0
  Goes from w s = GoesOn (closes_dialogue first) (closes_refuses refuses) (closes_waits first waits) from w s

  abbrev StandsAt : Closes B T → Option (Result T Error) → Dialogue T → Want T → Type 0
  StandsAt s o from w = GoesAt (closes_at o s.closing s.part (first s.body)) (refused_at o s.closing s.part (refuses s.body)) (waits_at o s.closing s.part (first s.body) (waits s.body)) from w

  pub closes-acts : (s : Closes B T) → s.answer ≡ None → (d : Dialogue T) (x y : Action) → IsThrough (posts s.part) x y → GoesOn first refuses waits d (want.Act x) s.body →
      Goes (closed_as s.closing s.part d) (want.Act y) s
  closes-acts s none d x y t h = at-goes (closes_dialogue first) (closes_refuses refuses) (closes_waits first waits) (closed_as s.closing s.part d) (want.Act y) s
      (subst (λ (o : Option (Result T Error)). StandsAt s o (closed_as s.closing s.part d) (want.Act y)) (sym none)
      (act-at first refuses waits (posts s.part) (posts_by s.closing s.part) s.body d x y t h))

  pub closes-reads : (s : Closes B T) → s.answer ≡ None → (d : Dialogue T) → GoesOn first refuses waits d want.Read s.body → Goes (closed_as s.closing s.part d) want.Read s
  closes-reads s none d h = at-goes (closes_dialogue first) (closes_refuses refuses) (closes_waits first waits) (closed_as s.closing s.part d) want.Read s
      (subst (λ (o : Option (Result T Error)). StandsAt s o (closed_as s.closing s.part d) want.Read) (sym none)
      (read-at first refuses waits (posts s.part) (posts_by s.closing s.part) s.body d h))

  -- the body answered
  pub closes-answers : (s : Closes B T) (d : Dialogue T) (r : Result T Error) (old : B) → GoesOn first refuses waits d (want.Answer r) old → posts_by s.closing s.part r ≡ closed_as s.closing s.part d
  closes-answers s d r old h = ap (λ (c : Dialogue T). closed_as s.closing s.part c) h.is

  -- it falls
  pub steps-fall : (o : Option (Result T Error)) (b n : ℕ) → b < n → steps_at o b < n + 1
  steps-fall None b n h = omega (arith, h)
  steps-fall (Some r) b n h = omega arith

  -- where no answer waits, the body stands there
  pub stands : (s : Closes B T) → s.answer ≡ None → closed_as s.closing s.part (first s.body) ≡ closes_dialogue first s
  stands s none = ap (λ (o : Option (Result T Error)). closes_at o s.closing s.part (first s.body)) (sym none)

  pub refused-there : (s : Closes B T) (e : Error) → s.answer ≡ None → closed_as s.closing s.part (refuses s.body e) ≡ closes_refuses refuses s e
  refused-there s e none = ap (λ (o : Option (Result T Error)). refused_at o s.closing s.part (refuses s.body) e) (sym none)

  pub steps-there : (s : Closes B T) → s.answer ≡ None → steps s.body + 1 ≡ closes_steps steps s
  steps-there s none = ap (λ (o : Option (Result T Error)). steps_at o (steps s.body)) (sym none)

  pub closes-message : (s : Closes B T) (m : RawMessage) → IsMessage (closes_waits first waits s) → (w : Want T) (new : B) →
      (IsMessage (waits s.body) → GoesOn first refuses waits (feed_one m (first s.body)) w new) →
      (Q : Dialogue T → Type 0) → ((d : Dialogue T) → s.answer ≡ None → GoesOn first refuses waits d w new → Q (closed_as s.closing s.part d)) → Q (feed_one m (closes_dialogue first s))
  closes-message s m h w new g Q went = at s.answer h went
    where
      at : (o : Option (Result T Error)) → IsMessage (waits_at o s.closing s.part (first s.body) (waits s.body)) →
          ((d : Dialogue T) → o ≡ None → GoesOn first refuses waits d w new → Q (closed_as s.closing s.part d)) → Q (feed_one m (closes_at o s.closing s.part (first s.body)))
      at None h k = message-at first refuses waits (posts s.part) (posts_by s.closing s.part) s.body m h w new g Q (λ d. k d refl)
      at (Some r) h k = absurd h

  pub closes-reply : (s : Closes B T) (r : Reply) → IsReply (closes_waits first waits s) → (w : Want T) (new : B) →
      (IsReply (waits s.body) → GoesOn first refuses waits (heard r (first s.body)) w new) →
      (Q : Dialogue T → Type 0) → ((d : Dialogue T) → s.answer ≡ None → GoesOn first refuses waits d w new → Q (closed_as s.closing s.part d)) → Q (heard r (closes_dialogue first s))
  closes-reply s r h w new g Q went = at s.answer h went
    where
      at : (o : Option (Result T Error)) → IsReply (waits_at o s.closing s.part (first s.body) (waits s.body)) →
          ((d : Dialogue T) → o ≡ None → GoesOn first refuses waits d w new → Q (closed_as s.closing s.part d)) → Q (heard r (closes_at o s.closing s.part (first s.body)))
      at None h k = reply-at first refuses waits (posts s.part) (posts_by s.closing s.part) s.body r h w new g Q (λ d. k d refl)
      at (Some x) h k = absurd h

  -- where the whole waits for a reply, so does the body
  pub closes-hears : (s : Closes B T) → IsReply (closes_waits first waits s) → (s.answer ≡ None) × IsReply (waits s.body)
  closes-hears s h = at s.answer h
    where
      at : (o : Option (Result T Error)) → IsReply (waits_at o s.closing s.part (first s.body) (waits s.body)) → (o ≡ None) × IsReply (waits s.body)
      at None h = (refl, hears-at first refuses waits (posts s.part) (posts_by s.closing s.part) s.body h)
      at (Some x) h = absurd h

  pub closes-left : (s : Closes B T) → IsMessage (closes_waits first waits s) → (own : List Cleanup) → (IsMessage (waits s.body) → own ≡ cleanup_of (first s.body)) →
      own ++ posts s.part ≡ cleanup_of (closes_dialogue first s)
  closes-left s h own g = at s.answer h
    where
      at : (o : Option (Result T Error)) → IsMessage (waits_at o s.closing s.part (first s.body) (waits s.body)) → own ++ posts s.part ≡ cleanup_of (closes_at o s.closing s.part (first s.body))
      at None h = left-at first refuses waits (posts s.part) (posts_by s.closing s.part) s.body h own g
      at (Some x) h = absurd h
