-- Steps of a line and a drive, by what their parts did.
use Rattle.std.proofs.Common.{◌≡◌, inr, ℕ, Bool, List, [], ◌∷◌, Option, Some, None, Result, Err, refl, subst, ap, IfSome, option_map}
use Rattle.futures.specs.declared.task.Poll.TheVariants.{Ready, Pending}
use Rattle.pg_spec.specs.Links.{LinkView}
use Rattle.pg_spec.specs.declared.stamps.Stamp.{Stamp}
use Rattle.pg_types.specs.declared.error.Error.{Error}
use Rattle.pg_desk.specs.declared.event.Event.{Event}
use Rattle.pg_query.specs.Meaning.{Place, Pauses}
use Rattle.pg_drive.specs.declared.line.Line.{Line}
use Rattle.pg_drive.specs.declared.line.Lull.{Lull}
use Rattle.pg_drive.specs.Lines.{LineView, LineSteps, PauseEnds, seen}
use Rattle.pg_drive.specs.Drives.{HungUp, Polls, Gives, over}

-- a pause by the counts and the lull that were read
pub pause_so : (was was' : Lull) (moved : Bool) (from from' to to' : ℕ) (l m : LinkView) (next : Result Lull Error) →
    was' ≡ was → from' ≡ from → to' ≡ to → PauseEnds was' moved from' to' l m next → PauseEnds was moved from to l m next
pause_so was was' moved from from' to to' l m next x y z ends =
    subst (λ (a : Lull). PauseEnds a moved from to l m next) x
    (subst (λ (b : ℕ). PauseEnds was' moved b to l m next) y (subst (λ (c : ℕ). PauseEnds was' moved from' c l m next) z ends))

-- what a line stands for behind a pause, which changes its connection's link and no more
pub seen_pause : {L H : Type 0} (view : L → LinkView) (p n : Line L H) (lull : Lull) → n ≡ record p { connection = n.connection } →
    n.connection.streams ≡ p.connection.streams →
    seen view (record n { lull = lull }) ≡ record (seen view p) { link = view n.connection.link; lull = lull }
seen_pause view p n lull same streams =
    let hub : n.hub ≡ p.hub = ap (λ (x : Line _ _). x.hub) same in
    let messages : n.messages ≡ p.messages = ap (λ (x : Line _ _). x.messages) same in
    rw streams (rw hub (rw messages refl))

-- a line of which only the hub changed
pub seen_over : {L H : Type 0} (view : L → LinkView) (l n : Line L H) → n ≡ record l { hub = n.hub } → seen view n ≡ over n.hub (seen view l)
seen_over view l n same = ap (λ (x : Line _ _). seen view x) same

module _ {S H T : Type 0} (place : S → Place T) (becomes : H → List Event → H → Type 0) (stamp : Stamp) where
  -- a poll in which the line failed and the state was hung up
  pub breaks : (old : Option S) (s t : S) (a failed b : LineView H) (new : Option S) (between : H) (e : Error) → old ≡ Some s →
      Pauses becomes stamp a.hub (place s) between (place t) → LineSteps becomes (over between a) failed (Err e) →
      HungUp becomes stamp failed.hub (place t) b.hub → new ≡ None → b ≡ over b.hub failed →
      IfSome old (λ was. Polls becomes stamp (place was) a (option_map place new) b (Ready (Err e)))
  breaks old s t a failed b new between e was pauses line hung_up none same =
      rw was (rw none (refl, inr (record { error = e; says = refl; between = between; place = place t; pauses = pauses; failed = failed; line = line; hung_up = hung_up; same = same })))

  -- what a poll ended is what it gives
  pub gives_now : (old new : Option S) (a b : LineView H) (r : Result T Error) →
      IfSome old (λ s. Polls becomes stamp (place s) a (option_map place new) b (Ready r)) →
      IfSome old (λ s. Gives becomes stamp (record { place = place s; line = a }) r)
  gives_now None new a b r polled = tt
  gives_now (Some s) None a b r polled = record { stands = []; last = record { place = place s; line = a }; drives = refl; left = b; ends = polled.1 }
  gives_now (Some s) (Some n) a b r polled = record { stands = []; last = record { place = place s; line = a }; drives = refl; left = b; ends = polled.1 }

  -- what it gives behind a poll that is pending, it gives before
  pub gives_later : (old new : Option S) (a b : LineView H) (other : Stamp) (r : Result T Error) → other ≡ stamp →
      IfSome old (λ s. Polls becomes stamp (place s) a (option_map place new) b Pending) →
      IfSome new (λ n. Gives becomes other (record { place = place n; line = b }) r) →
      IfSome old (λ s. Gives becomes stamp (record { place = place s; line = a }) r)
  gives_later None new a b other r one polled more = tt
  gives_later (Some s) None a b other r one polled more = absurd polled
  gives_later (Some s) (Some n) a b other r one polled more =
      let h : Gives becomes stamp (record { place = place n; line = b }) r = subst (λ (x : Stamp). Gives becomes x (record { place = place n; line = b }) r) one more in
      record { stands = record { place = place n; line = b } ∷ h.stands; last = h.last; drives = (polled, h.drives); left = h.left; ends = h.ends }
