-- Where opening a connection stands behind a poll that goes on, and the wait behind it.
use Rattle.std.proofs.Common.{◌≡◌, inl, ℕ, Bool, false, Result, Ok, Err, refl, sym, subst}
use Rattle.futures.specs.declared.task.Poll.TheVariants.{Ready}
use Rattle.pg_types.specs.declared.error.Error.{Error}
use Rattle.pg_open.specs.declared.maybe_tls.MaybeTls.{MaybeTls}
use Rattle.pg_open.specs.Choosing.{WaitsOn}
use Rattle.pg_open.specs.Opening.{IsStarting, OpenAnswers, OpenGoesOn, OpenStands, OpenStays, Outside, StartsOn, is_first, is_untouched, moved_before}
use Rattle.pg_open.specs.declared.open_stages.OpenSettings.{OpenSettings}
use Rattle.pg_open.specs.declared.open_stages.OpenStage.{OpenStage}
use Rattle.pg_open.specs.declared.open_stages.OpenStage.TheVariants.{Fresh, Choosing, Starting, Over}
use Rattle.pg_open.specs.declared.open_stages.Opened.{Opened}
use Rattle.pg_open.specs.declared.stages.Stage.{Stage}
use Rattle.pg_open.specs.declared.stages.Stage.TheVariants as choosing
use Rattle.pg_drive.specs.declared.line.Lull.{Lull}
use Rattle.pg_drive.specs.Openings.{OpenEnds}

module _ {L T F S E : Type 0} (o : Outside L T F S E) (want : OpenSettings) (link : L) (tls : T) where
  -- an answer ends it
  pub ends-of : (was : Lull) (moved : Bool) (a b : OpenStage L T F S E) (r : Result (Opened L T F S E) Error) → OpenAnswers o want link tls moved a b (Ready r) → OpenEnds o want link tls was a b r
  ends-of was moved a b (Ok opened) answer = answer
  ends-of was moved a b (Err e) answer = inl answer

  -- where a startup that goes on stands
  starts-stand : (from before : MaybeTls L S) (asked : ℕ) (early moved : Bool) (new : OpenStage L T F S E) → StartsOn o want link tls from before asked early moved new → OpenStands o want link tls new
  starts-stand from before asked early moved (Starting s) a =
      (from, subst (λ (n : ℕ). IsStarting o want link tls from s.link s.startup n) (sym a.1) a.0)
  starts-stand from before asked early moved (Fresh l t) a = absurd a
  starts-stand from before asked early moved (Choosing c) a = absurd a
  starts-stand from before asked early moved (Over left) a = absurd a

  -- where one that goes on stands
  goes-stand : (moved : Bool) (old new : OpenStage L T F S E) → OpenGoesOn o want link tls moved old new → OpenStands o want link tls new
  goes-stand moved (Starting before) new a = starts-stand a.0 before.link before.asked false moved new a.1
  goes-stand moved (Fresh now connector) (Choosing c) a = a.0
  goes-stand moved (Choosing before) (Choosing c) a = a.0
  goes-stand moved (Fresh now connector) (Starting s) a = starts-stand a.0 a.0 s.asked (moved_before s.asked a.0) moved (Starting s) a.1
  goes-stand moved (Choosing before) (Starting s) a = starts-stand a.0 a.0 s.asked (moved_before s.asked a.0) moved (Starting s) a.1
  goes-stand moved (Fresh now connector) (Fresh l t) a = absurd a
  goes-stand moved (Fresh now connector) (Over left) a = absurd a
  goes-stand moved (Choosing before) (Fresh l t) a = absurd a
  goes-stand moved (Choosing before) (Over left) a = absurd a
  goes-stand moved (Over left) new a = absurd a

  -- it asked the link for something
  asked-on : (moved : Bool) (old new : Stage L T F S E) → WaitsOn o.tls moved old new → is_first new ≡ false
  asked-on moved old (choosing.Fresh l t) w = absurd w
  asked-on moved old (choosing.Asking q) w = refl
  asked-on moved old (choosing.Shaking now quiet) w = refl
  asked-on moved old (choosing.Over left) w = absurd w

  starts-touched : (from before : MaybeTls L S) (asked : ℕ) (early moved : Bool) (new : OpenStage L T F S E) → StartsOn o want link tls from before asked early moved new → is_untouched new ≡ false
  starts-touched from before asked early moved (Starting s) a = refl
  starts-touched from before asked early moved (Fresh l t) a = absurd a
  starts-touched from before asked early moved (Choosing c) a = absurd a
  starts-touched from before asked early moved (Over left) a = absurd a

  goes-touched : (moved : Bool) (old new : OpenStage L T F S E) → OpenGoesOn o want link tls moved old new → is_untouched new ≡ false
  goes-touched moved (Starting before) new a = starts-touched a.0 before.link before.asked false moved new a.1
  goes-touched moved (Fresh now connector) (Choosing c) a = asked-on c.moved (choosing.Fresh now connector) c.stage a.2
  goes-touched moved (Choosing before) (Choosing c) a = asked-on c.moved before.stage c.stage a.2
  goes-touched moved (Fresh now connector) (Starting s) a = refl
  goes-touched moved (Choosing before) (Starting s) a = refl
  goes-touched moved (Fresh now connector) (Fresh l t) a = absurd a
  goes-touched moved (Fresh now connector) (Over left) a = absurd a
  goes-touched moved (Choosing before) (Fresh l t) a = absurd a
  goes-touched moved (Choosing before) (Over left) a = absurd a
  goes-touched moved (Over left) new a = absurd a

  -- so it stands behind the wait too
  pub stands-on : (now last : OpenSettings) (moved : Bool) (a mid b : OpenStage L T F S E) → now ≡ want → last ≡ now → OpenGoesOn o want link tls moved a mid → OpenStays o now mid b → OpenStands o last link tls b
  stands-on now last moved a mid b is later goes stays =
      subst (λ (w : OpenSettings). OpenStands o w link tls b) (sym later)
      (stays (goes-touched moved a mid goes) link tls (subst (λ (w : OpenSettings). OpenStands o w link tls mid) (sym is) (goes-stand moved a mid goes)))
