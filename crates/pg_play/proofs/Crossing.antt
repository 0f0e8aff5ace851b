-- What holds behind turns and rounds, whatever they answer.
use Rattle.std.proofs.Common.{◌≡◌, ℕ, Bool, Result, Ok, Err, IfErr, sym, subst}
use Rattle.std.specs.Prelude.{OnOk}
use Rattle.pg_spec.specs.Links.{LinkView}
use Rattle.pg_wire.specs.LinkCalls.{Continues}
use Rattle.pg_connect.specs.Calm.{StaysCalm}
use Rattle.pg_connect.proofs.Calm.{calm_same}
use Rattle.pg_types.specs.declared.error.Error.{Error}
use Rattle.pg_types.specs.declared.error.Error.TheVariants as error
use Rattle.pg_session.specs.Failures.{PauseFails}
use Rattle.pg_play.specs.Plays.{Crosses, IsLater}
use Rattle.pg_play.proofs.Following.{continues_same}

-- want of memory doesn't speak of what was asked for
later_of : {A : Type 0} (r : Result A Error) → IfErr r (λ e. e ≡ error.OutOfMemory) → IfErr r IsLater
later_of (Ok x) memory = tt
later_of (Err e) memory = subst IsLater (sym memory) tt

on_ok : {A : Type 0} (r : Result A Error) (X : Type 0) → X → OnOk r X
on_ok (Ok x) X h = h
on_ok (Err e) X h = tt

-- behind a poll of the connection memory may lack
pub crosses_poll : {A : Type 0} (l m : LinkView) (r : Result A Error) → Continues l m → StaysCalm l m → IfErr r (λ e. e ≡ error.OutOfMemory) → Crosses l m r
crosses_poll l m r link calm memory = record { link = link; error = later_of r memory; calm = on_ok r (StaysCalm l m) calm }

-- a handle's turn crosses no link
pub crosses_none : {A : Type 0} (l : LinkView) (r : Result A Error) → IfErr r (λ e. e ≡ error.OutOfMemory) → Crosses l l r
crosses_none l r memory = crosses_poll l l r (continues_same l) (calm_same l) memory

-- why a pause failed doesn't speak of what was asked for
pub pause_later : (from to : ℕ) (waited : Bool) (l m : LinkView) (e : Error) → PauseFails from to waited l m e → IsLater e
pause_later from to waited l m (error.Config cause) fails = absurd fails
pause_later from to waited l m _ fails = tt
