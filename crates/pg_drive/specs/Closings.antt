-- How a line is closed (PostgreSQL documentation, "Termination").
use Rattle.std.specs.Prelude.{◌≡◌, ◌⊎◌, ℕ, zero, suc, true, false, IsTrue, List, [], ◌∷◌, Result, Ok, Err}
use Rattle.pg_types.specs.declared.error.Error.{Error}
use Rattle.pg_desk.specs.declared.event.DeskFault.{DeskFault}
use Rattle.pg_desk.specs.declared.event.Event.{Event}
use Rattle.pg_desk.specs.declared.event.Event.TheVariants.{CloseRequests}
use Rattle.pg_query.specs.Faults.{of_fault}
use Rattle.pg_drive.specs.Lines.{LineView, LineAdvances, LineSteps, Advances}

-- what the answer to closing requests is
abbrev pub answered_by : Result (Unit {0}) DeskFault → Result (Unit {0}) Error
answered_by (Ok x) = Ok tt
answered_by (Err fault) = Err (of_fault fault)

-- Requests were closed, or weren't for this error; nothing else was done.
pub record RequestsClose {H : Type 0} (becomes : H → List Event → H → Type 0) (a b : LineView H) (r : Result (Unit {0}) Error) : Type 0 where
  pub answer : Result (Unit {0}) DeskFault
  pub became : becomes a.hub (CloseRequests answer ∷ []) b.hub
  pub says : r ≡ answered_by answer
  pub same : b ≡ record a { hub = b.hub }

module _ {H : Type 0} (becomes : H → List Event → H → Type 0) where
  -- so many steps, which go on, and none at which the connection ended
  abbrev pub GoesOnBy : ℕ → (a b : LineView H) → Type 0
  GoesOnBy zero a b = b ≡ a
  GoesOnBy (suc n) a b = (mid : LineView H) × GoesOnBy n a mid × Advances becomes mid b false

  -- how the last step ended: the connection has ended, or it failed
  abbrev pub LastStep : (a b : LineView H) → Result (Unit {0}) Error → Type 0
  LastStep a b (Ok x) = Advances becomes a b true
  LastStep a b (Err e) = LineSteps becomes a b (Err e)

  -- The connection was stepped to its end, or to this error.
  pub record Advanced (a b : LineView H) (r : Result (Unit {0}) Error) : Type 0 where
    pub count : ℕ
    pub last : LineView H
    pub goes : GoesOnBy count a last
    pub ends : LastStep last b r

  -- Requests were closed, and then the connection was stepped to its end.
  pub record ClosesThen (a b : LineView H) (r : Result (Unit {0}) Error) : Type 0 where
    pub mid : LineView H
    pub closed : RequestsClose becomes a mid (Ok tt)
    pub out : Advanced mid b r

  -- how closing ends: so, or requests couldn't be closed
  abbrev pub Closes : (a b : LineView H) → Result (Unit {0}) Error → Type 0
  Closes a b (Ok x) = ClosesThen a b (Ok x)
  Closes a b (Err e) = RequestsClose becomes a b (Err e) ⊎ ClosesThen a b (Err e)

-- All that went out was taken by the link, and that is shut down.
pub record IsShut {H : Type 0} (b : LineView H) : Type 0 where
  pub sent : b.streams.unsent ≡ []
  pub shut : IsTrue b.link.shut
