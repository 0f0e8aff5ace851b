-- A client's call that drops the types that are cached.
use Rattle.std.specs.Prelude.{◌≡◌, List, [], ◌∷◌, Result, Ok, Err}
use Rattle.pg_desk.specs.declared.event.CatalogCall.TheVariants as catalog
use Rattle.pg_desk.specs.declared.event.DeskFault.{DeskFault}
use Rattle.pg_desk.specs.declared.event.Event.{Event}
use Rattle.pg_desk.specs.declared.event.Event.TheVariants as call
use Rattle.pg_types.specs.declared.error.Error.{Error}
use Rattle.pg_query.specs.Faults.{of_fault}

-- what a client answers where the desk answers this
abbrev pub answer_by : Result (Unit {0}) DeskFault → Result (Unit {0}) Error
answer_by (Ok x) = Ok tt
answer_by (Err fault) = Err (of_fault fault)

-- The desk was asked once to drop the types that it keeps, and what it answered is the answer.
pub record Clears {D : Type 0} (becomes : D → List Event → D → Type 0) (old new : D) (r : Result (Unit {0}) Error) : Type 0 where
  pub answer : Result (Unit {0}) DeskFault
  pub became : becomes old (call.Catalog (catalog.ClearTypes answer) ∷ []) new
  pub says : r ≡ answer_by answer
