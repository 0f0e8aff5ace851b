-- What the functions that read a text answer, by its meaning.
use Rattle.std.specs.Prelude.{◌≡◌, ℕ, List, ◌++◌, length, option_map, Result, Ok, Err}
use Rattle.pg_machine.specs.declared.draft.Draft.{Draft}
use Rattle.pg_machine.specs.declared.fault.FileFault.{FileFault}
use Rattle.pg_machine.specs.declared.fault.FileFault.TheVariants as file
use Rattle.pg_machine.specs.declared.fault.LineError.{LineError}
use Rattle.pg_machine.specs.declared.fault.LineError.TheVariants as error
use Rattle.pg_machine.specs.declared.fault.LineFault.{LineFault}
use Rattle.pg_machine.specs.MachineTexts.{Said}

-- a fault is the one that comes; memory may lack
abbrev pub Fails : {A : Type 0} → LineError → Result A LineFault → Type 0
Fails error.OutOfMemory read = Unit {0}
Fails (error.Fault fault) read = read ≡ Err fault

-- what a function answered, seen by `view`, is what is read, unless memory lacked
abbrev pub Gives : {A B : Type 0} → (A → B) → Result A LineError → Result B LineFault → Type 0
Gives view (Ok x) read = read ≡ Ok (view x)
Gives view (Err e) read = Fails e read

-- what is said then, unless memory lacked
abbrev pub Adds : Result Said LineFault → Result (Unit {0}) LineError → Said → Type 0
Adds next (Ok done) new = next ≡ Ok new
Adds next (Err e) new = Fails e next

-- what a draft says
abbrev pub said_of : Draft → Said
said_of d = record {
  startup = d.startup;
  refusal = option_map (λ refusal. (refusal.number, refusal.bytes)) d.refusal;
  rows = d.rows.items;
  numbers = d.numbers.items;
}

-- each row has the number of its line
abbrev pub IsNumbered : Draft → Type 0
IsNumbered d = length d.numbers.items ≡ length d.rows.items

-- a draft says this; or a line is refused so, unless memory lacked
abbrev pub Says : Result Said FileFault → Result Draft FileFault → Type 0
Says read (Ok draft) = read ≡ Ok (said_of draft)
Says read (Err file.OutOfMemory) = Unit {0}
Says read (Err fault) = read ≡ Err fault

-- bytes in front of those that are read
abbrev pub in_front : List ℕ → Result (List ℕ) LineFault → Result (List ℕ) LineFault
in_front bytes (Ok more) = Ok (bytes ++ more)
in_front bytes (Err fault) = Err fault
