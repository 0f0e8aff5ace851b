-- What writing a text whole answers.
use Rattle.std.specs.Prelude.{◌≡◌, ℕ, List, ◌++◌, Result, Ok, Err}
use Rattle.pg_spec.specs.Links.{Rose, Grew}
use Rattle.pg_wire.specs.Streams.{SinkView}
use Rattle.pg_tool.specs.declared.writing.WriteFault.{WriteFault}
use Rattle.pg_tool.specs.declared.writing.WriteFault.TheVariants as fault

-- a front of the text was written, and nothing else
pub record WroteFront (old new : SinkView) (text : List ℕ) : Type 0 where
  pub front : List ℕ
  pub rest : List ℕ
  pub whole : front ++ rest ≡ text
  pub written : Grew old.written new.written front

-- the text was written whole, or a front of it
abbrev pub WritesAll : SinkView → SinkView → List ℕ → Result (Unit {0}) WriteFault → Type 0
WritesAll old new text (Ok x) = Grew old.written new.written text
WritesAll old new text (Err fault.Failed) = Rose old.faults new.faults × WroteFront old new text
WritesAll old new text (Err fault.OutOfMemory) = WroteFront old new text
