-- A text whose commands look a type up, over the plan of a server that conforms (PostgreSQL documentation, "Message Flow": "Extended
-- Query").
use Rattle.std.specs.Prelude.{ℕ, false, List, [], ◌∷◌, codes}
use Rattle.pg_spec.specs.Examples.{accepted, hex}
use Rattle.pg_spec.specs.SessionText.{default_nonce}
use Rattle.pg_text.specs.SessionText.{SessionText}
use Rattle.pg_text.specs.declared.command.Command.TheVariants.{Prepare}

-- a statement is described: its one parameter has the type 90000, and it gives no rows
abbrev pub described : List ℕ
described = hex (codes "3100000004 740000000a0001 00015f90 6e00000004 5a0000000549")

-- the statement that looks types up is described: it takes an oid, and gives name, kind, element, range, base, schema and relation
abbrev pub finder_described : List ℕ
finder_described = hex (codes "3100000004 740000000a0001 0000001a 54000000c40007 7479706e616d6500 000000000000 00000013 0004ffffffff0000 7479707479706500 000000000000 00000012 0004ffffffff0000 747970656c656d00 000000000000 0000001a 0004ffffffff0000 726e677375627479706500 000000000000 0000001a 0004ffffffff0000 7479706261736574797065 00 000000000000 0000001a 0004ffffffff0000 6e73706e616d6500 000000000000 00000013 0004ffffffff0000 74797072656c696400 000000000000 0000001a 0004ffffffff0000 5a0000000549")

-- what it finds: `public.age`, a domain over int4
abbrev pub found : List ℕ
found = hex (codes "3200000004 44000000380007 00000003616765 0000000164 0000000400000000 ffffffff 0000000400000017 000000067075626c6963 0000000400000000 430000000d53454c454354203100 5a0000000549")

-- one client prepares two statements whose parameters have that type: the first one looks it up, and the second finds it kept
abbrev pub shared_text : SessionText
shared_text = record {
  config = codes "user=a";
  nonce = default_nonce;
  scripts = (Prepare 0 (codes "a") [] ∷ Prepare 1 (codes "b") [] ∷ []) ∷ [];
  turns = [];
  limit = 16777216;
  plan = accepted ∷ described ∷ finder_described ∷ found ∷ described ∷ [];
  cut = 8192;
  ends = false;
}
