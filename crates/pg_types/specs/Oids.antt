-- The numbers of the built-in types that values stand for (PostgreSQL documentation, "pg_type"; they
-- are those of the catalog's initial data, pg_type.dat).
use Rattle.std.specs.Prelude.{ℕ, Bool, ◌||◌, ◌==◌}

-- a truth value
abbrev pub bool : ℕ
bool = 16

-- bytes
abbrev pub bytea : ℕ
bytea = 17

-- one byte, of the catalog's own "char"
abbrev pub char : ℕ
char = 18

-- a name in the catalog, of at most 63 bytes
abbrev pub name : ℕ
name = 19

-- an integer of 8 bytes
abbrev pub int8 : ℕ
int8 = 20

-- an integer of 2 bytes
abbrev pub int2 : ℕ
int2 = 21

-- an integer of 4 bytes
abbrev pub int4 : ℕ
int4 = 23

-- a text of any length
abbrev pub text : ℕ
text = 25

-- the number of an object
abbrev pub oid : ℕ
oid = 26

-- a literal whose type isn't known yet
abbrev pub unknown : ℕ
unknown = 705

-- character(n), filled up with spaces
abbrev pub bpchar : ℕ
bpchar = 1042

-- character varying(n)
abbrev pub varchar : ℕ
varchar = 1043

-- one of the types whose values are texts
abbrev pub is_text : ℕ → Bool
is_text n = n == text || n == varchar || n == bpchar || n == name || n == unknown
