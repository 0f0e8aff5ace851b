use Rattle.std.proofs.Common.{rules}
use Rattle.std.proofs.lemmas.Str.{is_utf8-from_IsUtf8}
use Rattle.pg_types.proofs.laws.texts_read_back.Goals as goal

pub returns-clause-str : goal.returns-clause-str
returns-clause-str c = let u = is_utf8-from_IsUtf8 _ c.utf8.text in search rules

pub returns-clause-text : goal.returns-clause-text
returns-clause-text c = let u = is_utf8-from_IsUtf8 _ c.utf8.text in search rules
