use Rattle.std.proofs.Common.{◌≡◌, ◌++◌, drop, string_bytes}
use Rattle.pg_text.specs.Written.{book_from}
use Rattle.pg_text.proofs.print.put_book.Given as goal

abbrev pub invariant-loop-number : goal.invariant-loop-number
invariant-loop-number l = string_bytes l.out ++ book_from l.number (drop l.number l.book) ≡ string_bytes l.initial.out ++ book_from 0 l.book
