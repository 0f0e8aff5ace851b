-- What a source in memory does is what a source may do.
use Rattle.std.proofs.Common.{ℕ, List, ◌++◌, take, drop, Some, sym, ap, ◌∙◌, arith}
use Rattle.std.proofs.lemmas.List.{take-append-drop}
use Rattle.pg_wire.specs.Streams.{SourceAnswers}
use Rattle.pg_wire.specs.declared.stream.SourceRead.{SourceRead}
use Rattle.pg_wire.specs.declared.stream.SourceRead.TheVariants as reads
use Rattle.pg_wire.specs.MemoryStreams.{source_of, ReadsLeft}

pub reads-left : (old new out : List ℕ) (answer : SourceRead) → ReadsLeft old new out answer → SourceAnswers (source_of old) (source_of new) out answer
reads-left old new out (reads.Got n) (some, count, front, rest) = record {
  some = omega arith;
  fits = omega arith;
  front = ap (λ (l : List ℕ). Some l) (sym (take-append-drop n old) ∙ ap (λ (l : List ℕ). l ++ drop n old) (sym front) ∙ ap (λ (l : List ℕ). take n out ++ l) (sym rest));
}
reads-left old new out reads.End (none, rest) = (none, ap (λ (l : List ℕ). Some l) (rest ∙ sym none))
reads-left old new out reads.Failed r = absurd r
