-- What a link has still to give, where its buffer and its reader change.
use Rattle.std.proofs.Common.{◌≡◌, ℕ, Bool, true, List, [], ◌++◌, take, drop, Option, None, Some, refl, sym, ap, ◌∙◌, append_assoc}
use Rattle.std.proofs.lemmas.List.{take-append-drop}
use Rattle.std.specs.Io.KnownBytes.{prepend_known}
use Rattle.pg_stream.specs.Answers.{IsEmptied}
use Rattle.pg_stream.specs.Streams.{GivesAhead, GivesLeft}
use Rattle.pg_wire.specs.declared.link.LinkRead.{LinkRead}
use Rattle.pg_wire.specs.declared.link.LinkRead.TheVariants as reads

none-left : IsEmptied None
none-left bytes is = absurd cc

-- a read of the bytes held
pub gives-left : (over : Bool) (old new out : List ℕ) (left : Option (List ℕ)) (reply : LinkRead) → (over ≡ true → IsEmptied left) → GivesAhead over old new out reply →
    GivesLeft (prepend_known old left) (prepend_known new left) out reply
gives-left over old new out None (reads.Got n) ends given = tt
gives-left over old new out (Some xs) (reads.Got n) ends (some, count, front, rest) =
    ap (λ l. l ++ xs) (sym (take-append-drop n old)) ∙ append_assoc (take n old) (drop n old) xs ∙ ap (λ l. l ++ (drop n old ++ xs)) (sym front) ∙ ap (λ l. take n out ++ (l ++ xs)) (sym rest)
gives-left over old new out None reads.End ends given = (none-left, tt)
gives-left over old new out (Some xs) reads.End ends (is, none, still) =
    let nothing : xs ≡ [] = ends is xs refl in
    (λ bytes same. emptied bytes nothing none same, ap (λ l. l ++ xs) (still ∙ sym none))
  where
    emptied : (bytes : List ℕ) → xs ≡ [] → old ≡ [] → prepend_known old (Some xs) ≡ Some bytes → bytes ≡ []
    emptied bytes a b same = cc
gives-left over old new out None reads.NotReady ends given = tt
gives-left over old new out (Some xs) reads.NotReady ends (is, none, still) = ap (λ l. l ++ xs) (still ∙ sym none)
gives-left over old new out left reads.Failed ends given = absurd given
