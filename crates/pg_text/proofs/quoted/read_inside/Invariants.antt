use Rattle.std.proofs.Common.{◌≡◌, drop}
use Rattle.pg_text.specs.declared.quoted.Inside.TheVariants.{Plain}
use Rattle.pg_text.specs.Quotes.{in_front, inside_at, IsWithin}
use Rattle.pg_text.proofs.quoted.read_inside.Given as goal

abbrev pub invariant-loop-at : goal.invariant-loop-at
invariant-loop-at l = record {
  within : IsWithin l.inside;
  read : inside_at Plain l.s ≡ in_front l.bytes.items (inside_at l.inside (drop l.at l.s));
}
