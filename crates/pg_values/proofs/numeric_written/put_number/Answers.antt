use Rattle.std.proofs.Common.{◌++◌, ◌+◌, ◌*◌, ◌-◌, ◌/◌, List, ℕ, ℤ, ap, ◌∙◌, sym, subst, append_assoc, arith, w16}
use Rattle.std.specs.Int.{to_be_bytes}
use Rattle.std.proofs.lemmas.Int.{to_z-of_z}
use Rattle.pg_values.specs.Groups.{IsWrittenNumber, head_bytes}
use Rattle.pg_values.specs.Writing.{Puts}
use Rattle.pg_values.proofs.WriteLaws.{appended}
use Rattle.pg_values.proofs.GroupLaws.{number_bytes, fills_end}
use Rattle.pg_values.proofs.numeric_written.put_number.Goals as goal

pub returns : goal.returns
returns c =
    let places : ℕ = (c.args.scale + 3) / 4 in
    let pad : ℕ = 4 * places - c.args.scale in
    let g = c.groups_of-groups.result in
    let head = c.in_ok-put_head.ensures in
    let digits = c.in_ok-put_digits.ensures in
    let last = to_be_bytes w16 g.last in
    fills_end (IsWrittenNumber c.args.number c.args.sign c.args.scale) (head.bytes ++ digits.bytes) last c.args.out.now.items c.put_digits.new.out.items c.put.new.out.items c.put.result
    (appended c.args.out.now.items c.put_head.new.out.items c.put_digits.new.out.items head.bytes digits.bytes head.behind digits.behind)
    (subst (IsWrittenNumber c.args.number c.args.sign c.args.scale) (sym (append_assoc head.bytes digits.bytes last)) (number_bytes c.args.number c.args.sign c.args.scale pad places g.front g.last g.zeros c.digits_len-front.result c.weight_of-weight.result head.bytes digits.bytes
    (head.formed ∙ ap (λ (z : ℤ). head_bytes (c.digits_len-front.result + 1) z c.args.sign c.args.scale) (to_z-of_z w16 c.weight_of-weight.result c.weight_of-weight.ensures.fits))
    c.groups_of-groups.ensures digits.formed c.digits_len-front.ensures.least c.digits_len-front.ensures.few
    c.weight_of-weight.ensures.value c.weight_of-weight.ensures.fits
    (omega (arith, c.requires.scale)) c.ranges.sign.fits (omega (arith, c.requires.scale))))
    (subst (λ (l : List ℕ). Puts l c.put_digits.new.out.items c.put.new.out.items c.put.result) c.to_be_bytes.ensures c.put.ensures)
