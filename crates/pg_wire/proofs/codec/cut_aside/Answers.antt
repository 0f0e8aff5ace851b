use Rattle.pg_wire.proofs.Asides.{refuses_aside, same_aside, not_refused, cuts_aside}
use Rattle.pg_wire.proofs.codec.cut_aside.Goals as goal

pub returns-then-not-is_laid_out : goal.returns-then-not-is_laid_out
returns-then-not-is_laid_out c =
    refuses_aside _ _ _ _ c.as_slice.ensures c.as_slice-2.ensures c.requires.whole c.requires.aside c.if-not-is_laid_out.ensures

pub unreachable-requires : goal.unreachable-requires
unreachable-requires c =
    not_refused _ _ _
    (same_aside _ _ _ _ _ _ c.as_slice.ensures c.as_slice-2.ensures c.requires.whole.some c.in_ok-body.ensures.front c.advance.ensures)
    c.if-not-is_laid_out.ensures c.in-Err.ensures

pub returns : goal.returns
returns c =
    cuts_aside _ _ _ _ _ _ _ c.as_slice.ensures c.requires.whole c.requires.aside c.in_ok-body.ensures.front c.in_ok-body.ensures.rest.0
    c.advance.ensures c.in-Ok.ensures
