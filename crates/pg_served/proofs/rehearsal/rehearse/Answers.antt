use Rattle.std.proofs.Common.{inl, inr, refl, ap, map, ◌∙◌}
use Rattle.std.specs.Prelude.{string_bytes}
use Rattle.pg_served.proofs.rehearsal.rehearse.Goals as goal

pub returns-in-Ok : goal.returns-in-Ok
returns-in-Ok g c =
    let words = ap (λ words. map string_bytes words) c.as_slice.ensures.value ∙ c.in-Ok.ensures in
    inl (rw words at c.run.ensures)

pub returns-in-Err : goal.returns-in-Err
returns-in-Err g c = inr (record {
  status = ap (λ outcome. outcome.status) c.out_of_memory.ensures;
  result = ap (λ outcome. outcome.result) c.out_of_memory.ensures;
  source = refl;
  sink = refl;
  link = refl;
})
