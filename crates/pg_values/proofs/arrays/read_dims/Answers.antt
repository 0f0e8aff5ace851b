use Rattle.std.proofs.Common.{ℕ, ◌+◌, List, ◌++◌, flat_map, arith, sym, ◌∙◌, subst, ap, length}
use Rattle.std.specs.List.{AllByRecursion}
use Rattle.std.proofs.lemmas.List.{length_push}
use Rattle.pg_values.specs.declared.datum.Dim.{Dim}
use Rattle.pg_values.specs.Spelling.{IsDim, dim_bytes}
use Rattle.pg_values.proofs.ArrayLaws.{none_at, behind_at, all_more, spelled_more}
use Rattle.pg_values.proofs.arrays.read_dims.Goals as goal

pub returns-in_default : goal.returns-in_default
returns-in_default c = λ ds are.
    let others = c.loop.invariant.others ds are in
    none_at c.args.count c.loop.counter others.0 c.loop.rest.now (omega arith) others.1 c.in_default.ensures

pub loop-preserved : goal.loop-preserved
loop-preserved c =
    let e = sym c.in_ok-push.ensures in
    record {
      count_is = ap (λ (l : List Dim). length l) (sym e) ∙ length_push c.loop.dims c.in-Some.dim ∙ ap (λ (n : ℕ). n + 1) c.loop.invariant.count_is;
      are = subst (λ (l : List Dim). AllByRecursion IsDim l) e (all_more c.loop.dims c.in-Some.dim c.loop.invariant.are c.in-Some.ensures.0);
      spelled = spelled_more c.loop.dims c.in-Some.dim c.args.bytes.now c.loop.rest.now c.in-Some.behind.now c.loop.invariant.spelled c.in-Some.ensures.1
          ∙ ap (λ (l : List Dim). flat_map dim_bytes l ++ c.in-Some.behind.now) e;
      others = λ ds are.
          let others = c.loop.invariant.others ds are in
          behind_at c.args.count c.loop.counter others.0 c.loop.rest.now c.in-Some.behind.now c.in-Some.dim (omega arith) others.1 c.in-Some.ensures.1;
    }
