use Rattle.std.proofs.Common.{◌≡◌, [], refl, sym, ◌∙◌, ap}
use Rattle.pg_streams.specs.declared.items.Items.{Items}
use Rattle.pg_streams.specs.declared.row_giving.RowGiving.{RowGiving}
use Rattle.pg_streams.specs.declared.row_stream.RowStream.{RowStream}
use Rattle.pg_streams.proofs.Brought.{all-taken, next-taken, none-read, none-taken, nothing-popped, one-taken, told-read}
use Rattle.pg_streams.proofs.Telling.{none-of}
use Rattle.pg_streams.proofs.row_stream.RowStream.told.Goals as goal

pub returns-in-Some-clause-tells : goal.returns-in-Some-clause-tells
returns-in-Some-clause-tells c =
    one-taken c.loop-told.self (record c.loop-told.self { items = c.read.new.self }) c.in-Some.told c.loop-told.invariant.taken c.loop-told.invariant.taken refl
    (told-read c.loop-told.self.items c.read.new.self c.in_ok-told.field-0 c.in-Some.told c.in-Some.is c.in_ok-told.ensures.reads)
    ∙ c.loop-told.invariant.same

pub returns-in-None-clause-tells : goal.returns-in-None-clause-tells
returns-in-None-clause-tells c =
    let old = c.loop-told.self in
    let taken = c.loop-told.invariant.taken in
    let read = none-read old.items c.read.new.self c.in_ok-told.field-0 (none-of c.in_ok-told.field-0 c.in_default.not-Some) c.in_ok-told.ensures.reads in
    let new : RowStream = record old { items = c.read.new.self; later = c.pop_front.new.self } in
    let none : old.later.items ≡ [] = nothing-popped _ _ c.in-None.ensures.items c.in-None.ensures.rest in
    all-taken new taken read.1 (sym c.in-None.ensures.items ∙ none) ∙ none-taken old new taken taken (sym c.in-None.ensures.items) read.0 ∙ c.loop-told.invariant.same

pub loop-told-preserved : goal.loop-told-preserved
loop-told-preserved c =
    let old = c.loop-told.self in
    let taken = c.loop-told.invariant.taken in
    let read = none-read old.items c.read.new.self c.in_ok-told.field-0 (none-of c.in_ok-told.field-0 c.in_default.not-Some) c.in_ok-told.ensures.reads in
    let mid : RowStream = record old { items = c.read.new.self } in
    let new : RowStream = record old { items = c.refill.new.self; later = c.pop_front.new.self } in
    record {
      same = next-taken mid new c.in-Some-pop_front.batch taken taken read.1 c.in-Some-pop_front.ensures.items c.refill.ensures ∙ none-taken old mid taken taken refl read.0 ∙ c.loop-told.invariant.same;
      taken = taken;
      over = ap (λ (items : Items RowGiving). items.over) c.refill.ensures ∙ c.read.ensures.keeps.over ∙ c.loop-told.invariant.over;
      statement = ap (λ (items : Items RowGiving). items.giving.statement) c.refill.ensures ∙ c.read.ensures.keeps.known ∙ c.loop-told.invariant.statement;
    }
