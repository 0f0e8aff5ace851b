-- What is inside of a value with parts.
use denote.Hole.Carrier.{hidden}
use Rattle.std.proofs.Common.{◌≡◌, Bool, List, [], ◌∷◌, ap, refl, sym, ◌∙◌}
use Rattle.pg_values.specs.declared.datum.Dim.{Dim}
use Rattle.pg_values.specs.declared.datum.Bound.{Bound}
use Rattle.pg_values.specs.declared.datum.Datum as d
use Rattle.pg_values.specs.declared.datum.Datum.{Datum}

abbrev datums : {m : _} → d.Row_of-Datum m → List Datum
datums d.end_of-Datum = []
datums (d.more_of-Datum v rest) = v ∷ datums rest

abbrev inside : Datum → List Datum
inside (d.Array' dims shape row) = datums row
inside (d.Range' empty lower upper shape row) = datums row
inside (d.Composite' shape row) = datums row
inside v = []

all_in : (vs : List Datum) → datums (d.TheBlock.hidden-the_row-Datum-0 vs) ≡ vs
unfolding Rattle.pg_values.specs.declared.datum.Datum.TheBlock.shape-the_row-Datum-0 Rattle.pg_values.specs.declared.datum.Datum.TheBlock.hidden-the_row-Datum-0 hidden
all_in [] = refl
all_in (v ∷ vs) = ap (λ (l : List Datum). v ∷ l) (all_in vs)

pub same_items : (dims es : List Dim) (items vs : List Datum) → d.Array dims items ≡ d.Array es vs → items ≡ vs
same_items dims es items vs e = sym (all_in items) ∙ ap inside e ∙ all_in vs

pub same_bounds : (e f : Bool) (l u m w : Bound) (bounds vs : List Datum) → d.Range e l u bounds ≡ d.Range f m w vs → bounds ≡ vs
same_bounds e f l u m w bounds vs same = sym (all_in bounds) ∙ ap inside same ∙ all_in vs

pub same_values : (values vs : List Datum) → d.Composite values ≡ d.Composite vs → values ≡ vs
same_values values vs e = sym (all_in values) ∙ ap inside e ∙ all_in vs
