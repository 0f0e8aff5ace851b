-- Bytes that are sent, one behind another.
use Rattle.std.proofs.Common.{◌≡◌, inl, inr, ℕ, ◌+◌, false, List, [], ◌∷◌, ◌++◌, length, drop, get_or, Option, Some, None, Result, Ok, Err, IsOk, ap, refl, sym, ◌∙◌, subst, append_assoc}
use Rattle.std.proofs.lemmas.List.{append-nil}
use Rattle.std.specs.Fmt.{◌++?◌}
use Rattle.pg_types.specs.declared.fault.ValueFault.{ValueFault}
use Rattle.pg_types.specs.declared.fault.ValueFault.TheVariants as fault
use Rattle.pg_types.specs.declared.format.IsNull.{IsNull}
use Rattle.pg_types.specs.declared.format.IsNull.TheVariants as null
use Rattle.pg_types.specs.Values.{Given, Writes, bytes_given}
use Rattle.pg_values.specs.Sending.{bytes_in}
use Rattle.pg_values.specs.Writing.{Begins, Fills, Puts, Sends, WritesSent}
use Rattle.pg_values.proofs.WriteLaws.{appended, begun, first, nothing}

-- ---- one behind another

-- behind bytes that stand there
pub sent_behind : {A : Type 0} (front : List ℕ) (sent : Option (List ℕ)) (old mid new : List ℕ) (r : Result A ValueFault) → mid ≡ old ++ front
    → WritesSent sent mid new r → WritesSent (Some front ++? sent) old new r
sent_behind front sent old mid new (Ok x) e wrote =
    (front ++ wrote.0, ap (λ (o : Option (List ℕ)). Some front ++? o) wrote.1, appended old mid new front wrote.0 e wrote.2)
sent_behind front sent old mid new (Err fault.BadValue) e wrote = (ap (λ (o : Option (List ℕ)). Some front ++? o) wrote.0, begun (first front e) wrote.1)
sent_behind front sent old mid new (Err fault.OutOfMemory) e wrote = begun (first front e) wrote
sent_behind front sent old mid new (Err fault.WasNull) e wrote = absurd wrote
sent_behind front sent old mid new (Err (fault.WrongType wrong)) e wrote = absurd wrote

-- a fault that is handed on
pub sent_handed : (sent other : Option (List ℕ)) (old mid new : List ℕ) (f : ValueFault) → Begins old mid → (sent ≡ None → other ≡ None)
    → WritesSent {A = Unit {0}} sent mid new (Err f) → WritesSent {A = Unit {0}} other old new (Err f)
sent_handed sent other old mid new fault.BadValue e none wrote = (none wrote.0, begun e wrote.1)
sent_handed sent other old mid new fault.OutOfMemory e none wrote = begun e wrote
sent_handed sent other old mid new fault.WasNull e none wrote = absurd wrote
sent_handed sent other old mid new (fault.WrongType wrong) e none wrote = absurd wrote

-- memory lacks
pub sent_lacked : (sent : Option (List ℕ)) (old new : List ℕ) (f : ValueFault) → f ≡ fault.OutOfMemory → Begins old new → WritesSent {A = Unit {0}} sent old new (Err f)
sent_lacked sent old new f e begun = subst (λ (g : ValueFault). WritesSent {A = Unit {0}} sent old new (Err g)) (sym e) begun

-- there are none
pub sent_none : (sent : Option (List ℕ)) (old new : List ℕ) (f : ValueFault) → f ≡ fault.BadValue → sent ≡ None → Begins old new → WritesSent {A = Unit {0}} sent old new (Err f)
sent_none sent old new f e none begun = subst (λ (g : ValueFault). WritesSent {A = Unit {0}} sent old new (Err g)) (sym e) (none, begun)

-- bytes that are put
pub sent_put : {A : Type 0} (bytes old new : List ℕ) (r : Result A ValueFault) → Puts bytes old new r → WritesSent (Some bytes) old new r
sent_put bytes old new (Ok x) put = (bytes, refl, put)
sent_put {A} bytes old new (Err f) put = subst (λ (g : ValueFault). WritesSent {A = A} (Some bytes) old new (Err g)) (sym put.0) (nothing put.1)

-- nothing in front
pub none_in_front : (o : Option (List ℕ)) → Some [] ++? o ≡ o
none_in_front None = refl
none_in_front (Some a) = refl

-- one in front of another, and the rest behind them
pub in_front : (a b : List ℕ) (o : Option (List ℕ)) → Some a ++? (Some b ++? o) ≡ Some (a ++ b) ++? o
in_front a b None = refl
in_front a b (Some c) = ap (λ (l : List ℕ). Some l) (sym (append_assoc a b c))

-- what stands in front of others
abbrev pub StandsBefore : (rest all : Option (List ℕ)) → (old new : List ℕ) → Type 0
StandsBefore rest all old new = (more : List ℕ) × (new ≡ old ++ more) × (all ≡ Some more ++? rest)

pub before_all : (all : Option (List ℕ)) (old : List ℕ) → StandsBefore all all old old
before_all all old = ([], sym (append-nil old), sym (none_in_front all))

pub before_begins : (rest all : Option (List ℕ)) (old new : List ℕ) → StandsBefore rest all old new → Begins old new
before_begins rest all old new before = record { more = before.0; behind = before.1 }

pub before_more : (one rest all : Option (List ℕ)) (old mid new bytes : List ℕ) → StandsBefore (one ++? rest) all old mid → one ≡ Some bytes → new ≡ mid ++ bytes
    → StandsBefore rest all old new
before_more one rest all old mid new bytes before is e = (
  before.0 ++ bytes,
  appended old mid new before.0 bytes before.1 e,
  before.2 ∙ ap (λ (o : Option (List ℕ)). Some before.0 ++? (o ++? rest)) is ∙ in_front before.0 bytes rest,
)

pub before_none : (one rest all : Option (List ℕ)) (old new : List ℕ) → StandsBefore (one ++? rest) all old new → one ≡ None → all ≡ None
before_none one rest all old new before is = before.2 ∙ ap (λ (o : Option (List ℕ)). Some before.0 ++? (o ++? rest)) is

pub before_end : (all : Option (List ℕ)) (old new : List ℕ) → StandsBefore (Some []) all old new → WritesSent {A = Unit {0}} all old new (Ok tt)
before_end all old new before = (before.0 ++ [], before.2, before.1 ∙ ap (λ (l : List ℕ). old ++ l) (sym (append-nil before.0)))

pub before_is : (rest other all : Option (List ℕ)) (old new : List ℕ) → rest ≡ other → StandsBefore rest all old new → StandsBefore other all old new
before_is rest other all old new e before = (before.0, before.1, before.2 ∙ ap (λ (o : Option (List ℕ)). Some before.0 ++? o) e)

-- ---- what a value gives

wrote_ok : {A : Type 0} (sent : Option (List ℕ)) (old new bytes : List ℕ) (r : Result A ValueFault) → sent ≡ Some bytes → new ≡ old ++ bytes → IsOk r → WritesSent sent old new r
wrote_ok sent old new bytes (Ok x) is e ok = (bytes, is, e)
wrote_ok sent old new bytes (Err f) is e ok = absurd (cc ok)

wrote_none : (sent : Option (List ℕ)) (old new : List ℕ) (f : ValueFault) (r : Result (Unit {0}) ValueFault) → sent ≡ None → new ≡ old → Sends (Err f) r → WritesSent sent old new r
wrote_none sent old new fault.OutOfMemory r none e sends = subst (λ (q : Result (Unit {0}) ValueFault). WritesSent sent old new q) (sym sends) (nothing e)
wrote_none sent old new fault.BadValue r none e sends = subst (λ (q : Result (Unit {0}) ValueFault). WritesSent sent old new q) (sym sends) (none, nothing e)
wrote_none sent old new fault.WasNull r none e sends = subst (λ (q : Result (Unit {0}) ValueFault). WritesSent sent old new q) (sym sends) (none, nothing e)
wrote_none sent old new (fault.WrongType wrong) r none e sends = subst (λ (q : Result (Unit {0}) ValueFault). WritesSent sent old new q) (sym sends) (none, nothing e)

lacked_is : (sent : Option (List ℕ)) (old new : List ℕ) (f : ValueFault) (r : Result (Unit {0}) ValueFault) → f ≡ fault.OutOfMemory → new ≡ old → Sends (Err f) r → WritesSent sent old new r
lacked_is sent old new f r is e sends =
    let same : r ≡ Err fault.OutOfMemory = subst (λ (g : ValueFault). Sends (Err g) r) is sends in
    subst (λ (q : Result (Unit {0}) ValueFault). WritesSent sent old new q) (sym same) (nothing e)

-- what is told of a value that isn't null
pub sent_given : (given : Given) (old new : List ℕ) (answer : Result IsNull ValueFault) (r : Result (Unit {0}) ValueFault) → (given ≡ Ok None → ⊥)
    → Writes false given old new answer → Sends answer r → WritesSent (bytes_in given) old new r
sent_given given old new (Ok null.No) r some wrote sends = wrote_ok (bytes_in given) old new wrote.0 r (ap bytes_in wrote.1) wrote.2 sends
sent_given given old new (Ok null.Yes) r some wrote sends = absurd (some wrote.0)
sent_given given old new (Err f) r some (inl lack, e) sends = lacked_is (bytes_in given) old new f r lack.1 e sends
sent_given given old new (Err f) r some (inr own, e) sends = wrote_none (bytes_in given) old new f r (ap bytes_in own) e sends
