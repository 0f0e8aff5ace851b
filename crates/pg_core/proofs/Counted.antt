-- What a desk tells of its counters and of the catalog, by a legal list.
use Rattle.std.proofs.Common.{◌≡◌, ℕ, ◌+◌, ◌-◌, ◌^◌, ◌<◌, nat_lt, List, [], ◌∷◌, ◌++◌, map, Bool, true, false, if◌then◌else◌, Option, Some, None, Ok, Err, is_ok, refl, sym, ap, subst, ◌∙◌, arith, append_assoc}
use Rattle.std.proofs.lemmas.Bool.Decides.{nat_tests}
use Rattle.std.proofs.lemmas.List.{append-nil}
use Rattle.pg_types.specs.declared.pg_type.PgType.{PgType}
use Rattle.pg_desk.specs.declared.statement.Described.{Described as Statement}
use Rattle.pg_desk.specs.declared.statement.Lookup.{Lookup}
use Rattle.pg_desk.specs.declared.statement.Lookup.TheVariants.{Info, Enum, Composite}
use Rattle.pg_spec.specs.declared.stamps.Stamp.{Stamp}
use Rattle.pg_desk.specs.declared.event.DeskFault.TheVariants as fault
use Rattle.pg_desk.specs.declared.event.CatalogCall.{CatalogCall}
use Rattle.pg_desk.specs.declared.event.CatalogCall.TheVariants as catalog
use Rattle.pg_desk.specs.declared.event.Event.{Event}
use Rattle.pg_desk.specs.declared.event.Event.TheVariants.{NextStatement, NextPortal, Catalog as CatalogEvent}
use Rattle.pg_desk.specs.Asking.{IsOfRequests}
use Rattle.pg_desk.specs.Catalog.{Catalog, nothing_kept, type_kept, statement_kept, after_catalog, AllowsCatalog, leaves_catalog}
use Rattle.pg_desk.specs.History.{State, Change, DrewStatement, DrewPortal, Catalogued, change_of, changed, start, after, after_all, Allows, IsLegal, leaves_event, kept}
use Rattle.pg_desk.proofs.Cached.{last-more}
use Rattle.pg_desk.proofs.Changes.{of-requests}
use Rattle.pg_query.specs.Dialogue.{question_of, reply_of}
use Rattle.pg_query.specs.Lives.{Deed}
use Rattle.pg_query.specs.declared.desk_call.DeskCall.{DeskCall}
use Rattle.pg_query.specs.declared.desk_call.DeskCall.TheVariants as desk_call
use Rattle.pg_query.specs.declared.desk_call.Reply.{Reply}
use Rattle.pg_query.specs.declared.desk_call.Reply.TheVariants as reply
use Rattle.pg_spec.specs.Courses.{Asked, Who, stamp_of}
use Rattle.pg_core.specs.Deeds.{told_as, told_by, answers_in, granted, asked_in}
use Rattle.pg_core.proofs.Granted.{granted-append}
use Rattle.pg_core.specs.Lists.{events_of, state_behind}
use Rattle.pg_core.specs.Trails.{AllUnder, AreToldIn}
use Rattle.pg_core.specs.Counters.{statements_in, portals_in, number_to, type_behind, last_type, statement_behind, last_statement, tells, Keeps, Counts, ToldSo}

one-statement : (qs : List DeskCall) → statements_in (qs ++ desk_call.NextStatement ∷ []) ≡ statements_in qs + 1
one-statement [] = refl
one-statement (desk_call.NextStatement ∷ qs) = ap (λ (n : ℕ). n + 1) (one-statement qs)
one-statement (q ∷ qs) = one-statement qs

no-statement : (qs : List DeskCall) → statements_in (qs ++ desk_call.NextPortal ∷ []) ≡ statements_in qs
no-statement [] = refl
no-statement (desk_call.NextStatement ∷ qs) = ap (λ (n : ℕ). n + 1) (no-statement qs)
no-statement (q ∷ qs) = no-statement qs

one-portal : (qs : List DeskCall) → portals_in (qs ++ desk_call.NextPortal ∷ []) ≡ portals_in qs + 1
one-portal [] = refl
one-portal (desk_call.NextPortal ∷ qs) = ap (λ (n : ℕ). n + 1) (one-portal qs)
one-portal (q ∷ qs) = one-portal qs

no-portal : (qs : List DeskCall) → portals_in (qs ++ desk_call.NextStatement ∷ []) ≡ portals_in qs
no-portal [] = refl
no-portal (desk_call.NextPortal ∷ qs) = ap (λ (n : ℕ). n + 1) (no-portal qs)
no-portal (q ∷ qs) = no-portal qs

-- a question on the catalog draws no number
no-statement-of : (qs : List DeskCall) (c : CatalogCall) → statements_in (qs ++ question_of c ∷ []) ≡ statements_in qs
no-statement-of [] (catalog.TypeOf oid answer) = refl
no-statement-of [] (catalog.SetType oid ty answer) = refl
no-statement-of [] (catalog.ClearTypes answer) = refl
no-statement-of [] (catalog.LookupOf which answer) = refl
no-statement-of [] (catalog.SetLookup which statement answer) = refl
no-statement-of (desk_call.NextStatement ∷ qs) c = ap (λ (n : ℕ). n + 1) (no-statement-of qs c)
no-statement-of (q ∷ qs) c = no-statement-of qs c

no-portal-of : (qs : List DeskCall) (c : CatalogCall) → portals_in (qs ++ question_of c ∷ []) ≡ portals_in qs
no-portal-of [] (catalog.TypeOf oid answer) = refl
no-portal-of [] (catalog.SetType oid ty answer) = refl
no-portal-of [] (catalog.ClearTypes answer) = refl
no-portal-of [] (catalog.LookupOf which answer) = refl
no-portal-of [] (catalog.SetLookup which statement answer) = refl
no-portal-of (desk_call.NextPortal ∷ qs) c = ap (λ (n : ℕ). n + 1) (no-portal-of qs c)
no-portal-of (q ∷ qs) c = no-portal-of qs c

-- below the top it is the number, else spent
is-number : (top n : ℕ) → n < top → number_to top n ≡ reply.Number n
is-number top n lt = ap (λ (b : Bool). if b then reply.Number n else reply.Spent) (let e : nat_lt n top ≡ true = grind (arith, nat_tests, lt) in e)

is-spent : (top n : ℕ) → (n < top → ⊥) → number_to top n ≡ reply.Spent
is-spent top n not = by (nat_lt n top) refl
  where
    by : (b : Bool) → nat_lt n top ≡ b → (if b then reply.Number n else reply.Spent) ≡ reply.Spent
    by true e = absurd (not (grind (arith, nat_tests, e)))
    by false e = refl

-- which number it was
was-number : (top c n : ℕ) → number_to top c ≡ reply.Number n → c ≡ n
was-number top c n h = by (nat_lt c top) h
  where
    by : (b : Bool) → (if b then reply.Number c else reply.Spent) ≡ reply.Number n → c ≡ n
    by true h = cc
    by false h = absurd cc

was-spent : (top c : ℕ) → number_to top c ≡ reply.Spent → c < top → ⊥
was-spent top c h lt = let e : reply.Number c ≡ reply.Spent = sym (is-number top c lt) ∙ h in absurd cc

drawn-next : (top c n : ℕ) → number_to top c ≡ number_to top n → n < top → number_to top (c + 1) ≡ number_to top (n + 1)
drawn-next top c n h lt = ap (λ (k : ℕ). number_to top (k + 1)) (was-number top c n (h ∙ is-number top n lt))

spent-next : (top c n : ℕ) → number_to top c ≡ number_to top n → n ≡ top → number_to top (c + 1) ≡ number_to top n
spent-next top c n h is =
    let no_more : n < top → ⊥ = λ lt. (omega (arith, lt, is)) in
    let over : c < top → ⊥ = was-spent top c (h ∙ is-spent top n no_more) in
    is-spent top (c + 1) (λ lt. over (omega (arith, lt))) ∙ sym (is-spent top n no_more)

-- ---- what is kept of the catalog

type-more : (qs : List DeskCall) (q : DeskCall) (oid : ℕ) (before : Option PgType) → last_type (qs ++ q ∷ []) oid before ≡ type_behind q oid (last_type qs oid before)
type-more [] q oid before = refl
type-more (x ∷ qs) q oid before = type-more qs q oid (type_behind x oid before)

statement-more : (qs : List DeskCall) (q : DeskCall) (which : Lookup) (before : Option Statement) → last_statement (qs ++ q ∷ []) which before ≡ statement_behind q which (last_statement qs which before)
statement-more [] q which before = refl
statement-more (x ∷ qs) q which before = statement-more qs q which (statement_behind x which before)

-- another question leaves what is kept of the catalog
keeps-more : (before : List DeskCall) (q : DeskCall) (k : Catalog) → ((oid : ℕ) (t : Option PgType) → type_behind q oid t ≡ t) → ((which : Lookup) (t : Option Statement) → statement_behind q which t ≡ t) → Keeps before k →
    Keeps (before ++ q ∷ []) k
keeps-more before q k types lookups h = record {
  types = λ oid. type-more before q oid None ∙ types oid (last_type before oid None) ∙ h.types oid;
  lookups = λ which. statement-more before q which None ∙ lookups which (last_statement before which None) ∙ h.lookups which;
}

-- what is kept behind a call that wasn't refused
type-kept : (k : Catalog) (c : CatalogCall) (oid : ℕ) → is_ok (reply_of c) ≡ true → type_kept (after_catalog k c) oid ≡ type_behind (question_of c) oid (type_kept k oid)
type-kept k (catalog.TypeOf asked (Ok found)) oid g = refl
type-kept k (catalog.SetType set ty (Ok x)) oid g = last-more oid k.types (record { oid = set; type_ = ty })
type-kept k (catalog.ClearTypes (Ok x)) oid g = refl
type-kept k (catalog.LookupOf which (Ok found)) oid g = refl
type-kept k (catalog.SetLookup Info statement (Ok x)) oid g = refl
type-kept k (catalog.SetLookup Enum statement (Ok x)) oid g = refl
type-kept k (catalog.SetLookup Composite statement (Ok x)) oid g = refl
type-kept k (catalog.TypeOf asked (Err e)) oid g = absurd cc
type-kept k (catalog.SetType set ty (Err e)) oid g = absurd cc
type-kept k (catalog.ClearTypes (Err e)) oid g = absurd cc
type-kept k (catalog.LookupOf which (Err e)) oid g = absurd cc
type-kept k (catalog.SetLookup which statement (Err e)) oid g = absurd cc

statement-kept : (k : Catalog) (c : CatalogCall) (which : Lookup) → is_ok (reply_of c) ≡ true → statement_kept (after_catalog k c) which ≡ statement_behind (question_of c) which (statement_kept k which)
statement-kept k (catalog.TypeOf asked (Ok found)) which g = refl
statement-kept k (catalog.SetType set ty (Ok x)) Info g = refl
statement-kept k (catalog.SetType set ty (Ok x)) Enum g = refl
statement-kept k (catalog.SetType set ty (Ok x)) Composite g = refl
statement-kept k (catalog.ClearTypes (Ok x)) Info g = refl
statement-kept k (catalog.ClearTypes (Ok x)) Enum g = refl
statement-kept k (catalog.ClearTypes (Ok x)) Composite g = refl
statement-kept k (catalog.LookupOf asked (Ok found)) which g = refl
statement-kept k (catalog.SetLookup Info statement (Ok x)) Info g = refl
statement-kept k (catalog.SetLookup Info statement (Ok x)) Enum g = refl
statement-kept k (catalog.SetLookup Info statement (Ok x)) Composite g = refl
statement-kept k (catalog.SetLookup Enum statement (Ok x)) Info g = refl
statement-kept k (catalog.SetLookup Enum statement (Ok x)) Enum g = refl
statement-kept k (catalog.SetLookup Enum statement (Ok x)) Composite g = refl
statement-kept k (catalog.SetLookup Composite statement (Ok x)) Info g = refl
statement-kept k (catalog.SetLookup Composite statement (Ok x)) Enum g = refl
statement-kept k (catalog.SetLookup Composite statement (Ok x)) Composite g = refl
statement-kept k (catalog.TypeOf asked (Err e)) which g = absurd cc
statement-kept k (catalog.SetType set ty (Err e)) which g = absurd cc
statement-kept k (catalog.ClearTypes (Err e)) which g = absurd cc
statement-kept k (catalog.LookupOf asked (Err e)) which g = absurd cc
statement-kept k (catalog.SetLookup set statement (Err e)) which g = absurd cc

-- a call on the catalog that wasn't refused, asked behind these questions
counts-behind : (before : List DeskCall) (s : State) (c : CatalogCall) → is_ok (reply_of c) ≡ true → Counts before s → Counts (before ++ question_of c ∷ []) (after s (CatalogEvent c))
counts-behind before s c g h = record {
  statements = ap (number_to (2 ^ 32 - 1)) (no-statement-of before c) ∙ h.statements;
  portals = ap (number_to (2 ^ 32 - 1)) (no-portal-of before c) ∙ h.portals;
  catalog = record {
    types = λ oid. type-more before (question_of c) oid None ∙ ap (type_behind (question_of c) oid) (h.catalog.types oid) ∙ sym (type-kept s.catalog c oid g);
    lookups = λ which. statement-more before (question_of c) which None ∙ ap (statement_behind (question_of c) which) (h.catalog.lookups which) ∙ sym (statement-kept s.catalog c which g);
  };
}

-- what changes neither a counter nor the catalog
counts-other : (before : List DeskCall) (s : State) (c : Change) → IsOfRequests c → Counts before s → Counts before (changed s c)
counts-other before s DrewStatement none h = absurd none
counts-other before s DrewPortal none h = absurd none
counts-other before s (Catalogued call) none h = absurd none
counts-other before s c none h = record { statements = h.statements; portals = h.portals; catalog = h.catalog }

-- ---- one question more, told so
record Draws (before : List DeskCall) (t : State) (q : DeskCall) (r : Reply) : Type 0 where
  tells_so : r ≡ tells before q
  counts : Counts (before ++ q ∷ []) t

statement-drawn : (before : List DeskCall) (s : State) (n : ℕ) → n ≡ s.statements → n < 2 ^ 32 - 1 → Counts before s → Draws before (after s (NextStatement (Ok n))) desk_call.NextStatement (reply.Number n)
statement-drawn before s n is lt h =
    let below : s.statements < 2 ^ 32 - 1 = subst (λ (k : ℕ). k < 2 ^ 32 - 1) is lt in
    record {
      tells_so = sym (h.statements ∙ is-number (2 ^ 32 - 1) s.statements below ∙ ap reply.Number (sym is));
      counts = record {
        statements = ap (number_to (2 ^ 32 - 1)) (one-statement before) ∙ drawn-next (2 ^ 32 - 1) (statements_in before) s.statements h.statements below;
        portals = ap (number_to (2 ^ 32 - 1)) (no-portal before) ∙ h.portals;
        catalog = keeps-more before desk_call.NextStatement s.catalog (λ oid t. refl) (λ which t. refl) h.catalog;
      };
    }

statement-spent : (before : List DeskCall) (s : State) → s.statements ≡ 2 ^ 32 - 1 → Counts before s → Draws before s desk_call.NextStatement reply.Spent
statement-spent before s is h = record {
  tells_so = sym (h.statements ∙ is-spent (2 ^ 32 - 1) s.statements (λ lt. (omega (arith, lt, is))));
  counts = record {
    statements = ap (number_to (2 ^ 32 - 1)) (one-statement before) ∙ spent-next (2 ^ 32 - 1) (statements_in before) s.statements h.statements is;
    portals = ap (number_to (2 ^ 32 - 1)) (no-portal before) ∙ h.portals;
    catalog = keeps-more before desk_call.NextStatement s.catalog (λ oid t. refl) (λ which t. refl) h.catalog;
  };
}

portal-drawn : (before : List DeskCall) (s : State) (n : ℕ) → n ≡ s.portals → n < 2 ^ 32 - 1 → Counts before s → Draws before (after s (NextPortal (Ok n))) desk_call.NextPortal (reply.Number n)
portal-drawn before s n is lt h =
    let below : s.portals < 2 ^ 32 - 1 = subst (λ (k : ℕ). k < 2 ^ 32 - 1) is lt in
    record {
      tells_so = sym (h.portals ∙ is-number (2 ^ 32 - 1) s.portals below ∙ ap reply.Number (sym is));
      counts = record {
        statements = ap (number_to (2 ^ 32 - 1)) (no-statement before) ∙ h.statements;
        portals = ap (number_to (2 ^ 32 - 1)) (one-portal before) ∙ drawn-next (2 ^ 32 - 1) (portals_in before) s.portals h.portals below;
        catalog = keeps-more before desk_call.NextPortal s.catalog (λ oid t. refl) (λ which t. refl) h.catalog;
      };
    }

portal-spent : (before : List DeskCall) (s : State) → s.portals ≡ 2 ^ 32 - 1 → Counts before s → Draws before s desk_call.NextPortal reply.Spent
portal-spent before s is h = record {
  tells_so = sym (h.portals ∙ is-spent (2 ^ 32 - 1) s.portals (λ lt. (omega (arith, lt, is))));
  counts = record {
    statements = ap (number_to (2 ^ 32 - 1)) (no-statement before) ∙ h.statements;
    portals = ap (number_to (2 ^ 32 - 1)) (one-portal before) ∙ spent-next (2 ^ 32 - 1) (portals_in before) s.portals h.portals is;
    catalog = keeps-more before desk_call.NextPortal s.catalog (λ oid t. refl) (λ which t. refl) h.catalog;
  };
}

-- what an event tells: one question, or none
data Says (stamp : Stamp) (s : State) (e : Event) : Type 0 where
  One : (q : DeskCall) (r : Reply) → granted (told_by stamp e) ≡ record { stamp = stamp; question = q; reply = r } ∷ [] → ((before : List DeskCall) → Counts before s → Draws before (after s e) q r) → Says stamp s e
  Silent : granted (told_by stamp e) ≡ [] → ((before : List DeskCall) → Counts before s → Counts before (after s e)) → Says stamp s e

catalog-says : (stamp : Stamp) (s : State) (c : CatalogCall) → AllowsCatalog s.failed s.catalog c → Says stamp s (CatalogEvent c)
catalog-says stamp s (catalog.TypeOf oid (Ok found)) a =
    One (desk_call.TypeOf oid) (reply.Type found) refl (λ before h. record { tells_so = ap reply.Type (a.1 ∙ sym (h.catalog.types oid)); counts = counts-behind before s (catalog.TypeOf oid (Ok found)) refl h })
catalog-says stamp s (catalog.SetType oid ty (Ok x)) a =
    One (desk_call.SetType oid ty) (reply.Type (Some ty)) refl (λ before h. record { tells_so = refl; counts = counts-behind before s (catalog.SetType oid ty (Ok x)) refl h })
catalog-says stamp s (catalog.ClearTypes (Ok x)) a =
    One desk_call.ClearTypes reply.Cleared refl (λ before h. record { tells_so = refl; counts = counts-behind before s (catalog.ClearTypes (Ok x)) refl h })
catalog-says stamp s (catalog.LookupOf which (Ok found)) a =
    One (desk_call.LookupOf which) (reply.Statement found) refl (λ before h. record { tells_so = ap reply.Statement (a.1 ∙ sym (h.catalog.lookups which)); counts = counts-behind before s (catalog.LookupOf which (Ok found)) refl h })
catalog-says stamp s (catalog.SetLookup which statement (Ok x)) a =
    One (desk_call.SetLookup which statement) (reply.Statement (Some statement)) refl (λ before h. record { tells_so = refl; counts = counts-behind before s (catalog.SetLookup which statement (Ok x)) refl h })
catalog-says stamp s c a = Silent refl (λ before h. record { statements = h.statements; portals = h.portals; catalog = h.catalog })

says : (stamp : Stamp) (s : State) (e : Event) → Allows s e → Says stamp s e
says stamp s (NextStatement (Ok n)) a = One desk_call.NextStatement (reply.Number n) refl (λ before h. statement-drawn before s n a.1 a.2 h)
says stamp s (NextStatement (Err fault.Closed)) a = Silent refl (λ before h. record { statements = h.statements; portals = h.portals; catalog = h.catalog })
says stamp s (NextStatement (Err fault.Encode)) a = One desk_call.NextStatement reply.Spent refl (λ before h. statement-spent before s a.1 h)
says stamp s (NextStatement (Err fault.OutOfMemory)) a = Silent refl (λ before h. record { statements = h.statements; portals = h.portals; catalog = h.catalog })
says stamp s (NextPortal (Ok n)) a = One desk_call.NextPortal (reply.Number n) refl (λ before h. portal-drawn before s n a.1 a.2 h)
says stamp s (NextPortal (Err fault.Closed)) a = Silent refl (λ before h. record { statements = h.statements; portals = h.portals; catalog = h.catalog })
says stamp s (NextPortal (Err fault.Encode)) a = One desk_call.NextPortal reply.Spent refl (λ before h. portal-spent before s a.1 h)
says stamp s (NextPortal (Err fault.OutOfMemory)) a = Silent refl (λ before h. record { statements = h.statements; portals = h.portals; catalog = h.catalog })
says stamp s (CatalogEvent c) a = catalog-says stamp s c a
says stamp s e a = Silent refl (λ before h. counts-other before s (change_of e) (of-requests e (λ x. x)) h)

catalog-left-out : (stamp : Stamp) (c : CatalogCall) → leaves_catalog c ≡ false → granted (told_as stamp (question_of c) (reply_of c)) ≡ []
catalog-left-out stamp (catalog.TypeOf oid (Ok found)) h = absurd cc
catalog-left-out stamp (catalog.SetType oid ty (Ok x)) h = absurd cc
catalog-left-out stamp (catalog.ClearTypes (Ok x)) h = absurd cc
catalog-left-out stamp (catalog.LookupOf which (Ok found)) h = absurd cc
catalog-left-out stamp (catalog.SetLookup which statement (Ok x)) h = absurd cc
catalog-left-out stamp c h = refl

left-out-tells : (stamp : Stamp) (e : Event) → leaves_event e ≡ false → granted (told_by stamp e) ≡ []
left-out-tells stamp (NextStatement (Ok n)) h = absurd cc
left-out-tells stamp (NextStatement (Err fault.Closed)) h = refl
left-out-tells stamp (NextStatement (Err fault.Encode)) h = absurd cc
left-out-tells stamp (NextStatement (Err fault.OutOfMemory)) h = refl
left-out-tells stamp (NextPortal (Ok n)) h = absurd cc
left-out-tells stamp (NextPortal (Err fault.Closed)) h = refl
left-out-tells stamp (NextPortal (Err fault.Encode)) h = absurd cc
left-out-tells stamp (NextPortal (Err fault.OutOfMemory)) h = refl
left-out-tells stamp (CatalogEvent c) h = catalog-left-out stamp c h
left-out-tells stamp e h = refl

module _ (who : Who) (turn : ℕ) (stamp : Stamp) (same : stamp ≡ stamp_of who turn) where
  told-on : (ds : List Deed) (before : List DeskCall) (s : State) → AllUnder stamp ds → IsLegal s (kept (events_of ds)) → Counts before s →
      AreToldIn tells who turn before (asked_in ds) × Counts (before ++ map (λ a. a.question) (asked_in ds)) (state_behind s ds)
  told-on [] before s under legal h = (tt, subst (λ (qs : List DeskCall). Counts qs s) (sym (append-nil before)) h)
  told-on (a ∷ ds) before s under legal h = by (leaves_event a.event) refl legal (λ t before' legal' h'. told-on ds before' t under.1 legal' h')
    where
      quiet : (final : State) → granted (told_by a.stamp a.event) ≡ [] → AreToldIn tells who turn before (asked_in ds) × Counts (before ++ map (λ a. a.question) (asked_in ds)) final →
          AreToldIn tells who turn before (asked_in (a ∷ ds)) × Counts (before ++ map (λ a. a.question) (asked_in (a ∷ ds))) final
      quiet final none r = subst (λ (qs : List (Asked DeskCall Reply)). AreToldIn tells who turn before qs × Counts (before ++ map (λ a. a.question) qs) final)
          (sym (granted-append (told_by a.stamp a.event) (answers_in ds) ∙ ap (λ (l : List (Asked DeskCall Reply)). l ++ asked_in ds) none)) r

      one : (final : State) → Says a.stamp s a.event → ((before' : List DeskCall) → Counts before' (after s a.event) → AreToldIn tells who turn before' (asked_in ds) × Counts (before' ++ map (λ a. a.question) (asked_in ds)) final) →
          AreToldIn tells who turn before (asked_in (a ∷ ds)) × Counts (before ++ map (λ a. a.question) (asked_in (a ∷ ds))) final
      one final (Silent none still) r = quiet final none (r before (still before h))
      one final (One q reply is draws) r =
          let d = draws before h in
          let x : Asked DeskCall Reply = record { stamp = a.stamp; question = q; reply = reply } in
          let k = r (before ++ q ∷ []) d.counts in
          subst (λ (qs : List (Asked DeskCall Reply)). AreToldIn tells who turn before qs × Counts (before ++ map (λ a. a.question) qs) final)
          (sym (granted-append (told_by a.stamp a.event) (answers_in ds) ∙ ap (λ (l : List (Asked DeskCall Reply)). l ++ asked_in ds) is))
          ((under.0 ∙ same, d.tells_so, k.0), subst (λ (qs : List DeskCall). Counts qs final) (append_assoc before (q ∷ []) (map (λ a. a.question) (asked_in ds))) k.1)

      by : (b : Bool) → leaves_event a.event ≡ b → IsLegal s (if b then a.event ∷ kept (events_of ds) else kept (events_of ds)) →
          ((t : State) (before' : List DeskCall) → IsLegal t (kept (events_of ds)) → Counts before' t → AreToldIn tells who turn before' (asked_in ds) × Counts (before' ++ map (λ a. a.question) (asked_in ds)) (state_behind t ds)) →
          AreToldIn tells who turn before (asked_in (a ∷ ds))
          × Counts (before ++ map (λ a. a.question) (asked_in (a ∷ ds))) (after_all s (if b then a.event ∷ kept (events_of ds) else kept (events_of ds)))
      by true e (allows, legal) ih = one (after_all (after s a.event) (kept (events_of ds))) (says a.stamp s a.event allows) (λ before' h'. ih (after s a.event) before' legal h')
      by false e legal ih = quiet (after_all s (kept (events_of ds))) (left-out-tells a.stamp a.event e) (ih s before legal h)

pub told-so : (who : Who) (turn : ℕ) (stamp : Stamp) → stamp ≡ stamp_of who turn → (ds : List Deed) (before : List DeskCall) (s : State) → AllUnder stamp ds → IsLegal s (kept (events_of ds)) → Counts before s →
    ToldSo who turn before s ds
told-so who turn stamp same ds before s under legal h = let r = told-on who turn stamp same ds before s under legal h in record { told = r.0; counts = r.1 }

-- and in a state that has the same numbers and keeps the same
pub counts-same : (before : List DeskCall) (s t : State) → t.statements ≡ s.statements → t.portals ≡ s.portals → t.catalog ≡ s.catalog → Counts before s → Counts before t
counts-same before s t a b c h = record {
  statements = h.statements ∙ ap (number_to (2 ^ 32 - 1)) (sym a);
  portals = h.portals ∙ ap (number_to (2 ^ 32 - 1)) (sym b);
  catalog = subst (Keeps before) (sym c) h.catalog;
}

pub counts-start : Counts [] (start 0 0)
counts-start = record { statements = refl; portals = refl; catalog = record { types = λ oid. refl; lookups = none } }
  where
    none : (which : Lookup) → last_statement [] which None ≡ statement_kept nothing_kept which
    none Info = refl
    none Enum = refl
    none Composite = refl
