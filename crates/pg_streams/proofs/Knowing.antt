-- Where the asking for types leads, with the messages that came and aren't read yet.
use Rattle.std.proofs.Common.{◌≡◌, ℕ, List, [], ◌∷◌, ◌++◌, Option, Some, None, Ok, Err, refl, sym, ◌∙◌, ap, subst}
use Rattle.pg_spec.specs.RawMessages.{RawMessage}
use Rattle.pg_spec.specs.declared.stamps.Stamp.{Stamp}
use Rattle.pg_desk.specs.declared.event.CatalogCall.TheVariants as catalog
use Rattle.pg_desk.specs.declared.event.DeskFault.{DeskFault}
use Rattle.pg_desk.specs.declared.event.Event.{Event}
use Rattle.pg_desk.specs.declared.event.Event.TheVariants as call
use Rattle.pg_types.specs.BuiltIns.{built_in_type}
use Rattle.pg_types.specs.declared.pg_type.PgType.{PgType}
use Rattle.pg_types.specs.declared.error.Error.{Error}
use Rattle.pg_types.specs.declared.error.Error.TheVariants.{OutOfMemory}
use Rattle.pg_query.specs.Dialogue.{Dialogue, Answer, HangUp, feed, Walks}
use Rattle.pg_query.specs.Faults.{of_fault}
use Rattle.pg_query.specs.Meaning.{GoesToAnswer, Place}
use Rattle.pg_query.specs.declared.desk_call.DeskCall.TheVariants as desk_call
use Rattle.pg_query.specs.declared.desk_call.Reply.TheVariants as reply
use Rattle.pg_query.proofs.Walking.{answer-joined, called}
use Rattle.pg_core.proofs.Fed.{feed-hang-up}
use Rattle.pg_execute.specs.Typed.{all_known, known_or, or_else, type_told}
use Rattle.pg_streams.specs.Families.{Family, GoesFor}
use Rattle.pg_streams.specs.Handing.{alone}
use Rattle.pg_streams.specs.Hearing.{First}
use Rattle.pg_streams.proofs.Going.{Joins, goes-joined, goes-nowhere}
use Rattle.pg_streams.specs.Known.{KnowsAll, KnowsOne, stands_behind}
use Rattle.pg_streams.proofs.Takes.{plan-answers, plan-lacks}

module _ {D T : Type 0} (becomes : D → List Event → D → Type 0) (stays : (a : D) → becomes a [] a) (joins : Joins becomes) (stamp : Stamp) (ms : List RawMessage) (id : ℕ) (first : List RawMessage → First (Unit {0}) (Unit {0})) where
  -- one stands there, and what is told first stays
  abbrev pub there-at : Dialogue T → Family (Unit {0}) T (Unit {0}) (Unit {0})
  there-at d = alone (stands_behind ms d id) first

  -- ---- one type

  -- it is built in, so nothing is asked
  pub built-in : (a : D) (next : Option PgType → Dialogue T) (oid : ℕ) (ty : PgType) → built_in_type oid ≡ Some ty → KnowsOne becomes stamp a ms id first next oid a (Ok (Some ty))
  built-in a next oid ty is = goes-nowhere becomes stays stamp a (there-at (known_or oid (built_in_type oid) next)) (there-at (next (Some ty))) (ap (λ (o : Option PgType). there-at (known_or oid o next)) (sym is))

  -- the desk was asked for it
  pub kept : (a b : D) (next : Option PgType → Dialogue T) (oid : ℕ) (found : Option PgType) → built_in_type oid ≡ None → becomes a (call.Catalog (catalog.TypeOf oid (Ok found)) ∷ []) b → KnowsOne becomes stamp a ms id first next oid b (Ok found)
  kept a b next oid found is ev =
      subst (λ (o : Option PgType). GoesFor becomes stamp a (there-at (known_or oid o next)) b (there-at (next found))) (sym is) (record {
        events = call.Catalog (catalog.TypeOf oid (Ok found)) ∷ [];
        became = ev;
        walked = λ u. called stamp ms id (desk_call.TypeOf oid) (λ e. HangUp (Answer (Err e))) (type_told next) (call.Catalog (catalog.TypeOf oid (Ok found))) (Ok (reply.Type found)) (refl, refl);
        brought = refl;
      })

  -- it refused, and the request was hung up
  pub refused : (a b c : D) (next : Option PgType → Dialogue T) (oid : ℕ) (fault : DeskFault) (e given : Error) → built_in_type oid ≡ None → becomes a (call.Catalog (catalog.TypeOf oid (Err fault)) ∷ []) b → e ≡ of_fault fault →
      GoesToAnswer {T = T} becomes stamp b (record { dialogue = HangUp (Answer (Err e)); reads = id }) c (Err given) → KnowsOne becomes stamp a ms id first next oid c (Err given)
  refused a b c next oid fault e given is ev same hung =
      let mid : Place T = record { dialogue = HangUp (Answer (Err e)); reads = id } in
      let there : feed ms (let d : Dialogue T = HangUp (Answer (Err (of_fault fault))) in d) ≡ HangUp (Answer (Err e)) =
      feed-hang-up ms (Answer (Err (of_fault fault))) ∙ ap (λ (x : Error). let d : Dialogue T = HangUp (Answer (Err x)) in d) (sym same) in
      let start : Place T = stands_behind ms (known_or oid None next) id in
      let walked : Walks stamp start.dialogue id (call.Catalog (catalog.TypeOf oid (Err fault)) ∷ []) (feed ms (HangUp (Answer (Err (of_fault fault))))) id =
      called stamp ms id (desk_call.TypeOf oid) (λ x. HangUp (Answer (Err x))) (type_told next) (call.Catalog (catalog.TypeOf oid (Err fault))) (Err fault) (refl, refl) in
      subst (λ (o : Option PgType). GoesToAnswer becomes stamp a (stands_behind ms (known_or oid o next) id) c (Err given)) (sym is)
      (answer-joined becomes joins stamp a start b mid c (Err given) (record {
        events = call.Catalog (catalog.TypeOf oid (Err fault)) ∷ [];
        became = ev;
        walked = subst (λ (d : Dialogue T). Walks stamp start.dialogue id (call.Catalog (catalog.TypeOf oid (Err fault)) ∷ []) d id) there walked;
      }) hung)

  -- want of memory
  pub one-lacks : (a : D) (next : Option PgType → Dialogue T) (oid : ℕ) → KnowsOne becomes stamp a ms id first next oid a (Err OutOfMemory)
  one-lacks a next oid =
      let here = there-at (known_or oid (built_in_type oid) next) in
      plan-lacks (goes-nowhere becomes stays stamp a here here refl) tt OutOfMemory refl

  -- ---- several

  module _ (later : Dialogue T) (next : List PgType → Dialogue T) where
    -- what is asked for these oids behind those types
    abbrev pub left : (oids : List ℕ) → (found : List PgType) → Family (Unit {0}) T (Unit {0}) (Unit {0})
    left oids found = there-at (all_known later next oids found)

    -- what comes behind the type of the first of them
    abbrev pub behind-one : (oids : List ℕ) → (found : List PgType) → Option PgType → Dialogue T
    behind-one oids found = or_else later (λ ty. all_known later next oids (found ++ ty ∷ []))

    module _ (a b c : D) (all oids rest : List ℕ) (found : List PgType) (oid : ℕ) (front : oids ≡ oid ∷ rest) (so : GoesFor becomes stamp a (left all []) b (left oids found)) where
      abbrev here : Family (Unit {0}) T (Unit {0}) (Unit {0})
      here = there-at (known_or oid (built_in_type oid) (behind-one rest found))

      there : GoesFor becomes stamp a (left all []) b here
      there = subst (λ (l : List ℕ). GoesFor becomes stamp a (left all []) b (left l found)) front so

      -- it is known, and the others are asked for
      pub one-more : (r : Option PgType) (ty : PgType) → r ≡ Some ty → KnowsOne becomes stamp b ms id first (behind-one rest found) oid c (Ok r) → GoesFor becomes stamp a (left all []) c (left rest (found ++ ty ∷ []))
      one-more r ty is h = goes-joined joins there c (left rest (found ++ ty ∷ [])) (subst (λ (o : Option PgType). GoesFor becomes stamp b here c (there-at (behind-one rest found o))) is h)

      -- it isn't
      pub one-unknown : (r : Option PgType) → r ≡ None → KnowsOne becomes stamp b ms id first (behind-one rest found) oid c (Ok r) → KnowsAll becomes stamp a ms id first later next all c (Ok None)
      one-unknown r is h = goes-joined joins there c (there-at later) (subst (λ (o : Option PgType). GoesFor becomes stamp b here c (there-at (behind-one rest found o))) is h)

      -- or an error came
      pub one-fails : (e : Error) → KnowsOne becomes stamp b ms id first (behind-one rest found) oid c (Err e) → KnowsAll becomes stamp a ms id first later next all c (Err e)
      one-fails e h = plan-answers there tt joins c (Err e) h

    -- none is left
    pub all-found : (a b : D) (all oids : List ℕ) (found : List PgType) → oids ≡ [] → GoesFor becomes stamp a (left all []) b (left oids found) → KnowsAll becomes stamp a ms id first later next all b (Ok (Some found))
    all-found a b all oids found none so = subst (λ (l : List ℕ). GoesFor becomes stamp a (left all []) b (left l found)) none so

    -- want of memory
    pub all-lack : (a b : D) (all oids : List ℕ) (found : List PgType) (e : Error) → e ≡ OutOfMemory → GoesFor becomes stamp a (left all []) b (left oids found) → KnowsAll becomes stamp a ms id first later next all b (Err e)
    all-lack a b all oids found e is so = plan-lacks so tt e is

    -- nothing was done yet
    pub none-asked : (a : D) (all : List ℕ) → GoesFor becomes stamp a (left all []) a (left all [])
    none-asked a all = goes-nowhere becomes stays stamp a (left all []) (left all []) refl
