-- The loop over the parts: an offer, and then an answer of the hub.
use Rattle.std.proofs.Common.{◌≡◌, Bool, true, false, ◌||◌, sym, List, [], ◌∷◌, ◌++◌, None, refl, ap, subst, Result, Ok}
use Rattle.std.proofs.lemmas.List.{append-nil}
use Rattle.pg_spec.specs.Links.{LinkView}
use Rattle.pg_desk.specs.declared.event.DeskFault.{DeskFault}
use Rattle.pg_desk.specs.declared.event.Out.{Out}
use Rattle.pg_desk.specs.declared.event.Out.TheVariants as out
use Rattle.pg_desk.specs.declared.event.Event.{Event}
use Rattle.pg_desk.specs.declared.event.Event.TheVariants.{NextOut}
use Rattle.pg_connect.specs.declared.streams.Streams.{Streams}
use Rattle.pg_connect.specs.Passed.{bytes_out_in, moves_in, parts_out_in}
use Rattle.pg_connect.specs.Passes.{Passes, Goes}
use Rattle.pg_connect.proofs.Joining.{passes-joined, goes-then, keeps_same, untouched_same}
use Rattle.pg_connect.proofs.Sends.{passes_part, passes_nothing}

-- nothing is said of the events
abbrev pub Anything : List Event → Type 0
Anything events = Unit {0}

-- lists of events are joined
abbrev pub Joins : {H : Type 0} → (H → List Event → H → Type 0) → Type 0
Joins {H} becomes = (a b c : H) (es fs : List Event) → becomes a es b → becomes b fs c → becomes a (es ++ fs) c

-- the hub had no part
pub answered : {H : Type 0} (becomes : H → List Event → H → Type 0) → Joins becomes →
    (h i k : H) (a b c : Streams) (l m n : LinkView) (given answer : Result Out DeskFault) (F : List Event → Type 0) →
    Goes becomes h i a b l m [] Anything → Passes b c m n [] [] → c.unread ≡ None → becomes i (NextOut given ∷ []) k → given ≡ answer →
    bytes_out_in (NextOut answer) ≡ [] → parts_out_in (NextOut answer) ≡ [] → moves_in (NextOut answer) ≡ false →
    ((es : List Event) → F (es ++ NextOut answer ∷ [])) → Goes becomes h k a c l n [] F
answered becomes joins h i k a b c l m n given answer F so_far offered read event is none no_part still ends =
    goes-then becomes joins h i k a b c l m n [] [] (NextOut answer ∷ []) Anything F so_far (tt, tt)
    (subst (λ (r : Result Out DeskFault). becomes i (NextOut r ∷ []) k) is event)
    (passes-joined b c c m n n [] (NextOut answer ∷ []) [] [] offered
    (passes_nothing c n n (NextOut answer ∷ []) read (untouched_same n) (keeps_same n) refl (ap (λ x. x ++ []) none) (ap (λ x. x ++ []) no_part) (ap (λ (b : Bool). b || false) still)))
    (λ es was. ends es)

-- a part came out
pub came_out : {H : Type 0} (becomes : H → List Event → H → Type 0) → Joins becomes →
    (h i k : H) (a b c d : Streams) (l m n : LinkView) (given : Result Out DeskFault) (part : List _) →
    Goes becomes h i a b l m [] Anything → Passes b c m n [] [] → c.unread ≡ None → becomes i (NextOut given ∷ []) k → given ≡ Ok (out.Part part) →
    c.unsent ≡ [] → c.closing ≡ false → d ≡ record c { unsent = part; moved = true } → Goes becomes h k a d l n [] Anything
came_out becomes joins h i k a b c d l m n given part so_far offered read event is sent active queued =
    let e : Event = NextOut (Ok (out.Part part)) in
    goes-then becomes joins h i k a b d l m n [] [] (e ∷ []) Anything Anything so_far (tt, tt)
    (subst (λ (r : Result Out DeskFault). becomes i (NextOut r ∷ []) k) is event)
    (passes-joined b c d m n n [] (e ∷ []) [] [] offered
    (subst (λ (x : Streams). Passes c x n n (e ∷ []) []) (sym queued) (passes_part c n part (e ∷ []) read sent active refl (append-nil part) refl refl)))
    (λ es was. tt)
