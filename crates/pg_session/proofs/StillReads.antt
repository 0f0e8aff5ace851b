-- Where a command waits in the equations, it waits at its place too.
use Rattle.std.proofs.Common.{◌≡◌, inl, inr, ℕ, ◌≤◌, List, [], ◌∷◌, ◌++◌, length, drop, Bool, Option, Some, None, Result, refl, sym, ap, subst, ◌∙◌}
use Rattle.std.proofs.lemmas.List.{drop-append-le}
use Rattle.pg_spec.specs.RawMessages.{RawMessage}
use Rattle.pg_desk.specs.History.{IsFrontOf}
use Rattle.pg_types.specs.declared.error.Error.{Error}
use Rattle.pg_query.specs.Dialogue.{Dialogue, Answer, Ask, Send, Leave, Read, Put, Finish, Close, HangUp, Call, Hear, feed}
use Rattle.pg_query.specs.Scripts.{IsRead, IsPut}
use Rattle.pg_query.specs.declared.desk_call.Cleanup.{Cleanup}
use Rattle.pg_spec.specs.Dialogues.{decided_after}
use Rattle.pg_desk.specs.History.{State}
use Rattle.pg_query.specs.Meaning.{Place}
use Rattle.pg_query.specs.declared.desk_call.DeskCall.{DeskCall}
use Rattle.pg_query.specs.declared.desk_call.Reply.{Reply}
use Rattle.pg_spec.specs.Courses.{Asked, Request}
use Rattle.pg_core.specs.Lists.{IsReached, came_of, got_of}
use Rattle.pg_core.specs.Deeds.{Addition}
use Rattle.pg_core.specs.Runs.{MayWait, of_request, run}
use Rattle.pg_core.specs.Trails.{IsRunning, Moment, ran_by}
use Rattle.pg_core.proofs.Fed.{fed, feed-put, read_so, still-decides}
use Rattle.pg_core.proofs.Steps.{taken-within}
use Rattle.pg_core.proofs.Timely.{IsUndecided, undecided}

-- these messages don't decide where it reads
abbrev IsUndecidedBy : {T : Type 0} → Dialogue T → List RawMessage → Type 0
IsUndecidedBy (Read cleanup decides next) ms = decided_after decides ms ≡ None
IsUndecidedBy d ms = Unit {0}

read-still : {T : Type 0} (cleanup : List Cleanup) (decides : List RawMessage → Bool) (next : List RawMessage → Dialogue T) (got came : List RawMessage) (n : ℕ) → n ≤ length got →
    IsFrontOf got came → decided_after decides (drop n came) ≡ None → (o : Option ℕ) → decided_after decides (drop n got) ≡ o → IsRead (read_so cleanup decides next (drop n got) o)
read-still cleanup decides next got came n le front none None e = tt
read-still cleanup decides next got came n le (rest, all) none (Some k) e =
    let still = (still-decides decides (drop n got) rest k e).still in
    let same : decided_after decides (drop n got ++ rest) ≡ None = ap (decided_after decides) (sym (drop-append-le n got rest le) ∙ ap (drop n) all) ∙ none in
    let no_way : Some k ≡ None = sym still ∙ same in
    absurd cc

reads-fed : {T : Type 0} (d : Dialogue T) (got came : List RawMessage) (n : ℕ) → n ≤ length got → IsFrontOf got came → IsRead d → IsUndecidedBy d (drop n came) → IsRead (feed (drop n got) d)
reads-fed (Read cleanup decides next) got came n le front reads none =
    subst IsRead (sym (fed cleanup decides next (drop n got))) (read-still cleanup decides next got came n le front none (decided_after decides (drop n got)) refl)
reads-fed (Answer r) got came n le front reads none = absurd reads
reads-fed (Ask copying part d) got came n le front reads none = absurd reads
reads-fed (Send part refused d) got came n le front reads none = absurd reads
reads-fed (Leave id d) got came n le front reads none = absurd reads
reads-fed (Put cleanup part d) got came n le front reads none = absurd reads
reads-fed (Finish part d) got came n le front reads none = absurd reads
reads-fed (Close part d) got came n le front reads none = absurd reads
reads-fed (HangUp d) got came n le front reads none = absurd reads
reads-fed (Call q refused next) got came n le front reads none = absurd reads
reads-fed (Hear next) got came n le front reads none = absurd reads

undecided-by : {T : Type 0} (came : ℕ → List RawMessage) (at : Option ℕ) (n : ℕ) (d : Dialogue T) → IsUndecided came at n d → IsUndecidedBy d (drop n (of_request came at))
undecided-by came at n (Read cleanup decides next) h = h
undecided-by came at n (Answer r) h = tt
undecided-by came at n (Ask copying part d) h = tt
undecided-by came at n (Send part refused d) h = tt
undecided-by came at n (Leave id d) h = tt
undecided-by came at n (Put cleanup part d) h = tt
undecided-by came at n (Finish part d) h = tt
undecided-by came at n (Close part d) h = tt
undecided-by came at n (HangUp d) h = tt
undecided-by came at n (Call q refused next) h = tt
undecided-by came at n (Hear next) h = tt

waits-fed : {T : Type 0} (d : Dialogue T) (got came : List RawMessage) (n : ℕ) → n ≤ length got → IsFrontOf got came → MayWait d → IsUndecidedBy d (drop n came) → MayWait (feed (drop n got) d)
waits-fed d got came n le front (inl reads) none = inl (reads-fed d got came n le front reads none)
waits-fed {T} (Put cleanup part d) got came n le front (inr puts) none = inr (subst (λ (x : Dialogue T). IsPut x) (sym (feed-put (drop n got) cleanup part d)) tt)
waits-fed (Read cleanup decides next) got came n le front (inr puts) none = absurd puts
waits-fed (Answer r) got came n le front (inr puts) none = absurd puts
waits-fed (Ask copying part d) got came n le front (inr puts) none = absurd puts
waits-fed (Send part refused d) got came n le front (inr puts) none = absurd puts
waits-fed (Leave id d) got came n le front (inr puts) none = absurd puts
waits-fed (Finish part d) got came n le front (inr puts) none = absurd puts
waits-fed (Close part d) got came n le front (inr puts) none = absurd puts
waits-fed (HangUp d) got came n le front (inr puts) none = absurd puts
waits-fed (Call q refused next) got came n le front (inr puts) none = absurd puts
waits-fed (Hear next) got came n le front (inr puts) none = absurd puts

-- behind a turn of its own, in the state that this led to
pub still-waits : {T : Type 0} (d : Dialogue T) (place : ℕ) (trail : List Moment) (t : State) (bs : List (Result Request Error)) (qs : List (Result (Asked DeskCall Reply) Error)) (ps : List (Result Addition Error)) (q : Place T) →
    IsReached t → IsRunning d (record { place = place; came = came_of t; bookings = bs; answers = qs; additions = ps } ∷ trail) (got_of t) q →
    MayWait (ran_by d (record { place = place; came = came_of t; bookings = bs; answers = qs; additions = ps } ∷ trail)).left → MayWait q.dialogue
still-waits {T} d place trail t bs qs ps q reached runs waits =
    let s = ran_by d trail in
    let r = run (came_of t) s.at s.read s.left bs qs ps in
    subst (λ (x : Dialogue T). MayWait x) (sym runs.place)
    (waits-fed r.left (of_request (got_of t) r.at) (of_request (came_of t) r.at) r.read runs.within (taken-within t [] r.at reached) waits
    (undecided-by (came_of t) r.at r.read r.left (undecided (came_of t) s.at s.read s.left bs qs ps)))
