-- Where no request is read yet no part is added.
use Rattle.std.proofs.Common.{◌≡◌, ℕ, ◌+◌, List, [], ◌∷◌, take, drop, Option, Some, None, Result, Ok, Err, refl}
use Rattle.pg_spec.specs.RawMessages.{RawMessage}
use Rattle.pg_types.specs.declared.error.Error.{Error}
use Rattle.pg_query.specs.Dialogue.{Dialogue, Answer, Ask, Send, Leave, Read, Put, Finish, Close, HangUp, Call, Hear}
use Rattle.pg_query.specs.declared.desk_call.DeskCall.{DeskCall}
use Rattle.pg_query.specs.declared.desk_call.Reply.{Reply}
use Rattle.pg_spec.specs.Courses.{Asked, Request}
use Rattle.pg_spec.specs.Dialogues.{decided_after}
use Rattle.pg_core.specs.Deeds.{Addition}
use Rattle.pg_core.specs.Runs.{Ran, stays, run}

-- before its first request a stretch adds nothing: it reads none still, and those that come later are what it gives; or it gives none
pub data GivesNone {T : Type 0} (s : Ran T) : Type 0 where
  NoneRead : s.at ≡ None → ((later : List (List ℕ)) → s.parts later ≡ later) → GivesNone s
  Another : ((later : List (List ℕ)) → s.parts later ≡ []) → GivesNone s

pub gives-none : {T : Type 0} (came : ℕ → List RawMessage) (n : ℕ) (d : Dialogue T) (bs : List (Result Request Error)) (qs : List (Result (Asked DeskCall Reply) Error)) (ps : List (Result Addition Error)) → GivesNone (run came None n d bs qs ps)
gives-none came n (Answer r) bs qs ps = NoneRead refl (λ later. refl)
gives-none came n (Ask copying part d) [] qs ps = NoneRead refl (λ later. refl)
gives-none came n (Ask copying part d) (Ok r ∷ bs) qs ps = Another (λ later. refl)
gives-none came n (Ask copying part d) (Err e ∷ bs) qs ps = NoneRead refl (λ later. refl)
gives-none came n (Send part refused d) [] qs ps = NoneRead refl (λ later. refl)
gives-none {T} came n (Send part refused d) (Ok r ∷ bs) qs ps = by (gives-none came n d bs qs ps)
  where
    by : GivesNone (run came None n d bs qs ps) → GivesNone (run came None n (Send part refused d) (Ok r ∷ bs) qs ps)
    by (NoneRead at same) = NoneRead at same
    by (Another none) = Another none
gives-none came n (Send part refused d) (Err e ∷ bs) qs ps = gives-none came n (refused e) bs qs ps
gives-none came n (Leave id d) bs qs ps = gives-none came n d bs qs ps
gives-none {T} came n (Read cleanup decides next) bs qs ps = by (decided_after decides (drop n [])) (λ k. gives-none came (n + k) (next (take k (drop n []))) bs qs ps)
  where
    chosen : Option ℕ → Ran T
    chosen o = elim o [ None ↦ stays None n (Read cleanup decides next) | Some k ↦ run came None (n + k) (next (take k (drop n []))) bs qs ps ]

    by : (o : Option ℕ) → ((k : ℕ) → GivesNone (run came None (n + k) (next (take k (drop n []))) bs qs ps)) → GivesNone (chosen o)
    by None h = NoneRead refl (λ later. refl)
    by (Some k) h = h k
gives-none came n (Put cleanup part d) bs qs ps = NoneRead refl (λ later. refl)
gives-none came n (Finish part d) bs qs ps = NoneRead refl (λ later. refl)
gives-none came n (Close part d) bs qs ps = NoneRead refl (λ later. refl)
gives-none came n (HangUp d) bs qs ps = gives-none came n d bs qs ps
gives-none came n (Call q refused next) bs [] ps = NoneRead refl (λ later. refl)
gives-none {T} came n (Call q refused next) bs (Ok a ∷ qs) ps = by (gives-none came n (next a.reply) bs qs ps)
  where
    by : GivesNone (run came None n (next a.reply) bs qs ps) → GivesNone (run came None n (Call q refused next) bs (Ok a ∷ qs) ps)
    by (NoneRead at same) = NoneRead at same
    by (Another none) = Another none
gives-none came n (Call q refused next) bs (Err e ∷ qs) ps = gives-none came n (refused e) bs qs ps
gives-none came n (Hear next) bs qs ps = NoneRead refl (λ later. refl)

pub none-added : {T : Type 0} (came : ℕ → List RawMessage) (n : ℕ) (d : Dialogue T) (bs : List (Result Request Error)) (qs : List (Result (Asked DeskCall Reply) Error)) (ps : List (Result Addition Error)) → (run came None n d bs qs ps).parts [] ≡ []
none-added {T} came n d bs qs ps = by (gives-none came n d bs qs ps)
  where
    by : GivesNone (run came None n d bs qs ps) → (run came None n d bs qs ps).parts [] ≡ []
    by (NoneRead at same) = same []
    by (Another none) = none []
