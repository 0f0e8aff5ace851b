-- The polls of handles, in the words of the core.
use Rattle.std.proofs.Common.{◌≡◌, ◌⊎◌, inl, inr, ℕ, List, [], ◌∷◌, map, Result, Err, refl, ap, ◌∙◌}
use Rattle.pg_spec.specs.declared.stamps.Stamp.{Stamp}
use Rattle.pg_desk.specs.declared.event.Event.{Event}
use Rattle.pg_types.specs.declared.error.Error.{Error}
use Rattle.pg_types.specs.declared.error.Error.TheVariants.{OutOfMemory}
use Rattle.pg_query.specs.Dialogue.{Dialogue, Answer, Walks}
use Rattle.pg_query.specs.Meaning.{ForMessage, ForRoom, Place, Goes, GoesToAnswer, Pauses, WaitsAt}
use Rattle.pg_query.specs.Lives.{Deed, Leads}
use Rattle.pg_core.specs.Lists.{events_of}
use Rattle.pg_core.specs.Trails.{AllUnder, PollEnds, Gave}
use Rattle.pg_core.specs.Trails as trails

-- the events of a poll, under its stamp
abbrev pub under_stamp : Stamp → List Event → List Deed
under_stamp stamp es = map (λ e. record { stamp = stamp; event = e }) es

-- A poll, in the words of the core.
pub record IsPoll {T : Type 0} (stamp : Stamp) (p : Place T) (es : List Event) (q : Place T) : Type 0 where
  pub leads : Leads p.dialogue p.reads (under_stamp stamp es) q.dialogue q.reads
  pub under : AllUnder stamp (under_stamp stamp es)
  pub events : events_of (under_stamp stamp es) ≡ es

walk-leads : {T : Type 0} (stamp : Stamp) (d : Dialogue T) (id : ℕ) (es : List Event) (q : Dialogue T) (end : ℕ) → Walks stamp d id es q end → Leads d id (under_stamp stamp es) q end
walk-leads stamp d id [] q end w = w
walk-leads stamp d id (e ∷ es) q end (mid, n, s, w) = (mid, n, s, walk-leads stamp mid n es q end w)

all-under : (stamp : Stamp) (es : List Event) → AllUnder stamp (under_stamp stamp es)
all-under stamp [] = tt
all-under stamp (e ∷ es) = (refl, all-under stamp es)

their-events : (stamp : Stamp) (es : List Event) → events_of (under_stamp stamp es) ≡ es
their-events stamp [] = refl
their-events stamp (e ∷ es) = ap (λ (l : List Event). e ∷ l) (their-events stamp es)

pub poll-is : {D T : Type 0} (becomes : D → List Event → D → Type 0) (stamp : Stamp) (a : D) (p : Place T) (b : D) (q : Place T) (goes : Goes becomes stamp a p b q) → IsPoll stamp p goes.events q
poll-is becomes stamp a p b q goes = record {
  leads = walk-leads stamp p.dialogue p.reads goes.events q.dialogue q.reads goes.walked;
  under = all-under stamp goes.events;
  events = their-events stamp goes.events;
}

pub pause-ends : {D T : Type 0} (becomes : D → List Event → D → Type 0) (stamp : Stamp) (a : D) (p : Place T) (b : D) (q : Place T) (h : Pauses becomes stamp a p b q) → PollEnds (under_stamp stamp h.goes.events) q
pause-ends {D} {T} becomes stamp a p b q h = by h.waits
  where
    by : WaitsAt q h.goes.events → PollEnds (under_stamp stamp h.goes.events) q
    by (ForMessage reads none) = trails.Pauses reads (record { before = none.before; last = their-events stamp h.goes.events ∙ none.are })
    by (ForRoom puts part full) = trails.HoldsBack puts (record { before = full.before; part = part; last = their-events stamp h.goes.events ∙ full.are })

pub answer-ends : {D T : Type 0} (becomes : D → List Event → D → Type 0) (stamp : Stamp) (a : D) (p : Place T) (b : D) (r : Result T Error) (h : GoesToAnswer becomes stamp a p b r) →
    PollEnds (under_stamp stamp h.goes.events) h.last ⊎ (r ≡ Err OutOfMemory)
answer-ends becomes stamp a p b r h = by h.answers
  where
    by : (h.last.dialogue ≡ Answer r) ⊎ (r ≡ Err OutOfMemory) → PollEnds (under_stamp stamp h.goes.events) h.last ⊎ (r ≡ Err OutOfMemory)
    by (inl e) = inl (Gave r e)
    by (inr e) = inr e
