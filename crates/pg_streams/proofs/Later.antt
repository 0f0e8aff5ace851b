-- What was found out, and what is handed on behind that.
use Rattle.std.proofs.Common.{◌≡◌, ℕ, List, Option, Some, IfOk, Result, Ok, Err, inl, inr, subst, sym}
use Rattle.futures.specs.declared.task.Poll.{Poll}
use Rattle.futures.specs.declared.task.Poll.TheVariants.{Ready, Pending}
use Rattle.pg_spec.specs.declared.stamps.Stamp.{Stamp}
use Rattle.pg_desk.specs.declared.event.Event.{Event}
use Rattle.pg_types.specs.declared.error.Error.{Error}
use Rattle.pg_query.specs.Meaning.{Goes, GoesToAnswer, MatchPoll, Place}
use Rattle.pg_streams.specs.Families.{Family, PausesFor}
use Rattle.pg_streams.specs.Handing.{HandsOn, HandsOnLater, IsFound, PausesLater, before_found, never_whole}

-- others came behind it by these events
found-before : {D K : Type 0} (becomes : D → List Event → D → Type 0) (stamp : Stamp) (a : D) (finding : Place K) (k : K) (mid : D) → GoesToAnswer becomes stamp a finding mid (Ok k) → (b : D) (es : List Event) → becomes mid es b → IsFound becomes stamp a finding b k
found-before becomes stamp a finding k mid found b es ev = record { mid = mid; found = found; events = es; became = ev }

pub handed-later : {D S K W G I : Type 0} (becomes : D → List Event → D → Type 0) (stands : S → Family (Unit {0}) W G I) (is_open : S → Type 0) (known : S → K) (stamp : Stamp) (a : D) (finding : Place K) (p : Place W) (asked : K → ℕ → Family (Unit {0}) W G I)
    (k : K) (mid : D) (n : ℕ) → GoesToAnswer becomes stamp a finding mid (Ok k) → Goes becomes stamp a p mid ((asked k n).place tt) → (b : D) (new_finding : Place K) (new : Place W) (asks : K → ℕ → Family (Unit {0}) W G I) (knows : Option K) (Live : Type 0) (r : Poll (Result S Error)) →
    MatchPoll r (λ x. HandsOn becomes stands is_open stamp mid (asked k n) b x) (PausesFor becomes stamp mid (asked k n) b (before_found new asks k) × Live) →
    MatchPoll r (λ x. IfOk x (λ stream. known stream ≡ k)) (knows ≡ Some k) →
    MatchPoll r (λ x. HandsOnLater becomes stands is_open known never_whole stamp a finding p asked b x) (PausesLater becomes stamp a finding p asked never_whole b new_finding new asks knows × Live)
handed-later {K = K} becomes stands is_open known stamp a finding p asked k mid n found leads b new_finding new asks knows Live (Ready (Ok stream)) h is = (
  inl (record { known = k; apart = λ no. no; mid = mid; reads = n; finds = leads; behind = (h, is) }),
  subst (λ (x : K). IsFound becomes stamp a finding b x) (sym is) (found-before becomes stamp a finding k mid found b h.0.events h.0.became),
)
handed-later becomes stands is_open known stamp a finding p asked k mid n found leads b new_finding new asks knows Live (Ready (Err e)) h is =
    inr (record { known = k; apart = λ no. no; mid = mid; reads = n; finds = leads; behind = (h, found-before becomes stamp a finding k mid found b h.goes.events h.goes.became) })
handed-later becomes stands is_open known stamp a finding p asked k mid n found leads b new_finding new asks knows Live Pending h is = (
  inr (record { known = k; apart = λ no. no; mid = mid; reads = n; finds = leads; behind = (is, h.0, found-before becomes stamp a finding k mid found b h.0.goes.events h.0.goes.became) }),
  h.1,
)
