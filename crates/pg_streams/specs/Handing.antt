-- A stream that is handed on.
use Rattle.std.specs.Prelude.{◌≡◌, ◌⊎◌, ℕ, List, [], Option, Some, None, Result, Ok, Err}
use Rattle.pg_spec.specs.RawMessages.{RawMessage}
use Rattle.pg_spec.specs.declared.stamps.Stamp.{Stamp}
use Rattle.pg_desk.specs.declared.event.Event.{Event}
use Rattle.pg_types.specs.declared.error.Error.{Error}
use Rattle.pg_types.specs.declared.error.Error.TheVariants.{Closed}
use Rattle.pg_query.specs.Dialogue.{Answer, Dialogue}
use Rattle.pg_query.specs.Meaning.{Goes, GoesToAnswer, Pauses, Place}
use Rattle.pg_streams.specs.Families.{AnswersFor, Family, GoesFor, PausesFor}
use Rattle.pg_streams.specs.Hearing.{First, IsNoItem}

-- one place, whatever the plan is, and what is told first where more messages come
abbrev pub alone : {W G I : Type 0} → Place W → (List RawMessage → First G I) → Family (Unit {0}) W G I
alone place first = record { place = λ plan. place; first = first }

-- The events led to where one stands who has this, which goes on; or to this error, where nothing opens first.
abbrev pub HandsOn : {D S W G I : Type 0} → (D → List Event → D → Type 0) → (stands : S → Family (Unit {0}) W G I) → (is_open : S → Type 0) → Stamp → D → Family (Unit {0}) W G I → D → Result S Error → Type 0
HandsOn becomes stands is_open stamp a p b (Ok stream) = GoesFor becomes stamp a p b (stands stream) × is_open stream
HandsOn becomes stands is_open stamp a p b (Err e) = AnswersFor becomes stamp a p b (λ plan. Err e) (λ first. IsNoItem first.told)

-- ---- where it has to be found out what is asked for

-- where nobody stands who finds out what is known
abbrev pub nothing_to_find : {K : Type 0} → Place K
nothing_to_find = record { dialogue = Answer (Err Closed); reads = 0 }

-- where one stands who asks for the reply by what was found out, and what is told first of it then; a request of this number was read before
abbrev pub asking : {K W G I : Type 0} → (asks : K → Dialogue W) → (first : K → List RawMessage → First G I) → K → (reads : ℕ) → Family (Unit {0}) W G I
asking asks first k n = alone (record { dialogue = asks k; reads = n }) (first k)

-- no stream is brought whole, whatever is found out
abbrev pub never_whole : {K : Type 0} → K → Type 0
never_whole k = ⊥

-- Some events led to where the reply is asked for by what was found out, which isn't brought whole, and this is true of the others.
pub record FoundOut {D K W G I : Type 0} (becomes : D → List Event → D → Type 0) (stamp : Stamp) (a : D) (p : Place W) (asked : K → ℕ → Family (Unit {0}) W G I) (is_whole : K → Type 0) (IsBehind : K → D → Family (Unit {0}) W G I → Type 0) : Type 0 where
  pub known : K
  pub apart : is_whole known → ⊥
  pub mid : D
  pub reads : ℕ
  pub finds : Goes becomes stamp a p mid ((asked known reads).place tt)
  pub behind : IsBehind known mid (asked known reads)

-- Some events led to where this is found out, and others may have come behind them.
pub record IsFound {D K : Type 0} (becomes : D → List Event → D → Type 0) (stamp : Stamp) (a : D) (finding : Place K) (b : D) (known : K) : Type 0 where
  pub mid : D
  pub found : GoesToAnswer becomes stamp a finding mid (Ok known)
  pub events : List Event
  pub became : becomes mid events b

-- Some events brought what is told first, and this is true of the others.
pub record BroughtBefore {D W G I : Type 0} (becomes : D → List Event → D → Type 0) (stamp : Stamp) (a : D) (old : Family (Unit {0}) W G I) (last : List RawMessage → First G I) (IsBehind : D → Place W → Type 0) : Type 0 where
  pub mid : D
  pub place : Place W
  pub brings : GoesFor becomes stamp a old mid (alone place last)
  pub behind : IsBehind mid place

-- where one stands first, by what will be found out, and what is told first then
abbrev pub before_found : {K W G I : Type 0} → Place W → (asked : K → ℕ → Family (Unit {0}) W G I) → K → Family (Unit {0}) W G I
before_found p asked k = alone p (asked k 0).first

-- A stream is handed on that was brought whole before all was found out: the events led to where one stands who has it, where the number of the request
-- that was read last counts for nothing.
abbrev pub HandsOnWhole : {D S K W G I : Type 0} → (D → List Event → D → Type 0) → (stands : S → Family (Unit {0}) W G I) → (is_open : S → Type 0) → (known : S → K) → (is_whole : K → Type 0) → Stamp → D → Place W → (asked : K → ℕ → Family (Unit {0}) W G I) → D → S → Type 0
HandsOnWhole becomes stands is_open known is_whole stamp a p asked b stream =
    BroughtBefore becomes stamp a (before_found p asked (known stream)) (stands stream).first
    (λ mid q. (n : ℕ) × Goes becomes stamp mid q b (record { dialogue = ((stands stream).place tt).dialogue; reads = n }))
    × is_open stream × is_whole (known stream)

-- A stream is handed on behind what was found out, or was brought whole before; what is known of it is what one is answered who finds it out. An error comes before
-- that, where it is what he is answered, or behind that.
abbrev pub HandsOnLater : {D S K W G I : Type 0} → (D → List Event → D → Type 0) → (stands : S → Family (Unit {0}) W G I) → (is_open : S → Type 0) → (known : S → K) → (is_whole : K → Type 0) → Stamp → D → (finding : Place K) → Place W → (asked : K → ℕ → Family (Unit {0}) W G I) → D → Result S Error → Type 0
HandsOnLater becomes stands is_open known is_whole stamp a finding p asked b (Ok stream) =
    (FoundOut becomes stamp a p asked is_whole (λ k mid q. HandsOn becomes stands is_open stamp mid q b (Ok stream) × (known stream ≡ k)) ⊎ HandsOnWhole becomes stands is_open known is_whole stamp a p asked b stream)
    × IsFound becomes stamp a finding b (known stream)
HandsOnLater becomes stands is_open known is_whole stamp a finding p asked b (Err e) =
    (GoesToAnswer becomes stamp a finding b (Err e) × GoesToAnswer becomes stamp a p b (Err e))
    ⊎ FoundOut becomes stamp a p asked is_whole (λ k mid q. HandsOn becomes stands is_open stamp mid q b (Err e) × IsFound becomes stamp a finding b k)

-- Of a reply that is brought whole some came, and one waits for more; or all of it came, which opens the stream, and one waits for what is found out behind that.
pub data WholeCame {D W G I : Type 0} (becomes : D → List Event → D → Type 0) (stamp : Stamp) (a : D) (old : Family (Unit {0}) W G I) (b : D) (new : Family (Unit {0}) W G I) : Type 0 where
  SomeCame : PausesFor becomes stamp a old b new → WholeCame becomes stamp a old b new
  AllCame : (IsNoItem (new.first []).told → ⊥) → BroughtBefore becomes stamp a old new.first (λ mid q. Pauses becomes stamp mid q b (new.place tt)) → WholeCame becomes stamp a old b new

-- what one asks by what will be found out
abbrev pub asks_by : {K W G I : Type 0} → (asked : K → ℕ → Family (Unit {0}) W G I) → K → Dialogue W
asks_by asked k = ((asked k 0).place tt).dialogue

-- One waits before it was found out. By each of what may be found out: what is asked then stays, or is what one asks oneself; and where the reply is brought whole it came so far,
-- and else nothing of it came that tells something.
pub record PausesBefore {D K W G I : Type 0} (becomes : D → List Event → D → Type 0) (stamp : Stamp) (a : D) (p : Place W) (asked : K → ℕ → Family (Unit {0}) W G I) (is_whole : K → Type 0) (b : D) (new : Place W) (asks : K → ℕ → Family (Unit {0}) W G I) : Type 0 where
  pub pauses : Pauses becomes stamp a p b new
  pub stays : (k : K) → (asks_by asks k ≡ asks_by asked k) ⊎ ((asks_by asked k ≡ p.dialogue) × (asks_by asks k ≡ new.dialogue))
  pub came : (k : K) → is_whole k → WholeCame becomes stamp a (before_found p asked k) b (before_found new asks k)
  pub same : (k : K) → (is_whole k → ⊥) → (asks k 0).first ≡ (asked k 0).first

-- One waits before it was found out, and so does he who finds it out; or behind that.
abbrev pub PausesLater : {D K W G I : Type 0} → (D → List Event → D → Type 0) → Stamp → D → (finding : Place K) → Place W → (asked : K → ℕ → Family (Unit {0}) W G I) → (is_whole : K → Type 0) → D → (new_finding : Place K) → (new : Place W) → (asks : K → ℕ → Family (Unit {0}) W G I) → (knows : Option K) → Type 0
PausesLater becomes stamp a finding p asked is_whole b new_finding new asks knows =
    ((knows ≡ None) × PausesBefore becomes stamp a p asked is_whole b new asks × Pauses becomes stamp a finding b new_finding)
    ⊎ FoundOut becomes stamp a p asked is_whole (λ k mid q. (knows ≡ Some k) × PausesFor becomes stamp mid q b (before_found new asks k) × IsFound becomes stamp a finding b k)
