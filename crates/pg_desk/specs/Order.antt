-- In which order requests go out and batches come.
use Rattle.std.specs.Prelude.{◌≡◌, ◌≤◌, ◌<◌, ℕ, suc, ◌+◌, ◌-◌, List, [], ◌∷◌, length, Bool, if◌then◌else◌}
use Rattle.pg_desk.specs.declared.event.Booking.{Booking}
use Rattle.pg_desk.specs.History.{State, Delivery, GoesInOrder, finished, first_flag, rest_flags, started_of}

-- the batches belong to requests one after another: to request k until one ends its reply, then to the next
abbrev pub OneAfterAnother : ℕ → List Delivery → Type 0
OneAfterAnother k [] = Unit {0}
OneAfterAnother k (d ∷ ds) = (d.owner ≡ k) × OneAfterAnother (if d.complete then suc k else k) ds

-- at most two parts of a copy wait, and of one that was ended a closing part behind them
abbrev pub FewWait : ℕ → List Booking → List Bool → Type 0
FewWait n [] cs = Unit {0}
FewWait n (b ∷ bs) cs = (length b.parts ≤ n + (if first_flag cs then 2 else 3)) × FewWait (n - length b.parts) bs (rest_flags cs)

-- each request has a part
abbrev pub AllParts : List Booking → Type 0
AllParts [] = Unit {0}
AllParts (b ∷ bs) = (0 < length b.parts) × AllParts bs

-- Replies come one after another, each behind its request's first part, and requests go out one after another.
pub record InOrder (s : State) : Type 0 where
  pub owners : OneAfterAnother 0 s.deliveries
  pub flags : length s.copying ≡ length s.book
  pub all : AllParts s.book
  pub out : GoesInOrder (length s.gone_out) s.book s.copying
  pub ended : finished s.deliveries ≤ started_of s
