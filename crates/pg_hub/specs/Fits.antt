-- What lists of events a hub stands for, and what its calls do to it.
use Rattle.std.specs.Prelude.{◌≡◌, ◌≤◌, ◌<◌, ℕ, List, [], ◌∷◌, length, Bool, false, ◌||◌}
use Rattle.pg_hub.specs.declared.mailbox.Mailbox.{Mailbox}
use Rattle.pg_desk.specs.declared.event.Event.{Event}
use Rattle.pg_hub.specs.Standing.{Standing, InFlight, with_book, IsStanding}
use Rattle.pg_hub.specs.Mail.{waits, is_gone, at}
use Rattle.pg_hub.specs.Rests.{Rest, rests, whole_of}
use Rattle.pg_desk.specs.declared.event.Booking.{Booking}
use Rattle.pg_desk.specs.Order.{InOrder}
use Rattle.pg_desk.specs.History.{State, started, started_of, finished, given, taken, waiting, is_hung_up, change_of, is_move, after, after_all, IsExact}

-- a mailbox has what waits, and knows whether its reader hung up
pub record MailFits (s : State) (k : ℕ) (mailbox : Mailbox) : Type 0 where
  pub gone : is_gone mailbox ≡ is_hung_up s k
  pub waits : is_hung_up s k ≡ false → waits mailbox ≡ waiting s k

-- what of each request hasn't gone out, by the book and what went out
pub record PartsFit (gone_out : List (List ℕ)) (book : List Booking) (copying : List Bool) (outgoing : List Rest) (whole begun : ℕ) : Type 0 where
  pub rest : outgoing ≡ rests (length gone_out) book copying
  pub wholes : whole ≡ whole_of (length gone_out) book copying
  pub started : begun ≡ started (length gone_out) book

-- the hub stands for a state of a list of events
pub record Fits (s : State) (h : Standing) : Type 0 where
  pub standing : IsStanding h
  pub book : h.book ≡ s.book
  pub mail : (k : ℕ) → k < length s.book → MailFits s k (at h.mail k)
  pub parts : PartsFit s.gone_out s.book s.copying h.outgoing h.whole h.started
  pub finished : h.finished ≡ finished s.deliveries
  pub statements : h.statements ≡ s.statements
  pub portals : h.portals ≡ s.portals
  pub catalog : h.catalog ≡ s.catalog
  pub closed : h.closed ≡ s.closed
  pub failed : h.failed ≡ s.failed
  -- nothing was given before it was asked for, and nobody hung up on what isn't booked
  pub none_given : (k : ℕ) → started_of s ≤ k → given k s.deliveries ≡ []
  pub none_hung_up : (k : ℕ) → length s.book ≤ k → is_hung_up s k ≡ false
  -- nobody took more than came
  pub none_invented : (k : ℕ) → length (taken k s.takes) ≤ length (given k s.deliveries)
  -- requests go out and replies come one after another
  pub in_order : InOrder s

-- the event moves requests, batches or parts
abbrev pub moves_one : State → Event → Bool
moves_one s e = is_move s (change_of e)

-- one of the events moves something
abbrev pub moves : State → List Event → Bool
moves s [] = false
moves s (e ∷ es) = moves_one s e || moves (after s e) es

-- From every state that the hub stands for, the events are legal and exact, and lead to a state that it stands for
-- then. And the hub knows whether they moved something.
pub record HubBecomes (a : Standing) (es : List Event) (b : Standing) : Type 0 where
  pub stands : (s : State) → Fits s a → IsExact s es × Fits (after_all s es) b
  pub touched : (s : State) → Fits s a → b.touched ≡ (moves s es || a.touched)

-- what is_closed answers
abbrev pub IsClosedBy : Standing → Bool → Type 0
IsClosedBy h answer = answer ≡ (h.closed || h.failed)

-- a pipeline stands for a state as the hub does that has the state's book beside it
abbrev pub PipelineFits : State → InFlight → Type 0
PipelineFits s q = Fits s (with_book s.book q)

-- the same of a pipeline
pub record PipelineBecomes (a : InFlight) (es : List Event) (b : InFlight) : Type 0 where
  pub stands : (s : State) → PipelineFits s a → IsExact s es × PipelineFits (after_all s es) b
  pub touched : (s : State) → PipelineFits s a → b.touched ≡ (moves s es || a.touched)

-- whether a connection is closed: its requests were closed, or it failed
abbrev pub PipelineIsClosedBy : InFlight → Bool → Type 0
PipelineIsClosedBy q answer = answer ≡ (q.closed || q.failed)
