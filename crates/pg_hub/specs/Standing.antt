-- What the hub holds: a book, and beside it a pipeline of the requests that aren't over.
use Rattle.std.specs.Prelude.{◌≡◌, ◌≤◌, ◌+◌, ℕ, List, length, Bool}
use Rattle.pg_desk.specs.declared.event.Booking.{Booking}
use Rattle.pg_desk.specs.Catalog.{Catalog}
use Rattle.pg_hub.specs.declared.mailbox.Mailbox.{Mailbox}
use Rattle.pg_hub.specs.Rests.{Rest, weight_in}

-- what the hub holds, as contracts see it
pub record Standing : Type 0 where
  -- all bookings, in order
  pub book : List Booking
  -- the mailbox of each booking
  pub mail : List Mailbox
  -- what of each booking hasn't gone out, and what it all weighs
  pub outgoing : List Rest
  pub unsent : ℕ
  -- how many bookings went out whole, how many began to, and how many groups have ended
  pub whole : ℕ
  pub started : ℕ
  pub finished : ℕ
  -- the next numbers
  pub statements : ℕ
  pub portals : ℕ
  -- what is kept of the server's catalog
  pub catalog : Catalog
  pub closed : Bool
  pub failed : Bool
  -- something moved since `touched` was called last
  pub touched : Bool

-- what a pipeline holds: the same but for the book
pub record InFlight : Type 0 where
  pub mail : List Mailbox
  pub outgoing : List Rest
  pub unsent : ℕ
  pub whole : ℕ
  pub started : ℕ
  pub finished : ℕ
  pub statements : ℕ
  pub portals : ℕ
  pub catalog : Catalog
  pub closed : Bool
  pub failed : Bool
  pub touched : Bool

-- a pipeline with a book beside it
abbrev pub with_book : List Booking → InFlight → Standing
with_book book q = record {
  book = book;
  mail = q.mail;
  outgoing = q.outgoing;
  unsent = q.unsent;
  whole = q.whole;
  started = q.started;
  finished = q.finished;
  statements = q.statements;
  portals = q.portals;
  catalog = q.catalog;
  closed = q.closed;
  failed = q.failed;
  touched = q.touched;
}

-- Each booking has what of it hasn't gone out. The first ones went out whole, and at most one more began to.
pub record StandsOut (booked : ℕ) (outgoing : List Rest) (weight ended begun : ℕ) : Type 0 where
  pub all : length outgoing ≡ booked
  pub unsent : weight ≡ weight_in outgoing
  pub whole : ended ≤ booked
  pub started : begun ≤ booked
  pub near : begun ≤ ended + 1

-- Each booking has a mailbox, and groups end after their request's first part went out.
pub record IsStanding (h : Standing) : Type 0 where
  pub mail : length h.mail ≡ length h.book
  pub out : StandsOut (length h.book) h.outgoing h.unsent h.whole h.started
  pub finished : h.finished ≤ h.started

-- the same of a pipeline
pub record IsInFlight (q : InFlight) : Type 0 where
  pub mail : length q.mail ≡ length q.outgoing
  pub out : StandsOut (length q.outgoing) q.outgoing q.unsent q.whole q.started
  pub finished : q.finished ≤ q.started
