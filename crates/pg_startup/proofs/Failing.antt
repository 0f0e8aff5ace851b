-- A cause that is the link's came in the calls that tell it.
use Rattle.std.proofs.Common.{◌≡◌, ℕ, Bool, true, false, List, Result, Ok, Err, refl}
use Rattle.std.specs.Prelude.{IfErr}
use Rattle.pg_spec.specs.Links.{LinkView}
use Rattle.pg_spec.specs.RawMessages.{RawMessage, bytes_left}
use Rattle.pg_spec.specs.Startup.{Login, Phase}
use Rattle.pg_types.specs.declared.cause.Cause.TheVariants as cause
use Rattle.pg_types.specs.declared.error.Error.{Error}
use Rattle.pg_types.specs.declared.error.Error.TheVariants as error
use Rattle.pg_wire.specs.LinkCalls.{Keeps}
use Rattle.pg_connect.proofs.Joining.{rose_later}
use Rattle.pg_startup.specs.SslRequests.{inside_of}
use Rattle.pg_startup.specs.StartupPolls.{FailsNow}
use Rattle.pg_startup.specs.Startups.{HearsAll, IsStop, Opening}
use Rattle.pg_startup.specs.Transfers.{PieceEnds, SentEnds}
use Rattle.pg_startup.specs.declared.startup.Startup.{Startup}
use Rattle.pg_startup.specs.declared.transfer.Transfer.{Transfer}
use Rattle.pg_startup.proofs.Opening.{never-refused}
use Rattle.pg_startup.proofs.Refusals.{refusal-is}

-- what stops the hearing is no cause of the link's
stop-now : (l : Login) (at : Phase) (rest : List RawMessage) (left : List ℕ) (e : Error) (a b : LinkView) → IsStop l at rest left e → FailsNow a b e
stop-now l at rest left (error.Io cause.Link) a b why = absurd (never-refused l at rest (error.Io cause.Link) (λ m more is. refusal-is l at m (error.Io cause.Link) is) why)
stop-now l at rest left (error.Io cause.Ended) a b why = absurd (never-refused l at rest (error.Io cause.Ended) (λ m more is. refusal-is l at m (error.Io cause.Ended) is) why)
stop-now l at rest left error.Closed a b why = absurd (never-refused l at rest error.Closed (λ m more is. refusal-is l at m error.Closed is) why)
stop-now l at rest left _ a b why = tt

pub hears-now : (l : Login) (asked : ℕ) (begin a : LinkView) (s t : Startup) (e : Error) (o : Opening l asked begin a s) →
    (s.done ≡ true → ⊥) → (s.done ≡ false → HearsAll l o.first o.read s.bytes.buffer.items t.bytes.buffer.items t (Err e)) → FailsNow a a e
hears-now l asked begin a s t e o never heard = by s.done refl
  where
    by : (b : Bool) → s.done ≡ b → FailsNow a a e
    by true is = absurd (never is)
    by false is = let h = heard is in stop-now l h.at h.rest (bytes_left s.bytes.buffer.items) e a a h.why

-- it couldn't be sent
pub sent-now : (t : Transfer) (a b : LinkView) (e : Error) → SentEnds t a b (Err e) → FailsNow a b e
sent-now t a b (error.Io cause.Link) was = was
sent-now t a b error.OutOfMemory was = tt
sent-now t a b _ was = absurd was

pub sends-now : (t : Transfer) (a b : LinkView) (r : Result Bool Error) → SentEnds t a b r → IfErr r (FailsNow a b)
sends-now t a b (Ok x) was = tt
sends-now t a b (Err e) was = sent-now t a b e was

-- it couldn't be read
pub reads-now : (s t : Transfer) (a b : LinkView) (most : ℕ) (e : Error) → PieceEnds s t a b most (Err e) → FailsNow a b e
reads-now s t a b most (error.Io cause.Link) was = was
reads-now s t a b most error.Closed was = was.0
reads-now s t a b most (error.Io cause.Ended) was = was.0
reads-now s t a b most (error.LimitReached given limit) was = tt
reads-now s t a b most error.OutOfMemory was = tt
reads-now s t a b most _ was = absurd was

-- behind other calls
pub now-later : (a b c : LinkView) (e : Error) → Keeps a b → FailsNow b c e → FailsNow a c e
now-later a b c (error.Io cause.Link) keeps was = rose_later a.faults b.faults c.faults keeps.counts.faults was
now-later a b c (error.Io cause.Ended) keeps was = rose_later a.ends b.ends c.ends keeps.counts.ends was
now-later a b c error.Closed keeps was = rose_later a.ends b.ends c.ends keeps.counts.ends was
now-later a b c _ keeps was = tt

-- the end came in place of a byte
pub now-inside : (a b : LinkView) (e : Error) → FailsNow a b e → FailsNow a b (inside_of e)
now-inside a b error.Closed was = was
now-inside a b _ was = was
