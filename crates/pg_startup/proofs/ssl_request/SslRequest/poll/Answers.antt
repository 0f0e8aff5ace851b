use Rattle.std.proofs.Common.{◌≡◌, ◌<◌, ◌≤◌, ℕ, Bool, true, false, List, [], ◌∷◌, Result, Ok, Err, refl, sym, ap, subst, ◌∙◌, arith}
use Rattle.pg_spec.specs.Links.{LinkView}
use Rattle.pg_types.specs.declared.error.Error.{Error}
use Rattle.pg_types.specs.declared.error.Error.TheVariants as error
use Rattle.pg_connect.specs.Ends.{WasBlocked}
use Rattle.pg_connect.proofs.Calm.{calm_then}
use Rattle.pg_connect.proofs.Joining.{keeps_then, promised_still, rose_later, unmoved_before, untouched_then}
use Rattle.pg_startup.specs.SslRequests.{AskFailed}
use Rattle.pg_startup.specs.StartupPolls.{FailsNow}
use Rattle.pg_startup.specs.Transfers.{PieceEnds, SentEnds}
use Rattle.pg_startup.specs.declared.ssl_request.SslRequest.{SslRequest}
use Rattle.pg_startup.specs.declared.transfer.Transfer.{Transfer}
use Rattle.pg_startup.proofs.Asking.{asks-again, asks-failed, asks-on, asks-refused, asks-sends}
use Rattle.pg_startup.proofs.Failing.{now-inside, now-later, reads-now, sent-now}
use Rattle.pg_startup.proofs.ssl_request.SslRequest.poll.Goals as goal

-- as the poll begins
abbrev begun : SslRequest → SslRequest
begun s = record s { bytes = record s.bytes { moved = false } }

-- all was sent and passed on
sent : (t : Transfer) (a b : LinkView) (x : Bool) → x ≡ true → SentEnds t a b (Ok x) → (t.unsent.items ≡ []) × (t.flushed ≡ true)
sent t a b x is end = subst (λ (y : Bool). SentEnds t a b (Ok y)) is end

blocked : (t : Transfer) (a b : LinkView) (x : Bool) → x ≡ false → SentEnds t a b (Ok x) → WasBlocked t.moved a b
blocked t a b x is end = subst (λ (y : Bool). SentEnds t a b (Ok y)) is end

dry : (s t : Transfer) (a b : LinkView) (x : Bool) → x ≡ false → PieceEnds s t a b 1 (Ok x) → PieceEnds s t a b 1 (Ok false)
dry s t a b x is end = subst (λ (y : Bool). PieceEnds s t a b 1 (Ok y)) is end

pub returns-in-Ok-false-clause-answer : goal.returns-in-Ok-false-clause-answer
returns-in-Ok-false-clause-answer g c begin o =
    let a = g.L.Link.view c.args.link.now in
    asks-sends begin a (g.L.Link.view c.send.new.link) (begun c.args.self.now) c.send.new.self (asks-again begin a c.args.self.now o) c.in-Ok-false.ensures.sends

pub returns-in-Ok-false-clause-pending : goal.returns-in-Ok-false-clause-pending
returns-in-Ok-false-clause-pending g c =
    let sends = c.in-Ok-false.ensures.sends in
    let was = blocked c.send.new.self (g.L.Link.view c.args.link.now) (g.L.Link.view c.send.new.link) _ c.in-Ok-false.field-0-test c.in-Ok-false.ensures.end in
    record { keeps = sends.link; quiet = was.quiet; lulls = was.lulls; still = sends.still; idle = λ steady. absurd (was.not_steady steady) }

pub returns-in-Err-clause-answer : goal.returns-in-Err-clause-answer
returns-in-Err-clause-answer g c begin o =
    let a = g.L.Link.view c.args.link.now in
    asks-failed begin a (g.L.Link.view c.send.new.link) (begun c.args.self.now) c.send.new.self c.in-Err.error (asks-again begin a c.args.self.now o)
    c.in-Err.ensures.sends c.in-Err.ensures.end c.requires.given

pub returns-in-Err-clause-fails_now : goal.returns-in-Err-clause-fails_now
returns-in-Err-clause-fails_now g c = sent-now c.send.new.self (g.L.Link.view c.args.link.now) (g.L.Link.view c.send.new.link) c.in-Err.error c.in-Err.ensures.end

pub returns-in-Ok-false-read_byte-clause-answer : goal.returns-in-Ok-false-read_byte-clause-answer
returns-in-Ok-false-read_byte-clause-answer g c begin o =
    let a = g.L.Link.view c.args.link.now in
    let b = g.L.Link.view c.send.new.link in
    let d = g.L.Link.view c.read_byte.new.link in
    let s = begun c.args.self.now in
    let t = record s { bytes = c.send.new.self } in
    let ready = sent c.send.new.self a b _ c.in-Ok-true.field-0-test c.in-Ok-true.ensures.end in
    let end = dry c.send.new.self c.read_byte.new.self b d _ c.in-Ok-false-read_byte.field-0-test c.in-Ok-false-read_byte.ensures.end in
    asks-on begin b d t c.read_byte.new.self _ (asks-sends begin a b s c.send.new.self (asks-again begin a c.args.self.now o) c.in-Ok-true.ensures.sends)
    ready.0 ready.1 c.in-Ok-false-read_byte.ensures.gets end.1

pub returns-in-Ok-false-read_byte-clause-pending : goal.returns-in-Ok-false-read_byte-clause-pending
returns-in-Ok-false-read_byte-clause-pending g c =
    let a = g.L.Link.view c.args.link.now in
    let b = g.L.Link.view c.send.new.link in
    let d = g.L.Link.view c.read_byte.new.link in
    let t = c.send.new.self in
    let r = c.read_byte.new.self in
    let sends = c.in-Ok-true.ensures.sends in
    let gets = c.in-Ok-false-read_byte.ensures.gets in
    let ready = sent t a b _ c.in-Ok-true.field-0-test c.in-Ok-true.ensures.end in
    let end = dry t r b d _ c.in-Ok-false-read_byte.field-0-test c.in-Ok-false-read_byte.ensures.end in
    record {
      keeps = keeps_then a b d sends.link gets.link;
      quiet = rose_later a.quiet b.quiet d.quiet sends.link.counts.quiet end.0.quiet;
      lulls = λ none promised.
          let same = sends.still (unmoved_before t.moved r.moved _ gets.moved none) in
          rose_later a.lulls b.lulls d.lulls sends.link.counts.lulls (end.0.lulls none (promised_still a b same promised));
      still = λ none. untouched_then a b d (sends.still (unmoved_before t.moved r.moved _ gets.moved none)) (gets.still none);
      idle = λ steady.
          (ap (λ (x : Transfer). x.unsent.items) gets.same ∙ ready.0, end.0.empty (sends.link.steady steady), ap (λ (x : Transfer). x.flushed) gets.same ∙ ready.1);
    }

pub returns-in-Err-read_byte-clause-answer : goal.returns-in-Err-read_byte-clause-answer
returns-in-Err-read_byte-clause-answer g c begin o =
    let a = g.L.Link.view c.args.link.now in
    let b = g.L.Link.view c.send.new.link in
    let d = g.L.Link.view c.read_byte.new.link in
    let s = begun c.args.self.now in
    let t = record s { bytes = c.send.new.self } in
    let ready = sent c.send.new.self a b _ c.in-Ok-true.field-0-test c.in-Ok-true.ensures.end in
    subst (λ (e : Error). AskFailed begin d (record { bytes = c.read_byte.new.self }) e) (sym c.inside.ensures)
    (asks-refused begin b d t c.read_byte.new.self c.in-Err-read_byte.error (asks-sends begin a b s c.send.new.self (asks-again begin a c.args.self.now o) c.in-Ok-true.ensures.sends)
    ready.0 ready.1 c.in-Err-read_byte.ensures.gets c.in-Err-read_byte.ensures.end c.in-Err-read_byte.ensures.within)

pub returns-in-Err-read_byte-clause-fails_now : goal.returns-in-Err-read_byte-clause-fails_now
returns-in-Err-read_byte-clause-fails_now g c =
    let a = g.L.Link.view c.args.link.now in
    let b = g.L.Link.view c.send.new.link in
    let d = g.L.Link.view c.read_byte.new.link in
    let e = c.in-Err-read_byte.error in
    subst (λ (x : Error). FailsNow a d x) (sym c.inside.ensures)
    (now-inside a d e (now-later a b d e c.in-Ok-true.ensures.sends.link (reads-now c.send.new.self c.read_byte.new.self b d 1 e c.in-Err-read_byte.ensures.end)))
