use Rattle.std.proofs.Common.{◌≡◌, ◌<◌, ◌≤◌, Bool, true, false, Ok, refl, ap, subst, ◌∙◌, arith}
use Rattle.pg_spec.specs.Links.{LinkView}
use Rattle.pg_spec.specs.RawMessages.{messages, has_bad_header}
use Rattle.pg_connect.specs.Ends.{WasBlocked}
use Rattle.pg_connect.specs.Reads.{piece_size}
use Rattle.pg_connect.proofs.Calm.{calm_same, calm_then}
use Rattle.pg_connect.proofs.Joining.{keeps_same, keeps_then, promised_still, rose_later, untouched_same, untouched_then}
use Rattle.pg_startup.specs.StartupPolls.{CatchEnds, IsCaughtUp}
use Rattle.pg_startup.specs.Transfers.{Gets, PieceEnds}
use Rattle.pg_startup.specs.declared.startup.Startup.{Startup}
use Rattle.pg_startup.specs.declared.transfer.Transfer.{Transfer}
use Rattle.pg_startup.proofs.Failing.{now-later, reads-now}
use Rattle.pg_startup.proofs.Nearing.{dry-nearer, failed-reads, reads-nearer, reads-still, start-none, start-reads, start-same, start-then}
use Rattle.pg_startup.proofs.Opening.{opened, opening-again, opening-reads}
use Rattle.pg_startup.proofs.startup.Startup.poll.Goals as goal

-- as the poll begins
abbrev begun : Startup → Startup
begun s = record s { bytes = record s.bytes { moved = false } }

caught : (t : Startup) (a b : LinkView) (x : Bool) → x ≡ true → CatchEnds t a b (Ok x) → IsCaughtUp t
caught t a b x is end = subst (λ (y : Bool). CatchEnds t a b (Ok y)) is end

blocked : (t : Startup) (a b : LinkView) (x : Bool) → x ≡ false → CatchEnds t a b (Ok x) → WasBlocked t.bytes.moved a b
blocked t a b x is end = subst (λ (y : Bool). CatchEnds t a b (Ok y)) is end

came : (s t : Transfer) (a b : LinkView) (x : Bool) → x ≡ true → PieceEnds s t a b piece_size (Ok x) → (s.given < t.given) × (t.given ≤ t.max_bytes)
came s t a b x is end = subst (λ (y : Bool). PieceEnds s t a b piece_size (Ok y)) is end

dry : (s t : Transfer) (a b : LinkView) (x : Bool) → x ≡ false → PieceEnds s t a b piece_size (Ok x) → PieceEnds s t a b piece_size (Ok false)
dry s t a b x is end = subst (λ (y : Bool). PieceEnds s t a b piece_size (Ok y)) is end

gets-dry : (s t : Transfer) (a b : LinkView) (x : Bool) → x ≡ false → Gets s t a b piece_size (Ok x) → Gets s t a b piece_size (Ok false)
gets-dry s t a b x is gets = subst (λ (y : Bool). Gets s t a b piece_size (Ok y)) is gets

pub pieces-init : goal.pieces-init
pieces-init g c =
    let v = g.L.Link.view c.args.link.now in
    record {
      within = c.requires.given;
      limit = refl;
      nearer = omega arith;
      still = λ none. (none, untouched_same v);
      link = keeps_same v;
      same = start-none (begun c.args.self.now);
      opening = λ l asked begin o. o;
      calm = calm_same v;
      quiet = refl;
    }

pub pieces-preserved : goal.pieces-preserved
pieces-preserved g c =
    let i = g.L.Link.view c.args.link.now in
    let a = g.L.Link.view c.pieces.link in
    let b = g.L.Link.view c.catch_up.new.link in
    let d = g.L.Link.view c.read_piece.new.link in
    let s = c.pieces.self in
    let t = c.catch_up.new.self in
    let r = c.read_piece.new.self in
    let inv = c.pieces.invariant in
    let up = c.in-Ok-true.ensures.catches in
    let gets = c.in-Ok-true-read_piece.ensures.gets in
    let ready = caught t a b _ c.in-Ok-true.field-0-test c.in-Ok-true.ensures.end in
    let end = came t.bytes r b d _ c.in-Ok-true-read_piece.field-0-test c.in-Ok-true-read_piece.ensures.end in
    record {
      within = end.1;
      limit = ap (λ (x : Transfer). x.max_bytes) gets.same ∙ up.limit ∙ inv.limit;
      nearer = omega (arith, reads-nearer t r b d _ gets end.0 end.1, up.nearer, inv.nearer);
      still = λ none.
          let read = reads-still t r b d _ gets none in
          let sent = up.still read.0 in
          let before = inv.still sent.0 in
          (before.0, untouched_then i b d (untouched_then i a b before.1 sent.1) read.1);
      link = keeps_then i b d (keeps_then i a b inv.link up.keeps) gets.link;
      same = start-then (begun c.args.self.now) t (record t { bytes = r }) (start-then (begun c.args.self.now) s t inv.same c.catch_up.ensures.same) (start-reads t r b d _ gets);
      opening = λ l asked begin o.
          opening-reads l asked begin b d t r _ (c.in-Ok-true.ensures.answer l asked begin (inv.opening l asked begin o)) c.if-self.false (ready.heard c.if-self.false) ready.sent ready.flushed gets;
      calm = calm_then i b d (calm_then i a b inv.calm c.catch_up.ensures.no_lull) c.read_piece.ensures.no_lull;
      quiet = c.in-Ok-true-read_piece.ensures.ready (ap (λ (x : Bool). Ok x) c.in-Ok-true-read_piece.field-0-test) ∙ c.in-Ok-true.ensures.ready (ap (λ (x : Bool). Ok x) c.in-Ok-true.field-0-test) ∙ inv.quiet;
    }

pub pieces-smaller : goal.pieces-smaller
pieces-smaller g c =
    let b = g.L.Link.view c.catch_up.new.link in
    let d = g.L.Link.view c.read_piece.new.link in
    let t = c.catch_up.new.self in
    let r = c.read_piece.new.self in
    let up = c.in-Ok-true.ensures.catches in
    let end = came t.bytes r b d _ c.in-Ok-true-read_piece.field-0-test c.in-Ok-true-read_piece.ensures.end in
    let limit : r.max_bytes ≡ t.bytes.max_bytes = ap (λ (x : Transfer). x.max_bytes) c.in-Ok-true-read_piece.ensures.gets.same in
    omega (arith, end.0, end.1, limit, up.given, up.limit, c.pieces.invariant.within)

-- ---- the link isn't ready for what is sent

pub returns-in-Ok-false-clause-answer : goal.returns-in-Ok-false-clause-answer
returns-in-Ok-false-clause-answer g c l asked begin o =
    c.in-Ok-false.ensures.answer l asked begin (c.pieces.invariant.opening l asked begin (opening-again l asked begin (g.L.Link.view c.args.link.now) c.args.self.now o))

pub returns-in-Ok-false-clause-pending : goal.returns-in-Ok-false-clause-pending
returns-in-Ok-false-clause-pending g c =
    let i = g.L.Link.view c.args.link.now in
    let a = g.L.Link.view c.pieces.link in
    let b = g.L.Link.view c.catch_up.new.link in
    let inv = c.pieces.invariant in
    let up = c.in-Ok-false.ensures.catches in
    let was = blocked c.catch_up.new.self a b _ c.in-Ok-false.field-0-test c.in-Ok-false.ensures.end in
    record {
      keeps = keeps_then i a b inv.link up.keeps;
      quiet = rose_later i.quiet a.quiet b.quiet inv.link.counts.quiet was.quiet;
      lulls = λ none promised.
          let before = inv.still (up.still none).0 in
          rose_later i.lulls a.lulls b.lulls inv.link.counts.lulls (was.lulls none (promised_still i a before.1 promised));
      still = λ none.
          let sent = up.still none in
          let before = inv.still sent.0 in
          untouched_then i a b before.1 sent.1;
      idle = λ steady. absurd (was.not_steady (inv.link.steady steady));
    }

pub returns-in-Ok-false-clause-nearer : goal.returns-in-Ok-false-clause-nearer
returns-in-Ok-false-clause-nearer g c = omega (arith, c.in-Ok-false.ensures.catches.nearer, c.pieces.invariant.nearer)

pub returns-in-Ok-false-clause-within : goal.returns-in-Ok-false-clause-within
returns-in-Ok-false-clause-within g c = omega (arith, c.in-Ok-false.ensures.catches.given, c.in-Ok-false.ensures.catches.limit, c.pieces.invariant.within)

pub returns-in-Ok-false-clause-same : goal.returns-in-Ok-false-clause-same
returns-in-Ok-false-clause-same g c =
    start-then c.args.self.now (begun c.args.self.now) c.catch_up.new.self (start-same c.args.self.now)
    (start-then (begun c.args.self.now) c.pieces.self c.catch_up.new.self c.pieces.invariant.same c.in-Ok-false.ensures.same)

-- ---- hearing or sending failed

pub returns-in-Err-clause-answer : goal.returns-in-Err-clause-answer
returns-in-Err-clause-answer g c l asked begin o =
    c.in-Err.ensures.answer l asked begin (c.pieces.invariant.opening l asked begin (opening-again l asked begin (g.L.Link.view c.args.link.now) c.args.self.now o))

pub returns-in-Err-clause-fails_now : goal.returns-in-Err-clause-fails_now
returns-in-Err-clause-fails_now g c l asked begin o =
    now-later (g.L.Link.view c.args.link.now) (g.L.Link.view c.pieces.link) (g.L.Link.view c.catch_up.new.link) c.in-Err.error c.pieces.invariant.link
    (c.in-Err.ensures.fails_now l asked begin (c.pieces.invariant.opening l asked begin (opening-again l asked begin (g.L.Link.view c.args.link.now) c.args.self.now o)))

pub returns-in-Err-clause-same : goal.returns-in-Err-clause-same
returns-in-Err-clause-same g c =
    start-then c.args.self.now (begun c.args.self.now) c.catch_up.new.self (start-same c.args.self.now)
    (start-then (begun c.args.self.now) c.pieces.self c.catch_up.new.self c.pieces.invariant.same c.in-Err.ensures.same)

-- ---- it is done

pub returns-then-self-clause-answer : goal.returns-then-self-clause-answer
returns-then-self-clause-answer g c l asked begin o =
    let a = g.L.Link.view c.pieces.link in
    let b = g.L.Link.view c.catch_up.new.link in
    let t = c.catch_up.new.self in
    let up = c.in-Ok-true.ensures.catches in
    let ready = caught t a b _ c.in-Ok-true.field-0-test c.in-Ok-true.ensures.end in
    opened l asked begin b t
    (c.in-Ok-true.ensures.answer l asked begin (c.pieces.invariant.opening l asked begin (opening-again l asked begin (g.L.Link.view c.args.link.now) c.args.self.now o)))
    c.if-self.true ready.sent ready.flushed (omega (arith, up.given, up.limit, c.pieces.invariant.within))

pub returns-then-self-clause-same : goal.returns-then-self-clause-same
returns-then-self-clause-same g c =
    start-then c.args.self.now (begun c.args.self.now) c.catch_up.new.self (start-same c.args.self.now)
    (start-then (begun c.args.self.now) c.pieces.self c.catch_up.new.self c.pieces.invariant.same c.in-Ok-true.ensures.same)

-- ---- the link has nothing to give now

pub returns-in-Ok-false-read_piece-clause-answer : goal.returns-in-Ok-false-read_piece-clause-answer
returns-in-Ok-false-read_piece-clause-answer g c l asked begin o =
    let a = g.L.Link.view c.pieces.link in
    let b = g.L.Link.view c.catch_up.new.link in
    let t = c.catch_up.new.self in
    let ready = caught t a b _ c.in-Ok-true.field-0-test c.in-Ok-true.ensures.end in
    opening-reads l asked begin b (g.L.Link.view c.read_piece.new.link) t c.read_piece.new.self _
    (c.in-Ok-true.ensures.answer l asked begin (c.pieces.invariant.opening l asked begin (opening-again l asked begin (g.L.Link.view c.args.link.now) c.args.self.now o)))
    c.if-self.false (ready.heard c.if-self.false) ready.sent ready.flushed c.in-Ok-false-read_piece.ensures.gets

pub returns-in-Ok-false-read_piece-clause-pending : goal.returns-in-Ok-false-read_piece-clause-pending
returns-in-Ok-false-read_piece-clause-pending g c =
    let i = g.L.Link.view c.args.link.now in
    let a = g.L.Link.view c.pieces.link in
    let b = g.L.Link.view c.catch_up.new.link in
    let d = g.L.Link.view c.read_piece.new.link in
    let t = c.catch_up.new.self in
    let r = c.read_piece.new.self in
    let inv = c.pieces.invariant in
    let up = c.in-Ok-true.ensures.catches in
    let gets = c.in-Ok-false-read_piece.ensures.gets in
    let ready = caught t a b _ c.in-Ok-true.field-0-test c.in-Ok-true.ensures.end in
    let end = dry t.bytes r b d _ c.in-Ok-false-read_piece.field-0-test c.in-Ok-false-read_piece.ensures.end in
    let none = ready.heard c.if-self.false in
    let keeps = keeps_then i a b inv.link up.keeps in
    record {
      keeps = keeps_then i b d keeps gets.link;
      quiet = rose_later i.quiet b.quiet d.quiet keeps.counts.quiet end.0.quiet;
      lulls = λ unmoved promised.
          let sent = up.still (reads-still t r b d _ gets unmoved).0 in
          let before = inv.still sent.0 in
          rose_later i.lulls b.lulls d.lulls keeps.counts.lulls (end.0.lulls unmoved (promised_still i b (untouched_then i a b before.1 sent.1) promised));
      still = λ unmoved.
          let read = reads-still t r b d _ gets unmoved in
          let sent = up.still read.0 in
          let before = inv.still sent.0 in
          untouched_then i b d (untouched_then i a b before.1 sent.1) read.1;
      idle = λ steady. record {
        going = c.if-self.false;
        sent = ap (λ (x : Transfer). x.unsent.items) gets.same ∙ ready.sent;
        heard = ap messages end.2 ∙ none.0;
        header = ap has_bad_header end.2 ∙ none.2;
        empty = end.0.empty (keeps.steady steady);
        flushed = ap (λ (x : Transfer). x.flushed) gets.same ∙ ready.flushed;
      };
    }

pub returns-in-Ok-false-read_piece-clause-nearer : goal.returns-in-Ok-false-read_piece-clause-nearer
returns-in-Ok-false-read_piece-clause-nearer g c =
    let b = g.L.Link.view c.catch_up.new.link in
    let d = g.L.Link.view c.read_piece.new.link in
    let t = c.catch_up.new.self in
    let r = c.read_piece.new.self in
    let end = dry t.bytes r b d _ c.in-Ok-false-read_piece.field-0-test c.in-Ok-false-read_piece.ensures.end in
    let gets = gets-dry t.bytes r b d _ c.in-Ok-false-read_piece.field-0-test c.in-Ok-false-read_piece.ensures.gets in
    omega (arith, dry-nearer t r b d gets end.1, c.in-Ok-true.ensures.catches.nearer, c.pieces.invariant.nearer)

pub returns-in-Ok-false-read_piece-clause-within : goal.returns-in-Ok-false-read_piece-clause-within
returns-in-Ok-false-read_piece-clause-within g c =
    let b = g.L.Link.view c.catch_up.new.link in
    let d = g.L.Link.view c.read_piece.new.link in
    let t = c.catch_up.new.self in
    let r = c.read_piece.new.self in
    let end = dry t.bytes r b d _ c.in-Ok-false-read_piece.field-0-test c.in-Ok-false-read_piece.ensures.end in
    let limit : r.max_bytes ≡ t.bytes.max_bytes = ap (λ (x : Transfer). x.max_bytes) c.in-Ok-false-read_piece.ensures.gets.same in
    omega (arith, end.1, limit, c.in-Ok-true.ensures.catches.given, c.in-Ok-true.ensures.catches.limit, c.pieces.invariant.within)

pub returns-in-Ok-false-read_piece-clause-same : goal.returns-in-Ok-false-read_piece-clause-same
returns-in-Ok-false-read_piece-clause-same g c =
    let t = c.catch_up.new.self in
    start-then c.args.self.now t (record t { bytes = c.read_piece.new.self })
    (start-then c.args.self.now (begun c.args.self.now) t (start-same c.args.self.now) (start-then (begun c.args.self.now) c.pieces.self t c.pieces.invariant.same c.in-Ok-true.ensures.same))
    (start-reads t c.read_piece.new.self (g.L.Link.view c.catch_up.new.link) (g.L.Link.view c.read_piece.new.link) _ c.in-Ok-false-read_piece.ensures.gets)

pub returns-in-Ok-false-read_piece-clause-no_lull : goal.returns-in-Ok-false-read_piece-clause-no_lull
returns-in-Ok-false-read_piece-clause-no_lull g c =
    let i = g.L.Link.view c.args.link.now in
    let a = g.L.Link.view c.pieces.link in
    let b = g.L.Link.view c.catch_up.new.link in
    calm_then i b (g.L.Link.view c.read_piece.new.link) (calm_then i a b c.pieces.invariant.calm c.catch_up.ensures.no_lull) c.read_piece.ensures.no_lull

pub returns-in-Ok-false-read_piece-clause-quiet : goal.returns-in-Ok-false-read_piece-clause-quiet
returns-in-Ok-false-read_piece-clause-quiet g c =
    omega (arith, c.in-Ok-true.ensures.ready (ap (λ (x : Bool). Ok x) c.in-Ok-true.field-0-test), c.pieces.invariant.quiet, c.in-Ok-false-read_piece.ensures.quiet)

-- ---- no piece could be read

pub returns-in-Err-read_piece-clause-answer : goal.returns-in-Err-read_piece-clause-answer
returns-in-Err-read_piece-clause-answer g c l asked begin o =
    let a = g.L.Link.view c.pieces.link in
    let b = g.L.Link.view c.catch_up.new.link in
    let t = c.catch_up.new.self in
    let ready = caught t a b _ c.in-Ok-true.field-0-test c.in-Ok-true.ensures.end in
    failed-reads l asked begin b (g.L.Link.view c.read_piece.new.link) t c.read_piece.new.self c.in-Err-read_piece.error
    (c.in-Ok-true.ensures.answer l asked begin (c.pieces.invariant.opening l asked begin (opening-again l asked begin (g.L.Link.view c.args.link.now) c.args.self.now o)))
    c.if-self.false (ready.heard c.if-self.false) ready.sent ready.flushed c.in-Err-read_piece.ensures.gets c.in-Err-read_piece.ensures.end c.in-Err-read_piece.ensures.within

pub returns-in-Err-read_piece-clause-fails_now : goal.returns-in-Err-read_piece-clause-fails_now
returns-in-Err-read_piece-clause-fails_now g c l asked begin o =
    let i = g.L.Link.view c.args.link.now in
    let a = g.L.Link.view c.pieces.link in
    let b = g.L.Link.view c.catch_up.new.link in
    let d = g.L.Link.view c.read_piece.new.link in
    now-later i b d c.in-Err-read_piece.error (keeps_then i a b c.pieces.invariant.link c.in-Ok-true.ensures.catches.keeps)
    (reads-now c.catch_up.new.self.bytes c.read_piece.new.self b d piece_size c.in-Err-read_piece.error c.in-Err-read_piece.ensures.end)

pub returns-in-Err-read_piece-clause-same : goal.returns-in-Err-read_piece-clause-same
returns-in-Err-read_piece-clause-same g c =
    let t = c.catch_up.new.self in
    start-then c.args.self.now t (record t { bytes = c.read_piece.new.self })
    (start-then c.args.self.now (begun c.args.self.now) t (start-same c.args.self.now) (start-then (begun c.args.self.now) c.pieces.self t c.pieces.invariant.same c.in-Ok-true.ensures.same))
    (start-reads t c.read_piece.new.self (g.L.Link.view c.catch_up.new.link) (g.L.Link.view c.read_piece.new.link) _ c.in-Err-read_piece.ensures.gets)

pub returns-in-Err-read_piece-clause-no_lull : goal.returns-in-Err-read_piece-clause-no_lull
returns-in-Err-read_piece-clause-no_lull g c =
    let i = g.L.Link.view c.args.link.now in
    let a = g.L.Link.view c.pieces.link in
    let b = g.L.Link.view c.catch_up.new.link in
    calm_then i b (g.L.Link.view c.read_piece.new.link) (calm_then i a b c.pieces.invariant.calm c.catch_up.ensures.no_lull) c.read_piece.ensures.no_lull

pub returns-in-Err-read_piece-clause-quiet : goal.returns-in-Err-read_piece-clause-quiet
returns-in-Err-read_piece-clause-quiet g c =
    omega (arith, c.in-Ok-true.ensures.ready (ap (λ (x : Bool). Ok x) c.in-Ok-true.field-0-test), c.pieces.invariant.quiet, c.in-Err-read_piece.ensures.quiet)
