-- What a message does where a reply is read on.
use Rattle.std.proofs.Common.{◌≡◌, List, false, Option, Some, None, Result, sym, ap, subst, ◌∙◌}
use Rattle.pg_spec.specs.RawMessages.{RawMessage}
use Rattle.pg_types.specs.declared.error.Error.{Error}
use Rattle.pg_query.specs.Dialogue.{feed_one}
use Rattle.pg_query.specs.Reading.{ReadsOn as GoesByReading, ends}
use Rattle.pg_query.specs.Scripts.{GoesOn, IsMessage, IsRead, waiting_at}
use Rattle.pg_query.specs.declared.script.Want.{Want}
use Rattle.pg_query.specs.declared.script.Want.TheVariants as want
use Rattle.pg_query.specs.declared.single_request.Phase.TheVariants as phase
use Rattle.pg_query.proofs.SingleRequestLemmas.{fed-told, fed-on}
use Rattle.pg_execute.specs.Reads.{reads_at, reads_from, reads_refuses}
use Rattle.pg_execute.specs.declared.reads_on.ReadsOn.{ReadsOn}

-- it hasn't failed, and reads
pub reads-next : {R T : Type 0} (read : R → List RawMessage → Option (Result T Error)) (reading : R) (before after : Option Error) → before ≡ None → after ≡ None →
    GoesOn (reads_at read) reads_refuses (λ s. waiting_at (reads_at read s)) (reads_from (read reading) before) want.Read (record { reading = reading; failed = after })
reads-next read reading before after none gone = record {
  is = ap (reads_from (read reading)) gone ∙ sym (ap (reads_from (read reading)) none);
  wanted = record {
    waiting = subst (λ (f : Option Error). IsMessage (waiting_at (reads_from (read reading) f))) (sym gone) tt;
    there = subst (λ (f : Option Error). IsRead (reads_from (read reading) f)) (sym gone) tt;
  };
}

module _ {R T : Type 0} (read : R → List RawMessage → Option (Result T Error)) (old : ReadsOn R) (new : R) (raw : RawMessage) where
  -- a script that read on wants this, and stands behind it
  abbrev WantsSo : Option Error → Want T → Option Error → Type 0
  WantsSo before w f = GoesOn (reads_at read) reads_refuses (λ s. waiting_at (reads_at read s)) (feed_one raw (reads_from (read old.reading) before)) w (record { reading = new; failed = f })

  -- the message tells nothing yet
  pub reads-more : GoesByReading read old.reading raw None new → IsMessage (waiting_at (reads_at read old)) → WantsSo old.failed want.Read old.failed
  reads-more k h = by old.failed h
    where
      by : (f : Option Error) → IsMessage (waiting_at (reads_from (read old.reading) f)) → WantsSo f want.Read f
      by None h = record { is = fed-on false (read old.reading) (read new) phase.Reads tt raw k.0 k.1; wanted = record { waiting = tt; there = tt } }
      by (Some e) h = absurd h

  -- it tells the answer
  pub reads-told : (r : Result T Error) → GoesByReading read old.reading raw (Some r) new → IsMessage (waiting_at (reads_at read old)) → ends false (Some r) ≡ feed_one raw (reads_at read old)
  reads-told r k h = by old.failed h
    where
      by : (f : Option Error) → IsMessage (waiting_at (reads_from (read old.reading) f)) → ends false (Some r) ≡ feed_one raw (reads_from (read old.reading) f)
      by None h = fed-told false (read old.reading) phase.Reads tt raw r k
      by (Some e) h = absurd h
