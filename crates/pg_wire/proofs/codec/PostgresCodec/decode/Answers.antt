use Rattle.pg_wire.proofs.Cuts.{decoded_batch}
use Rattle.pg_wire.proofs.codec.PostgresCodec.decode.Goals as goal

pub returns : goal.returns
returns c =
    decoded_batch _ _ _ _ _ _ _ _ _ _ c.as_slice.ensures c.as_slice-2.ensures c.as_slice-3.ensures c.in-Whole.ensures c.if-is_aside.ensures
    c.batch_end-cut.ensures c.in_ok-bytes.ensures.front c.new.ensures c.in_ok-bytes.ensures.rest.0
