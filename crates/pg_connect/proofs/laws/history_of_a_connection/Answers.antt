use Rattle.pg_connect.specs.Passes.{waiting}
use Rattle.pg_connect.proofs.Standing.{stands_after, taken_all, sent_all, read_all}
use Rattle.pg_connect.proofs.laws.history_of_a_connection.Goals as goal

pub returns : goal.returns
returns c = record {
  grows = λ s t base l m es hs h is p. (p.read, stands_after s t base l m es hs h is p);
  delivered = λ s base l h is. (waiting s.held, is.delivered);
  all_taken = taken_all;
  all_sent = sent_all;
  all_read = read_all;
}
