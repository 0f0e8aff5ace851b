use Rattle.pg_session.proofs.SentSoFar.{sent-failed, sent-stopped}
use Rattle.pg_session.proofs.SentSoFar.Broken.{broken-sent}
use Rattle.pg_session.proofs.sent.what_was_sent_where_it_failed.Goals as goal

pub returns-clause-startup : goal.returns-clause-startup
returns-clause-startup g c speech call settings s e means plain f = sent-failed speech call settings s e means plain f

pub returns-clause-stalled : goal.returns-clause-stalled
returns-clause-stalled g c speech call settings s before after means h = sent-stopped speech call settings s before after means h

pub returns-clause-later : goal.returns-clause-later
returns-clause-later g c speech commands lets whole call settings e means b limit = broken-sent speech commands lets whole call settings e means b limit
