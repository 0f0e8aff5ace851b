use Rattle.std.proofs.Common.{refl}
use Rattle.pg_open.proofs.TlsSteps.{waits-asking}
use Rattle.pg_open.proofs.stages.ConnectTls.wait.Goals as goal

pub returns-in-Asking-clause-waits : goal.returns-in-Asking-clause-waits
returns-in-Asking-clause-waits g c =
    waits-asking g.L.Link.view c.in-Asking.question _ _ _ _ c.in-Asking.is refl refl refl c.wait-in-Asking.ensures.answer c.wait-in-Asking.ensures.keeps
