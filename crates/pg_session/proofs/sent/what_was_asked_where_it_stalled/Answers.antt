use Rattle.std.proofs.Common.{sym, subst, refl}
use Rattle.pg_promises.specs.Kept.{NoneKeptBack}
use Rattle.pg_types.specs.declared.error.Error.TheVariants as error
use Rattle.pg_session.specs.Speeches.{meaning_of}
use Rattle.pg_session.proofs.SentSoFar.Broken.{broken-kept}
use Rattle.pg_session.proofs.SentSoFar.NoneKept.{stopped-kept}
use Rattle.pg_session.proofs.sent.what_was_asked_where_it_stalled.Goals as goal

pub returns-clause-startup : goal.returns-clause-startup
returns-clause-startup g c speech call settings s before after result means h is =
    subst (λ r. NoneKeptBack (meaning_of speech) call r) (sym is) (stopped-kept speech call settings s before after means h)

pub returns-clause-later : goal.returns-clause-later
returns-clause-later g c speech commands lets whole call settings before after result means b limit is =
    subst (λ r. NoneKeptBack (meaning_of speech) call r) (sym is) (broken-kept speech commands lets whole call settings (error.Stalled before after) means b limit before after refl)
