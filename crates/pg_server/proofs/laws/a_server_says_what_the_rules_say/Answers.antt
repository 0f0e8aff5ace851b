use Rattle.std.proofs.Common.{sym, ap, ◌∙◌, List, ℕ, ◌∷◌, [], ◌++◌, refl}
use Rattle.std.specs.Str.{byte}
use Rattle.pg_server.specs.declared.session.Stage.TheVariants.{Serves}
use Rattle.pg_server.specs.Hearing.{Said}
use Rattle.pg_server.specs.Standings.{unfed, opened}
use Rattle.pg_server.proofs.HearingLaws.{said_to-says, said_to-waits}
use Rattle.pg_server.proofs.ServedLaws.{served-said}
use Rattle.pg_server.proofs.laws.a_server_says_what_the_rules_say.Goals as goal

pub returns-clause-asks_for_tls : goal.returns-clause-asks_for_tls
returns-clause-asks_for_tls g c step state startup bytes rest is =
    said_to-says step (unfed state startup) bytes (byte "N" ∷ []) (unfed state startup) rest (ap (opened (unfed state startup)) is)

pub returns-clause-starts : goal.returns-clause-starts
returns-clause-starts g c step state startup bytes rest is none =
    let all = said_to-says step (unfed state startup) bytes startup (record (unfed state startup) { stage = Serves }) rest (ap (opened (unfed state startup)) is) in
    ap (λ (s : Said _). s.said) all
    ∙ ap (λ (x : List ℕ). startup ++ x) (served-said step (record (unfed state startup) { stage = Serves }) rest refl (sym (ap (λ (s : Said _). s.fault) all) ∙ none))

pub returns-clause-waits : goal.returns-clause-waits
returns-clause-waits g c step state startup bytes is =
    ap (λ (s : Said _). s.said) (said_to-waits step (unfed state startup) bytes (ap (opened (unfed state startup)) is))
