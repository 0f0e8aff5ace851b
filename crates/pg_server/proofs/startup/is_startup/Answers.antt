use Rattle.std.proofs.Common.{sym, ap, ◌∙◌, ◌&&◌, drop}
use Rattle.pg_server.specs.Startups.{is_settled}
use Rattle.pg_machine.proofs.FeedLaws.{rest_is}
use Rattle.pg_server.proofs.StartupLaws.{started}
use Rattle.pg_server.proofs.startup.is_startup.Goals as goal

pub returns-then-is_authentication_ok : goal.returns-then-is_authentication_ok
returns-then-is_authentication_ok c =
    c.is_settled.ensures ∙ ap is_settled (rest_is c.args.bytes.now c.in-Whole.n)
    ∙ ap (λ b. b && is_settled (drop c.in-Whole.n c.args.bytes.now)) (sym (sym c.is_authentication_ok.ensures ∙ c.if-is_authentication_ok.true))
    ∙ sym (started c.args.bytes.now c.in-Whole.n c.in-Whole.ensures)
