use Rattle.std.proofs.Common.{arith}
use Rattle.pg_server.specs.ServerLinks.{served_of}
use Rattle.pg_server.proofs.ByteLaws.{bytes-from}
use Rattle.pg_server.proofs.LinkLaws.{write-answers}
use Rattle.pg_server.proofs.server_link.ServerLinkLink.write.Goals as goal

pub returns-clause-answer : goal.returns-clause-answer
returns-clause-answer g c =
    (write-answers g.H.Handler.step (served_of g.H.Handler.state c.args.self.now) (served_of g.H.Handler.state c.take_up.new.self) c.args.bytes.now c.take_up.result
    c.args.self.now.server.settled c.take_up.ensures.room c.requires (bytes-from c.args.bytes.now (λ i. omega (arith, c.type_inv.bytes i))) c.take_up.ensures.exact c.take_up.ensures.course).0

pub returns-clause-keeps : goal.returns-clause-keeps
returns-clause-keeps g c =
    (write-answers g.H.Handler.step (served_of g.H.Handler.state c.args.self.now) (served_of g.H.Handler.state c.take_up.new.self) c.args.bytes.now c.take_up.result
    c.args.self.now.server.settled c.take_up.ensures.room c.requires (bytes-from c.args.bytes.now (λ i. omega (arith, c.type_inv.bytes i))) c.take_up.ensures.exact c.take_up.ensures.course).1

pub returns-clause-promise : goal.returns-clause-promise
returns-clause-promise g c =
    (write-answers g.H.Handler.step (served_of g.H.Handler.state c.args.self.now) (served_of g.H.Handler.state c.take_up.new.self) c.args.bytes.now c.take_up.result
    c.args.self.now.server.settled c.take_up.ensures.room c.requires (bytes-from c.args.bytes.now (λ i. omega (arith, c.type_inv.bytes i))) c.take_up.ensures.exact c.take_up.ensures.course).2
