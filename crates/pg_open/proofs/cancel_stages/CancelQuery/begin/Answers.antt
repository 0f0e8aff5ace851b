use Rattle.std.proofs.Common.{ℤ, ◌∙◌, ap}
use Rattle.std.proofs.lemmas.Int.{to_z-of_z}
use Rattle.std.specs.Int.{w32, cast_signed, cast_unsigned}
use Rattle.pg_open.specs.Links.{view_of}
use Rattle.pg_open.specs.Choosing.{known}
use Rattle.pg_open.proofs.CancelSteps.{lacks-first, same-frame, under-way, written}
use Rattle.pg_open.proofs.cancel_stages.CancelQuery.begin.Goals as goal

pub returns-clause-answer : goal.returns-clause-answer
returns-clause-answer g c from tls given =
    let p = c.key_of-process_id.result.0 in
    let q = c.key_of-process_id.result.1 in
    c.send.ensures.answer from tls
    (under-way (known g.L.Link.view g.T.TlsConnect.connects g.T.TlsConnect.begins g.T.Future.TlsHandshake.polled) (view_of g.L.Link.view g.T.Future.Stream.Link.view)
    c.args.self.now.info from tls c.args.link _ given
    (written _ c.new-bytes.result.unsent.items c.cancel_request.new.out.items c.cancel_request.result c.is_err.result
    c.cancel_request.ensures c.is_err.ensures.value c.if-is_err.false c.new-bytes.ensures.unsent
    ∙ same-frame (cast_signed w32 (cast_unsigned w32 p)) (cast_signed w32 (cast_unsigned w32 q)) c.args.self.now.info.process_id c.args.self.now.info.secret_key
    (to_z-of_z w32 p c.key_of-process_id.ensures.fits.0 ∙ ap (λ (x : ℤ × ℤ). x.0) c.key_of-process_id.ensures.value)
    (to_z-of_z w32 q c.key_of-process_id.ensures.fits.1 ∙ ap (λ (x : ℤ × ℤ). x.1) c.key_of-process_id.ensures.value))
    c.new-bytes.ensures.flushed)

pub returns-then-is_err-clause-answer : goal.returns-then-is_err-clause-answer
returns-then-is_err-clause-answer g c from tls given =
    lacks-first (known g.L.Link.view g.T.TlsConnect.connects g.T.TlsConnect.begins g.T.Future.TlsHandshake.polled) (view_of g.L.Link.view g.T.Future.Stream.Link.view)
    c.args.self.now.info from tls c.args.link given
