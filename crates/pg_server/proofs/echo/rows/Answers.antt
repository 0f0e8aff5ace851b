use Rattle.std.proofs.Common.{◌∙◌, ◌+◌, ap, refl, List, ℕ, [], ◌∷◌, ◌++◌, length}
use Rattle.std.specs.Int.{w16, w32, to_be_bytes}
use Rattle.std.specs.Str.{byte}
use Rattle.pg_spec.specs.RawMessages.{message_bytes}
use Rattle.pg_server.specs.Echoes.{description, complete}
use Rattle.pg_server.proofs.EchoLaws.{added_up, rows_spelled}
use Rattle.pg_server.proofs.echo.rows.Goals as goal

pub returns : goal.returns
returns c =
    let text : List ℕ = c.args.text.now in
    added_up c.new-bytes.result.items c.add.new.bytes.items c.add-2.new.bytes.items c.add-3.new.bytes.items c.add-4.new.bytes.items c.add-5.new.bytes.items c.add-6.new.bytes.items c.add-7.new.bytes.items
    (message_bytes description) (byte "D" ∷ []) (to_be_bytes w32 (length text + 10)) (to_be_bytes w16 1) (to_be_bytes w32 (length text)) text (message_bytes complete)
    c.new-bytes.ensures.items c.in_ok-add.ensures c.in_ok-add-2.ensures (c.in_ok-add-3.ensures ∙ ap (λ (r : List ℕ). c.add-2.new.bytes.items ++ r) c.to_be_bytes.ensures)
    c.in_ok-add-4.ensures (c.in_ok-add-5.ensures ∙ ap (λ (r : List ℕ). c.add-4.new.bytes.items ++ r) c.to_be_bytes-2.ensures) c.in_ok-add-6.ensures c.in_ok-add-7.ensures
    ∙ rows_spelled text (length text + 10) (length text) refl refl
