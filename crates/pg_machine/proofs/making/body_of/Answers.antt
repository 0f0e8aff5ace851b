use Rattle.std.proofs.Common.{sym, ap, ◌∙◌, ◌≡◌, ◌∷◌, [], subst, Option, Ok, Some, List, ℕ}
use Rattle.std.specs.Option.{IfSome}
use Rattle.pg_spec.specs.RawMessages.{message_at, messages}
use Rattle.pg_wire.specs.declared.body.ErrorResponseBody.{ErrorResponseBody}
use Rattle.pg_wire.specs.declared.message.Message.{Message}
use Rattle.pg_wire.specs.declared.message.Message.TheVariants as wire
use Rattle.pg_wire.specs.Messages.{error_body_of}
use Rattle.pg_wire.specs.Parse.{Parses, TakesFront}
use Rattle.pg_machine.specs.Making.{error_of}
use Rattle.pg_machine.proofs.MakingLaws.{error_is}
use Rattle.pg_machine.proofs.making.body_of.Goals as goal

pub returns-in-ErrorResponse : goal.returns-in-ErrorResponse
returns-in-ErrorResponse c =
    let old : List ℕ = c.in-Ok.bytes in
    let new : List ℕ = c.parse.new.buf in
    let body = c.in-ErrorResponse.field-0 in
    let some : Parses old new (Ok (Some c.in-Ok-Some.message)) = subst (λ (o : Option Message). Parses old new (Ok o)) c.in-Ok-Some.field-0-is c.in-Ok-Some.ensures in
    let front : TakesFront old new (wire.ErrorResponse body) = subst (λ (m : Message). TakesFront old new m) c.in-ErrorResponse.is some in
    let given : c.error_body.result ≡ Some body = c.error_body.ensures ∙ ap error_body_of c.in-ErrorResponse.is in
    subst (λ (r : Option ErrorResponseBody). IfSome r (λ b. messages c.args.refusal.now ≡ error_of b.fields ∷ [])) (sym given)
    (error_is c.args.refusal.now front.raw new body.fields c.requires (ap message_at (sym c.in-Ok.ensures) ∙ front.front) front.means)
