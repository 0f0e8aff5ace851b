use Rattle.std.proofs.Common.{◌≡◌, ℕ, List, [], ◌∷◌, Option, Ok, Err, true, is_some, map, sym, ap, ◌∙◌, subst}
use Rattle.pg_spec.specs.Readings.{GoesOn, Answers}
use Rattle.pg_spec.specs.SimpleQuery.{has_enough, simple_message}
use Rattle.pg_wire.specs.Messages.{message_view}
use Rattle.pg_query.specs.Messages.{Means}
use Rattle.pg_query.specs.declared.simple_message.SimpleMessage.{SimpleMessage}
use Rattle.pg_client.specs.Simple.{state_of, item_of, FailsBy}
use Rattle.pg_client.proofs.Telling.{told-enough, told-malformed, told-fails, told-ends, told-later, next-of}
use Rattle.pg_client.proofs.simple_reading.SimpleReading.tell.Goals as goal

pub returns-then-has_enough-clause-reads : goal.returns-then-has_enough-clause-reads
returns-then-has_enough-clause-reads c raw means =
    let old = c.args.self.now in
    told-enough old.take (state_of old) (raw ∷ []) c.give.result (sym c.has_enough.ensures ∙ c.if-has_enough.true) (ap (λ (l : List SimpleMessage). map item_of l) (sym c.give.ensures))

pub returns-in-Some-clause-reads : goal.returns-in-Some-clause-reads
returns-in-Some-clause-reads c raw means =
    let old = c.args.self.now in
    let malformed : Means raw (Err c.in-Err.fault) = rw c.in-Err.is at means in
    told-malformed old.take (state_of old) raw c.in-Err.fault c.in-Some.error (sym c.has_enough.ensures ∙ c.if-has_enough.false) malformed c.in-Some.ensures

pub returns-in-Ok-Fails-clause-reads : goal.returns-in-Ok-Fails-clause-reads
returns-in-Ok-Fails-clause-reads c raw means =
    let old = c.args.self.now in
    let meant : Means raw (Ok c.in-Ok.message) = rw c.in-Ok.is at means in
    let fails : FailsBy (simple_message (state_of old) (message_view c.in-Ok.message)) c.in-Ok-Fails.error = rw c.in-Ok-Fails.field-0-is at c.in-Ok-Fails.ensures.seen in
    told-fails old.take (state_of old) raw _ c.in-Ok-Fails.error (sym c.has_enough.ensures ∙ c.if-has_enough.false) (next-of (state_of old) raw (message_view c.in-Ok.message) meant) fails

pub returns-in-Ok-Ends-clause-reads : goal.returns-in-Ok-Ends-clause-reads
returns-in-Ok-Ends-clause-reads c raw means =
    let old = c.args.self.now in
    let new = c.see.new.self in
    let meant : Means raw (Ok c.in-Ok.message) = rw c.in-Ok.is at means in
    let ends : simple_message (state_of old) (message_view c.in-Ok.message) ≡ Answers (Ok (state_of new).items) = rw c.in-Ok-Ends.field-0-is at c.in-Ok-Ends.ensures.seen in
    told-ends old.take (state_of old) raw (state_of new).items c.give-in-Ok-Ends.result (sym c.has_enough.ensures ∙ c.if-has_enough.false)
    (next-of (state_of old) raw (message_view c.in-Ok.message) meant ∙ ends) (ap (λ (l : List SimpleMessage). map item_of l) (sym c.give-in-Ok-Ends.ensures))

pub returns-then-has_enough-2-clause-reads : goal.returns-then-has_enough-2-clause-reads
returns-then-has_enough-2-clause-reads c raw means =
    let old = c.args.self.now in
    let new = c.see.new.self in
    let meant : Means raw (Ok c.in-Ok.message) = rw c.in-Ok.is at means in
    let goes : simple_message (state_of old) (message_view c.in-Ok.message) ≡ GoesOn (state_of new) = rw c.in-Ok-More.field-0-is at c.in-Ok-More.ensures.seen in
    let take : new.take ≡ old.take = c.in-Ok-More.ensures.take in
    let enough : is_some (has_enough old.take (state_of new)) ≡ true =
    subst (λ (t : Option ℕ). is_some (has_enough t (state_of new)) ≡ true) take (sym c.has_enough-in-Ok-More.ensures ∙ c.if-has_enough-2.true) in
    told-later old.take (state_of old) (state_of new) raw [] (sym c.has_enough.ensures ∙ c.if-has_enough.false) (next-of (state_of old) raw (message_view c.in-Ok.message) meant ∙ goes)
    ∙ told-enough old.take (state_of new) [] c.give-then-has_enough-2.result enough (ap (λ (l : List SimpleMessage). map item_of l) (sym c.give-then-has_enough-2.ensures))
