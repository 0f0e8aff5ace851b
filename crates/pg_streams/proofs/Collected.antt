-- The reply to a simple query, whose parts are collected: what a message makes of it.
use Rattle.std.proofs.Common.{◌≡◌, ℕ, List, [], ◌∷◌, ◌++◌, false, Option, Some, None, is_some, Result, Ok, Err, IfOk, refl, sym, ◌∙◌, ap, subst, append_assoc, append-nil}
use Rattle.std.specs.declared.alloc.AllocError.{AllocError}
use Rattle.pg_spec.specs.Faults as spec
use Rattle.pg_spec.specs.Messages.{Message, message_of}
use Rattle.pg_spec.specs.RawMessages.{RawMessage}
use Rattle.pg_types.specs.declared.error.Error.{Error}
use Rattle.pg_query.specs.Dialogue.{Dialogue, Ask, Read}
use Rattle.pg_query.specs.Messages.{IsMalformed}
use Rattle.pg_query.specs.Reading.{ReadsOn, ends, reads}
use Rattle.pg_query.specs.Replies.{malformed_error}
use Rattle.pg_query.specs.Scripts.{cleanup_of}
use Rattle.pg_query.specs.declared.desk_call.Cleanup.TheVariants.{Release}
use Rattle.pg_core.specs.Composing.{asks_for, or_encode}
use Rattle.pg_streams.specs.PartLaws.{parts_malformed}
use Rattle.pg_streams.specs.PartTelling.{Shows}
use Rattle.pg_streams.specs.PartsReadings.{Collects, reading_of_parts}
use Rattle.pg_streams.specs.SimpleStreams.{asks_by, parts_from, simple_said}
use Rattle.pg_streams.specs.Telling.{GivesOn, told_behind}
use Rattle.pg_streams.specs.declared.giving.Told.{Told}
use Rattle.pg_streams.specs.declared.giving.Told.TheVariants.{Item, Ends, Fails}
use Rattle.pg_streams.specs.declared.parts_reading.PartsReading.{PartsReading}
use Rattle.pg_streams.specs.declared.simple_giving.SimpleGiving.{SimpleGiving}
use Rattle.pg_streams.specs.declared.simple_query_message.SimpleQueryMessage.{SimpleQueryMessage}
use Rattle.pg_streams.proofs.Parts.{gives-seen}
use Rattle.pg_streams.proofs.Telling.{told-twice, told-whole}

abbrev Parts : Type 0
Parts = List SimpleQueryMessage

abbrev Answer : Type 0
Answer = Option (Result Parts Error)

-- the parts that came, in front of others
abbrev front : Parts → Parts → Parts
front before later = before ++ later

-- a malformed message is the answer
pub malformed-collected : (r : PartsReading) (raw : RawMessage) (fault : Option spec.WireFault) (e : Error) → IsMalformed raw fault → Some e ≡ malformed_error fault → reading_of_parts r (raw ∷ []) ≡ Some (Err e)
malformed-collected r raw None e m h = absurd m
malformed-collected r raw (Some c) e m h =
    let same : e ≡ spec.Parse (spec.Wire c) = cc in
    ap (told_behind (front r.parts)) (parts_malformed r.giving.columns raw c m) ∙ ap (λ (x : Error). let a : Answer = Some (Err x) in a) (sym same)

-- a part more stands behind the others, whatever comes
one-more : (before behind : Parts) (part : SimpleQueryMessage) → behind ≡ before ++ part ∷ [] → (o : Answer) → told_behind (front before) (told_behind (λ parts. part ∷ parts) o) ≡ told_behind (front behind) o
one-more before behind part is o =
    told-twice (front before) (λ parts. part ∷ parts) o
    ∙ (λ i. told_behind (λ (later : Parts). sym (append_assoc before (part ∷ []) later) i) o)
    ∙ (λ i. told_behind (front (sym is i)) o)

-- a message that is well made is collected
pub message-collected : (old new : PartsReading) (raw : RawMessage) (m : Message) → message_of raw ≡ Ok m → (told : Told SimpleQueryMessage) (answer : Answer) →
    Shows (simple_said old.giving.columns m) old.giving (Some told) new.giving → Collects old.parts told answer new.parts → ReadsOn reading_of_parts old raw answer new
message-collected old new raw m means (Item part) None shows c =
    let g = gives-seen old.giving new.giving raw m means (Item part) shows in (
      ap (told_behind (front old.parts)) g.0,
      λ ms. ap (told_behind (front old.parts)) (g.1 ms) ∙ one-more old.parts new.parts part c (parts_from new.giving.columns ms),
    )
message-collected old new raw m means Ends (Some (Ok parts)) shows c =
    let g = gives-seen old.giving new.giving raw m means Ends shows in
    ap (told_behind (front old.parts)) g ∙ ap (λ (l : Parts). let a : Answer = Some (Ok l) in a) (append-nil old.parts ∙ sym c)
message-collected old new raw m means (Fails e) (Some (Err error)) shows c =
    let g = gives-seen old.giving new.giving raw m means (Fails e) shows in
    ap (told_behind (front old.parts)) g ∙ ap (λ (x : Error). let a : Answer = Some (Err x) in a) (sym c)
message-collected old new raw m means told answer shows c = absurd c

-- the same, where memory may lack for it
pub collected : (old new : PartsReading) (mid : SimpleGiving) (raw : RawMessage) (m : Message) → message_of raw ≡ Ok m → (told : Told SimpleQueryMessage) (r : Result Answer AllocError) →
    Shows (simple_said old.giving.columns m) old.giving (Some told) mid → new.giving ≡ mid → IfOk r (λ answer. Collects old.parts told answer new.parts) → IfOk r (λ answer. ReadsOn reading_of_parts old raw answer new)
collected old new mid raw m means told (Ok answer) shows same c =
    message-collected old new raw m means told answer (subst (λ (g : SimpleGiving). Shows (simple_said old.giving.columns m) old.giving (Some told) g) (sym same) shows) c
collected old new mid raw m means told (Err e) shows same c = tt

-- ---- the request

-- where nothing came yet
whole : (r : PartsReading) → r.giving.columns ≡ None → r.parts ≡ [] → (ms : List RawMessage) → reading_of_parts r ms ≡ parts_from None ms
whole r columns none ms =
    (λ i. told_behind (front (none i)) (parts_from (columns i) ms)) ∙ told-whole (parts_from None ms)

-- a text is asked by its request, and its parts are collected
pub asks-whole : (r : PartsReading) → r.giving.columns ≡ None → r.parts ≡ [] → (frame : Result (List ℕ) spec.FrameFault) → asks_for (or_encode frame) (reads false (reading_of_parts r)) ≡ asks_by frame
asks-whole r columns none (Ok frame) = λ i. Ask false frame (Read (Release ∷ []) (λ ms. is_some (whole r columns none ms i)) (λ ms. ends false (whole r columns none ms i)))
asks-whole r columns none (Err fault) = refl

-- where the request is asked so, so is the text
pub asked : (frame : Result (List ℕ) spec.FrameFault) (request : Result (List ℕ) Error) (r : PartsReading) (d : Dialogue Parts) → request ≡ or_encode frame → r.giving.columns ≡ None → r.parts ≡ [] →
    d ≡ asks_for request (reads false (reading_of_parts r)) → d ≡ asks_by frame
asked frame request r d is columns none asks = asks ∙ ap (λ (x : Result (List ℕ) Error). asks_for x (reads false (reading_of_parts r))) is ∙ asks-whole r columns none frame

-- before its begin it leaves nothing to do
pub text-clean : (frame : Result (List ℕ) spec.FrameFault) → cleanup_of (asks_by frame) ≡ []
text-clean (Ok frame) = refl
text-clean (Err fault) = refl
