-- The requests of a book, as bytes and as frames.
use Rattle.std.proofs.Common.{◌≡◌, ℕ, List, [], ◌∷◌, Result, Ok, Err, refl, ap, ◌∙◌}
use Rattle.std.specs.Prelude.{IfOk, map}
use Rattle.std.specs.List.{concat}
use Rattle.pg_desk.specs.declared.event.Booking.{Booking}
use Rattle.pg_spec.specs.RawMessages.{RawMessage, messages}
use Rattle.pg_text.specs.Views.{booking_of}
use Rattle.pg_types.specs.declared.memory.OutOfMemory.{OutOfMemory}
use Rattle.pg_machine.specs.Serving.{one_at_a_time}
use Rattle.pg_machine.specs.Sessions.{alone, begun, frames_of, spoken}
use Rattle.pg_machine.specs.Alone.{replies_alone}
use Rattle.pg_machine.specs.Machines.{Table, service_of}

frames-same : (book : List Booking) → map messages (map (λ (b : Booking). concat b.parts) book) ≡ map frames_of (map booking_of book)
frames-same [] = refl
frames-same (b ∷ book) = ap (λ (rest : List (List RawMessage)). messages (concat b.parts) ∷ rest) (frames-same book)

pub replies-are : (table : Table) (book : List Booking) (requests : List (List ℕ)) (r : Result (List (List ℕ)) OutOfMemory) → requests ≡ map (λ (b : Booking). concat b.parts) book →
    IfOk r (λ replies. replies ≡ replies_alone table requests) → IfOk r (λ replies. replies ≡ map spoken (alone (service_of table) 0 (map booking_of book)))
replies-are table book requests (Err e) is h = tt
replies-are table book requests (Ok replies) is h =
    h ∙ ap (λ (all : List (List ℕ)). replies_alone table all) is
    ∙ ap (λ (frames : List (List RawMessage)). map spoken (one_at_a_time (service_of table) (begun 0) frames)) (frames-same book)
