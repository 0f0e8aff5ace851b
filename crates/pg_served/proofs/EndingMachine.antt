-- A session over a link to a machine that was just made: nothing but want of memory is left.
use Rattle.std.proofs.Common.{◌≡◌, ℕ, List, [], ◌++◌, length, Option, Some, None, Err, Ok, inl, inr, refl, ap, ◌∙◌, subst}
use Rattle.std.specs.Prelude.{map}
use Rattle.std.specs.List.{AllByRecursion}
use Rattle.pg_promises.specs.Causes.{Call}
use Rattle.pg_promises.specs.ConnectionStrings.{Means}
use Rattle.pg_promises.specs.Promises.{EndsWell, SentInOrder}
use Rattle.pg_spec.specs.Book.{Booking, wire}
use Rattle.pg_spec.specs.Faults.{Failure}
use Rattle.pg_spec.specs.Frames.{startup_frame, terminate_frame}
use Rattle.pg_spec.specs.RawMessages.{messages}
use Rattle.pg_spec.specs.Sent.{after_startup_frame}
use Rattle.pg_spec.specs.Settings.{Settings, startup_parameters}
use Rattle.pg_machine.specs.Serving.{Service, joined, served}
use Rattle.pg_machine.specs.Requests.{SoundAlong}
use Rattle.pg_machine.specs.Sessions.{begun, frames_of, spoken}
use Rattle.pg_machine.proofs.SessionLaws.{IsStartupFrame, startup-frame}
use Rattle.pg_machine.specs.Machines.{Table, IsMachine}
use Rattle.pg_machine.specs.Machines as machines
use Rattle.pg_machine.specs.MachineLinks.{Served, new_link, due_in}
use Rattle.pg_machine.proofs.SoundLaws.{machine-SoundAlong}
use Rattle.pg_session.proofs.Caused.Frames.{sent-behind}
use Rattle.pg_tool.specs.SessionContract.{SessionContract, SessionResult}
use Rattle.pg_served.specs.Conforming.{Conforms, IsValid, MachineMustEndWell, MayBook}
use Rattle.pg_served.specs.Runs.{Asked, call_over_machine}
use Rattle.pg_served.proofs.Booked.{booked-asks, came}
use Rattle.pg_served.proofs.Crossed.{machine-said}
use Rattle.pg_served.proofs.Ending.{HasCrossed, Left, Opens, Part, Past, Says, Silent, Stands, Taken, dialogue-says, frame-made, frames-written, never-rose, sent-front, taken-of, what-is-left}
use Rattle.pg_served.proofs.Requests.{AsksQuery}
use Rattle.pg_served.proofs.Parts.{part-silent}

module _ (asked : Asked) (table : Table) (startup : List ℕ) (cut room : ℕ) (new : Served) (s : Settings) (f : Failure) (is : IsMachine table)
    (contract : SessionContract (call_over_machine asked (new_link table startup cut room) new) (Err f)) (means : Means asked.config s)
    (v : IsValid (call_over_machine asked (new_link table startup cut room) new) s)
    (c : Conforms (call_over_machine asked (new_link table startup cut room) new) s (machines.service_of table) 0 startup) where
  abbrev service : Service ℕ
  service = machines.service_of table

  abbrev call : Call
  call = call_over_machine asked (new_link table startup cut room) new

  abbrev frame : List ℕ
  frame = c.starts.frame

  abbrev given : List ℕ
  given = new.given ++ due_in new

  k : HasCrossed call new.given new.taken (due_in new)
  k = record { none_given = refl; none_taken = refl; given_is = refl; taken_is = refl; due_is = refl; steady = refl; no_end = never-rose 0 0 refl }

  -- all that it gives, by what follows the startup frame
  abbrev given_by : Option (List ℕ) → List ℕ
  given_by o = elim o [ None ↦ [] | Some rest ↦ startup ++ spoken (served service (begun 0) (messages rest)).reply ]

  said : given ≡ given_by (after_startup_frame new.taken)
  said = machine-said table startup cut room new contract.link

  opens : Opens startup given
  opens = by (after_startup_frame new.taken) refl
    where
      by : (o : Option (List ℕ)) → after_startup_frame new.taken ≡ o → Opens startup given
      by None e = inl (said ∙ ap given_by e)
      by (Some rest) e = inr (spoken (served service (begun 0) (messages rest)).reply, said ∙ ap given_by e)

  sent : SentInOrder call s new.given new.taken
  sent = dialogue-says call s new.given new.taken (due_in new) means k (λ s g t. SentInOrder call s g t) (contract.sent (s, means, tt))

  abbrev book : List Booking
  book = sent.book

  may : MayBook call.scripts book
  may = record { owners = sent.owners; order = sent.order }

  asks : AllByRecursion AsksQuery book
  asks = booked-asks call.scripts book may

  sound : SoundAlong service (begun 0) (joined (map frames_of book))
  sound = machine-SoundAlong table is (begun 0) (joined (map frames_of book))

  first : IsStartupFrame frame
  first = startup-frame s call.nonce (messages startup) frame (length (messages startup)) c.starts.done

  made : startup_frame (startup_parameters s) ≡ Ok frame
  made = frame-made s call.nonce startup c.starts

  taken : Taken frame (wire book ++ terminate_frame) new.taken
  taken = taken-of frame (wire book ++ terminate_frame) new.taken
      (sent-front call s frame new.given new.taken v sent (frames-written s call.nonce startup c.starts new.given (due_in new) opens))

  stands : Stands service 0 startup frame book given new.taken
  stands = by taken
    where
      by : Taken frame (wire book ++ terminate_frame) new.taken → Stands service 0 startup frame book given new.taken
      by (Part rest x e) = Silent rest x e (said ∙ ap given_by (part-silent first.rest new.taken rest x (e ∙ first.is) first.few))
      by (Past more unsent e ends) =
          Says (came service 0 startup s frame made book asks given new.taken more unsent e ends
          (said ∙ ap given_by (ap after_startup_frame e ∙ sent-behind s frame more made)))

  left : Left call f
  left = what-is-left ℕ service 0 startup call s means v c.starts book asks (c.gives book may) sound new.given new.taken (due_in new) k stands f contract.cause

  -- its link never fails
  pub ended-new : EndsWell (Err f)
  ended-new = elim left [ inl well ↦ well | inr link ↦ absurd (never-rose 0 0 refl link.1) ]

pub machine-ends : (asked : Asked) (old new : Served) (r : SessionResult) → IsMachine old.table → SessionContract (call_over_machine asked old new) r → MachineMustEndWell asked old new r
machine-ends asked old new (Ok report) is contract = λ table startup s made means v c. tt
machine-ends asked old new (Err f) is contract = λ table startup s made means v c.
    let from : old ≡ new_link table startup made.cut made.room = made.link_is in
    ended-new asked table startup made.cut made.room new s f (subst IsMachine (ap (λ (m : Served). m.table) from) is)
    (subst (λ (m : Served). SessionContract (call_over_machine asked m new) (Err f)) from contract) means
    (record { user = v.user; nonce = v.nonce; no_tls = v.no_tls }) (record { starts = c.starts; gives = c.gives })
