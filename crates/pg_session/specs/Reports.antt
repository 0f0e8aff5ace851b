-- The report of a session that ended.
use Rattle.std.specs.Prelude.{◌≡◌, ℕ, List, ◌++◌, map, ℤ}
use Rattle.pg_spec.specs.Book.{wire}
use Rattle.pg_spec.specs.Frames.{terminate_frame}
use Rattle.pg_core.specs.Trails.{said_booking}
use Rattle.pg_errors.specs.Views.{async_of}
use Rattle.pg_promises.specs.Endings.{Report}
use Rattle.pg_session.specs.States.{SessionState}

-- The report tells what stands at the end, where `opening` is what startup sent, and `cancelled_by` the server's process
-- and the secret key that startup kept.
pub record Reports {T A E : Type 0} (opening : List ℕ) (cancelled_by : ℤ × ℤ) (s : SessionState T A E) (r : Report A) : Type 0 where
  pub answers : r.answers ≡ map (λ handle. handle.answers) s.handles
  pub asynchronous : r.asynchronous ≡ map async_of s.asynchronous
  pub parameters : r.parameters ≡ s.streams.parameters
  pub key : (r.process_id, r.secret_key) ≡ cancelled_by
  pub book : r.book ≡ map said_booking s.hub.book
  pub trace : r.trace ≡ s.trace
  pub sent : r.sent ≡ opening ++ wire (map said_booking s.hub.book) ++ terminate_frame
