-- A dialogue behind another: each request is let go, and whole.
use Rattle.std.proofs.Common.{List, Result}
use Rattle.pg_types.specs.declared.error.Error.{Error}
use Rattle.pg_query.specs.Dialogue.{Dialogue, Answer, Ask, Send, Leave, Read, Put, Finish, Close, HangUp, Call, Hear}
use Rattle.pg_query.specs.Leaving.{Holds, Nothing, Request, LetsGo, after_reading}
use Rattle.pg_query.specs.declared.desk_call.Cleanup.{Cleanup}
use Rattle.pg_core.specs.Behind.{behind}
use Rattle.pg_session.specs.Speeches.{BooksWhole}

module _ {A T : Type 0} (extra : List Cleanup) (f : Result A Error → Dialogue T) (later : (r : Result A Error) → LetsGo Nothing (f r)) where
  pub lets-behind : (h : Holds) (d : Dialogue A) → LetsGo h d → LetsGo h (behind extra d f)
  lets-behind Nothing (Answer r) k = later r
  lets-behind Request (Answer r) k = absurd k
  lets-behind h (Ask copying part d) k = (k.0, lets-behind Request d k.1)
  lets-behind h (Send part refused d) k = (λ e. lets-behind h (refused e) (k.0 e), lets-behind h d k.1)
  lets-behind h (Leave id d) k = lets-behind h d k
  lets-behind h (Read cleanup decides next) k = λ ms e. lets-behind (after_reading h ms) (next ms) (k ms e)
  lets-behind h (Put cleanup part d) k = lets-behind h d k
  lets-behind h (Finish part d) k = lets-behind h d k
  lets-behind h (Close part d) k = lets-behind h d k
  lets-behind h (HangUp d) k = lets-behind Nothing d k
  lets-behind h (Call q refused next) k = (λ e. lets-behind h (refused e) (k.0 e), λ r fit. lets-behind h (next r) (k.1 r fit))
  lets-behind h (Hear next) k = λ r. lets-behind h (next r) (k r)

module _ {A T : Type 0} (extra : List Cleanup) (f : Result A Error → Dialogue T) (later : (r : Result A Error) → BooksWhole (f r)) where
  pub whole-behind : (d : Dialogue A) → BooksWhole d → BooksWhole (behind extra d f)
  whole-behind (Answer r) k = later r
  whole-behind (Ask copying part d) k = (k.0, k.1, whole-behind d k.2)
  whole-behind (Send part refused d) k = (k.0, λ e. whole-behind (refused e) (k.1 e), whole-behind d k.2)
  whole-behind (Leave id d) k = whole-behind d k
  whole-behind (Read cleanup decides next) k = λ ms. whole-behind (next ms) (k ms)
  whole-behind (Put cleanup part d) k = absurd k
  whole-behind (Finish part d) k = absurd k
  whole-behind (Close part d) k = absurd k
  whole-behind (HangUp d) k = whole-behind d k
  whole-behind (Call q refused next) k = (λ e. whole-behind (refused e) (k.0 e), λ r fit. whole-behind (next r) (k.1 r fit))
  whole-behind (Hear next) k = λ r. whole-behind (next r) (k r)
