-- A command whose answer is told in other words is one that a session takes.
use Rattle.std.proofs.Common.{◌≡◌, [], Result, Err, refl, ap, subst, append-nil}
use Rattle.pg_types.specs.declared.error.Error.{Error}
use Rattle.pg_types.specs.declared.error.Error.TheVariants.{OutOfMemory}
use Rattle.pg_query.specs.Dialogue.{Dialogue, Answer, Ask, Send, Leave, Read, Put, Finish, Close, HangUp, Call, Hear}
use Rattle.pg_core.specs.Behind.{behind}
use Rattle.pg_core.specs.Times.{IsCommand, LacksMemory}
use Rattle.pg_core.proofs.Behind.{command-behind}
use Rattle.pg_query_laws.proofs.Behind.{whole-behind}
use Rattle.pg_session.specs.Speeches.{BooksWhole}
use Rattle.pg_table.specs.Mapped.{mapped, mapped_answer}

module _ {T U : Type 0} (f : T → U) where
  -- an answer, in these words
  abbrev told : Result T Error → Dialogue U
  told r = Answer (mapped_answer f r)

  -- told so behind the dialogue it is the dialogue in these words
  behind-mapped : (d : Dialogue T) → behind [] d told ≡ mapped f d
  behind-mapped (Answer r) = refl
  behind-mapped (Ask copying part d) = ap (λ (x : Dialogue U). Ask copying part x) (behind-mapped d)
  behind-mapped (Send part refused d) = λ i. Send part (λ e. behind-mapped (refused e) i) (behind-mapped d i)
  behind-mapped (Leave id d) = ap (λ (x : Dialogue U). Leave id x) (behind-mapped d)
  behind-mapped (Read cleanup decides next) = λ i. Read (append-nil cleanup i) decides (λ ms. behind-mapped (next ms) i)
  behind-mapped (Put cleanup part d) = λ i. Put (append-nil cleanup i) part (behind-mapped d i)
  behind-mapped (Finish part d) = ap (λ (x : Dialogue U). Finish part x) (behind-mapped d)
  behind-mapped (Close part d) = ap (λ (x : Dialogue U). Close part x) (behind-mapped d)
  behind-mapped (HangUp d) = ap (λ (x : Dialogue U). HangUp x) (behind-mapped d)
  behind-mapped (Call q refused next) = λ i. Call q (λ e. behind-mapped (refused e) i) (λ r. behind-mapped (next r) i)
  behind-mapped (Hear next) = λ i. Hear (λ r. behind-mapped (next r) i)

  told-command : (r : Result T Error) → IsCommand (told r)
  told-command r = record { tidy = tt; nothing = tt; sane = tt; in_time = tt; faithful = tt }

  told-lacks : (r : Result T Error) → r ≡ Err OutOfMemory → LacksMemory (told r)
  told-lacks r is = ap (λ (x : Result T Error). mapped_answer f x) is

  pub command-mapped : (d : Dialogue T) → IsCommand d → IsCommand (mapped f d)
  command-mapped d h = subst (λ (x : Dialogue U). IsCommand x) (behind-mapped d) (command-behind [] tt told told-command told-lacks d h)

  pub books-mapped : (d : Dialogue T) → BooksWhole d → BooksWhole (mapped f d)
  books-mapped d h = subst (λ (x : Dialogue U). BooksWhole x) (behind-mapped d) (whole-behind [] told (λ r. tt) d h)
