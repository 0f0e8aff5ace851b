-- The parts of a report's text that several calls write.
use Rattle.std.specs.Prelude.{◌≡◌, ℕ, ℤ, List, [], ◌∷◌, ◌++◌, map, flat_map, codes, decimal, string_bytes, OnOk, Result, String}
use Rattle.std.specs.List.{enumerate_from, join_with_byte}
use Rattle.pg_spec.specs.DbErrors.{DbError}
use Rattle.hex.specs.Hex.{encode_lower}
use Rattle.pg_spec.specs.ReportText.{line, signed, quoted, async_line, book_line, turn_line}
use Rattle.pg_errors.specs.Views.{async_of}
use Rattle.pg_errors.specs.declared.async_message.Notification.{Notification}
use Rattle.pg_desk.specs.declared.event.Booking.{Booking}
use Rattle.pg_spec.specs.declared.stamps.Stamp.{Stamp}
use Rattle.pg_text.specs.declared.command.Answer.{Answer}
use Rattle.pg_text.specs.declared.report.Pair.{Pair}
use Rattle.pg_text.specs.declared.report.Report.{Report}
use Rattle.pg_text.specs.ReportText.{answer_lines, answer_words, further_lines, script_lines}
use Rattle.pg_text.specs.Views.{booking_of}

-- where memory was enough, this piece stands behind what stood there
abbrev pub Adds : {A E Z : Type 0} → (piece : List ℕ) → (old new : String Z) → Result A E → Type 0
Adds piece old new result = OnOk result (string_bytes new ≡ string_bytes old ++ piece)

-- a line for each setting
abbrev pub parameter_lines : List Pair → List ℕ
parameter_lines pairs = flat_map (λ (pair : List ℕ × List ℕ). line (codes "parameter" ∷ quoted pair.0 ∷ quoted pair.1 ∷ [])) (map (λ p. (p.name, p.value)) pairs)

-- severity, code and message
abbrev pub error_fields : DbError → List ℕ
error_fields error = join_with_byte 32 (quoted error.severity ∷ quoted error.code.code ∷ quoted error.message ∷ [])

-- each word behind a space
abbrev pub behind_spaces : {A : Type 0} → (A → List ℕ) → List A → List ℕ
behind_spaces word items = flat_map (λ item. 32 ∷ word item) items

-- the same of words that stand already
abbrev pub words_behind : List (List ℕ) → List ℕ
words_behind words = join_with_byte 32 ([] ∷ words)

-- the lines of the answers of a handle, whose commands are counted from this number
abbrev pub answers_from : ℕ → ℕ → List Answer → List ℕ
answers_from handle command answers = flat_map (answer_lines handle) (enumerate_from command answers)

-- the lines of the answers of the handles, counted from this number
abbrev pub scripts_from : ℕ → List (List Answer) → List ℕ
scripts_from handle scripts = flat_map script_lines (enumerate_from handle scripts)

-- the lines of the requests, counted from this number
abbrev pub book_from : ℕ → List Booking → List ℕ
book_from k book = flat_map book_line (enumerate_from k (map booking_of book))

-- the line of the bytes that were sent
abbrev pub sent_line : List ℕ → List ℕ
sent_line sent = line (codes "sent" ∷ encode_lower sent ∷ [])

-- the process of the server, and its key
unfoldable pub process_line : ℤ → ℤ → List ℕ
process_line process_id secret_key = line (codes "process" ∷ signed process_id ∷ signed secret_key ∷ [])

-- what is said of the session as a whole
abbrev pub session_lines : Report → List ℕ
session_lines r =
    process_line r.process_id r.secret_key
    ++ parameter_lines r.parameters
    ++ flat_map async_line (map async_of r.asynchronous)

-- what the scripts did, and what went over the link
abbrev pub work_lines : Report → List ℕ
work_lines r =
    scripts_from 0 r.answers
    ++ book_from 0 r.book
    ++ flat_map turn_line r.trace
    ++ sent_line r.sent

-- what stands behind `async` for a notice
abbrev pub notice_words : DbError → List ℕ
notice_words notice = codes "notice " ++ (error_fields notice ++ 10 ∷ [])

-- what stands behind `async` for a notification
abbrev pub notification_words : Notification → List ℕ
notification_words n = line (codes "notification" ∷ signed n.process_id ∷ quoted n.channel ∷ quoted n.payload ∷ [])

-- owner, command and turn, each behind a space, and a space behind them
abbrev pub stamp_words : Stamp → List ℕ
stamp_words stamp = 32 ∷ decimal stamp.owner ++ 32 ∷ decimal stamp.command ++ 32 ∷ decimal stamp.turn ++ 32 ∷ []

-- an answer behind the numbers of its handle and command
abbrev pub answered : Answer → List ℕ
answered answer = 32 ∷ line (answer_words answer) ++ further_lines answer
