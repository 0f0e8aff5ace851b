use Rattle.std.proofs.Common.{◌≡◌, List, ℕ, Option, None, option_map, false, sym, ◌∙◌, ap}
use Rattle.pg_types.specs.Texts.{sql_text}
use Rattle.pg_types.specs.declared.sql.Sql.{Sql}
use Rattle.pg_query.specs.Reading.{reads}
use Rattle.pg_spec.specs.RawMessages.{RawMessage}
use Rattle.pg_streams.specs.Hearing.{First, IsNoItem}
use Rattle.pg_streams.specs.SimpleStates.{asks_text}
use Rattle.pg_streams.specs.SimpleStreams.{asks_by, parts_from, simple_query_raw}
use Rattle.pg_streams.proofs.Asking.{asks-refused, text-refused}
use Rattle.pg_streams.proofs.simple_query_raw.SimpleQueryRawStateOpens.poll.Goals as goal

-- nothing is told before the stream is there
abbrev nothing-first : List RawMessage → First (Unit {0}) (Unit {0})
nothing-first more = record { told = None; giving = tt; left = more }

pub returns-in-Err-clause-opens : goal.returns-in-Err-clause-opens
returns-in-Err-clause-opens g c k said =
    let d = asks_text (option_map sql_text c.args.self.now.text) in
    let is : d ≡ simple_query_raw c.as_str.result.now = ap (λ (o : Option Sql). asks_text (option_map sql_text o)) (sym c.take.ensures.value ∙ c.in-Some.is) ∙ ap (λ (t : List ℕ). simple_query_raw t) (sym c.as_str.ensures) in
    text-refused g.D.Desk.becomes g.met.D.Desk.stays c.args.stamp c.args.desk.now d 0 c.as_str.result.now c.in-Err.error nothing-first (λ first. IsNoItem first.told) is (rw c.in-Err.is at c.query_frame-frame.ensures) tt

pub returns-in-Err-book-clause-opens : goal.returns-in-Err-book-clause-opens
returns-in-Err-book-clause-opens g c k said =
    let d = asks_text (option_map sql_text c.args.self.now.text) in
    let is : d ≡ simple_query_raw c.as_str.result.now = ap (λ (o : Option Sql). asks_text (option_map sql_text o)) (sym c.take.ensures.value ∙ c.in-Some.is) ∙ ap (λ (t : List ℕ). simple_query_raw t) (sym c.as_str.ensures) in
    asks-refused g.D.Desk.becomes c.args.stamp c.args.desk.now c.book.new.self d (reads false (parts_from None)) 0 c.in-Ok.frame c.in-Err-book.fault c.error_of.result nothing-first (λ first. IsNoItem first.told)
    (is ∙ ap asks_by (rw c.in-Ok.is at c.query_frame-frame.ensures)) c.in-Err-book.ensures.event c.error_of.ensures tt
