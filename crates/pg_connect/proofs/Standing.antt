-- How a history grows.
use Rattle.std.proofs.Common.{◌≡◌, ◌+◌, Bool, true, false, IsTrue, List, [], ◌++◌, length, refl, sym, ap, ◌∙◌, append_assoc, length-append, arith, inl, inr}
use Rattle.std.proofs.lemmas.List.{append-nil}
use Rattle.std.proofs.lemmas.List.Elements.{filter-append, filter_map-append}
use Rattle.std.proofs.lemmas.List.Sums.{fold-append}
use Rattle.pg_spec.specs.Asides.{is_readable}
use Rattle.pg_spec.specs.Frames.{terminate_frame}
use Rattle.pg_spec.specs.Links.{LinkView}
use Rattle.pg_spec.specs.Parameters.{parameter_reports}
use Rattle.pg_spec.specs.RawMessages.{RawMessage, messages, sync_of, async_of}
use Rattle.pg_desk.specs.declared.event.Event.{Event}
use Rattle.pg_connect.specs.declared.streams.Streams.{Streams}
use Rattle.pg_connect.specs.Answers.{fresh, left_open}
use Rattle.pg_connect.specs.Ends.{IsFlushedFrom, last_is, some_is, has_none}
use Rattle.pg_connect.specs.Kept.{keep, keep_all}
use Rattle.pg_connect.specs.Passed.{delivered_by, bytes_out_by}
use Rattle.pg_connect.specs.Passes.{Passes, waiting, delayed_in, goodbye}
use Rattle.pg_connect.specs.Reads.{AllDecoded, is_full}
use Rattle.pg_connect.specs.Polls.{Waits, ReadDry}
use Rattle.pg_connect.specs.Histories.{History, Stands, Settled, extended}
use Rattle.pg_connect.proofs.Joining.{all_then, relay, grew_then, keeps_then, came_off_then, rest_then, out_then, delivered_by-append, bytes_out_by-append, none_lost, risen_then}

absurd_true : {X : Type 0} → IsTrue false → X
absurd_true e = absurd (let no_way : false ≡ true = e in cc)

pub stands_after : (s t : Streams) (base l m : LinkView) (es : List Event) (hs : List RawMessage) (h : History) → Stands s base l h →
    (p : Passes (fresh s) (left_open t) l m es hs) → Stands t base m (extended h p.read es hs)
stands_after s t base l m es hs h is p = record {
  given = is.given ++ p.got;
  taken = is.taken ++ p.sent;
  lost = p.lost;
  gave = grew_then base.given l.given m.given is.given p.got is.gave p.given;
  took = grew_then base.taken l.taken m.taken is.taken p.sent is.took p.taken;
  keeps = keeps_then base l m is.keeps p.link;
  came_off = came_off_then [] s.buffer.items is.given p.got (h.startup ++ h.read) p.read (p.lost ++ messages t.buffer.items)
      (is.came_off ∙ ap (λ (x : List RawMessage). (h.startup ++ h.read) ++ (x ++ messages s.buffer.items)) (none_lost s.unread is.lost p.all_read is.unread)) is.rest p.came_off
      ∙ ap (λ (x : List RawMessage). x ++ (p.lost ++ messages t.buffer.items)) (append_assoc h.startup h.read p.read);
  rest = rest_then [] s.buffer.items t.buffer.items is.given p.got is.rest p.rest;
  unread = p.unread;
  readable = all_then is_readable h.read p.read is.readable p.readable;
  out = ap (λ x. (h.opening ++ x) ++ goodbye false t.closing) (bytes_out_by-append h.events es)
      ∙ out_then false s.closing t.closing h.opening (bytes_out_by h.events) is.taken s.unsent (bytes_out_by es) p.sent t.unsent
      (λ x. absurd_true x) p.still_closing (λ x. p.nothing_more x) is.out p.out;
  delivered = filter-append _ h.read p.read
      ∙ relay [] (sync_of h.read) (delivered_by h.events) (waiting s.held) (sync_of p.read) (delivered_by es) (waiting t.held) is.delivered p.delivered
      ∙ ap (λ x. x ++ waiting t.held) (sym (delivered_by-append h.events es));
  handed = ap async_of (sym (append_assoc h.startup h.read p.read)) ∙ filter-append _ (h.startup ++ h.read) p.read
      ∙ relay [] (async_of (h.startup ++ h.read)) h.handed (delayed_in s) (async_of p.read) hs (delayed_in t) is.handed p.handed_out;
  kept = p.kept ∙ ap (λ x. keep_all x (parameter_reports p.read)) is.kept
      ∙ sym (fold-append keep [] (parameter_reports (h.startup ++ h.read)) (parameter_reports p.read))
      ∙ ap (keep_all []) (sym (filter_map-append _ (h.startup ++ h.read) p.read) ∙ ap parameter_reports (append_assoc h.startup h.read p.read));
  count = omega (arith, p.count, is.count, length-append is.given p.got);
  counted = risen_then 0 s.delivered t.delivered (length (delivered_by h.events)) (length (delivered_by es)) _ is.counted p.delivered_count
      (ap length (delivered_by-append h.events es) ∙ length-append (delivered_by h.events) (delivered_by es));
}

pub taken_all : (s : Streams) (base l : LinkView) (h : History) (is : Stands s base l h) → s.closing ≡ false → s.unsent ≡ [] → is.taken ≡ h.opening ++ bytes_out_by h.events
taken_all s base l h is active sent =
    sym (append-nil is.taken) ∙ ap (λ x. is.taken ++ x) (sym sent) ∙ sym is.out
    ∙ ap (λ x. (h.opening ++ bytes_out_by h.events) ++ goodbye false x) active ∙ append-nil (h.opening ++ bytes_out_by h.events)

pub sent_all : (s : Streams) (base l : LinkView) (h : History) (is : Stands s base l h) → s.closing ≡ true → s.unsent ≡ [] →
    is.taken ≡ (h.opening ++ bytes_out_by h.events) ++ terminate_frame
sent_all s base l h is closing sent =
    sym (append-nil is.taken) ∙ ap (λ x. is.taken ++ x) (sym sent) ∙ sym is.out
    ∙ ap (λ x. (h.opening ++ bytes_out_by h.events) ++ goodbye false x) closing

pub read_all : (s : Streams) (base l : LinkView) (h : History) (is : Stands s base l h) → is.lost ≡ [] → AllDecoded s → messages is.given ≡ h.startup ++ h.read
read_all s base l h is none decoded =
    is.came_off ∙ ap (λ (x : List RawMessage). (h.startup ++ h.read) ++ (x ++ messages s.buffer.items)) none
    ∙ ap (λ (x : List RawMessage). (h.startup ++ h.read) ++ x) decoded.none_whole ∙ append-nil (h.startup ++ h.read)

not_both : (b : Bool) → b ≡ true → b ≡ false → ⊥
not_both b one other = let e : true ≡ false = sym one ∙ other in cc

is_open : (b : Bool) → (b ≡ true → ⊥) → b ≡ false
is_open true never = absurd (never refl)
is_open false never = refl

pub settled : (s t : Streams) (l m : LinkView) (es : List Event) → Waits s t l m es → IsTrue l.steady → s.closing ≡ false → some_is is_full es ≡ false → Settled t l m es
settled s t l m es waits steady active not_full =
    let writes : (t.unsent ≡ []) × (last_is has_none es ≡ true) × IsFlushedFrom l m =
    elim waits.writing [ inl blocked ↦ absurd (blocked.not_steady steady) | inr done ↦ done ] in
    let reads : ReadDry t l m =
    elim waits.reading [
      | inl closing ↦ absurd (not_both s.closing closing active)
      | inr more ↦ elim more [ inl full ↦ absurd (not_both (some_is is_full es) full.0 not_full) | inr dry ↦ dry ]
    ] in
    record {
      active = is_open t.closing (λ x. (waits.closing x).not_steady steady);
      sent = writes.0;
      none_left = writes.1;
      flushed = writes.2;
      decoded = reads.decoded;
      nothing_due = reads.nothing_due steady;
    }
