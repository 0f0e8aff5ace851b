-- Where the history of a connection begins.
use Rattle.std.proofs.Common.{◌≡◌, ℕ, Bool, false, List, [], ◌++◌, map, refl, sym, ap, subst, ◌∙◌, append-nil, arith}
use Rattle.pg_spec.specs.Links.{LinkView, Grew}
use Rattle.pg_spec.specs.Parameters.{parameter_reports}
use Rattle.pg_spec.specs.RawMessages.{RawMessage, messages, bytes_left, async_of}
use Rattle.pg_spec.specs.Startup.{Login}
use Rattle.pg_connect.specs.Histories.{Stands, new_history}
use Rattle.pg_connect.specs.Kept.{keep_all}
use Rattle.pg_connect.specs.Passes.{waiting, notice_of, IsUnread, goodbye}
use Rattle.pg_connect.specs.declared.streams.Streams.{Streams}
use Rattle.pg_startup.specs.declared.startup.Startup.{Startup}
use Rattle.pg_startup.specs.Startups.{Opened}
use Rattle.pg_startup.specs.StartupPolls.{IsFresh}

pub history-begins : (l : Login) (asked : ℕ) (begin now : LinkView) (s : Startup) (opening : List ℕ) (t : Streams) (done : Opened l asked begin now s) → IsFresh s opening t →
    Stands t begin now (new_history asked opening done.read)
history-begins l asked begin now s opening t o fresh = record {
  given = o.got;
  taken = opening;
  lost = [];
  gave = o.given;
  took = subst (λ (l : List ℕ). Grew begin.taken now.taken l) (sym fresh.frames) o.taken;
  keeps = o.link;
  came_off = o.came.messages ∙ ap (λ (l : List ℕ). o.read ++ messages l) (sym fresh.buffer)
      ∙ ap (λ (l : List RawMessage). l ++ messages t.buffer.items) (sym (append-nil o.read));
  rest = o.came.left ∙ ap bytes_left (sym fresh.buffer);
  unread = subst (λ x. IsUnread x []) (sym fresh.unread) refl;
  readable = refl;
  out = ap (λ (c : Bool). (opening ++ []) ++ goodbye false c) fresh.active ∙ append-nil (opening ++ []) ∙ ap (λ (l : List ℕ). opening ++ l) (sym fresh.unsent);
  delivered = sym (ap waiting fresh.held);
  handed = ap async_of (append-nil o.read) ∙ sym (ap (map notice_of) fresh.delayed ∙ o.noted.delayed);
  kept = fresh.parameters ∙ o.noted.parameters ∙ ap (λ (x : List RawMessage). keep_all [] (parameter_reports x)) (sym (append-nil o.read));
  count = fresh.given ∙ o.count;
  counted = fresh.delivered;
}
