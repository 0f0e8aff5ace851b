-- What stands where a session begins.
use Rattle.std.proofs.Common.{◌≡◌, List, [], ◌++◌, map, true, false, Bool, ℕ, refl, sym, ap, subst, ◌∙◌, append-nil, arith}
use Rattle.pg_spec.specs.Links.{LinkView, Grew}
use Rattle.pg_spec.specs.Parameters.{parameter_reports}
use Rattle.pg_spec.specs.RawMessages.{RawMessage, messages, bytes_left, async_of}
use Rattle.pg_spec.specs.Settings.{Settings}
use Rattle.pg_spec.specs.Startup.{plain_login}
use Rattle.pg_connect.specs.Kept.{keep_all}
use Rattle.pg_connect.specs.Passes.{waiting, notice_of, IsUnread, goodbye}
use Rattle.pg_startup.specs.declared.startup.Startup.{Startup as StartupState}
use Rattle.pg_startup.specs.Startups.{Opened}
use Rattle.pg_startup.specs.StartupPolls.{IsFresh}
use Rattle.pg_session.specs.Sessions.{IsNewSession}
use Rattle.pg_session.specs.States.{SessionState, commands_in}
use Rattle.pg_session.proofs.Crossing.{Stood, shown, stood-quiet}
use Rattle.pg_session.proofs.Crossing.Chain.{StoodIn, closes-goes}
use Rattle.pg_session.specs.Speeches.{Speech}

module _ {C T A E : Type 0} (speech : Speech C T A E) where
  pub stood-start : (settings : Settings) (nonce : List ℕ) (scripts : List (List C)) (before link : LinkView) (startup : StartupState) (opening : List ℕ) (new : SessionState T A E)
      (o : Opened (plain_login settings nonce) 0 before link startup) → IsFresh startup opening new.streams → IsNewSession speech scripts new → StoodIn speech opening o.read before new link
  stood-start settings nonce scripts before link startup opening new o fresh is =
      let closes = closes-goes (commands_in scripts) is.hub new.hub is.closes in
      let first : Stood opening o.read before is.hub new.streams new.asynchronous link = record {
        events = [];
        legal = tt;
        fits = is.new;
        read = [];
        lost = [];
        handed = [];
        given = o.got;
        taken = opening;
        gave = o.given;
        took = subst (λ (l : List ℕ). Grew before.taken link.taken l) (sym fresh.frames) o.taken;
        came_off = o.came.messages ∙ ap (λ (l : List ℕ). o.read ++ messages l) (sym fresh.buffer)
            ∙ ap (λ (l : List RawMessage). l ++ messages new.streams.buffer.items) (sym (append-nil o.read));
        rest = o.came.left ∙ ap bytes_left (sym fresh.buffer);
        unread = subst (λ x. IsUnread x []) (sym fresh.unread) refl;
        out = ap (λ (c : Bool). (opening ++ []) ++ goodbye false c) fresh.active ∙ append-nil (opening ++ []) ∙ ap (λ (l : List ℕ). opening ++ l) (sym fresh.unsent);
        delivered = sym (ap waiting fresh.held);
        handed_out = ap async_of (append-nil o.read) ∙ sym (ap (map notice_of) fresh.delayed ∙ o.noted.delayed);
        readable = refl;
        kept = fresh.parameters ∙ o.noted.parameters ∙ ap (λ (x : List RawMessage). keep_all [] (parameter_reports x)) (sym (append-nil o.read));
        count = omega (arith, fresh.given, o.count);
        counted = fresh.delivered;
        shows = ap shown is.asynchronous;
        spent = λ c. absurd (let no : true ≡ false = sym c ∙ fresh.active in cc);
        emptied = λ c. absurd (let no : true ≡ false = sym c ∙ fresh.active in cc);
      } in
      stood-quiet opening o.read before link is.hub new.hub new.streams new.asynchronous closes.events first closes.moves closes.quiet
