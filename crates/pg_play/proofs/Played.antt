-- A session that was opened, played and reported.
use Rattle.std.proofs.Common.{◌≡◌, ℕ, ℤ, ◌<◌, ◌^◌, List, IfErr, IfOk, Result, Ok, Err, inl, inr, sym, ap, subst, arith}
use Rattle.pg_connect.specs.Calm.{StaysCalm}
use Rattle.pg_startup.specs.Startups.{Opened}
use Rattle.pg_startup.specs.StartupPolls.{IsFresh}
use Rattle.pg_startup.specs.declared.startup.Startup.{Startup}
use Rattle.pg_connect.specs.declared.streams.Streams.{Streams}
use Rattle.pg_types.specs.declared.error.Error.{Error}
use Rattle.pg_types.specs.declared.error.Error.TheVariants as error
use Rattle.pg_session.specs.Failures.{HasFailed}
use Rattle.pg_session.specs.Reports.{Reports}
use Rattle.pg_session.specs.Sessions.{HasPlayed, IsNewSession, Plays}
use Rattle.pg_promises.specs.Causes.{NeedsNoTls}
use Rattle.pg_spec.specs.Settings.{Settings}
use Rattle.pg_spec.specs.Startup.{plain_login}
use Rattle.pg_spec.specs.Links.{LinkView}
use Rattle.pg_play.specs.declared.play.Play.{Play}
use Rattle.pg_play.specs.Fails.{BreaksLater, PlaysWithin, SessionFails}
use Rattle.pg_play.specs.Plays.{IsLimited, state_of}
use Rattle.pg_session.specs.Speeches.{Speech}
use Rattle.pg_query.specs.Meaning.{Place}
use Rattle.pg_play.specs.Told.{told_of}
use Rattle.pg_play.specs.declared.report.Report.{Report}

module _ {S C T A O : Type 0} (speech : Speech C T A O) (stands : S → Place T) where
  pub has_played : (settings : Settings) (nonce : List ℕ) (scripts : List (List C)) (given : List ℕ) (limit : ℕ) (before link after : LinkView) (startup : Startup) (opening : List ℕ) (key : ℤ × ℤ) (streams : Streams) (p q : Play S A O) (r : Result (Report A) Error) →
      NeedsNoTls settings → startup.bytes.max_bytes ≡ limit → IsLimited p q → Opened (plain_login settings nonce) 0 before link startup → IsFresh startup opening streams → p.streams ≡ streams → IsNewSession speech scripts (state_of stands p) →
      Plays speech scripts given (state_of stands p) link (state_of stands q) after → key ≡ (startup.process_id, startup.secret_key) → IfOk r (λ report. Reports opening key (state_of stands q) (told_of report)) → q.streams.given < 2 ^ 64 →
      IfOk r (λ report. PlaysWithin speech settings nonce scripts given limit before after (told_of report))
  has_played settings nonce scripts given limit before link after startup opening key streams p q (Err e) plain is limited opened fresh same new plays told reports counted = tt
  has_played settings nonce scripts given limit before link after startup opening key streams p q (Ok report) plain is limited opened fresh same new plays told reports counted = (
    record {
      no_tls = plain;
      startup = startup;
      link = link;
      opened = opened;
      opening = opening;
      new = state_of stands p;
      fresh = subst (λ s. IsFresh startup opening s) (sym same) fresh;
      is_new = new;
      last = state_of stands q;
      plays = plays;
      reports = subst (λ k. Reports opening k (state_of stands q) (told_of report)) told reports;
      counted = counted;
      within = omega (arith, limited.0, limited.1, ap (λ (x : Streams). x.max_bytes) same, fresh.limit);
    },
    is,
  )

  pub breaks_later : (settings : Settings) (nonce : List ℕ) (scripts : List (List C)) (limit : ℕ) (before link after : LinkView) (startup : Startup) (opening : List ℕ) (streams : Streams) (p : Play S A O) (e : Error) →
      NeedsNoTls settings → startup.bytes.max_bytes ≡ limit → Opened (plain_login settings nonce) 0 before link startup → StaysCalm before link → IsFresh startup opening streams → p.streams ≡ streams → IsNewSession speech scripts (state_of stands p) →
      HasFailed speech scripts (state_of stands p) link after e → BreaksLater speech settings nonce scripts limit before after e
  breaks_later settings nonce scripts limit before link after startup opening streams p e plain limited opened calm fresh same new fails = record {
    broken = record {
      no_tls = plain;
      startup = startup;
      link = link;
      opened = opened;
      calm = calm;
      opening = opening;
      new = state_of stands p;
      fresh = subst (λ s. IsFresh startup opening s) (sym same) fresh;
      is_new = new;
      fails = fails;
    };
    limited = limited;
  }

  pub lacks_behind : (settings : Settings) (nonce : List ℕ) (scripts : List (List C)) (given : List ℕ) (limit : ℕ) (before link after : LinkView) (startup : Startup) (opening : List ℕ) (streams : Streams) (p q : Play S A O) (r : Result (Report A) Error) →
      NeedsNoTls settings → Opened (plain_login settings nonce) 0 before link startup → IsFresh startup opening streams → p.streams ≡ streams → IsNewSession speech scripts (state_of stands p) →
      Plays speech scripts given (state_of stands p) link (state_of stands q) after → q.streams.given < 2 ^ 64 → IfErr r (λ e. e ≡ error.OutOfMemory) → IfErr r (SessionFails speech settings nonce scripts limit before after)
  lacks_behind settings nonce scripts given limit before link after startup opening streams p q (Ok report) plain opened fresh same new plays counted lacked = tt
  lacks_behind settings nonce scripts given limit before link after startup opening streams p q (Err e) plain opened fresh same new plays counted lacked = inl (record {
    memory = lacked;
    crossed = inr (record {
      no_tls = plain;
      startup = startup;
      link = link;
      opened = opened;
      opening = opening;
      new = state_of stands p;
      fresh = subst (λ s. IsFresh startup opening s) (sym same) fresh;
      is_new = new;
      given = given;
      last = state_of stands q;
      plays = plays;
      counted = counted;
    });
  })
