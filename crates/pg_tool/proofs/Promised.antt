-- What `run_session` promises, where it refuses what it was asked and where it plays.
use Rattle.std.proofs.Common.{◌≡◌, ◌<◌, ℕ, List, length, Option, Some, None, IfSome, Result, Ok, Err, IfOk, IfErr, inl, inr, refl, sym, ap, subst, ◌∙◌, arith}
use Rattle.std.specs.Prelude.{OnOk, IsSome}
use Rattle.std.proofs.lemmas.Bool.{true≢false}
use Rattle.std.proofs.lemmas.List.{length-drop}
use Rattle.pg_promises.specs.Endings as ending
use Rattle.pg_text.specs.declared.command.Answer.{Answer}
use Rattle.pg_promises.specs.Calls as any
use Rattle.pg_promises.specs.Kept.{NoneKeptBack}
use Rattle.pg_promises.specs.Causes.{Call, HasCause, MustAskForTls, MustRefuse, NeedsNoTls, RefusedFor}
use Rattle.pg_promises.proofs.Strings.{means_one, no_fault}
use Rattle.pg_config.specs.ConnectionStrings.{ConnectionStringMeans}
use Rattle.pg_config.specs.Outcomes.{HasFault}
use Rattle.pg_config.specs.Views.{settings_of}
use Rattle.pg_config.specs.declared.config.Config.{Config as Settled}
use Rattle.pg_config.proofs.OneMeaning.{meaning_one}
use Rattle.pg_promises.specs.ConnectionStrings.{Means}
use Rattle.pg_spec.specs.Settings.{Settings, Require, Postgres, Direct}
use Rattle.pg_spec.specs.Faults.{Cause, ConfigParse, OutOfMemory}
use Rattle.pg_spec.specs.Links.{LinkView, added}
use Rattle.pg_wire.specs.LinkCalls.{Continues, Tells}
use Rattle.pg_connect.specs.Calm.{StaysCalm}
use Rattle.pg_types.specs.declared.cause.Cause.TheVariants as cause
use Rattle.pg_types.specs.declared.error.Error.{Error}
use Rattle.pg_types.specs.declared.error.Error.TheVariants as error
use Rattle.pg_text.specs.declared.command.Command.{Command}
use Rattle.pg_text.specs.declared.report.Report.{Report}
use Rattle.pg_session.specs.Speeches.{meaning_of}
use Rattle.pg_session.specs.WholeSession.{IsClosed, LeavesOpen}
use Rattle.pg_spec.specs.Report as said
use Rattle.pg_table.specs.Headlines.{simple_call, told_in}
use Rattle.pg_table.specs.Table.{table}
use Rattle.pg_text.specs.Views.{as_scripts}
use Rattle.pg_tool.specs.Asked.{MayStart}
use Rattle.pg_tool.specs.Fails.{PlaysWithin, SessionFails}
use Rattle.pg_startup.specs.declared.ssl_request.SslRequest.{SslRequest}
use Rattle.pg_open.specs.declared.choice.TlsChoice.TheVariants.{Asks, Shakes}
use Rattle.pg_tool.specs.Required.{AsksInVain, AsksWithin, choice_of}
use Rattle.pg_tool.specs.SessionContract.{SessionContract, ToldSimply}
use Rattle.pg_promises.specs.Endings.{IsRun}
use Rattle.pg_tool.specs.TableContract.{IsEndedWell, KeepsLimit, SendsInOrder, TableContract, table_call, table_result}
use Rattle.pg_tool.proofs.AtTable.{is-closed, sent-untouched}
use Rattle.pg_tool.proofs.Causing.{caused}
use Rattle.pg_tool.proofs.Completing.{must_all}
use Rattle.pg_play.proofs.Following.{continues_same}
use Rattle.pg_tool.proofs.Limiting.{ended_within, holds_all, keeps_limit}
use Rattle.pg_tool.proofs.Played.{ended_apart, ended_well, has_run, ran_apart}
use Rattle.pg_tool.proofs.Requiring.{asks_so, shakes_cause, shakes_so, vain_cause, vain_goes, vain_holds, vain_kept, vain_open, vain_sent}
use Rattle.pg_tool.proofs.Sending.{asks_all, leaves_all, sends_all}
use Rattle.pg_tool.proofs.Simply.{keeps_simply}

-- ---- both contracts

-- what a call promises by the table, and of simple queries alone by the words on these
pub record Promises (call : any.Call Command) (r : Result Report Error) : Type 0 where
  pub by_table : TableContract call (table_result r)
  pub simply : (scripts : List (List said.Command)) → call.scripts ≡ as_scripts scripts → ToldSimply r (SessionContract (simple_call call scripts))

-- what is said of it without a word of its commands
record Beside (call : any.Call Command) (r : Result Report Error) : Type 0 where
  pub told : Tells call.before
  pub tells : Tells call.after
  pub closed : IfOk (table_result r) (λ report. IsClosed call.before call.after)
  pub stays_open : IfErr (table_result r) (LeavesOpen call.before call.after)
  pub link : Continues call.before call.after
  pub cause : IfErr r (HasCause (any.apart call))
  pub limit : KeepsLimit call (table_result r)
  pub must_refuse : MustRefuse {R = ending.Report Answer} (any.apart call) (table_result r)

in_error : (call : any.Call Command) (r : Result Report Error) → IfErr r (HasCause (any.apart call)) → IfErr (table_result r) (HasCause (any.apart call))
in_error call (Ok report) h = tt
in_error call (Err e) h = h

-- the one follows from the other
both : (call : any.Call Command) (r : Result Report Error) → Beside call r → IfOk (table_result r) (IsEndedWell call) → IfOk (table_result r) (IsRun (meaning_of table) call.scripts call.turns) → SendsInOrder call (table_result r) →
    NoneKeptBack (meaning_of table) call (table_result r) → Promises call r
both call r beside ended run sent kept = record { by_table = contract; simply = λ scripts are. keeps_simply call scripts are r contract }
  where
    contract : TableContract call (table_result r)
    contract = record {
      ended_well = ended;
      has_run = run;
      kept_apart = ended_apart call r ended;
      kept_apart_over_any_link = ran_apart call r run;
      closed = beside.closed;
      stays_open = beside.stays_open;
      link = beside.link;
      cause = in_error call r beside.cause;
      limit = beside.limit;
      sent = sent;
      none_kept_back = kept;
      must_end_well = must_all call r beside.told beside.tells beside.link sent beside.cause;
      must_refuse = beside.must_refuse;
    }

-- ---- what was asked is refused

-- a link that is left alone gave nothing
none_given : (given taken : Option (List ℕ)) (limit : ℕ) (P : List ℕ → Type 0) →
    IfSome (added given given) (λ g. IfSome (added taken taken) (λ t. limit < length g → P g))
none_given None taken limit P = tt
none_given (Some g) None limit P = tt
none_given (Some g) (Some t) limit P = λ more. absurd (omega (arith, more, length-drop (length g) g))

-- an error that comes before any byte
abbrev IsEarly : Error → Type 0
IsEarly (error.ConfigParse c) = Unit {0}
IsEarly (error.Config c) = Unit {0}
IsEarly (error.Tls c) = Unit {0}
IsEarly error.OutOfMemory = Unit {0}
IsEarly _ = ⊥

early_kept : (call : any.Call Command) (e : Error) → call.after ≡ call.before → IsEarly e → NoneKeptBack {T = ending.Report Answer} (meaning_of table) call (Err e)
early_kept call (error.Stalled a b) same early = absurd early
early_kept call (error.Tls c) same early = λ steady. ap (λ (l : LinkView). l.lulls) same
early_kept call _ same early = tt

-- it is answered over a link that is left alone, where it has its cause and all that must be refused is
pub refuses : (config nonce : List ℕ) (scripts : List (List Command)) (turns : List ℕ) (limit : ℕ) (link : LinkView) (e : Error) → Tells link → IsEarly e →
    HasCause (any.apart (table_call config nonce scripts turns limit link link)) e → MustRefuse {R = ending.Report Answer} (any.apart (table_call config nonce scripts turns limit link link)) (Err e) →
    Promises (table_call config nonce scripts turns limit link link) (Err e)
refuses config nonce scripts turns limit link e tells early has must =
    let call = table_call config nonce scripts turns limit link link in
    both call (Err e)
    (record {
      told = tells;
      tells = tells;
      closed = tt;
      stays_open = inl refl;
      link = continues_same link;
      cause = has;
      limit = none_given link.given link.taken limit _;
      must_refuse = must;
    })
    tt tt (λ w. sent-untouched call w.0 w.1 refl) (early_kept call e refl early)

-- ---- the connection string has a fault, or memory lacked for its settings

-- memory lacked, and nothing crossed
lacks : {R : Type 0} (config nonce : List ℕ) (scripts : List (List Command)) (turns : List ℕ) (limit : ℕ) (link : LinkView) →
    MustRefuse {R = R} (any.apart (table_call config nonce scripts turns limit link link)) (Err OutOfMemory)
lacks config nonce scripts turns limit link = record {
  text = λ c fault. record { answer = inr refl; untouched = refl };
  user = λ w. record { answer = inr refl; untouched = refl };
  nonce = λ w out. record { answer = inr refl; untouched = refl };
  direct = λ w form. record { answer = inr refl; untouched = refl };
}

same_fault : (a b : Result Settled Cause) (c d : Cause) → a ≡ Err c → b ≡ Err d → a ≡ b → c ≡ d
same_fault a b c d e f same = cc

-- a fault is the only thing that a text with a fault says
faulty : {R : Type 0} (config nonce : List ℕ) (scripts : List (List Command)) (turns : List ℕ) (limit : ℕ) (link : LinkView) (c : Cause) →
    ConnectionStringMeans config (Err c) → MustRefuse {R = R} (any.apart (table_call config nonce scripts turns limit link link)) (Err (ConfigParse c))
faulty config nonce scripts turns limit link c fault = record {
  text = λ d other. record {
    answer = inl (ap (λ x. Err (ConfigParse x)) (same_fault (Err c) (Err d) c d refl refl (meaning_one config (Err c) (Err d) fault other)));
    untouched = refl;
  };
  user = λ w. absurd (no_fault config w.0 c w.1 fault);
  nonce = λ w out. absurd (no_fault config w.0 c w.1 fault);
  direct = λ w form. absurd (no_fault config w.0 c w.1 fault);
}

-- by what reading the settings answered
pub text_refused : (config nonce : List ℕ) (scripts : List (List Command)) (turns : List ℕ) (limit : ℕ) (link : LinkView) (said : Result Settled Cause) (e : Error) →
    Tells link → ConnectionStringMeans config said → HasFault said e → Promises (table_call config nonce scripts turns limit link link) (Err e)
text_refused config nonce scripts turns limit link said (error.ConfigParse c) tells means is =
    let fault : ConnectionStringMeans config (Err c) = subst (ConnectionStringMeans config) is means in
    refuses config nonce scripts turns limit link (error.ConfigParse c) tells tt fault (faulty config nonce scripts turns limit link c fault)
text_refused config nonce scripts turns limit link said error.OutOfMemory tells means is =
    refuses config nonce scripts turns limit link error.OutOfMemory tells tt tt (lacks config nonce scripts turns limit link)
text_refused config nonce scripts turns limit link said _ tells means is = absurd is

-- and where it was handed on
pub text_fails : (config nonce : List ℕ) (scripts : List (List Command)) (turns : List ℕ) (limit : ℕ) (link : LinkView) (said : Result Settled Cause) (r : Result Report Error) (told e : Error) →
    r ≡ Err told → told ≡ e → Tells link → ConnectionStringMeans config said → HasFault said e → Promises (table_call config nonce scripts turns limit link link) r
text_fails config nonce scripts turns limit link said r told e is same tells means fault =
    subst (λ (x : Result Report Error). Promises (table_call config nonce scripts turns limit link link) x) (sym (is ∙ ap (λ (x : Error). Err x) same))
    (text_refused config nonce scripts turns limit link said e tells means fault)

-- ---- the settings or the nonce are refused

none_some : (o : Option (List ℕ)) → o ≡ None → IsSome o → ⊥
none_some None none some = absurd cc
none_some (Some user) none some = cc

-- the settings that were read are those that the text says
pub read_so : (config : List ℕ) (said : Result Settled Cause) (c : Settled) → ConnectionStringMeans config said → said ≡ Ok c → Means config (settings_of c)
read_so config said c means is = (c, subst (ConnectionStringMeans config) is means, refl)

-- of all settings that the text says the user is that of these
user_of_said : (config : List ℕ) (s t : Settings) → Means config s → Means config t → s.user ≡ t.user
user_of_said config s t a b = ap (λ (x : Settings). x.user) (means_one config s t a b)

pub start_refused : (config nonce : List ℕ) (scripts : List (List Command)) (turns : List ℕ) (limit : ℕ) (link : LinkView) (s : Settings) (c : Cause) →
    Tells link → Means config s → MayStart s nonce (Err c) → Promises (table_call config nonce scripts turns limit link link) (Err (error.Config c))
start_refused config nonce scripts turns limit link s cause.NoUser tells means none =
    refuses config nonce scripts turns limit link (error.Config cause.NoUser) tells tt (s, means, none) (record {
      text = λ d fault. absurd (no_fault config s d means fault);
      user = λ w. record { answer = inl refl; untouched = refl };
      nonce = λ w out. absurd (none_some w.0.user (user_of_said config w.0 s w.1 means ∙ none) w.2);
      direct = λ w form. absurd (none_some w.0.user (user_of_said config w.0 s w.1 means ∙ none) w.2.0);
    })
start_refused config nonce scripts turns limit link s cause.Nonce tells means why =
    refuses config nonce scripts turns limit link (error.Config cause.Nonce) tells tt ((s, means, why.0), why.1) (record {
      text = λ d fault. absurd (no_fault config s d means fault);
      user = λ w. absurd (none_some s.user (user_of_said config s w.0 means w.1 ∙ w.2) why.0);
      nonce = λ w out. record { answer = inl refl; untouched = refl };
      direct = λ w form. absurd (true≢false (sym form ∙ why.1));
    })
start_refused config nonce scripts turns limit link s _ tells means why = absurd why

-- ---- it starts up

-- settings that name a user, and a nonce in form, are refused for nothing
starts : {R : Type 0} (config : List ℕ) (settings : Settings) (nonce : List ℕ) (scripts : List (List Command)) (turns : List ℕ) (limit : ℕ) (before after : LinkView) (r : Result R Error) →
    Means config settings → MayStart settings nonce (Ok tt) →
    ((settings.ssl_mode ≡ Require) × (settings.ssl_negotiation ≡ Direct) → RefusedFor {R = R} (error.Tls cause.Handshake) (any.apart (table_call config nonce scripts turns limit before after)) r) →
    MustRefuse {R = R} (any.apart (table_call config nonce scripts turns limit before after)) r
starts config settings nonce scripts turns limit before after r means may direct = record {
  text = λ d fault. absurd (no_fault config settings d means fault);
  user = λ w. absurd (none_some settings.user (user_of_said config settings w.0 means w.1 ∙ w.2) may.0);
  nonce = λ w out. absurd (true≢false (sym may.1 ∙ out));
  direct = λ w form.
      let same = means_one config settings w.0 means w.1 in
      direct (ap (λ (x : Settings). x.ssl_mode) same ∙ w.2.1, ap (λ (x : Settings). x.ssl_negotiation) same ∙ w.2.2);
}

-- ---- it requires TLS

-- the handshake fails at once
pub shakes : (config : List ℕ) (settings : Settings) (nonce : List ℕ) (scripts : List (List Command)) (turns : List ℕ) (limit : ℕ) (link : LinkView) →
    Means config settings → MayStart settings nonce (Ok tt) → choice_of settings ≡ Shakes → Tells link →
    Promises (table_call config nonce scripts turns limit link link) (Err (error.Tls cause.Handshake))
shakes config settings nonce scripts turns limit link means may choice tells =
    refuses config nonce scripts turns limit link (error.Tls cause.Handshake) tells tt
    (shakes_cause (any.apart (table_call config nonce scripts turns limit link link)) settings means (shakes_so settings choice) refl)
    (starts {R = ending.Report Answer} config settings nonce scripts turns limit link link (Err (error.Tls cause.Handshake)) means may (λ must. record { answer = inl refl; untouched = refl }))

-- the server was asked
asks-in : (config : List ℕ) (settings : Settings) (nonce : List ℕ) (scripts : List (List Command)) (turns : List ℕ) (limit : ℕ) (before after : LinkView) (e : Error) (s : SslRequest) →
    Means config settings → MayStart settings nonce (Ok tt) → MustAskForTls settings → Tells before → Tells after → s.bytes.max_bytes ≡ limit → AsksInVain before after s e →
    Promises (table_call config nonce scripts turns limit before after) (Err e)
asks-in config settings nonce scripts turns limit before after e s means may must told tells is vain =
    let call = table_call config nonce scripts turns limit before after in
    let causes = vain_cause (any.apart call) settings s e means must is vain in
    both call (Err e)
    (record {
      told = told;
      tells = tells;
      closed = tt;
      stays_open = vain_open before after s e vain;
      link = vain_goes before after s e vain;
      cause = causes;
      limit = keeps_limit call (Err e) tt (vain_holds (any.apart call) s e is vain) causes;
      must_refuse = starts {R = ending.Report Answer} config settings nonce scripts turns limit before after (Err e) means may (λ direct. absurd (let no : Direct ≡ Postgres = sym direct.1 ∙ must.1 in cc));
    })
    tt tt (λ w. vain_sent call settings s e means must vain) (vain_kept call settings s e means vain)

lacks-in : (config : List ℕ) (nonce : List ℕ) (scripts : List (List Command)) (turns : List ℕ) (limit : ℕ) (before after : LinkView) (e : Error) → e ≡ error.OutOfMemory → after ≡ before → Tells before →
    Promises (table_call config nonce scripts turns limit before after) (Err e)
lacks-in config nonce scripts turns limit before after e memory same tells =
    subst (λ (x : LinkView). Promises (table_call config nonce scripts turns limit before x) (Err e)) (sym same)
    (subst (λ (x : Error). Promises (table_call config nonce scripts turns limit before before) (Err x)) (sym memory)
    (refuses config nonce scripts turns limit before error.OutOfMemory tells tt tt (lacks config nonce scripts turns limit before)))

pub asks : (config : List ℕ) (settings : Settings) (nonce : List ℕ) (scripts : List (List Command)) (turns : List ℕ) (limit : ℕ) (before after : LinkView) (e : Error) →
    Means config settings → MayStart settings nonce (Ok tt) → choice_of settings ≡ Asks → Tells before → Tells after → AsksWithin limit before after e →
    Promises (table_call config nonce scripts turns limit before after) (Err e)
asks config settings nonce scripts turns limit before after e means may choice told tells (inl short) =
    lacks-in config nonce scripts turns limit before after e short.0 short.1 told
asks config settings nonce scripts turns limit before after e means may choice told tells (inr w) =
    asks-in config settings nonce scripts turns limit before after e w.0 means may (asks_so settings choice) told tells w.1 w.2

-- ---- it was played

-- what a report that was answered says of the link
closed_so : (r : Result Report Error) (P : Report → Type 0) (Q : Type 0) → ((report : Report) → P report → Q) → IfOk r P → IfOk (table_result r) (λ report. Q)
closed_so (Ok report) P Q f h = f report h
closed_so (Err e) P Q f h = tt

pub plays : (config : List ℕ) (settings : Settings) (nonce : List ℕ) (scripts : List (List Command)) (turns : List ℕ) (limit : ℕ) (before after : LinkView) (r : Result Report Error) →
    Means config settings → MayStart settings nonce (Ok tt) → NeedsNoTls settings → Tells before → Tells after → Continues before after →
    IfErr r (SessionFails settings nonce scripts limit before after) → IfOk r (PlaysWithin settings nonce scripts turns limit before after) → OnOk r (StaysCalm before after) →
    Promises (table_call config nonce scripts turns limit before after) r
plays config settings nonce scripts turns limit before after r means may plain told tells link fails played calm =
    let call = table_call config nonce scripts turns limit before after in
    let causes = caused (any.apart call) settings scripts r means plain fails in
    both call r
    (record {
      told = told;
      tells = tells;
      closed = closed_so r (PlaysWithin settings nonce scripts turns limit before after) (IsClosed before after) (λ report h. is-closed settings nonce scripts turns before after (told_in report) h.0) played;
      stays_open = leaves_all settings nonce scripts limit before after r fails;
      link = link;
      cause = causes;
      limit = keeps_limit call r (ended_within settings nonce scripts turns limit before after r played) (holds_all (any.apart call) settings scripts r means fails) causes;
      must_refuse = starts {R = ending.Report Answer} config settings nonce scripts turns limit before after (table_result r) means may (λ direct. absurd (plain direct.0));
    })
    (ended_well call settings r means played) (has_run call settings r played) (sends_all call settings r means plain fails)
    (asks_all call settings r means plain calm causes fails)
