-- Where opening a connection stands behind each step of a poll.
use Rattle.std.proofs.Common.{◌≡◌, ◌≤◌, inl, inr, ℕ, Bool, true, false, ◌||◌, [], append-nil, Some, Result, Ok, Err, refl, sym, ◌∙◌, subst, arith}
use Rattle.futures.specs.Poll.{OnPending}
use Rattle.futures.specs.declared.task.Poll.{Poll}
use Rattle.futures.specs.declared.task.Poll.TheVariants.{Ready, Pending}
use Rattle.pg_spec.specs.Links.{LinkView}
use Rattle.pg_spec.specs.RawMessages.{messages}
use Rattle.pg_spec.specs.Startup.{Login}
use Rattle.pg_spec.specs.Startup as dialogues
use Rattle.pg_types.specs.declared.error.Error.{Error}
use Rattle.pg_types.specs.declared.error.Error.TheVariants as error
use Rattle.pg_config.specs.Views.{settings_of}
use Rattle.pg_startup.specs.Steps.{Made, frame_of}
use Rattle.pg_connect.specs.Calm.{MissesOne, StaysCalm}
use Rattle.pg_startup.specs.StartupPolls.{GoesOn, StartupAnswers}
use Rattle.pg_startup.specs.Startups as startups
use Rattle.pg_startup.specs.declared.startup.Startup.{Startup}
use Rattle.pg_open.specs.declared.choice.TlsChoice.{TlsChoice}
use Rattle.pg_open.specs.declared.choice.TlsChoice.TheVariants as choice
use Rattle.pg_open.specs.declared.maybe_tls.MaybeTls.{MaybeTls}
use Rattle.pg_open.specs.declared.maybe_tls.MaybeTls.TheVariants as maybe
use Rattle.pg_open.specs.Choosing.{Chose, StandsAt, TlsAnswers, WaitsOn}
use Rattle.pg_open.specs.Opening.{CanStart, Finishes, GoesOnFrom, HandsOut, IsOpening, IsReached, IsStarting, LeavesLess, OpenAnswers, OpenFails, OpenGoesOn, OpenStands, Outside, StartAnswers, StartsOn, WasGoing, WasOpened, login_over, moved_before, seen, tls_settings}
use Rattle.pg_open.specs.declared.open_stages.OpenSettings.{OpenSettings}
use Rattle.pg_open.specs.declared.open_stages.OpenStage.{OpenStage}
use Rattle.pg_open.specs.declared.open_stages.OpenStage.TheVariants.{Fresh, Choosing, Starting, Over}
use Rattle.pg_open.specs.declared.open_stages.Opened.{Opened}
use Rattle.pg_open.specs.declared.open_stages.Starting.{Starting as Setup}
use Rattle.pg_open.specs.declared.stages.ConnectTls.{ConnectTls}
use Rattle.pg_open.specs.declared.stages.Stage.{Stage}
use Rattle.pg_open.specs.declared.stages.Stage.TheVariants as choosing
use Rattle.pg_open.specs.declared.stages.TlsSettings.{TlsSettings}

-- a poll of a startup that is done
pub done-of : (l : Login) (asked : ℕ) (begin now : LinkView) (s : Startup) (answer : Result (Unit {0}) Error) (x : Unit {0}) → StartupAnswers l asked begin now s (Ready answer) → answer ≡ Ok x →
    startups.Opened l asked begin now s
done-of l asked begin now s answer x a is = subst (λ (r : Result (Unit {0}) Error). StartupAnswers l asked begin now s (Ready r)) is a

-- and of one that failed
pub failed-of : (l : Login) (asked : ℕ) (begin now : LinkView) (s : Startup) (answer : Result (Unit {0}) Error) (e : Error) → StartupAnswers l asked begin now s (Ready answer) → answer ≡ Err e →
    startups.Failed l asked begin now s e
failed-of l asked begin now s answer e a is = subst (λ (r : Result (Unit {0}) Error). StartupAnswers l asked begin now s (Ready r)) is a

-- behind a startup that is done memory lacks
pub done-lacks : (l : Login) (asked : ℕ) (begin now : LinkView) (s : Startup) → startups.Opened l asked begin now s → startups.Failed l asked begin now s error.OutOfMemory
done-lacks l asked begin now s p = record {
  got = p.got;
  sent = s.opening.items;
  unsent = [];
  read = p.read;
  rest = messages s.bytes.buffer.items;
  first = p.first;
  wrote = p.wrote;
  done = true;
  at = dialogues.First;
  frame = p.frame;
  given = p.given;
  taken = p.taken;
  came = p.came.messages;
  last = p.last;
  out = append-nil s.opening.items ∙ p.opening;
  stands = p.done;
  shut = p.shut;
  count = p.count;
  link = p.link;
  fails = tt;
  within = omega (arith, p.count, p.within);
}

module _ {L T F S E : Type 0} (o : Outside L T F S E) (want : OpenSettings) (link : L) (tls : T) where
  -- ---- the choice of TLS

  -- no more bytes were given in a choice than the limit allows
  chose-fits : (now : L) (asked : ℕ) (made : TlsChoice) → Chose o.tls (tls_settings want) link tls now asked made → asked ≤ want.max_bytes
  chose-fits now asked made (inl c) = omega (arith, c.2)
  chose-fits now asked made (inr c) = omega (arith, c.1, c.0.limit, c.0.asked.count, c.0.asked.within)

  pub reached-fits : (asked : ℕ) (from : MaybeTls L S) → IsReached o want link tls asked from → asked ≤ want.max_bytes
  reached-fits asked (maybe.Raw now) r = chose-fits now asked choice.Raw r.chosen
  reached-fits asked (maybe.Tls stream) r = let s = r.chosen in let b = s.begun in chose-fits b.over asked choice.Shakes b.chose

  -- what the choice answered, by the settings that it has
  answered : (has : TlsSettings) (asked after : ℕ) (old new : Stage L T F S E) (answer : Poll (Result (MaybeTls L S) Error)) → has ≡ tls_settings want →
      StandsAt o.tls (tls_settings want) link tls asked old → (StandsAt o.tls has link tls asked old → TlsAnswers o.tls has link tls after new answer) → TlsAnswers o.tls (tls_settings want) link tls after new answer
  answered has asked after old new answer is stands then_ =
      subst (λ (w : TlsSettings). TlsAnswers o.tls w link tls after new answer) is (then_ (subst (λ (w : TlsSettings). StandsAt o.tls w link tls asked old) (sym is) stands))

  -- the choice gave a link or a stream
  pub choice-reaches : (before : ConnectTls L T F S E) (after : ℕ) (new : Stage L T F S E) (answer : Result (MaybeTls L S) Error) (m : MaybeTls L S) → OpenStands o want link tls (Choosing before) →
      (StandsAt o.tls before.settings link tls before.asked before.stage → TlsAnswers o.tls before.settings link tls after new (Ready answer)) → answer ≡ Ok m → IsReached o want link tls after m
  choice-reaches before after new answer m st follows is = record {
    may = st.0;
    chosen = subst (λ (r : Result (MaybeTls L S) Error). TlsAnswers o.tls (tls_settings want) link tls after new (Ready r)) is
        (answered before.settings before.asked after before.stage new (Ready answer) st.1 st.2 follows);
  }

  -- the choice failed
  pub choice-ends : (before now : ConnectTls L T F S E) (answer : Result (MaybeTls L S) Error) (e : Error) → OpenStands o want link tls (Choosing before) →
      (StandsAt o.tls before.settings link tls before.asked before.stage → TlsAnswers o.tls before.settings link tls now.asked now.stage (Ready answer)) → answer ≡ Err e → OpenFails o want link tls (Choosing now) e
  choice-ends before now answer e st follows is = (
    st.0,
    subst (λ (r : Result (MaybeTls L S) Error). TlsAnswers o.tls (tls_settings want) link tls now.asked now.stage (Ready r)) is
        (answered before.settings before.asked now.asked before.stage now.stage (Ready answer) st.1 st.2 follows),
  )

  -- the choice goes on
  pub choice-on : (before now : ConnectTls L T F S E) (moved : Bool) → OpenStands o want link tls (Choosing before) →
      (StandsAt o.tls before.settings link tls before.asked before.stage → TlsAnswers o.tls before.settings link tls now.asked now.stage Pending) → now.settings ≡ before.settings → moved ≡ now.moved →
      WaitsOn o.tls now.moved before.stage now.stage → OpenAnswers o want link tls moved (Choosing before) (Choosing now) Pending
  choice-on before now moved st follows same moves waits =
      ((st.0, same ∙ st.1, answered before.settings before.asked now.asked before.stage now.stage Pending st.1 st.2 follows), moves, waits)

  -- the startup that begins answers for the choice
  pub starts-now : (before : ConnectTls L T F S E) (from : MaybeTls L S) (asked : ℕ) (moved : Bool) (new : OpenStage L T F S E) (answer : Poll (Result (Opened L T F S E) Error)) →
      StartAnswers o want link tls from from asked (moved_before asked from) moved new answer → OpenAnswers o want link tls moved (Choosing before) new answer
  starts-now before from asked moved new (Ready (Ok opened)) a = a
  starts-now before from asked moved new (Ready (Err e)) a = a
  starts-now before from asked moved (Starting s) Pending a =
      let same : s.asked ≡ asked = a.1 in
      (from, subst (λ (n : ℕ). StartsOn o want link tls from from n (moved_before n from) moved (Starting s)) (sym same) a)
  starts-now before from asked moved (Fresh now connector) Pending a = absurd a
  starts-now before from asked moved (Choosing now) Pending a = absurd a
  starts-now before from asked moved (Over left) Pending a = absurd a

  -- the first poll is that of its choice
  pub first-poll : (now : L) (connector : T) (before : ConnectTls L T F S E) (moved : Bool) (new : OpenStage L T F S E) (answer : Poll (Result (Opened L T F S E) Error)) →
      before.stage ≡ choosing.Fresh now connector → OpenAnswers o want link tls moved (Choosing before) new answer → OpenAnswers o want link tls moved (Fresh now connector) new answer
  first-poll now connector before moved new (Ready (Ok opened)) is a = a
  first-poll now connector before moved new (Ready (Err e)) is a = a
  first-poll now connector before moved (Choosing after) Pending is a =
      (a.0, a.1, subst (λ (s : Stage L T F S E). WaitsOn o.tls after.moved s after.stage) is a.2)
  first-poll now connector before moved (Starting s) Pending is a = a
  first-poll now connector before moved (Fresh l t) Pending is a = absurd a
  first-poll now connector before moved (Over left) Pending is a = absurd a

  -- ---- the startup

  -- the startup frame can't be written
  pub not-written : (from : MaybeTls L S) (asked : ℕ) (moved : Bool) (e : Error) (stage : OpenStage L T F S E) (answer : Poll (Result (Opened L T F S E) Error)) → IsReached o want link tls asked from →
      Made (frame_of (settings_of want.config.now)) (Err e) → stage ≡ Over (Some from) → answer ≡ Ready (Err e) → StartAnswers o want link tls from from asked (moved_before asked from) moved stage answer
  not-written from asked moved e stage answer reached made left is =
      subst (λ (r : Poll (Result (Opened L T F S E) Error)). StartAnswers o want link tls from from asked (moved_before asked from) moved stage r) (sym is)
      (subst (λ (s : OpenStage L T F S E). OpenFails o want link tls s e) (sym left) (inl (record { asked = asked; reached = reached; made = made })))

  -- the startup is done
  pub was-opened : (from before now : MaybeTls L S) (asked : ℕ) (old new : Startup) (opened : Opened L T F S E) → IsStarting o want link tls from before old asked →
      startups.Opened (login_over o want from) asked (seen o from) (seen o now) new → new.bytes.max_bytes ≡ old.bytes.max_bytes → HandsOut want new asked opened → opened.connection.link ≡ now → WasOpened o want link tls opened
  was-opened from before now asked old new opened st done limit hands is = record {
    asked = asked;
    from = from;
    reached = st.reached;
    startup = new;
    limit = limit ∙ st.limit;
    done = subst (λ (m : MaybeTls L S). startups.Opened (login_over o want from) asked (seen o from) (seen o m) new) (sym is) done;
    hands_out = hands;
  }

  -- the startup failed
  pub start-fails : (from before now : MaybeTls L S) (asked : ℕ) (early moved : Bool) (old new : Startup) (e : Error) (stage : OpenStage L T F S E) (answer : Poll (Result (Opened L T F S E) Error)) →
      IsStarting o want link tls from before old asked → startups.Failed (login_over o want from) asked (seen o from) (seen o now) new e → new.bytes.max_bytes ≡ old.bytes.max_bytes →
      stage ≡ Over (Some now) → answer ≡ Ready (Err e) → StartAnswers o want link tls from before asked early moved stage answer
  start-fails from before now asked early moved old new e stage answer st failed limit left is =
      subst (λ (r : Poll (Result (Opened L T F S E) Error)). StartAnswers o want link tls from before asked early moved stage r) (sym is)
      (subst (λ (s : OpenStage L T F S E). OpenFails o want link tls s e) (sym left)
      (inr (record { asked = asked; from = from; reached = st.reached; startup = new; limit = limit ∙ st.limit; failed = failed })))

  -- the connection is handed out, or memory lacks
  pub opens : (from before now : MaybeTls L S) (asked : ℕ) (early moved : Bool) (old new : Startup) (stage : OpenStage L T F S E) (answer : Poll (Result (Opened L T F S E) Error)) → IsStarting o want link tls from before old asked →
      startups.Opened (login_over o want from) asked (seen o from) (seen o now) new → new.bytes.max_bytes ≡ old.bytes.max_bytes → Finishes want new asked now stage answer → StartAnswers o want link tls from before asked early moved stage answer
  opens from before now asked early moved old new stage (Ready (Ok opened)) st done limit f = was-opened from before now asked old new opened st done limit f.0 f.1
  opens from before now asked early moved old new stage (Ready (Err e)) st done limit f =
      start-fails from before now asked early moved old new e stage (Ready (Err e)) st
      (subst (λ (x : Error). startups.Failed (login_over o want from) asked (seen o from) (seen o now) new x) (sym f.0) (done-lacks (login_over o want from) asked (seen o from) (seen o now) new done)) limit f.1 refl
  opens from before now asked early moved old new stage Pending st done limit f = absurd f

  -- the startup goes on
  pub goes-on : (from before : MaybeTls L S) (early moved : Bool) (old : Startup) (s : Setup (MaybeTls L S)) → IsStarting o want link tls from before old s.asked →
      startups.Opening (login_over o want from) s.asked (seen o from) (seen o s.link) s.startup → s.startup.bytes.max_bytes ≡ old.bytes.max_bytes → moved ≡ (early || s.startup.bytes.moved) →
      GoesOn s.startup (seen o before) (seen o s.link) → StaysCalm (seen o before) (seen o s.link) → MissesOne (seen o before) (seen o s.link) → StartsOn o want link tls from before s.asked early moved (Starting s)
  goes-on from before early moved old s st opening limit moves waits calm one =
      (record { reached = st.reached; limit = limit ∙ st.limit; opening = opening }, refl, moves, waits, calm, one)

  -- a startup that goes on hasn't answered
  starts-opening : (from before : MaybeTls L S) (asked : ℕ) (early moved : Bool) (new : OpenStage L T F S E) → StartsOn o want link tls from before asked early moved new → IsOpening o want new
  starts-opening from before asked early moved (Starting s) a =
      (link, tls, (from, subst (λ (n : ℕ). IsStarting o want link tls from s.link s.startup n) (sym a.1) a.0))
  starts-opening from before asked early moved (Fresh l t) a = absurd a
  starts-opening from before asked early moved (Choosing c) a = absurd a
  starts-opening from before asked early moved (Over left) a = absurd a

  -- what goes on hasn't answered
  goes-opening : (moved : Bool) (old new : OpenStage L T F S E) → OpenGoesOn o want link tls moved old new → IsOpening o want new
  goes-opening moved (Starting before) new a = starts-opening a.0 before.link before.asked false moved new a.1
  goes-opening moved (Fresh now connector) (Choosing c) a = (link, tls, a.0)
  goes-opening moved (Choosing before) (Choosing c) a = (link, tls, a.0)
  goes-opening moved (Fresh now connector) (Starting s) a = starts-opening a.0 a.0 s.asked (moved_before s.asked a.0) moved (Starting s) a.1
  goes-opening moved (Choosing before) (Starting s) a = starts-opening a.0 a.0 s.asked (moved_before s.asked a.0) moved (Starting s) a.1
  goes-opening moved (Fresh now connector) (Fresh l t) a = absurd a
  goes-opening moved (Fresh now connector) (Over left) a = absurd a
  goes-opening moved (Choosing before) (Fresh l t) a = absurd a
  goes-opening moved (Choosing before) (Over left) a = absurd a
  goes-opening moved (Over left) new a = absurd a

  pub still-open : (moved : Bool) (old new : OpenStage L T F S E) (answer : Poll (Result (Opened L T F S E) Error)) → OpenAnswers o want link tls moved old new answer → OnPending answer (IsOpening o want new)
  still-open moved old new (Ready (Ok opened)) a = tt
  still-open moved old new (Ready (Err e)) a = tt
  still-open moved old new Pending a = goes-opening moved old new a

  -- the same, of settings that are these
  pub still-open-as : (has : OpenSettings) (moved : Bool) (old new : OpenStage L T F S E) (answer : Poll (Result (Opened L T F S E) Error)) → has ≡ want → OpenAnswers o want link tls moved old new answer → OnPending answer (IsOpening o has new)
  still-open-as has moved old new answer is a = subst (λ (w : OpenSettings). OnPending answer (IsOpening o w new)) (sym is) (still-open moved old new answer a)

  -- ---- polls

  -- a choice that begins stands so
  pub fresh-stands : (before : ConnectTls L T F S E) → CanStart want → before.settings ≡ tls_settings want → StandsAt o.tls before.settings link tls before.asked before.stage → OpenStands o want link tls (Choosing before)
  fresh-stands before may is st = (may, is, subst (λ (w : TlsSettings). StandsAt o.tls w link tls before.asked before.stage) is st)

  -- a poll answers for the stage that was met
  pub met-answers : (old met stage new : OpenStage L T F S E) (moved : Bool) (answer : Poll (Result (Opened L T F S E) Error)) → met ≡ old → met ≡ stage →
      (OpenStands o want link tls stage → OpenAnswers o want link tls moved stage new answer) → OpenStands o want link tls old → OpenAnswers o want link tls moved old new answer
  met-answers old met stage new moved answer was is then_ st =
      subst (λ (s : OpenStage L T F S E). OpenAnswers o want link tls moved s new answer) (sym is ∙ was)
      (then_ (subst (λ (s : OpenStage L T F S E). OpenStands o want link tls s) (sym was ∙ is) st))

  -- a poll of the startup answers for it
  pub goes-answers : (s : Setup (MaybeTls L S)) (moved : Bool) (new : OpenStage L T F S E) (answer : Poll (Result (Opened L T F S E) Error)) → GoesOnFrom o want link tls s false moved new answer →
      OnPending answer (LeavesLess s.startup new) → OpenStands o want link tls (Starting s) → OpenAnswers o want link tls moved (Starting s) new answer
  goes-answers s moved new answer follows nearer st = by answer (follows st.0 st.1) nearer
    where
      by : (answer : Poll (Result (Opened L T F S E) Error)) → StartAnswers o want link tls st.0 s.link s.asked false moved new answer → OnPending answer (LeavesLess s.startup new) → OpenAnswers o want link tls moved (Starting s) new answer
      by (Ready (Ok opened)) a less = a
      by (Ready (Err e)) a less = a
      by Pending a less = (st.0, a, less)

-- what follows a startup that is done is an answer
pub finishes-now : {L T F S E : Type 0} (P : Type 0) (want : OpenSettings) (s : Startup) (asked : ℕ) (link : MaybeTls L S) (stage : OpenStage L T F S E) (answer : Poll (Result (Opened L T F S E) Error)) → Finishes want s asked link stage answer → OnPending answer P
finishes-now P want s asked link stage (Ready x) f = tt
finishes-now P want s asked link stage Pending f = absurd f

-- a startup that was met goes on
pub going-of : {L T F S E : Type 0} (o : Outside L T F S E) (want : OpenSettings) (old met : OpenStage L T F S E) (s : Setup (MaybeTls L S)) → met ≡ old → met ≡ Starting s → IsOpening o want old → WasGoing o want s
going-of {L} {T} {F} {S} {E} o want old met s was is opening =
    let st : IsOpening o want (Starting s) = subst (λ (x : OpenStage L T F S E). IsOpening o want x) (sym was ∙ is) opening in
    (st.0, st.1, st.2.0, st.2.1)
