-- A wait changes nothing of where opening a connection stands.
use Rattle.std.proofs.Common.{◌≡◌, ℕ, true, false, IsTrue, List, ◌++◌, inl, inr, refl, sym, ◌∙◌, ap, subst}
use Rattle.pg_spec.specs.Links.{LinkView}
use Rattle.pg_spec.specs.Startup.{Login}
use Rattle.pg_wire.specs.LinkCalls.{Keeps, SameBytes, SameWriting, WaitAnswers}
use Rattle.pg_wire.specs.declared.link.LinkWait.{LinkWait}
use Rattle.pg_wire.specs.declared.link.LinkWait.TheVariants as waits
use Rattle.pg_connect.proofs.Joining.{keeps_then}
use Rattle.pg_startup.specs.SslRequests.{Asking as IsAsking}
use Rattle.pg_startup.specs.Startups.{Opening, WasAnswered}
use Rattle.pg_startup.specs.declared.ssl_request.SslRequest.{SslRequest}
use Rattle.pg_startup.specs.declared.startup.Startup.{Startup}
use Rattle.pg_open.specs.declared.maybe_tls.MaybeTls.{MaybeTls}
use Rattle.pg_open.specs.Choosing.{Known, StandsAt, Waits}
use Rattle.pg_open.specs.Opening.{IsOpening, IsStarting, OpenIdles, OpenStands, OpenStays, Outside, is_first, login_over, seen, tls_settings}
use Rattle.pg_open.specs.declared.open_stages.OpenSettings.{OpenSettings}
use Rattle.pg_open.specs.declared.open_stages.OpenStage.{OpenStage}
use Rattle.pg_open.specs.declared.open_stages.OpenStage.TheVariants.{Fresh, Choosing, Starting, Over}
use Rattle.pg_open.specs.declared.open_stages.Starting.{Starting as Setup}
use Rattle.pg_open.specs.declared.stages.ConnectTls.{ConnectTls}
use Rattle.pg_open.specs.declared.stages.Question.{Question}
use Rattle.pg_open.specs.declared.stages.Stage.{Stage}
use Rattle.pg_open.specs.declared.stages.Stage.TheVariants as choosing
use Rattle.pg_open.specs.declared.stages.TlsSettings.{TlsSettings}

-- whatever a wait answers, the bytes are as before
waited-bytes : (a b : LinkView) (answer : LinkWait) → WaitAnswers a b answer → SameBytes a b
waited-bytes a b waits.Ready w = w.0.bytes
waited-bytes a b waits.Idle w = w.0
waited-bytes a b waits.Failed w = w.0.bytes

-- and so is what was passed on
waited-writing : (a b : LinkView) (answer : LinkWait) → WaitAnswers a b answer → SameWriting a b
waited-writing a b waits.Ready w = w.0.writing
waited-writing a b waits.Idle w = w.1
waited-writing a b waits.Failed w = w.0.writing

-- a request for TLS stands as before
asking-stays : (begin a b : LinkView) (s : SslRequest) → IsAsking begin a s → SameBytes a b → SameWriting a b → Keeps a b → IsAsking begin b s
asking-stays begin a b s p bytes writing keeps = record {
  sent = p.sent;
  given = bytes.given ∙ p.given;
  taken = bytes.taken ∙ p.taken;
  out = p.out;
  empty = p.empty;
  flushed = λ is. let was = p.flushed is in (was.0, λ shut. subst IsTrue (sym writing.flushed) (was.1 (sym writing.shut ∙ shut)));
  shut = writing.shut ∙ p.shut;
  count = p.count;
  link = keeps_then begin a b p.link keeps;
}

-- frames that were taken and passed on are so
answered-stays : (begin a b : LinkView) (sent frames : List ℕ) → SameWriting a b → WasAnswered begin a sent frames → WasAnswered begin b sent frames
answered-stays begin a b sent frames writing was = record {
  later = was.later;
  taken = was.taken;
  flushed = λ none shut. subst IsTrue (sym writing.flushed) (was.flushed none shut);
}

-- a startup stands as before
opening-stays : (l : Login) (asked : ℕ) (begin a b : LinkView) (s : Startup) → Opening l asked begin a s → SameBytes a b → SameWriting a b → Keeps a b → Opening l asked begin b s
opening-stays l asked begin a b s p bytes writing keeps = record {
  got = p.got;
  sent = p.sent;
  read = p.read;
  first = p.first;
  frame = p.frame;
  given = bytes.given ∙ p.given;
  taken = bytes.taken ∙ p.taken;
  came = p.came;
  last = record {
    front = p.last.front;
    piece = p.last.piece;
    all = p.last.all;
    fits = p.last.fits;
    at = p.last.at;
    wrote = p.last.wrote;
    leads = p.last.leads;
    header = p.last.header;
    answered = elim p.last.answered [
      | inl none ↦ inl none
      | inr was ↦ inr (answered-stays begin a b p.sent (p.first ++ p.last.wrote) writing was)
    ];
  };
  out = p.out;
  stands = p.stands;
  flushed = λ is. let was = p.flushed is in (was.0, λ shut. subst IsTrue (sym writing.flushed) (was.1 (sym writing.shut ∙ shut)));
  shut = writing.shut ∙ p.shut;
  count = p.count;
  link = keeps_then begin a b p.link keeps;
}

-- a choice of TLS stands as before, unless nothing was asked of the link
choice-stays : {L T F S E : Type 0} (k : Known L T F S E) (want : TlsSettings) (link : L) (tls : T) (asked : ℕ) (old new : Stage L T F S E) (answer : LinkWait) → Waits k.view old new answer → is_first old ≡ false →
    StandsAt k want link tls asked old → StandsAt k want link tls asked new
choice-stays k want link tls asked (choosing.Fresh l t) new answer w first st = absurd (no first)
  where
    no : true ≡ false → ⊥
    no e = cc
choice-stays {L} {T} {F} {S} {E} k want link tls asked (choosing.Asking q) new answer w first st =
    subst (λ (s : Stage L T F S E). StandsAt k want link tls asked s) (sym w.1) (record {
      asks = st.asks;
      same = w.2 ∙ st.same;
      none = st.none;
      limit = ap (λ (r : SslRequest). r.bytes.max_bytes) w.3 ∙ st.limit;
      request = subst (λ (r : SslRequest). IsAsking (k.view link) (k.view now.link) r) (sym w.3)
          (asking-stays (k.view link) (k.view q.link) (k.view now.link) q.request st.request
          (waited-bytes (k.view q.link) (k.view now.link) answer w.4) (waited-writing (k.view q.link) (k.view now.link) answer w.4) w.5);
    })
  where
    now : Question L T
    now = w.0
choice-stays {L} {T} {F} {S} {E} k want link tls asked (choosing.Shaking handshake quiet) new answer w first st =
    subst (λ (s : Stage L T F S E). StandsAt k want link tls asked s) (sym w.0) st
choice-stays k want link tls asked (choosing.Over left) new answer w first st = absurd st

-- a choice over a link that was waited for stands so over that link
choice-anew : {L T F S E : Type 0} (k : Known L T F S E) (want : TlsSettings) (link : L) (tls : T) (asked : ℕ) (old new : Stage L T F S E) (answer : LinkWait) → Waits k.view old new answer →
    StandsAt k want link tls asked old → (from : L) × StandsAt k want from tls asked new
choice-anew {L} {T} {F} {S} {E} k want link tls asked (choosing.Fresh l t) new answer w st =
    (w.0, subst (λ (s : Stage L T F S E). StandsAt k want w.0 tls asked s) (sym w.1) (refl, st.1, st.2))
choice-anew k want link tls asked (choosing.Asking q) new answer w st = (link, choice-stays k want link tls asked (choosing.Asking q) new answer w refl st)
choice-anew k want link tls asked (choosing.Shaking handshake quiet) new answer w st = (link, choice-stays k want link tls asked (choosing.Shaking handshake quiet) new answer w refl st)
choice-anew k want link tls asked (choosing.Over left) new answer w st = absurd st

module _ {L T F S E : Type 0} (o : Outside L T F S E) (want : OpenSettings) where
  -- a startup over what the choice gave stands as before
  starting-stays : (link : L) (tls : T) (from : MaybeTls L S) (old new : Setup (MaybeTls L S)) (answer : LinkWait) → OpenIdles o (Starting old) (Starting new) answer →
      IsStarting o want link tls from old.link old.startup old.asked → IsStarting o want link tls from new.link new.startup new.asked
  starting-stays link tls from old new answer w st =
      subst (λ (s : Startup). IsStarting o want link tls from new.link s new.asked) (sym w.0)
      (subst (λ (n : ℕ). IsStarting o want link tls from new.link old.startup n) (sym w.1) (record {
        reached = st.reached;
        limit = st.limit;
        opening = opening-stays (login_over o want from) old.asked (seen o from) (seen o old.link) (seen o new.link) old.startup st.opening
            (waited-bytes (seen o old.link) (seen o new.link) answer w.2) (waited-writing (seen o old.link) (seen o new.link) answer w.2) w.3;
      }))

  -- it stands as before, unless nothing was asked of the link
  pub open-stays : (old new : OpenStage L T F S E) (answer : LinkWait) → OpenIdles o old new answer → OpenStays o want old new
  open-stays (Fresh l t) new answer w first link tls st = absurd (no first)
    where
      no : true ≡ false → ⊥
      no e = cc
  open-stays (Choosing before) (Choosing after) answer w first link tls st = (
    st.0,
    ap (λ (c : ConnectTls L T F S E). c.settings) w.0 ∙ st.1,
    subst (λ (n : ℕ). StandsAt o.tls (tls_settings want) link tls n after.stage) (sym (ap (λ (c : ConnectTls L T F S E). c.asked) w.0))
        (choice-stays o.tls (tls_settings want) link tls before.asked before.stage after.stage answer w.1 first st.2),
  )
  open-stays (Choosing before) (Fresh l t) answer w first link tls st = absurd w
  open-stays (Choosing before) (Starting s) answer w first link tls st = absurd w
  open-stays (Choosing before) (Over left) answer w first link tls st = absurd w
  open-stays (Starting before) (Starting after) answer w first link tls st = (st.0, starting-stays link tls st.0 before after answer w st.1)
  open-stays (Starting before) (Fresh l t) answer w first link tls st = absurd w
  open-stays (Starting before) (Choosing c) answer w first link tls st = absurd w
  open-stays (Starting before) (Over left) answer w first link tls st = absurd w
  open-stays (Over left) new answer w first link tls st = absurd st

  -- and it hasn't answered
  pub still-opening : (old new : OpenStage L T F S E) (answer : LinkWait) → OpenIdles o old new answer → IsOpening o want old → IsOpening o want new
  still-opening (Fresh l t) new answer w is =
      (w.0, t, subst (λ (s : OpenStage L T F S E). OpenStands o want w.0 t s) (sym w.1) (refl, refl))
  still-opening (Choosing before) (Choosing after) answer w is =
      let st = is.2 in
      let anew : (from : L) × StandsAt o.tls (tls_settings want) from is.1 before.asked after.stage = choice-anew o.tls (tls_settings want) is.0 is.1 before.asked before.stage after.stage answer w.1 st.2 in (
        anew.0,
        is.1,
        (
          st.0,
          ap (λ (c : ConnectTls L T F S E). c.settings) w.0 ∙ st.1,
          subst (λ (n : ℕ). StandsAt o.tls (tls_settings want) anew.0 is.1 n after.stage) (sym (ap (λ (c : ConnectTls L T F S E). c.asked) w.0)) anew.1,
        ),
      )
  still-opening (Choosing before) (Fresh l t) answer w is = absurd w
  still-opening (Choosing before) (Starting s) answer w is = absurd w
  still-opening (Choosing before) (Over left) answer w is = absurd w
  still-opening (Starting before) (Starting after) answer w is = (is.0, is.1, open-stays (Starting before) (Starting after) answer w refl is.0 is.1 is.2)
  still-opening (Starting before) (Fresh l t) answer w is = absurd w
  still-opening (Starting before) (Choosing c) answer w is = absurd w
  still-opening (Starting before) (Over left) answer w is = absurd w
  still-opening (Over left) new answer w is = absurd is.2

  -- the same, of a stage that was met
  pub waits-open : (met old new : OpenStage L T F S E) (answer : LinkWait) → met ≡ old → OpenIdles o old new answer → IsOpening o want met → IsOpening o want new
  waits-open met old new answer is w opening = still-opening old new answer w (subst (λ (s : OpenStage L T F S E). IsOpening o want s) is opening)

  pub waits-stays : (met old new : OpenStage L T F S E) (answer : LinkWait) → met ≡ old → OpenIdles o old new answer → OpenStays o want met new
  waits-stays met old new answer is w = subst (λ (s : OpenStage L T F S E). OpenStays o want s new) (sym is) (open-stays old new answer w)
