-- Simple queries ask at once, and hold nothing back.
use Rattle.std.proofs.Common.{◌≡◌, ℕ, List, [], ◌∷◌, Bool, true, false, Option, Some, None, Result, Ok, Err, refl, sym, subst}
use Rattle.std.specs.Prelude.{◌≤◌, All, IfSome, IsTrue, count_by, length, nat_lt, slice_get}
use Rattle.std.proofs.lemmas.List.Elements.{All-head, All-weaker}
use Rattle.pg_spec.specs.Dialogues.{Dialogue, Answers, behind}
use Rattle.pg_spec.specs.Meanings.{Ending, Meaning}
use Rattle.pg_spec.specs.Simples.{AreSimple, asks_by, reads_unless}
use Rattle.pg_promises.specs.Kept.{AllWentOut, AsksAtOnce, BeginsWithRequest, CopiesNothing, HasNoCopy, NoneKeptBack}
use Rattle.pg_promises.specs.FailedLanded.{call_of}
use Rattle.pg_promises.specs.Landed.{simply}
use Rattle.pg_promises.specs.Causes.{Call, startup_after}
use Rattle.pg_promises.specs.Promises as simple
use Rattle.pg_promises.specs.Promises.{is_plain}
use Rattle.pg_spec.specs.Faults.{Failure, FrameFault, Stalled, Tls}
use Rattle.pg_spec.specs.Frames.{query_frame}
use Rattle.pg_spec.specs.Links.{LinkView, OfBytes, added}
use Rattle.pg_spec.specs.Report.{Answer, Command, Report, Simple, simple_answer}
use Rattle.pg_spec.specs.Sent.{whole_units}
use Rattle.pg_spec.specs.SimpleQuery.{SimpleAnswer, simple_reading}
use Rattle.pg_spec.specs.Startup.{Done}

-- what follows of told bytes
map-some : {X : Type 0} (o : Option X) (P Q : X → Type 0) → ((x : X) → P x → Q x) → IfSome o P → IfSome o Q
map-some None P Q f p = tt
map-some (Some x) P Q f p = f x p

pub map-bytes : (a b : LinkView) (P Q : List ℕ → List ℕ → Type 0) → ((g t : List ℕ) → P g t → Q g t) → OfBytes a b P → OfBytes a b Q
map-bytes a b P Q f p =
    map-some (added a.given b.given) (λ g. IfSome (added a.taken b.taken) (λ t. P g t)) (λ g. IfSome (added a.taken b.taken) (λ t. Q g t))
    (λ g. map-some (added a.taken b.taken) (λ t. P g t) (λ t. Q g t) (f g)) p

module _ (Q R A : Type 0) (wanted : Option ℕ) (next : SimpleAnswer → A) where
  one-request : (f : Result (List ℕ) FrameFault) → elim f as (λ _. Bool) [ Ok frame ↦ true | Err fault ↦ false ] ≡ true →
      BeginsWithRequest {Q = Q} {R = R} {A = A} (behind (asks_by wanted f) (λ a. Answers (next a)))
      × HasNoCopy {Q = Q} {R = R} {A = A} (behind (asks_by wanted f) (λ a. Answers (next a)))
  one-request (Err fault) h = absurd cc
  one-request (Ok frame) h = (tt, (refl, by (simple_reading wanted [])))
    where
      by : (r : Option SimpleAnswer) → HasNoCopy {Q = Q} {R = R} {A = A} (behind (reads_unless wanted r) (λ a. Answers (next a)))
      by (Some a) = tt
      by None = λ ms. tt

module _ {E Q R : Type 0} (meaning : Meaning Command Answer E Q R) (are : AreSimple meaning simply) where
  -- a simple query asks at once, whatever its script has
  at-once : (c : Command) → IsTrue (is_plain c) → (own : E) → BeginsWithRequest (meaning.asks own c) × HasNoCopy (meaning.asks own c)
  at-once (Simple text (Some n)) h own = absurd cc
  at-once (Simple text None) h own =
      let one = one-request Q R (Ending Answer E) None (λ a. record { answer = simple_answer a; own = own }) (query_frame text) h in
      let same = are own (Simple text None) text None refl in (
        subst (λ (d : Dialogue Q R (Ending Answer E)). BeginsWithRequest d) (sym same) one.0,
        subst (λ (d : Dialogue Q R (Ending Answer E)). HasNoCopy d) (sym same) one.1,
      )

  first-at-once : (script : List Command) → All (λ c. IsTrue (is_plain c)) script → IfSome (slice_get script 0) (λ c. BeginsWithRequest (meaning.asks meaning.begins c))
  first-at-once [] h = tt
  first-at-once (c ∷ script) h = (at-once c (All-head (λ (x : Command). IsTrue (is_plain x)) c script h) meaning.begins).0

  script-at-once : (script : List Command) → All (λ c. IsTrue (is_plain c)) script → AsksAtOnce meaning script
  script-at-once script h = record {
    first = first-at-once script h;
    no_copy = All-weaker (λ (c : Command). IsTrue (is_plain c)) (λ (c : Command). (own : E) → HasNoCopy (meaning.asks own c)) (λ c plain own. (at-once c plain own).1) script h;
  }

  all-at-once : (scripts : List (List Command)) → All (λ script. All (λ c. IsTrue (is_plain c)) script) scripts → All (AsksAtOnce meaning) scripts
  all-at-once scripts h = All-weaker (λ (script : List Command). All (λ c. IsTrue (is_plain c)) script) (AsksAtOnce meaning) script-at-once scripts h

  pub kept : (call : Call) (result : Result Report Failure) → NoneKeptBack meaning (call_of call) result → simple.NoneKeptBack call result
  kept call (Ok report) h = h
  kept call (Err (Stalled before after)) h = λ steady plain.
      let at_once = all-at-once call.scripts plain in
      let d = h steady (All-weaker (AsksAtOnce meaning) (CopiesNothing meaning) (λ script asks. asks.no_copy) call.scripts at_once) in (
        d.0,
        d.1,
        map-bytes call.before call.after (λ g t. ((used : ℕ) × ((startup_after call d.0 g).outcome ≡ Done used)) → AllWentOut meaning (call_of call) d.0 g t)
            (λ g t. ((used : ℕ) × ((startup_after call d.0 g).outcome ≡ Done used)) → count_by (λ script. nat_lt 0 (length script)) call.scripts ≤ whole_units t)
            (λ g t sent started. (sent started).count at_once) d.2,
      )
  kept call (Err (Tls cause)) h = h
  kept call (Err _) h = h
