-- A link that conforms holds its course in a call, so valid input ends well over it.
use Rattle.std.proofs.Common.{◌≡◌, ℕ, ◌≤◌, List, [], ◌++◌, length, take, drop, append_assoc, Bool, true, false, ◌||◌, Option, Some, Result, Err, refl, sym, ap, subst, ◌∙◌, arith}
use Rattle.std.specs.Prelude.{IfSome, IsFalse, ⊤}
use Rattle.std.specs.List.{concat}
use Rattle.pg_promises.specs.Causes.{Call, HasCause, OfDialogue, WithSettings, startup_after}
use Rattle.pg_spec.specs.Settings.{Settings}
use Rattle.pg_promises.specs.ConnectionStrings.{Means}
use Rattle.pg_spec.specs.Faults.{Failure, OutOfMemory}
use Rattle.pg_spec.specs.Links.{Plan, Rose, added, due_by}
use Rattle.pg_promises.proofs.Strings.{means_one}
use Rattle.pg_promises.specs.Promises.{AnswersStartup, EndsWell}
use Rattle.pg_promises.specs.Calls as any_calls
use Rattle.pg_promises.specs.Calls.{apart}
use Rattle.pg_promises.specs.Completeness as any
use Rattle.pg_promises.specs.Sent.{SentInOrder}
use Rattle.pg_spec.specs.RawMessages.{RawMessage, messages}
use Rattle.pg_spec.specs.Sent.{turns_given}
use Rattle.pg_spec.specs.Startup.{Startup, startup}
use Rattle.pg_wire.specs.LinkCalls.{Continues, Extends, Tells}
use Rattle.pg_session.specs.Speeches.{BookWhole, Speech, meaning_of}
use Rattle.pg_session.specs.Course.{HoldsCourse}
use Rattle.std.proofs.lemmas.List.Elements.{recursion_from_All}
use Rattle.pg_session.proofs.Complete.Bytes.{IsWhole, all-take, front-of, messages-behind, split-concat, whole-concat}
use Rattle.pg_session.proofs.Complete.Start.{frames-grow, same-later}
use Rattle.pg_session.proofs.Complete.{ends-well}
use Rattle.pg_session.proofs.Complete.Answered.{answers}
use Rattle.pg_session.proofs.SentSoFar.TurnsAsked.{HasFewTurns, few-turns}

-- what is told holds of what is told
pub of-some : {X : Type 0} (o : Option X) (x : X) (P : X → Type 0) → o ≡ Some x → IfSome o P → P x
of-some o x P e p = subst (λ (o : Option _). IfSome o P) e p

to-some : {X : Type 0} (o : Option X) (x : X) (P : X → Type 0) → o ≡ Some x → P x → IfSome o P
to-some o x P e p = subst (λ (o : Option _). IfSome o P) (sym e) p

-- neither is
neither : (a b : Bool) → IsFalse (a || b) → IsFalse a × IsFalse b
neither false b none = (refl, none)
neither true b none = absurd cc

-- a count that stands at 0 didn't rise
never-rose : (before after : ℕ) → after ≡ 0 → Rose before after → ⊥
never-rose before after none rose = omega (arith, none, rose)

module _ (call : Call) (plan : Plan) (taken : List ℕ) (before : Tells call.before) (after : Tells call.after) (goes : Continues call.before call.after)
    (none_given : call.before.given ≡ Some []) (none_taken : call.before.taken ≡ Some []) (planned : call.before.plan ≡ Some plan) (told : call.after.taken ≡ Some taken)
    (calm : IsFalse plan.is_troubled) (endless : IsFalse plan.ends) where
  -- it tells the bytes that it gave
  all-given : (given : List ℕ) × (call.after.given ≡ Some given)
  all-given = subst (λ (o : Option (List ℕ)). Extends o call.after.given) none_given goes.given

  abbrev given : List ℕ
  given = all-given.0

  planned-after : call.after.plan ≡ Some plan
  planned-after = goes.keeps.plan ∙ planned

  -- of the plan and the bytes before, and after
  of-before : (P : Plan → List ℕ → List ℕ → Type 0) → IfSome call.before.plan (λ p. IfSome call.before.given (λ g. IfSome call.before.taken (λ t. P p g t))) → P plan [] []
  of-before P h =
      of-some call.before.taken [] (P plan []) none_taken
      (of-some call.before.given [] (λ g. IfSome call.before.taken (λ t. P plan g t)) none_given
      (of-some call.before.plan plan (λ p. IfSome call.before.given (λ g. IfSome call.before.taken (λ t. P p g t))) planned h))

  to-before : (P : Plan → List ℕ → List ℕ → Type 0) → P plan [] [] → IfSome call.before.plan (λ p. IfSome call.before.given (λ g. IfSome call.before.taken (λ t. P p g t)))
  to-before P h =
      to-some call.before.plan plan (λ p. IfSome call.before.given (λ g. IfSome call.before.taken (λ t. P p g t))) planned
      (to-some call.before.given [] (λ g. IfSome call.before.taken (λ t. P plan g t)) none_given
      (to-some call.before.taken [] (P plan []) none_taken h))

  of-after : (P : Plan → List ℕ → List ℕ → Type 0) → IfSome call.after.plan (λ p. IfSome call.after.given (λ g. IfSome call.after.taken (λ t. P p g t))) → P plan given taken
  of-after P h =
      of-some call.after.taken taken (P plan given) told
      (of-some call.after.given given (λ g. IfSome call.after.taken (λ t. P plan g t)) all-given.1
      (of-some call.after.plan plan (λ p. IfSome call.after.given (λ g. IfSome call.after.taken (λ t. P p g t))) planned-after h))

  within-plan : (rest : List ℕ) × (given ++ rest ≡ concat (take (turns_given taken) plan.entries))
  within-plan = of-after (λ p g t. (rest : List ℕ) × (g ++ rest ≡ concat (take (turns_given t) p.entries)))
      (goes.keeps.in_plan (to-before (λ p g t. (rest : List ℕ) × (g ++ rest ≡ concat (take (turns_given t) p.entries)))
      (concat (take (turns_given []) plan.entries), refl)))

  holds-course : (s : Settings) → HasFewTurns taken (length (startup_after call s given).frames) → HoldsCourse call s plan given taken
  holds-course s few = record {
    none_given = none_given;
    none_taken = none_taken;
    tells_given = all-given.1;
    tells_taken = told;
    steady = (of-before (λ p g t. (call.before.due ≡ Some (due_by p g t)) × (IsFalse p.is_troubled → _)) before.by_plan).1 calm;
    due = (of-after (λ p g t. (call.after.due ≡ Some (due_by p g t)) × (IsFalse p.is_troubled → _)) after.by_plan).0;
    rest = within-plan.0;
    front = within-plan.1;
    no_fault = never-rose call.before.faults call.after.faults
        (of-some call.after.plan plan (λ p. IsFalse p.is_troubled → call.after.faults ≡ 0) planned-after after.no_fault calm);
    no_end = never-rose call.before.ends call.after.ends
        (of-some call.after.plan plan (λ p. IsFalse p.ends → call.after.ends ≡ 0) planned-after after.no_end endless);
    asked = few.units;
    whole = few.whole;
  }

  -- P of the bytes that crossed
  of-bytes : (P : Settings → List ℕ → List ℕ → Type 0) → OfDialogue call P → (s : Settings) × Means call.config s × P s given taken
  of-bytes P (s, means, crossed) =
      let g : added call.before.given call.after.given ≡ Some given = ap (λ o. added o call.after.given) none_given ∙ ap (λ o. added (Some []) o) all-given.1 in
      let t : added call.before.taken call.after.taken ≡ Some taken = ap (λ o. added o call.after.taken) none_taken ∙ ap (λ o. added (Some []) o) told in (
        s,
        means,
        of-some (added call.before.taken call.after.taken) taken (λ t. P s given t) t
            (of-some (added call.before.given call.after.given) given (λ g. IfSome (added call.before.taken call.after.taken) (λ t. P s g t)) g crossed),
      )

-- want of memory is so for any commands too
ends-so : (R : Type 0) (failure : Failure) → EndsWell (Err failure) → any.EndsWell {T = R} (Err failure)
ends-so R OutOfMemory h = tt
ends-so R _ h = h

-- valid input over a link that conforms ends well
pub must-end-well : {C T A E R : Type 0} (speech : Speech C T A E) → BookWhole speech → (call : any_calls.Call C) (failure : Failure) (result : Result R Failure) → Tells call.before → Tells call.after → Continues call.before call.after →
    (WithSettings (apart call) (λ s. ⊤) → OfDialogue (apart call) (λ s g t. SentInOrder (meaning_of speech) call s g t)) → HasCause (apart call) failure → result ≡ Err failure → any.MustEndWell call result
must-end-well {C} {T} {A} {E} {R} speech whole call failure result before after goes sent cause is plan s taken none_given none_taken planned told means valid conforms =
    let calm = neither plan.is_troubled plan.ends conforms.opens.untroubled in
    let crossed = of-bytes (apart call) plan taken before after goes none_given none_taken planned told calm.0 calm.1 (λ s g t. SentInOrder (meaning_of speech) call s g t) (sent (s, means, tt)) in
    let given = all-given (apart call) plan taken before after goes none_given none_taken planned told calm.0 calm.1 in
    let in-order : SentInOrder (meaning_of speech) call s given.0 taken =
    subst (λ (x : Settings). SentInOrder (meaning_of speech) call x given.0 taken) (means_one call.config crossed.0 s crossed.1 means) crossed.2 in
    let few = few-turns speech whole call s given.0 taken valid.no_tls in-order in
    subst (λ (r : Result R Failure). any.EndsWell r) (sym is)
    (ends-so R failure
    (ends-well (apart call) s plan given.0 taken means valid (answers call s plan taken few.no_flush conforms)
    (holds-course (apart call) plan taken before after goes none_given none_taken planned told calm.0 calm.1 s few)
    failure cause))

-- ---- the frames of a startup

-- what it gave is a front of what its plan lets it give
pub in-plan : (call : Call) (plan : Plan) (taken : List ℕ) → Continues call.before call.after → call.before.given ≡ Some [] → call.before.taken ≡ Some [] → call.before.plan ≡ Some plan →
    call.after.taken ≡ Some taken → (given : List ℕ) → call.after.given ≡ Some given → (rest : List ℕ) × (given ++ rest ≡ concat (take (turns_given taken) plan.entries))
in-plan call plan taken goes none_given none_taken planned told given is =
    let P : Plan → List ℕ → List ℕ → Type 0 = λ p g t. (rest : List ℕ) × (g ++ rest ≡ concat (take (turns_given t) p.entries)) in
    of-some call.after.taken taken (P plan given) told
    (of-some call.after.given given (λ g. IfSome call.after.taken (λ t. P plan g t)) is
    (of-some call.after.plan plan (λ p. IfSome call.after.given (λ g. IfSome call.after.taken (λ t. P p g t))) (goes.keeps.plan ∙ planned)
    (goes.keeps.in_plan
    (to-some call.before.plan plan (λ p. IfSome call.before.given (λ g. IfSome call.before.taken (λ t. P p g t))) planned
    (to-some call.before.given [] (λ g. IfSome call.before.taken (λ t. P plan g t)) none_given
    (to-some call.before.taken [] (P plan []) none_taken (concat (take (turns_given []) plan.entries), refl)))))))

-- so it writes no more frames than those that its plan answers
pub few-frames : (call : Call) (s : Settings) (plan : Plan) (taken given : List ℕ) → (opens : AnswersStartup call s plan) →
    (rest : List ℕ) × (given ++ rest ≡ concat (take (turns_given taken) plan.entries)) → length (startup_after call s given).frames ≤ opens.frames
few-frames call s plan taken given opens w =
    let whole = recursion_from_All IsWhole plan.entries opens.whole in
    let first = concat (take opens.frames plan.entries) in
    let front = front-of given (w.0 ++ concat (drop (turns_given taken) plan.entries)) (concat plan.entries)
    (sym (append_assoc given w.0 (concat (drop (turns_given taken) plan.entries))) ∙ ap (λ (l : List ℕ). l ++ concat (drop (turns_given taken) plan.entries)) w.1 ∙ split-concat (turns_given taken) plan.entries) in
    let split : messages (concat plan.entries) ≡ messages first ++ messages (concat (drop opens.frames plan.entries)) =
    ap messages (sym (split-concat opens.frames plan.entries)) ∙ messages-behind first (concat (drop opens.frames plan.entries)) (whole-concat (take opens.frames plan.entries) (all-take IsWhole opens.frames plan.entries whole)) in
    let all : length (startup s call.nonce (messages (concat plan.entries))).frames ≡ opens.frames =
    ap (λ (l : List RawMessage). length (startup s call.nonce l).frames) split
    ∙ ap (λ (d : Startup). length d.frames) (same-later s call.nonce (messages first) (messages (concat (drop opens.frames plan.entries))) opens.started.0 opens.started.1)
    ∙ opens.all_frames in
    omega (arith, frames-grow s call.nonce (messages given) front.more, ap (λ (l : List RawMessage). length (startup s call.nonce l).frames) front.is, all)
