-- What a frame is answered is what the rules of a server say.
use Rattle.std.proofs.Common.{◌≡◌, ℕ, Bool, true, false, not, ◌&&◌, List, [], ◌∷◌, ◌++◌, Option, Some, None, Result, Ok, Err, refl, sym, ap, subst, ◌∙◌, cond}
use Rattle.std.specs.Prelude.{if◌then◌else◌, option_map}
use Rattle.std.specs.List.{list_any}
use Rattle.pg_types.specs.declared.faults.WireFault.{WireFault}
use Rattle.pg_types.specs.declared.faults.WireFault.TheVariants as wire
use Rattle.pg_spec.specs.Batches.{is_nothing}
use Rattle.pg_spec.specs.ClientFrames.{ClientFrame, client_frame_of}
use Rattle.pg_spec.specs.RawMessages.{RawMessage, messages, bytes_left, is_ready, ends_in}
use Rattle.pg_machine.specs.declared.serving.Mode.{Mode}
use Rattle.pg_machine.specs.declared.serving.Mode.TheVariants.{Normal}
use Rattle.pg_machine.specs.declared.serving.Turn.{Turn}
use Rattle.pg_machine.specs.declared.serving.Turn.TheVariants.{Silent, Ready, AnswersReady, Answers, TakesData, EndsCopy, Refuses}
use Rattle.pg_machine.specs.declared.tags.Tags.{Tags}
use Rattle.pg_machine.specs.Serving as serving
use Rattle.pg_machine.specs.Serving.{turn, kind_of, is_error, Replied}
use Rattle.pg_machine.specs.Requests.{asked, is_sound, is_copy_in}
use Rattle.pg_machine.specs.Tags.{has_two, AreBytes}
use Rattle.pg_machine.specs.ServingSteps.{says_ready, answered_mode, ready_bytes}
use Rattle.pg_machine.proofs.ServingStepLaws as steps
use Rattle.pg_machine.proofs.ReplyLaws.{AreTagsOf, reply-sounds}
use Rattle.pg_server.specs.declared.handler.Effect.{Effect}
use Rattle.pg_server.specs.Answers.{asks, sounds}
use Rattle.pg_server.specs.Frames.{frame_or_fault, with_texts, is_known, is_text}
use Rattle.pg_server.specs.Handlers.{Step, service_of, may_give, effect_view, answer_view}
use Rattle.pg_server.specs.Standings as spec
use Rattle.pg_server.specs.Standings.{Standing, serving_of, is_broken}

-- a frame that was read was laid out
pub was_laid_out : (raw : RawMessage) (frame : ClientFrame) → frame_or_fault raw ≡ Ok frame → client_frame_of raw ≡ Some frame
was_laid_out raw frame e = known (is_known raw.tag) (client_frame_of raw) e
  where
    texts : (f : ClientFrame) (b : Bool) → ◌≡◌ {A = Result ClientFrame WireFault} (cond b (Ok f) (Err wire.NotUtf8)) (Ok frame) → Some f ≡ Some frame
    texts f true e = cc
    texts f false e = absurd cc

    laid : (o : Option ClientFrame) → with_texts o ≡ Ok frame → o ≡ Some frame
    laid None e = absurd cc
    laid (Some f) e = texts f (is_text f) e

    known : (b : Bool) (o : Option ClientFrame) → cond b (with_texts o) (Err wire.UnknownTag) ≡ Ok frame → o ≡ Some frame
    known true o e = laid o e
    known false o e = absurd cc

-- the handler's answer is the service's
asked-some : {S : Type 0} (step : Step S) (state : S) (t : Turn) (raw : RawMessage) (frame : ClientFrame) → client_frame_of raw ≡ Some frame → asks t ≡ true →
    asked (service_of step) state t raw ≡ Some (answer_view (step state frame))
asked-some step state Silent raw frame e a = absurd cc
asked-some step state Ready raw frame e a = absurd cc
asked-some {S = S} step state TakesData raw frame e a = ap (option_map (λ (f : ClientFrame). answer_view (step state f))) e
asked-some {S = S} step state Refuses raw frame e a =
    ap (λ (o : Option ClientFrame). Some (elim o [ None ↦ (record { reply = []; opens = false }, state) | Some f ↦ answer_view (step state f) ])) e
asked-some {S = S} step state AnswersReady raw frame e a =
    ap (λ (o : Option ClientFrame). Some (elim (option_map (λ (f : ClientFrame). answer_view (step state f)) o) [ None ↦ (service_of step).refuses state raw | Some x ↦ x ])) e
asked-some {S = S} step state Answers raw frame e a =
    ap (λ (o : Option ClientFrame). Some (elim (option_map (λ (f : ClientFrame). answer_view (step state f)) o) [ None ↦ (service_of step).refuses state raw | Some x ↦ x ])) e
asked-some {S = S} step state EndsCopy raw frame e a =
    ap (λ (o : Option ClientFrame). Some (elim (option_map (λ (f : ClientFrame). answer_view (step state f)) o) [ None ↦ (service_of step).refuses state raw | Some x ↦ x ])) e

asked-none : {S : Type 0} (step : Step S) (state : S) (t : Turn) (raw : RawMessage) → asks t ≡ false → asked (service_of step) state t raw ≡ None
asked-none step state Silent raw a = refl
asked-none step state Ready raw a = refl
asked-none step state TakesData raw a = absurd cc
asked-none step state Refuses raw a = absurd cc
asked-none step state AnswersReady raw a = absurd cc
asked-none step state Answers raw a = absurd cc
asked-none step state EndsCopy raw a = absurd cc

-- these are the tags of an effect's reply
pub record Seen (effect : Effect) (t : Tags) : Type 0 where
  pub are : AreTagsOf effect.reply t
  pub again : t.again ≡ has_two is_copy_in (messages effect.reply)

pub seen_of : (effect : Effect) (t : Tags) (reply : List ℕ) → reply ≡ effect.reply → AreBytes reply → t.whole ≡ is_nothing (bytes_left reply) → t.ready ≡ list_any is_ready (messages reply) →
    t.error ≡ list_any is_error (messages reply) → t.copy_in ≡ list_any is_copy_in (messages reply) → t.ends ≡ ends_in is_copy_in (messages reply) → t.again ≡ has_two is_copy_in (messages reply) → Seen effect t
seen_of effect t reply is bytes whole ready error copy_in ends again = record {
  are = subst (λ (r : List ℕ). AreTagsOf r t) is (record { bytes = bytes; whole = whole; ready = ready; error = error; copy_in = copy_in; ends = ends });
  again = again ∙ ap (λ (r : List ℕ). has_two is_copy_in (messages r)) is;
}

-- the frame has no effect
pub answered-none : {S : Type 0} (step : Step S) (at : Standing S) (raw : RawMessage) (frame : ClientFrame) (t : Turn) (reply : List ℕ) (ready : Bool) (mode : Mode) →
    t ≡ turn at.mode (kind_of raw) → asks t ≡ false → reply ≡ [] → ready ≡ says_ready t → mode ≡ (if ready then Normal else at.mode) →
    spec.Answers step at (record at { mode = mode }) raw frame (Ok (record { reply = reply; ready = ready }))
answered-none {S = S} step at raw frame t reply ready mode is a empty says mode_is =
    let s : steps.IsStep (service_of step) (serving_of at) raw (if says_ready t then ready_bytes else []) (record { state = at.state; mode = mode })
    = steps.step-none (service_of step) (serving_of at) raw t mode is (asked-none step at.state t raw a) (mode_is ∙ ap (λ b. if b then Normal else at.mode) says) in (
      ap (λ (x : Turn). asks x && not (may_give raw (step at.state frame).0)) (sym is) ∙ ap (λ b. b && not (may_give raw (step at.state frame).0)) a,
      ap (λ (r : List ℕ). r ++ (if ready then ready_bytes else [])) empty ∙ ap (λ b. if b then ready_bytes else []) says ∙ s.bytes_are,
      ap (λ (x : serving.Serving S). record at { state = x.state; mode = x.mode }) s.leads,
    )

-- an effect may be given where its tags say so
pub may_give-sounds : (raw : RawMessage) (effect : Effect) (t : Tags) → AreTagsOf effect.reply t → t.again ≡ has_two is_copy_in (messages effect.reply) →
    sounds t raw.tag effect.opens ≡ may_give raw effect
may_give-sounds raw effect t are again =
    ap (λ b. b && not (effect.opens && t.again)) (reply-sounds raw effect.reply effect.opens t are)
    ∙ ap (λ b. (is_nothing (bytes_left effect.reply) && is_sound raw (effect_view effect)) && not (effect.opens && b)) again

whole_reply : (a b c : Bool) (s : List ℕ) → ((is_nothing s && a) && b) ≡ true → s ≡ []
whole_reply a b c [] e = refl
whole_reply a b c (x ∷ s) e = absurd cc

-- the frame has an effect
pub answered-some : {S : Type 0} (step : Step S) (at : Standing S) (raw : RawMessage) (frame : ClientFrame) (t : Turn) (effect : Effect) (state : S) (seen : Tags) (ready : Bool) (mode : Mode) →
    frame_or_fault raw ≡ Ok frame → t ≡ turn at.mode (kind_of raw) → asks t ≡ true → (effect, state) ≡ step at.state frame →
    AreTagsOf effect.reply seen → seen.again ≡ has_two is_copy_in (messages effect.reply) → sounds seen raw.tag effect.opens ≡ true →
    ready ≡ says_ready t → mode ≡ answered_mode t seen.error effect.opens →
    spec.Answers step at (record at { state = state; mode = mode }) raw frame (Ok (record { reply = effect.reply; ready = ready }))
answered-some {S = S} step at raw frame t effect state seen ready mode read is a stepped are again sound says mode_is =
    let good : may_give raw effect ≡ true = sym (may_give-sounds raw effect seen are again) ∙ sound in
    let whole : bytes_left effect.reply ≡ [] = whole_reply (is_sound raw (effect_view effect)) (not (effect.opens && has_two is_copy_in (messages effect.reply))) true (bytes_left effect.reply) good in
    let asks-it : asked (service_of step) at.state t raw ≡ Some (answer_view (effect, state))
    = asked-some step at.state t raw frame (was_laid_out raw frame read) a ∙ ap (λ (x : Effect × S). Some (answer_view x)) (sym stepped) in
    let s : steps.IsStep (service_of step) (serving_of at) raw (effect.reply ++ (if says_ready t then ready_bytes else [])) (record { state = state; mode = mode })
    = steps.step-some (service_of step) (serving_of at) raw t (answer_view (effect, state)) effect.reply effect.opens mode is asks-it are.bytes whole refl refl
    (mode_is ∙ ap (λ b. answered_mode t b effect.opens) are.error) in (
      ap (λ (x : Effect × S). asks (turn at.mode (kind_of raw)) && not (may_give raw x.0)) (sym stepped) ∙ ap (λ b. asks (turn at.mode (kind_of raw)) && not b) good ∙ and_false (asks (turn at.mode (kind_of raw))),
      ap (λ b. effect.reply ++ (if b then ready_bytes else [])) says ∙ s.bytes_are,
      ap (λ (x : serving.Serving S). record at { state = x.state; mode = x.mode }) s.leads,
    )
  where
    and_false : (b : Bool) → (b && false) ≡ false
    and_false true = refl
    and_false false = refl

-- the effect may not be given
pub answered-never : {S : Type 0} (step : Step S) (at : Standing S) (raw : RawMessage) (frame : ClientFrame) (t : Turn) (effect : Effect) (state : S) (seen : Tags) →
    t ≡ turn at.mode (kind_of raw) → asks t ≡ true → (effect, state) ≡ step at.state frame →
    AreTagsOf effect.reply seen → seen.again ≡ has_two is_copy_in (messages effect.reply) → sounds seen raw.tag effect.opens ≡ false → is_broken step at raw frame ≡ true
answered-never {S = S} step at raw frame t effect state seen is a stepped are again sound =
    ap (λ (x : Effect × S). asks (turn at.mode (kind_of raw)) && not (may_give raw x.0)) (sym stepped)
    ∙ ap (λ b. asks (turn at.mode (kind_of raw)) && not b) (sym (may_give-sounds raw effect seen are again) ∙ sound)
    ∙ ap (λ (x : Turn). asks x && true) (sym is) ∙ ap (λ b. b && true) a
