-- What a frame does to a machine, part by part, is what the rules say.
use Rattle.std.proofs.Common.{◌≡◌, ℕ, List, [], ◌++◌, Option, Some, None, refl, ap, ◌∙◌, length}
use Rattle.std.specs.Prelude.{if◌then◌else◌}
use Rattle.std.specs.List.{list_any}
use Rattle.pg_spec.specs.RawMessages.{RawMessage, message_bytes, messages}
use Rattle.pg_wire.specs.Fronts.{IsWhole}
use Rattle.pg_machine.specs.declared.serving.Mode.{Mode}
use Rattle.pg_machine.specs.declared.serving.Mode.TheVariants.{Normal}
use Rattle.pg_machine.specs.declared.serving.Turn.{Turn}
use Rattle.pg_machine.specs.declared.serving.Turn.TheVariants.{Silent, Ready, AnswersReady, Answers, TakesData, EndsCopy, Refuses}
use Rattle.pg_machine.specs.Serving.{Effect, is_error, turn, kind_of}
use Rattle.pg_machine.specs.Requests.{asked}
use Rattle.pg_machine.specs.Tags.{AreBytes}
use Rattle.pg_machine.specs.ServingSteps.{ready_bytes, says_ready, answered_mode, frame_of}
use Rattle.pg_machine.proofs.ServingStepLaws as steps
use Rattle.pg_machine.specs.declared.machine.At.{At}
use Rattle.pg_machine.specs.declared.machine.Said.{Said}
use Rattle.pg_machine.specs.Machines.{Table, service_of, asked_of, IsSaid, Says}
use Rattle.pg_machine.specs.Steps.{serving_of}

-- the table's answers are the service's
asked-same : (table : Table) (state : ℕ) (t : Turn) (bytes : List ℕ) (frame : RawMessage) → message_bytes frame ≡ bytes →
    asked (service_of table) state t frame ≡ asked_of table t state bytes
asked-same table state t bytes frame e = by_turn t ∙ ap (λ b. asked_of table t state b) e
  where
    by_turn : (t : Turn) → asked (service_of table) state t frame ≡ asked_of table t state (message_bytes frame)
    by_turn Silent = refl
    by_turn Ready = refl
    by_turn AnswersReady = refl
    by_turn Answers = refl
    by_turn TakesData = refl
    by_turn EndsCopy = refl
    by_turn Refuses = refl

-- ---- the whole step

-- what the answer of a frame adds, and where it leads
abbrev pub IsStep : Table → At → (frame bytes : List ℕ) → At → Type 0
IsStep table at frame bytes next = steps.IsStep (service_of table) (serving_of at) (frame_of frame) bytes (serving_of next)

pub step-some : (table : Table) (at : At) (frame : List ℕ) (t : Turn) (a : Effect × ℕ) (s : Said) (mode : Mode) →
    IsWhole frame (length frame) → AreBytes frame → t ≡ turn at.mode (kind_of (frame_of frame)) → asked_of table t at.state frame ≡ Some a →
    IsSaid a s → AreBytes s.reply.now → mode ≡ answered_mode t (list_any is_error (messages s.reply.now)) s.opens →
    IsStep table at frame (s.reply.now ++ (if says_ready t then ready_bytes else [])) (record { state = s.state; mode = mode })
step-some table at frame t a s mode whole are is asks said bytes mode_is =
    let f = frame_of frame in
    let step = steps.step-some (service_of table) (serving_of at) f t a s.reply.now s.opens mode is
    (asked-same table at.state t frame f (steps.frame-spelled frame whole are) ∙ asks) bytes said.whole said.reply said.opens mode_is in
    record { bytes_are = step.bytes_are; leads = ap (λ (state : ℕ). record { state = state; mode = mode }) said.state ∙ step.leads }

pub step-none : (table : Table) (at : At) (frame : List ℕ) (t : Turn) (mode : Mode) →
    IsWhole frame (length frame) → AreBytes frame → t ≡ turn at.mode (kind_of (frame_of frame)) → asked_of table t at.state frame ≡ None →
    mode ≡ (if says_ready t then Normal else at.mode) →
    IsStep table at frame (if says_ready t then ready_bytes else []) (record { state = at.state; mode = mode })
step-none table at frame t mode whole are is asks mode_is =
    steps.step-none (service_of table) (serving_of at) (frame_of frame) t mode is
    (asked-same table at.state t frame (frame_of frame) (steps.frame-spelled frame whole are) ∙ asks) mode_is

-- ---- what was said

pub says-some : (o : Option (Effect × ℕ)) (s : Said) → Says o (Some s) → (a : Effect × ℕ) × (o ≡ Some a) × IsSaid a s
says-some None s says = absurd says
says-some (Some a) s says = (a, refl, says)

pub says-none : (o : Option (Effect × ℕ)) → Says o None → o ≡ None
says-none None says = refl
says-none (Some a) says = absurd says
