-- A handler's answers, and the server that they make.
use Rattle.std.specs.Prelude.{Bool, false, not, ◌&&◌, [], Some, None, option_map}
use Rattle.pg_spec.specs.Batches.{is_nothing}
use Rattle.pg_spec.specs.ClientFrames.{ClientFrame, client_frame_of}
use Rattle.pg_spec.specs.RawMessages.{RawMessage, messages, bytes_left}
use Rattle.pg_machine.specs.Serving as serving
use Rattle.pg_machine.specs.Requests.{is_sound, is_copy_in}
use Rattle.pg_machine.specs.Tags.{has_two}
use Rattle.pg_server.specs.declared.handler.Effect.{Effect}

-- what a handler does with a frame; `S` are its states
abbrev pub Step : Type 0 → Type 0
Step S = S → ClientFrame → Effect × S

-- an effect as the rules of a server have it
abbrev pub effect_view : Effect → serving.Effect
effect_view effect = record { reply = messages effect.reply; opens = effect.opens }

-- The effect of a frame may be given: its reply is whole messages, as the rules allow it, and an opening holds one
-- CopyInResponse.
abbrev pub may_give : RawMessage → Effect → Bool
may_give frame effect =
    (is_nothing (bytes_left effect.reply) && is_sound frame (effect_view effect))
    && not (effect.opens && has_two is_copy_in (messages effect.reply))

-- an answer as the rules of a server have it
abbrev pub answer_view : {S : Type 0} → Effect × S → serving.Effect × S
answer_view answer = (effect_view answer.0, answer.1)

-- The handler as a server: its step stands in place of a row, and of the refusal.
abbrev pub service_of : {S : Type 0} → Step S → serving.Service S
service_of step = record {
  answers = λ state raw. option_map (λ frame. answer_view (step state frame)) (client_frame_of raw);
  refuses = λ state raw. elim (client_frame_of raw) [ None ↦ (record { reply = []; opens = false }, state) | Some frame ↦ answer_view (step state frame) ];
}
