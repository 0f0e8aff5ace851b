use Rattle.std.proofs.Common.{◌≡◌, ap, sym, ◌∙◌, arith, false, List, ℕ, [], ◌++◌, Bool, None}
use Rattle.std.specs.Prelude.{if◌then◌else◌}
use Rattle.pg_machine.specs.declared.serving.Kind.{Kind}
use Rattle.pg_machine.specs.declared.serving.Mode.TheVariants.{Normal}
use Rattle.pg_machine.specs.declared.machine.Said.{Said}
use Rattle.pg_machine.specs.Serving.{turn, kind_of}
use Rattle.pg_machine.specs.Machines.{asked_of}
use Rattle.pg_machine.specs.ServingSteps.{ready_bytes, says_ready, answered_mode, frame_of}
use Rattle.pg_machine.proofs.Spelled.{bytes-from}
use Rattle.pg_machine.proofs.StepLaws.{IsStep, says-some, says-none, step-some, step-none}
use Rattle.pg_machine.proofs.machine.Machine.serve.Goals as goal

pub returns-else-ready : goal.returns-else-ready
returns-else-ready c =
    let t = c.turn_of-turn.result in
    let at = c.args.at in
    let frame : List ℕ = c.args.frame.now in
    let is : t ≡ turn at.mode (kind_of (frame_of frame)) = c.turn_of-turn.ensures ∙ ap (λ (k : Kind). turn at.mode k) c.kind_of.ensures in
    let none : asked_of c.args.self.now t at.state frame ≡ None = says-none (asked_of c.args.self.now t at.state frame) c.in_default.ensures in
    let unready : says_ready t ≡ false = sym c.says_ready-ready.ensures ∙ c.if-ready.false in
    let step : IsStep c.args.self.now at frame (if says_ready t then ready_bytes else []) (record { state = at.state; mode = at.mode })
    = step-none c.args.self.now at frame t at.mode c.requires (bytes-from frame (λ i. omega (arith, c.type_inv.frame i))) is none
    (ap (λ (b : Bool). if b then Normal else at.mode) (sym unready)) in (
      c.in_ok-put.ensures ∙ ap (λ (b : Bool). c.args.out.now.items ++ (if b then ready_bytes else [])) c.says_ready-ready.ensures
          ∙ ap (λ (b : List ℕ). c.args.out.now.items ++ b) step.bytes_are,
      step.leads,
    )

pub returns : goal.returns
returns c =
    let t = c.turn_of-turn.result in
    let at = c.args.at in
    let frame : List ℕ = c.args.frame.now in
    let s : Said = c.in-Some.said in
    let is : t ≡ turn at.mode (kind_of (frame_of frame)) = c.turn_of-turn.ensures ∙ ap (λ (k : Kind). turn at.mode k) c.kind_of.ensures in
    let some = says-some (asked_of c.args.self.now t at.state frame) s c.in-Some.ensures in
    let tags = c.tags_of-error.ensures in
    let step : IsStep c.args.self.now at frame (s.reply.now ++ (if says_ready t then ready_bytes else [])) (record { state = s.state; mode = c.mode_behind.result })
    = step-some c.args.self.now at frame t some.0 s c.mode_behind.result c.requires (bytes-from frame (λ i. omega (arith, c.type_inv.frame i))) is some.1 some.2
    tags.bytes (c.mode_behind.ensures ∙ ap (λ (b : Bool). answered_mode t b s.opens) tags.error) in (
      c.in_ok-put-2.ensures ∙ ap (λ (b : Bool). c.args.out.now.items ++ (s.reply.now ++ (if b then ready_bytes else []))) c.says_ready-ready.ensures
          ∙ ap (λ (b : List ℕ). c.args.out.now.items ++ b) step.bytes_are,
      step.leads,
    )
