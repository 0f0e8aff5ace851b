-- What a frame does, part by part, is what the rules say.
use Rattle.std.proofs.Common.{◌≡◌, ℕ, Bool, true, false, List, [], ◌∷◌, ◌++◌, Option, Some, None, refl, sym, ap, ◌∙◌, append-nil, length, drop}
use Rattle.std.specs.Prelude.{if◌then◌else◌}
use Rattle.std.specs.List.{list_any}
use Rattle.std.proofs.lemmas.Grind.{flat_map-append}
use Rattle.std.proofs.lemmas.Option.{same_Some}
use Rattle.std.proofs.Math.Seq.{drop-length}
use Rattle.pg_spec.specs.RawMessages.{RawMessage, message_bytes, messages, bytes_left}
use Rattle.pg_wire.specs.Fronts.{IsWhole}
use Rattle.pg_machine.specs.declared.serving.Mode.{Mode}
use Rattle.pg_machine.specs.declared.serving.Mode.TheVariants.{Normal, Skip, CopyIn}
use Rattle.pg_machine.specs.declared.serving.Kind.{Kind}
use Rattle.pg_machine.specs.declared.serving.Kind.TheVariants.{Query, Sync, Flush, CopyData, CopyDone, CopyFail, Terminate, Other}
use Rattle.pg_machine.specs.declared.serving.Turn.{Turn}
use Rattle.pg_machine.specs.declared.serving.Turn.TheVariants.{Silent, Ready, AnswersReady, Answers, TakesData, EndsCopy, Refuses}
use Rattle.pg_machine.specs.Serving.{Effect, Service, Serving, Replied, is_error, ready, turn, kind_of, said, unless_error, or_opened, replied, serve}
use Rattle.pg_machine.specs.Requests.{asked}
use Rattle.pg_machine.specs.Sessions.{spoken}
use Rattle.pg_machine.specs.Tags.{AreBytes}
use Rattle.pg_machine.specs.ServingSteps.{ready_bytes, says_ready, answered_mode, frame_of}
use Rattle.pg_machine.proofs.Spelled.{message_at-Found, messages-spelled}

-- what is said behind an answer
abbrev closing : Turn → List RawMessage
closing t = if says_ready t then ready ∷ [] else []

abbrev replied-by : {S : Type 0} → (Effect → Mode) → Effect × S → List RawMessage → Replied S
replied-by mode a behind = record { reply = a.0.reply ++ behind; next = record { state = a.1; mode = mode a.0 } }

nothing_behind : {S : Type 0} (mode : Effect → Mode) (a : Effect × S) → said mode a ≡ record { reply = a.0.reply ++ []; next = record { state = a.1; mode = mode a.0 } }
nothing_behind mode a = ap (λ reply. record { reply = reply; next = record { state = a.1; mode = mode a.0 } }) (sym (append-nil a.0.reply))

-- an answer that was asked for
replied-some : {S : Type 0} (service : Service S) (state : S) (mode : Mode) (t : Turn) (frame : RawMessage) (a : Effect × S) → asked service state t frame ≡ Some a →
    replied service state mode t frame
    ≡ record { reply = a.0.reply ++ closing t; next = record { state = a.1; mode = answered_mode t (list_any is_error a.0.reply) a.0.opens } }
replied-some service state mode Silent frame a e = absurd cc
replied-some service state mode Ready frame a e = absurd cc
replied-some {S = S} service state mode AnswersReady frame a e =
    ap (λ (x : Effect × S). replied-by (λ e. Normal) x (ready ∷ [])) (same_Some _ a e)
replied-some {S = S} service state mode Answers frame a e =
    ap (λ (x : Effect × S). said or_opened x) (same_Some _ a e) ∙ nothing_behind or_opened a
replied-some {S = S} service state mode TakesData frame a e =
    ap (λ (o : Option (Effect × S)). said (unless_error CopyIn) (elim o [ None ↦ (record { reply = []; opens = false }, state) | Some x ↦ x ])) e ∙ nothing_behind (unless_error CopyIn) a
replied-some {S = S} service state mode EndsCopy frame a e =
    ap (λ (x : Effect × S). said (unless_error Normal) x) (same_Some _ a e) ∙ nothing_behind (unless_error Normal) a
replied-some {S = S} service state mode Refuses frame a e =
    ap (λ (x : Effect × S). said (λ e. Skip) x) (same_Some _ a e) ∙ nothing_behind (λ e. Skip) a

-- a turn that takes data comes only where a copy does
takes-CopyIn : (mode : Mode) (kind : Kind) → turn mode kind ≡ TakesData → mode ≡ CopyIn
takes-CopyIn CopyIn kind e = refl
takes-CopyIn Skip Query e = absurd cc
takes-CopyIn Skip Sync e = absurd cc
takes-CopyIn Skip Flush e = absurd cc
takes-CopyIn Skip CopyData e = absurd cc
takes-CopyIn Skip CopyDone e = absurd cc
takes-CopyIn Skip CopyFail e = absurd cc
takes-CopyIn Skip Terminate e = absurd cc
takes-CopyIn Skip Other e = absurd cc
takes-CopyIn Normal Query e = absurd cc
takes-CopyIn Normal Sync e = absurd cc
takes-CopyIn Normal Flush e = absurd cc
takes-CopyIn Normal CopyData e = absurd cc
takes-CopyIn Normal CopyDone e = absurd cc
takes-CopyIn Normal CopyFail e = absurd cc
takes-CopyIn Normal Terminate e = absurd cc
takes-CopyIn Normal Other e = absurd cc

-- none was asked for, or there was none
replied-none : {S : Type 0} (service : Service S) (state : S) (mode : Mode) (kind : Kind) (frame : RawMessage) → asked service state (turn mode kind) frame ≡ None →
    replied service state mode (turn mode kind) frame
    ≡ record { reply = closing (turn mode kind); next = record { state = state; mode = if says_ready (turn mode kind) then Normal else mode } }
replied-none {S = S} service state mode kind frame e = by_turn (turn mode kind) refl e
  where
    by_turn : (t : Turn) → turn mode kind ≡ t → asked service state t frame ≡ None →
        replied service state mode t frame ≡ record { reply = closing t; next = record { state = state; mode = if says_ready t then Normal else mode } }
    by_turn Silent is e = refl
    by_turn Ready is e = refl
    by_turn AnswersReady is e = absurd cc
    by_turn Answers is e = absurd cc
    by_turn TakesData is e =
        ap (λ (o : Option (Effect × S)). said (unless_error CopyIn) (elim o [ None ↦ (record { reply = []; opens = false }, state) | Some x ↦ x ])) e
        ∙ ap (λ mode. record { reply = []; next = record { state = state; mode = mode } }) (sym (takes-CopyIn mode kind is))
    by_turn EndsCopy is e = absurd cc
    by_turn Refuses is e = absurd cc

-- ---- the whole step

-- a frame is spelled by its bytes
pub frame-spelled : (frame : List ℕ) → IsWhole frame (length frame) → AreBytes frame → message_bytes (frame_of frame) ≡ frame
frame-spelled frame whole are =
    let found = message_at-Found frame (frame_of frame) (drop (length frame) frame) are whole.front in
    sym (found.0 ∙ ap (λ rest. message_bytes (frame_of frame) ++ rest) (drop-length frame) ∙ append-nil (message_bytes (frame_of frame)))

closing-spoken : (b : Bool) → spoken (if b then ready ∷ [] else []) ≡ (if b then ready_bytes else [])
closing-spoken true = refl
closing-spoken false = refl

-- what the answer of a frame adds, and where it leads
pub record IsStep {S : Type 0} (service : Service S) (at : Serving S) (frame : RawMessage) (bytes : List ℕ) (next : Serving S) : Type 0 where
  pub bytes_are : bytes ≡ spoken (serve service at frame).reply
  pub leads : next ≡ (serve service at frame).next

-- the service was asked, and its answer is these bytes
pub step-some : {S : Type 0} (service : Service S) (at : Serving S) (frame : RawMessage) (t : Turn) (a : Effect × S) (reply : List ℕ) (opens : Bool) (mode : Mode) →
    t ≡ turn at.mode (kind_of frame) → asked service at.state t frame ≡ Some a →
    AreBytes reply → bytes_left reply ≡ [] → messages reply ≡ a.0.reply → opens ≡ a.0.opens → mode ≡ answered_mode t (list_any is_error (messages reply)) opens →
    IsStep service at frame (reply ++ (if says_ready t then ready_bytes else [])) (record { state = a.1; mode = mode })
step-some {S = S} service at frame t a reply opens mode is asks bytes whole reply_is opens_is mode_is =
    let all : serve service at frame ≡ record { reply = a.0.reply ++ closing t; next = record { state = a.1; mode = answered_mode t (list_any is_error a.0.reply) a.0.opens } }
    = ap (λ t. replied service at.state at.mode t frame) (sym is) ∙ replied-some service at.state at.mode t frame a asks in
    record {
      bytes_are = ap (λ r. r ++ (if says_ready t then ready_bytes else [])) (sym (messages-spelled reply bytes whole) ∙ ap spoken reply_is)
          ∙ ap (λ c. spoken a.0.reply ++ c) (sym (closing-spoken (says_ready t)))
          ∙ sym (flat_map-append message_bytes a.0.reply (closing t))
          ∙ ap (λ (r : Replied S). spoken r.reply) (sym all);
      leads = ap (λ (mode : Mode). record { state = a.1; mode = mode }) (mode_is ∙ ap (λ ms. answered_mode t (list_any is_error ms) opens) reply_is ∙ ap (λ opens. answered_mode t (list_any is_error a.0.reply) opens) opens_is)
          ∙ ap (λ (r : Replied S). r.next) (sym all);
    }

-- the service was asked nothing, or had nothing to say
pub step-none : {S : Type 0} (service : Service S) (at : Serving S) (frame : RawMessage) (t : Turn) (mode : Mode) →
    t ≡ turn at.mode (kind_of frame) → asked service at.state t frame ≡ None → mode ≡ (if says_ready t then Normal else at.mode) →
    IsStep service at frame (if says_ready t then ready_bytes else []) (record { state = at.state; mode = mode })
step-none {S = S} service at frame t mode is asks mode_is =
    let kind = kind_of frame in
    let none : asked service at.state (turn at.mode kind) frame ≡ None = ap (λ t. asked service at.state t frame) (sym is) ∙ asks in
    let all = replied-none service at.state at.mode kind frame none in
    record {
      bytes_are = sym (closing-spoken (says_ready t)) ∙ ap (λ t. spoken (closing t)) is ∙ ap (λ (r : Replied S). spoken r.reply) (sym all);
      leads = ap (λ (mode : Mode). record { state = at.state; mode = mode }) (mode_is ∙ ap (λ t. if says_ready t then Normal else at.mode) is)
          ∙ ap (λ (r : Replied S). r.next) (sym all);
    }
