-- A server, fed frame by frame, is fed them all.
use Rattle.std.proofs.Common.{◌≡◌, ℕ, ◌+◌, ◌-◌, ◌≤◌, List, [], ◌∷◌, ◌++◌, Option, Some, None, refl, sym, ap, ◌∙◌, append_assoc, append-nil, arith, length, take, drop}
use Rattle.std.specs.Prelude.{slice_index}
use Rattle.std.proofs.Math.Seq.{take-length, drop-length}
use Rattle.std.proofs.lemmas.Grind.{flat_map-append}
use Rattle.std.proofs.lemmas.List.{length-drop, drop-drop, length-take-le, get_or-take, length-append, drop-append-le}
use Rattle.pg_spec.specs.RawMessages.{RawMessage, message_at, message_bytes, messages, bytes_left}
use Rattle.pg_wire.specs.Fronts.{IsWhole, message_of_bytes}
use Rattle.pg_wire.proofs.Cuts.{messages_of_one, left_of_one, messages_of_none, left_of_none}
use Rattle.pg_machine.specs.Serving.{Service, Replied, Serving, served, serve, in_front}
use Rattle.pg_machine.specs.Sessions.{spoken, begun, gives}
use Rattle.pg_machine.specs.ServingSteps.{frame_of}
use Rattle.pg_machine.specs.ServingFeeding.{fed, IsFed, IsLonger, HasFed}
use Rattle.pg_machine.proofs.ServingLaws.{served-append}
use Rattle.pg_spec.specs.Sent.{after_startup_frame}
use Rattle.pg_spec.proofs.MessageLaws.{messages-append, bytes_left-append}

pub alone_frame : (s : List ℕ) (n : ℕ) → IsWhole s n → message_of_bytes n s ≡ frame_of (take n s)
alone_frame s n whole =
    ap (λ (tag : ℕ). record { tag = tag; body = drop 5 (take n s) }) (sym (get_or-take n s 0 0 (omega (arith, whole.some))))
    ∙ ap (λ (bytes : List ℕ). record { tag = slice_index (take n s) 0; body = drop 5 bytes }) (sym (take-length (take n s)))

-- a frame in front stands by itself
pub alone_whole : (s : List ℕ) (n : ℕ) → IsWhole s n → IsWhole (take n s) (length (take n s))
alone_whole s n whole =
    let size : length (take n s) ≡ n = length-take-le n s whole.fits in
    let same : message_of_bytes n s ≡ frame_of (take n s) = alone_frame s n whole in
    let front : message_at (take n s) ≡ Some (frame_of (take n s), []) = whole.alone ∙ ap (λ (m : RawMessage). Some (m, [])) same in
    record {
      some = omega (arith, whole.some, size);
      fits = omega arith;
      front = front ∙ ap (λ (rest : List ℕ). Some (frame_of (take n s), rest)) (sym (drop-length (take n s)));
      alone = ap message_at (take-length (take n s)) ∙ front;
    }

-- fed so far: this is what is left
pub record IsFedSoFar {S : Type 0} (service : Service S) (at : Serving S) (frames old : List ℕ) (cut : ℕ) (now : Serving S) (out : List ℕ) : Type 0 where
  pub fits : cut ≤ length frames
  pub left : bytes_left (drop cut frames) ≡ bytes_left frames
  pub said : out ++ spoken (fed service now (drop cut frames)).reply ≡ old ++ spoken (fed service at frames).reply
  pub leads : (fed service now (drop cut frames)).next ≡ (fed service at frames).next
  pub longer : IsLonger old out

pub rest_is : (s : List ℕ) (at : ℕ) → take (length s - at) (drop at s) ≡ drop at s
rest_is s at = ap (λ k. take k (drop at s)) (sym (length-drop at s)) ∙ take-length (drop at s)

pub begin_fed : {S : Type 0} (service : Service S) (at : Serving S) (frames old : List ℕ) → IsFedSoFar service at frames old 0 at old
begin_fed service at frames old = record { fits = omega arith; left = refl; said = refl; leads = refl; longer = ([], sym (append-nil old)) }

-- one frame more
pub more_fed : {S : Type 0} (service : Service S) (at : Serving S) (frames old : List ℕ) (cut len : ℕ) (now next : Serving S) (out later : List ℕ) →
    IsFedSoFar service at frames old cut now out → IsWhole (drop cut frames) len →
    later ≡ out ++ spoken (serve service now (frame_of (take len (drop cut frames)))).reply →
    next ≡ (serve service now (frame_of (take len (drop cut frames)))).next →
    IsFedSoFar service at frames old (cut + len) next later
more_fed {S = S} service at frames old cut len now next out later was whole adds leads =
    let here : List ℕ = drop cut frames in
    let behind : List ℕ = drop (cut + len) frames in
    let frame : RawMessage = frame_of (take len here) in
    let front : message_at here ≡ Some (frame, drop len here) = whole.front ∙ ap (λ (m : RawMessage). Some (m, drop len here)) (alone_frame here len whole) in
    let one : messages here ≡ frame ∷ messages behind
    = messages_of_one here frame (drop len here) front ∙ ap (λ (rest : List ℕ). frame ∷ messages rest) (drop-drop len cut frames) in
    let step : Replied S = serve service now frame in
    let rest : Replied S = served service step.next (messages behind) in
    let whole_reply : spoken (fed service now here).reply ≡ spoken step.reply ++ spoken rest.reply
    = ap (λ ms. spoken (served service now ms).reply) one ∙ flat_map-append message_bytes step.reply rest.reply in
    record {
      fits = omega (arith, whole.fits, length-drop cut frames, was.fits);
      left = ap bytes_left (sym (drop-drop len cut frames)) ∙ sym (left_of_one here frame (drop len here) front) ∙ was.left;
      said = ap (λ (o : List ℕ). o ++ spoken (fed service next behind).reply) adds
          ∙ append_assoc out (spoken step.reply) (spoken (fed service next behind).reply)
          ∙ ap (λ (at : Serving S). out ++ (spoken step.reply ++ spoken (served service at (messages behind)).reply)) leads
          ∙ ap (λ (r : List ℕ). out ++ r) (sym whole_reply) ∙ was.said;
      leads = ap (λ (at : Serving S). (served service at (messages behind)).next) leads
          ∙ ap (λ ms. (served service now ms).next) (sym one) ∙ was.leads;
      longer = (was.longer.0 ++ spoken step.reply, adds ∙ ap (λ (o : List ℕ). o ++ spoken step.reply) was.longer.1 ∙ append_assoc old was.longer.0 (spoken step.reply));
    }

-- nothing whole is left
pub all_fed : {S : Type 0} (service : Service S) (at : Serving S) (frames old : List ℕ) (cut : ℕ) (now : Serving S) (out : List ℕ) →
    IsFedSoFar service at frames old cut now out → message_at (drop cut frames) ≡ None → IsFed service at frames old out cut now
all_fed service at frames old cut now out was none =
    let empty : messages (drop cut frames) ≡ [] = messages_of_none (drop cut frames) none in
    record {
      fits = was.fits;
      left = sym (left_of_none (drop cut frames) none) ∙ was.left;
      said = sym (append-nil out) ∙ ap (λ ms. out ++ spoken (served service now ms).reply) (sym empty) ∙ was.said;
      leads = ap (λ ms. (served service now ms).next) (sym empty) ∙ was.leads;
    }

-- ---- what is given in all

gives-behind : {S : Type 0} (service : Service S) (begins : S) (startup taken frames : List ℕ) → after_startup_frame taken ≡ Some frames →
    gives service begins startup taken ≡ startup ++ spoken (served service (begun begins) (messages frames)).reply
gives-behind service begins startup taken frames e =
    ap (λ (o : Option (List ℕ)). elim o [ None ↦ [] | Some rest ↦ startup ++ spoken (served service (begun begins) (messages rest)).reply ]) e

gives-none : {S : Type 0} (service : Service S) (begins : S) (startup taken : List ℕ) → after_startup_frame taken ≡ None → gives service begins startup taken ≡ []
gives-none service begins startup taken e =
    ap (λ (o : Option (List ℕ)). elim o [ None ↦ [] | Some rest ↦ startup ++ spoken (served service (begun begins) (messages rest)).reply ]) e

known : (before frames : List ℕ) → ((more : List ℕ) → after_startup_frame (before ++ more) ≡ Some (frames ++ more)) → after_startup_frame before ≡ Some frames
known before frames behind = ap after_startup_frame (sym (append-nil before)) ∙ behind [] ∙ ap (λ (b : List ℕ). Some b) (append-nil frames)

-- more frames came
pub went_further : {S : Type 0} (service : Service S) (begins : S) (startup before b old new : List ℕ) (cut len : ℕ) (at next : Serving S) → HasFed service begins before cut at →
    IsFed service at (drop cut (before ++ b)) old new len next →
    HasFed service begins (before ++ b) (cut + len) next
    × (old ≡ gives service begins startup before → new ≡ gives service begins startup (before ++ b)) × IsLonger old new
went_further {S = S} service begins startup before b old new cut len at next was fed_ =
    let frames : List ℕ = was.frames in
    let first : Replied S = served service (begun begins) (messages frames) in
    let rest : List ℕ = bytes_left frames ++ b in
    let here : drop cut (before ++ b) ≡ rest = drop-append-le cut before b was.fits ∙ ap (λ left. left ++ b) was.left in
    let second : Replied S = served service first.next (messages rest) in
    let all : served service (begun begins) (messages (frames ++ b)) ≡ in_front first.reply second
    = ap (served service (begun begins)) (messages-append frames b) ∙ served-append service (begun begins) (messages frames) (messages rest) in
    let same : fed service at (drop cut (before ++ b)) ≡ second
    = ap (λ bytes. served service at (messages bytes)) here ∙ ap (λ (at : Serving S). served service at (messages rest)) was.leads in
    let behind : (more : List ℕ) → after_startup_frame ((before ++ b) ++ more) ≡ Some ((frames ++ b) ++ more)
    = λ more. ap after_startup_frame (append_assoc before b more) ∙ was.behind (b ++ more) ∙ ap (λ (f : List ℕ). Some f) (sym (append_assoc frames b more)) in (
      record {
        frames = frames ++ b;
        behind = behind;
        fits = omega (arith, fed_.fits, length-drop cut (before ++ b), length-append before b, was.fits);
        left = sym (drop-drop len cut (before ++ b)) ∙ fed_.left ∙ ap bytes_left here ∙ sym (bytes_left-append frames b);
        leads = fed_.leads ∙ ap (λ (r : Replied S). r.next) same ∙ ap (λ (r : Replied S). r.next) (sym all);
      },
      λ e. fed_.said ∙ ap (λ o. o ++ spoken (fed service at (drop cut (before ++ b))).reply) (e ∙ gives-behind service begins startup before frames (known before frames was.behind))
          ∙ ap (λ (r : Replied S). (startup ++ spoken first.reply) ++ spoken r.reply) same
          ∙ append_assoc startup (spoken first.reply) (spoken second.reply)
          ∙ ap (λ r. startup ++ r) (sym (flat_map-append message_bytes first.reply second.reply))
          ∙ ap (λ (r : Replied S). startup ++ spoken r.reply) (sym all)
          ∙ sym (gives-behind service begins startup (before ++ b) (frames ++ b) (known (before ++ b) (frames ++ b) behind)),
      (spoken (fed service at (drop cut (before ++ b))).reply, fed_.said),
    )

-- the startup frame came, and ends behind n bytes
pub began : {S : Type 0} (service : Service S) (begins : S) (startup before taken old new : List ℕ) (n len : ℕ) (at next : Serving S) → after_startup_frame before ≡ None →
    n ≤ length taken → ((more : List ℕ) → after_startup_frame (taken ++ more) ≡ Some (drop n (taken ++ more))) → at ≡ begun begins →
    IsFed service at (drop n taken) (old ++ startup) new len next →
    HasFed service begins taken (n + len) next
    × (old ≡ gives service begins startup before → new ≡ gives service begins startup taken) × IsLonger old new
began {S = S} service begins startup before taken old new n len at next none fits ends is fed_ =
    let frames : List ℕ = drop n taken in
    let behind : (more : List ℕ) → after_startup_frame (taken ++ more) ≡ Some (frames ++ more)
    = λ more. ends more ∙ ap (λ (f : List ℕ). Some f) (drop-append-le n taken more fits) in
    let same : fed service at frames ≡ served service (begun begins) (messages frames) = ap (λ (s : Serving S). served service s (messages frames)) is in (
      record {
        frames = frames;
        behind = behind;
        fits = omega (arith, fed_.fits, length-drop n taken, fits);
        left = sym (drop-drop len n taken) ∙ fed_.left;
        leads = fed_.leads ∙ ap (λ (r : Replied S). r.next) same;
      },
      λ e. fed_.said ∙ ap (λ o. (o ++ startup) ++ spoken (fed service at frames).reply) (e ∙ gives-none service begins startup before none)
          ∙ ap (λ (r : Replied S). startup ++ spoken r.reply) same
          ∙ sym (gives-behind service begins startup taken frames (known taken frames behind)),
      (startup ++ spoken (fed service at frames).reply, fed_.said ∙ append_assoc old startup (spoken (fed service at frames).reply)),
    )
