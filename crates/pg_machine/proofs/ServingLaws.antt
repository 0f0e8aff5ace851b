-- Laws of a server that answers frames: each request gets one reply.
use Rattle.std.proofs.Common.{◌≡◌, ◌+◌, Bool, true, false, cond, not, ◌||◌, ◌&&◌, List, [], ◌∷◌, ◌++◌, Option, Some, None, refl, sym, ap, ◌∙◌, subst, append_assoc, append-nil, arith, inl, inr, ◌⊎◌, length}
use Rattle.std.specs.Prelude.{IsTrue, IsFalse, IfSome, ◌==◌, map, ◌^◌}
use Rattle.std.specs.List.{AllByRecursion, list_any, list_all, onto_first}
use Rattle.std.specs.Str.{byte}
use Rattle.pg_spec.specs.RawMessages.{RawMessage, is_ready, is_aside, sync_of, cut_after, ends_in, groups}
use Rattle.std.proofs.lemmas.Bool.{eqb-true, ltb-true}
use Rattle.pg_spec.proofs.MessageLaws.{Fits}
use Rattle.pg_spec.specs.Sent.{ends_unit}
use Rattle.pg_spec.proofs.GroupLaws.{groups-append}
use Rattle.pg_machine.specs.declared.serving.Mode.{Mode}
use Rattle.pg_machine.specs.declared.serving.Mode.TheVariants.{Normal, Skip, CopyIn}
use Rattle.pg_machine.specs.declared.serving.Kind.{Kind}
use Rattle.pg_machine.specs.declared.serving.Kind.TheVariants.{Query, Sync, Flush, CopyData, CopyDone, CopyFail, Terminate, Other}
use Rattle.pg_machine.specs.declared.serving.Turn.{Turn}
use Rattle.pg_machine.specs.declared.serving.Turn.TheVariants.{Silent, Ready, AnswersReady, Answers, TakesData, EndsCopy, Refuses}
use Rattle.pg_machine.specs.Serving.{Effect, Service, Serving, Replied, kind_of, turn, is_error, ready, unless_error, said, own_or_refusal, replied, serve, joined, in_front, served, one_at_a_time}
use Rattle.pg_machine.specs.Requests.{is_copy_in, is_execute, fits, is_sound, asked, SoundAlong, IsSynced, IsCopy, IsRequest, takes_data, opens_copy, OnlyCopiesOpen, IsReply}

-- ---- runs

pub served-append : {S : Type 0} (service : Service S) (at : Serving S) (xs ys : List RawMessage) →
    served service at (xs ++ ys) ≡ in_front (served service at xs).reply (served service (served service at xs).next ys)
served-append service at [] ys = refl
served-append service at (x ∷ xs) ys =
    let first = serve service at x in
    ap (in_front first.reply) (served-append service first.next xs ys)
    ∙ ap (λ reply. record { reply = reply; next = (served service (served service first.next xs).next ys).next })
    (sym (append_assoc first.reply (served service first.next xs).reply (served service (served service first.next xs).next ys).reply))

-- pipelined is one at a time: what all frames are replied is what the requests are replied, joined
pub served-joined : {S : Type 0} (service : Service S) (at : Serving S) (requests : List (List RawMessage)) →
    (served service at (joined requests)).reply ≡ joined (one_at_a_time service at requests)
served-joined service at [] = refl
served-joined {S = S} service at (frames ∷ requests) =
    ap (λ (r : Replied S). r.reply) (served-append service at frames (joined requests))
    ∙ ap (λ more. (served service at frames).reply ++ more) (served-joined service (served service at frames).next requests)

-- ---- kinds

-- Query and Sync
abbrev is_unit : Kind → Bool
is_unit Query = true
is_unit Sync = true
is_unit kind = false

by_tests : (q s h d c f x : Bool) →
    is_unit (cond q Query (cond s Sync (cond h Flush (cond d CopyData (cond c CopyDone (cond f CopyFail (cond x Terminate Other))))))) ≡ (q || s)
by_tests true s h d c f x = refl
by_tests false true h d c f x = refl
by_tests false false true d c f x = refl
by_tests false false false true c f x = refl
by_tests false false false false true f x = refl
by_tests false false false false false true x = refl
by_tests false false false false false false true = refl
by_tests false false false false false false false = refl

kind-unit : (frame : RawMessage) → is_unit (kind_of frame) ≡ ends_unit frame
kind-unit frame = by_tests (frame.tag == byte "Q") (frame.tag == byte "S") (frame.tag == byte "H") (frame.tag == byte "d") (frame.tag == byte "c") (frame.tag == byte "f") (frame.tag == byte "X")

-- ---- what is sound holds no ReadyForQuery

abbrev NotReady : List RawMessage → Type 0
NotReady ms = AllByRecursion (λ m. IsFalse (is_ready m)) ms

not_true : (b : Bool) → not b ≡ true → b ≡ false
not_true true e = absurd cc
not_true false e = refl

both_true : (a b : Bool) → (a && b) ≡ true → (a ≡ true) × (b ≡ true)
both_true true b e = (refl, e)
both_true false b e = absurd cc

all_fit_not_ready : (ms : List RawMessage) → list_all (λ m. fits m && not (is_ready m)) ms ≡ true → AllByRecursion Fits ms × NotReady ms
all_fit_not_ready [] e = (tt, tt)
all_fit_not_ready (m ∷ ms) e =
    let parts = both_true (fits m && not (is_ready m)) (list_all (λ m. fits m && not (is_ready m)) ms) e in
    let first = both_true (fits m) (not (is_ready m)) parts.0 in
    let rest = all_fit_not_ready ms parts.1 in
    ((ltb-true (4 + length m.body) (2 ^ 31) first.0, rest.0), (not_true (is_ready m) first.1, rest.1))

sound-parts : (frame : RawMessage) (effect : Effect) → IsTrue (is_sound frame effect) → AllByRecursion Fits effect.reply × NotReady effect.reply
sound-parts frame effect e = all_fit_not_ready effect.reply (both_true (list_all (λ m. fits m && not (is_ready m)) effect.reply)
    (cond effect.opens (is_execute frame && ends_in is_copy_in effect.reply && not (list_any is_error effect.reply)) (not (list_any is_copy_in effect.reply))) e).0

sound-NotReady : (frame : RawMessage) (effect : Effect) → IsTrue (is_sound frame effect) → NotReady effect.reply
sound-NotReady frame effect e = (sound-parts frame effect e).1

All-append : {X : Type 0} (P : X → Type 0) (xs ys : List X) → AllByRecursion P xs → AllByRecursion P ys → AllByRecursion P (xs ++ ys)
All-append P [] ys a b = b
All-append P (x ∷ xs) ys a b = (a.0, All-append P xs ys a.1 b)

-- ---- what each kind of frame does

abbrev SoundIn : {S : Type 0} → RawMessage → Option (Effect × S) → Type 0
SoundIn frame answer = IfSome answer (λ a. IsTrue (is_sound frame a.0))

-- what ReadyForQuery is said with
abbrev is_ready_turn : Turn → Bool
is_ready_turn Ready = true
is_ready_turn AnswersReady = true
is_ready_turn other = false

-- what holds of each message of a sound answer, and of ReadyForQuery where it is said, holds of each message of the reply
all_by : {S : Type 0} (P : RawMessage → Type 0) → ((frame : RawMessage) (effect : Effect) → IsTrue (is_sound frame effect) → AllByRecursion P effect.reply) →
    (service : Service S) (state : S) (mode : Mode) (t : Turn) (frame : RawMessage) → (is_ready_turn t ≡ true → P ready) →
    SoundIn frame (asked service state t frame) → AllByRecursion P (replied service state mode t frame).reply
all_by P of service state mode Silent frame ends sound = tt
all_by P of service state mode Ready frame ends sound = (ends refl, tt)
all_by P of service state mode AnswersReady frame ends sound =
    All-append P (own_or_refusal service state frame).0.reply (ready ∷ []) (of frame (own_or_refusal service state frame).0 sound) (ends refl, tt)
all_by P of service state mode Answers frame ends sound = of frame (own_or_refusal service state frame).0 sound
all_by {S = S} P of service state mode TakesData frame ends sound = by_answer (service.answers state frame) sound
  where
    by_answer : (answer : Option (Effect × S)) → SoundIn frame answer →
        AllByRecursion P (said {S = S} (unless_error CopyIn) (elim answer [ None ↦ (record { reply = []; opens = false }, state) | Some a ↦ a ])).reply
    by_answer None h = tt
    by_answer (Some a) h = of frame a.0 h
all_by P of service state mode EndsCopy frame ends sound = of frame (own_or_refusal service state frame).0 sound
all_by P of service state mode Refuses frame ends sound = of frame (service.refuses state frame).0 sound

-- only a Query and a Sync are answered by it
ready_of_unit : (mode : Mode) (kind : Kind) → is_unit kind ≡ false → is_ready_turn (turn mode kind) ≡ false
ready_of_unit mode Query other = absurd cc
ready_of_unit mode Sync other = absurd cc
ready_of_unit Normal Flush other = refl
ready_of_unit Normal CopyData other = refl
ready_of_unit Normal CopyDone other = refl
ready_of_unit Normal CopyFail other = refl
ready_of_unit Normal Terminate other = refl
ready_of_unit Normal Other other = refl
ready_of_unit Skip Flush other = refl
ready_of_unit Skip CopyData other = refl
ready_of_unit Skip CopyDone other = refl
ready_of_unit Skip CopyFail other = refl
ready_of_unit Skip Terminate other = refl
ready_of_unit Skip Other other = refl
ready_of_unit CopyIn Flush other = refl
ready_of_unit CopyIn CopyData other = refl
ready_of_unit CopyIn CopyDone other = refl
ready_of_unit CopyIn CopyFail other = refl
ready_of_unit CopyIn Terminate other = refl
ready_of_unit CopyIn Other other = refl

true-false : (b : Bool) → b ≡ false → b ≡ true → ⊥
true-false true e f = absurd cc
true-false false e f = absurd cc

-- a frame that is no Query and no Sync gives no ReadyForQuery
quiet_by : {S : Type 0} (service : Service S) (state : S) (mode : Mode) (kind : Kind) (frame : RawMessage) → is_unit kind ≡ false →
    SoundIn frame (asked service state (turn mode kind) frame) → NotReady (replied service state mode (turn mode kind) frame).reply
quiet_by service state mode kind frame other sound =
    all_by (λ m. IsFalse (is_ready m)) sound-NotReady service state mode (turn mode kind) frame
    (λ said. absurd (true-false (is_ready_turn (turn mode kind)) (ready_of_unit mode kind other) said)) sound

-- Sync gives one ReadyForQuery and leads to Normal, unless a copy takes data
synced_by : {S : Type 0} (service : Service S) (state : S) (mode : Mode) (frame : RawMessage) → takes_data mode ≡ false →
    replied service state mode (turn mode Sync) frame ≡ record { reply = ready ∷ []; next = record { state = state; mode = Normal } }
synced_by service state Normal frame closed = refl
synced_by service state Skip frame closed = refl
synced_by service state CopyIn frame closed = absurd cc

closes_unless : (effect : Effect) (b : Bool) → takes_data (cond b Skip Normal) ≡ false
closes_unless effect true = refl
closes_unless effect false = refl

-- CopyDone and CopyFail leave no copy open
closed_by_done : {S : Type 0} (service : Service S) (state : S) (mode : Mode) (frame : RawMessage) →
    takes_data (replied service state mode (turn mode CopyDone) frame).next.mode ≡ false
closed_by_done service state Normal frame = refl
closed_by_done service state Skip frame = refl
closed_by_done service state CopyIn frame = closes_unless (own_or_refusal service state frame).0 (list_any is_error (own_or_refusal service state frame).0.reply)

closed_by_fail : {S : Type 0} (service : Service S) (state : S) (mode : Mode) (frame : RawMessage) →
    takes_data (replied service state mode (turn mode CopyFail) frame).next.mode ≡ false
closed_by_fail service state Normal frame = refl
closed_by_fail service state Skip frame = refl
closed_by_fail service state CopyIn frame = refl

-- ---- fronts of requests

-- no ReadyForQuery comes of frames without Query and Sync
pub front-NotReady : {S : Type 0} (service : Service S) (at : Serving S) (frames : List RawMessage) →
    AllByRecursion (λ frame. IsFalse (ends_unit frame)) frames → SoundAlong service at frames → NotReady (served service at frames).reply
front-NotReady service at [] others sound = tt
front-NotReady service at (frame ∷ frames) others sound =
    All-append (λ m. IsFalse (is_ready m)) (serve service at frame).reply (served service (serve service at frame).next frames).reply
    (quiet_by service at.state at.mode (kind_of frame) frame (kind-unit frame ∙ others.0) sound.0)
    (front-NotReady service (serve service at frame).next frames others.1 sound.1)

pub SoundAlong-append : {S : Type 0} (service : Service S) (at : Serving S) (xs ys : List RawMessage) → SoundAlong service at (xs ++ ys) →
    SoundAlong service at xs × SoundAlong service (served service at xs).next ys
SoundAlong-append service at [] ys sound = (tt, sound)
SoundAlong-append service at (x ∷ xs) ys sound =
    let rest = SoundAlong-append service (serve service at x).next xs ys sound.1 in
    ((sound.0, rest.0), rest.1)

neither : (a b : Bool) → (a || b) ≡ false → (a ≡ false) × (b ≡ false)
neither true b e = absurd cc
neither false b e = (refl, e)

-- all that is replied fits its length fields
pub replies-Fit : {S : Type 0} (service : Service S) (at : Serving S) (frames : List RawMessage) → SoundAlong service at frames →
    AllByRecursion Fits (served service at frames).reply
replies-Fit service at [] sound = tt
replies-Fit service at (frame ∷ frames) sound =
    All-append Fits (serve service at frame).reply (served service (serve service at frame).next frames).reply
    (all_by Fits (λ frame effect h. (sound-parts frame effect h).0) service at.state at.mode (turn at.mode (kind_of frame)) frame (λ said. omega arith) sound.0)
    (replies-Fit service (serve service at frame).next frames sound.1)

-- frames that open no copy leave none open
pub closed-along : {S : Type 0} (service : Service S) (at : Serving S) (frames : List RawMessage) → takes_data at.mode ≡ false →
    opens_copy service at frames ≡ false → takes_data (served service at frames).next.mode ≡ false
closed-along service at [] closed none = closed
closed-along service at (frame ∷ frames) closed none =
    let parts = neither (takes_data (serve service at frame).next.mode) (opens_copy service (serve service at frame).next frames) none in
    closed-along service (serve service at frame).next frames parts.0 parts.1

-- and so does a front of them
pub opens-front : {S : Type 0} (service : Service S) (at : Serving S) (xs ys : List RawMessage) →
    opens_copy service at (xs ++ ys) ≡ false → opens_copy service at xs ≡ false
opens-front service at [] ys none = refl
opens-front service at (x ∷ xs) ys none =
    let parts = neither (takes_data (serve service at x).next.mode) (opens_copy service (serve service at x).next (xs ++ ys)) none in
    ap (λ b. b || opens_copy service (serve service at x).next xs) parts.0 ∙ opens-front service (serve service at x).next xs ys parts.1

-- ---- a request gets one reply

-- what a request leaves: one reply was given, and frames are answered again
pub record Closes {S : Type 0} (r : Replied S) : Type 0 where
  pub reply : IsReply r.reply
  pub normal : r.next.mode ≡ Normal

-- a Sync behind frames that leave no copy open
synced : {S : Type 0} (service : Service S) (at : Serving S) (front : List RawMessage) (last : RawMessage) →
    AllByRecursion (λ frame. IsFalse (ends_unit frame)) front → SoundAlong service at front →
    takes_data (served service at front).next.mode ≡ false → kind_of last ≡ Sync → Closes (served service at (front ++ last ∷ []))
synced {S = S} service at front last others sound closed sync =
    let r : Replied S = served service at front in
    let end : serve service r.next last ≡ record { reply = ready ∷ []; next = record { state = r.next.state; mode = Normal } }
    = ap (λ kind. replied service r.next.state r.next.mode (turn r.next.mode kind) last) sync ∙ synced_by service r.next.state r.next.mode last closed in
    let all : served service at (front ++ last ∷ []) ≡ record { reply = r.reply ++ ready ∷ []; next = record { state = r.next.state; mode = Normal } }
    = served-append service at front (last ∷ [])
    ∙ ap (λ (e : Replied S). in_front r.reply (in_front e.reply (record { reply = []; next = e.next }))) end in
    subst (Closes {S = S}) (sym all) (record {
      reply = record { front = r.reply; last = ready; is = refl; no_other = front-NotReady service at front others sound; ready = refl };
      normal = refl;
    })

of_query : {S : Type 0} (service : Service S) (at : Serving S) (frame : RawMessage) → at.mode ≡ Normal → kind_of frame ≡ Query →
    SoundAlong service at (frame ∷ []) → Closes (served service at (frame ∷ []))
of_query {S = S} service at frame normal query sound =
    let does : (mode : Mode) (kind : Kind) → at.mode ≡ mode → kind_of frame ≡ kind →
    SoundIn frame (asked service at.state (turn mode kind) frame) × (served service at (frame ∷ []) ≡ in_front (replied service at.state mode (turn mode kind) frame).reply (record { reply = []; next = (replied service at.state mode (turn mode kind) frame).next }))
    = λ mode kind m k. (
      subst (λ kind. SoundIn frame (asked service at.state (turn mode kind) frame)) k (subst (λ mode. SoundIn frame (asked service at.state (turn mode (kind_of frame)) frame)) m sound.0),
      ap (λ mode. in_front (replied service at.state mode (turn mode (kind_of frame)) frame).reply (record { reply = []; next = (replied service at.state mode (turn mode (kind_of frame)) frame).next })) m
          ∙ ap (λ kind. in_front (replied service at.state mode (turn mode kind) frame).reply (record { reply = []; next = (replied service at.state mode (turn mode kind) frame).next })) k,
    ) in
    let d = does Normal Query normal query in
    let answer = own_or_refusal service at.state frame in
    subst (Closes {S = S}) (sym d.1) (record {
      reply = record { front = answer.0.reply; last = ready; is = append-nil (answer.0.reply ++ ready ∷ []); no_other = sound-NotReady frame answer.0 d.0; ready = refl };
      normal = refl;
    })

-- The law: a request is answered by one reply, which its only ReadyForQuery ends, and frames are answered again behind it.
pub request-Closes : {S : Type 0} (service : Service S) (at : Serving S) (frames : List RawMessage) → at.mode ≡ Normal → IsRequest frames →
    SoundAlong service at frames → (IsTrue (opens_copy service at frames) → IsCopy frames) → Closes (served service at frames)
request-Closes {S = S} service at frames normal request sound only = by_request request
  where
    not_taking : takes_data at.mode ≡ false
    not_taking = ap takes_data normal

    of_copy : IsCopy frames → Closes (served service at frames)
    of_copy copy =
        let front : List RawMessage = copy.front ++ copy.end ∷ [] in
        let sound' : SoundAlong service at (front ++ copy.last ∷ []) = subst (SoundAlong service at) copy.is sound in
        let sounds = SoundAlong-append service at front (copy.last ∷ []) sound' in
        let mid : Serving S = (served service at copy.front).next in
        let end_other : ends_unit copy.end ≡ false
        = sym (kind-unit copy.end) ∙ no_unit copy.end copy.ends in
        let closed : takes_data (served service at front).next.mode ≡ false
        = ap (λ (r : Replied S). takes_data r.next.mode) (served-append service at copy.front (copy.end ∷ []))
        ∙ ends_closed mid copy.end copy.ends in
        subst (λ fs. Closes (served service at fs)) (sym copy.is)
        (synced service at front copy.last (All-append (λ frame. IsFalse (ends_unit frame)) copy.front (copy.end ∷ []) copy.no_other (end_other, tt)) sounds.0 closed copy.sync)
      where
        no_unit : (frame : RawMessage) → ((kind_of frame ≡ CopyDone) ⊎ (kind_of frame ≡ CopyFail)) → is_unit (kind_of frame) ≡ false
        no_unit frame (inl e) = ap is_unit e
        no_unit frame (inr e) = ap is_unit e

        ends_closed : (mid : Serving S) (frame : RawMessage) → ((kind_of frame ≡ CopyDone) ⊎ (kind_of frame ≡ CopyFail)) →
            takes_data (serve service mid frame).next.mode ≡ false
        ends_closed mid frame (inl e) = ap (λ kind. takes_data (replied service mid.state mid.mode (turn mid.mode kind) frame).next.mode) e ∙ closed_by_done service mid.state mid.mode frame
        ends_closed mid frame (inr e) = ap (λ kind. takes_data (replied service mid.state mid.mode (turn mid.mode kind) frame).next.mode) e ∙ closed_by_fail service mid.state mid.mode frame

    of_synced : IsSynced frames → (b : Bool) → opens_copy service at frames ≡ b → Closes (served service at frames)
    of_synced s true opened = of_copy (only opened)
    of_synced s false none =
        let sounds = SoundAlong-append service at s.front (s.last ∷ []) (subst (SoundAlong service at) s.is sound) in
        let front_none : opens_copy service at s.front ≡ false = opens-front service at s.front (s.last ∷ []) (ap (opens_copy service at) (sym s.is) ∙ none) in
        subst (λ fs. Closes (served service at fs)) (sym s.is)
        (synced service at s.front s.last s.no_other sounds.0 (closed-along service at s.front not_taking front_none) s.sync)

    by_request : IsRequest frames → Closes (served service at frames)
    by_request (inl q) = subst (λ fs. Closes (served service at fs)) (sym q.is) (of_query service at q.frame normal q.query (subst (SoundAlong service at) q.is sound))
    by_request (inr (inl s)) = of_synced s (opens_copy service at frames) refl
    by_request (inr (inr copy)) = of_copy copy

-- ---- pipelined equals one at a time

-- each reply of these is one reply
pub requests-IsReply : {S : Type 0} (service : Service S) (at : Serving S) (requests : List (List RawMessage)) → at.mode ≡ Normal →
    AllByRecursion IsRequest requests → SoundAlong service at (joined requests) → OnlyCopiesOpen service at requests →
    AllByRecursion IsReply (one_at_a_time service at requests)
requests-IsReply service at [] normal are sound only = tt
requests-IsReply service at (frames ∷ requests) normal are sound only =
    let sounds = SoundAlong-append service at frames (joined requests) sound in
    let closes = request-Closes service at frames normal are.0 sounds.0 only.0 in
    (closes.reply, requests-IsReply service (served service at frames).next requests closes.normal are.1 sounds.1 only.1)

-- a ReadyForQuery is no message aside
ready-sync : (m : RawMessage) → IsTrue (is_ready m) → is_aside m ≡ false
ready-sync m e = ap (λ tag. is_aside (record { tag = tag; body = m.body })) (eqb-true m.tag (byte "Z") e)

-- a test that the last of more than one item passes, the last of the others passes
ends-more : {X : Type 0} (p : X → Bool) (x : X) (xs : List X) → ends_in p xs ≡ true → ends_in p (x ∷ xs) ≡ true
ends-more p x [] ends = absurd cc
ends-more p x (y ∷ ys) ends = ends

-- a list that is one group, and whole
pub record IsOneGroup (ms : List RawMessage) : Type 0 where
  pub one : cut_after is_ready ms ≡ ms ∷ []
  pub whole : ends_in is_ready ms ≡ true

one-more : (m : RawMessage) (ms : List RawMessage) → is_ready m ≡ false → IsOneGroup ms → IsOneGroup (m ∷ ms)
one-more m ms other h = record {
  one = ap (λ b. cond b ((m ∷ []) ∷ cut_after is_ready ms) (onto_first m (cut_after is_ready ms))) other ∙ ap (onto_first m) h.one;
  whole = ends-more is_ready m ms h.whole;
}

-- the group of a reply is the whole of it, without the messages that no request asks for
pub reply-group : (front : List RawMessage) (last : RawMessage) → NotReady front → IsTrue (is_ready last) → IsOneGroup (sync_of (front ++ last ∷ []))
reply-group [] last others is =
    subst IsOneGroup (ap (λ b. cond (not b) (last ∷ []) []) (sym (ready-sync last is))) (record {
      one = ap (λ b. cond b ((last ∷ []) ∷ []) (onto_first last [])) is;
      whole = is;
    })
reply-group (m ∷ ms) last others is = by_aside (is_aside m) (reply-group ms last others.1 is)
  where
    by_aside : (b : Bool) → IsOneGroup (sync_of (ms ++ last ∷ [])) → IsOneGroup (cond (not b) (m ∷ sync_of (ms ++ last ∷ [])) (sync_of (ms ++ last ∷ [])))
    by_aside true more = more
    by_aside false more = one-more m (sync_of (ms ++ last ∷ [])) others.0 more

-- replies, one behind another, are cut into their groups
pub replies-groups : (replies : List (List RawMessage)) → AllByRecursion IsReply replies → groups (joined replies) ≡ map sync_of replies
replies-groups [] are = refl
replies-groups (reply ∷ replies) are =
    let one : IsOneGroup (sync_of reply) = subst (λ ms. IsOneGroup (sync_of ms)) (sym are.0.is) (reply-group are.0.front are.0.last are.0.no_other are.0.ready) in
    groups-append reply (joined replies) one.whole
    ∙ ap (λ gs. gs ++ groups (joined replies)) one.one
    ∙ ap (λ gs. sync_of reply ∷ gs) (replies-groups replies are.1)

-- Pipelined equals one at a time: the groups of what all frames are replied are what each request is replied where they are
-- fed one at a time.
pub pipelined-one_at_a_time : {S : Type 0} (service : Service S) (at : Serving S) (requests : List (List RawMessage)) → at.mode ≡ Normal →
    AllByRecursion IsRequest requests → SoundAlong service at (joined requests) → OnlyCopiesOpen service at requests →
    groups (served service at (joined requests)).reply ≡ map sync_of (one_at_a_time service at requests)
pipelined-one_at_a_time service at requests normal are sound only =
    ap groups (served-joined service at requests) ∙ replies-groups (one_at_a_time service at requests) (requests-IsReply service at requests normal are sound only)
