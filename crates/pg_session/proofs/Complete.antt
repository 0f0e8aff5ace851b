-- Over a link that conforms a session with valid input fails for nothing but want of memory.
pub mod Bytes
pub mod Groups
pub mod Start
pub mod Answered
pub mod Course
use Rattle.std.proofs.Common.{◌≡◌, ◌⊎◌, ◌<◌, ◌≤◌, ◌+◌, ◌-◌, ℕ, zero, suc, List, [], ◌∷◌, ◌++◌, length, take, drop, Bool, true, false, not, ◌||◌, Option, Some, None, Result, Ok, Err, inl, inr, refl, sym, ap, subst, ◌∙◌, append_assoc, append-nil, arith}
use Rattle.std.specs.Prelude.{IfSome, IsSome, IsTrue, IsOk, count_by, is_none, slice_get}
use Rattle.std.specs.List.{concat, list_all, AllByRecursion}
use Rattle.std.proofs.lemmas.List.{length-append, length-drop, length-take, drop-append-le}
use Rattle.std.proofs.lemmas.List.Elements.{recursion_from_All}
use Rattle.std.proofs.lemmas.Bool.{true≢false}
use Rattle.std.proofs.lemmas.Option.{same_Some}
use Rattle.std.proofs.Math.Seq.{drop-append_seam}
use Rattle.pg_promises.specs.Causes.{Call, HasCause, OfDialogue, OfPlainDialogue, InStartup, Behind, OutOfTurn, IsAwaited, IsPastLimit, whole_groups}
use Rattle.pg_spec.specs.Asides.{AsideUnreadable, AsideBreaks, aside_fault, is_readable}
use Rattle.pg_spec.specs.Settings.{Settings}
use Rattle.pg_promises.specs.ConnectionStrings.{Means}
use Rattle.pg_spec.specs.Faults.{FrameFault, WireFault, Failure}
use Rattle.pg_spec.specs.Faults as faults
use Rattle.pg_spec.specs.Links.{Plan, added, due_by}
use Rattle.pg_spec.specs.Messages.{Message}
use Rattle.pg_promises.specs.Promises.{AnswersStartup, IsValid, Conforms, EndsWell, IsOneReply}
use Rattle.pg_promises.proofs.Strings.{means_one, no_fault}
use Rattle.pg_spec.specs.RawMessages.{RawMessage, messages, bytes_left, has_bad_header, groups, is_async, is_parameter, is_whole_group}
use Rattle.pg_spec.specs.Sent.{turns_given}
use Rattle.pg_spec.specs.Startup.{Startup, Done, More, First, used_of, begun_by, dialogue, startup, session_part, plain_login}
use Rattle.pg_spec.proofs.GroupLaws.{groups-AreFronts}
use Rattle.pg_startup.specs.Steps.{frame_of}
use Rattle.pg_session.specs.Course.{HoldsCourse}
use Rattle.pg_session.proofs.Complete.Bytes.{IsWhole, IsFrontOf, all-behind, all-drop, all-front, all-holds, all-take, first-of-front, front-of, messages-behind, never-bad, place-low, split-concat, whole-concat}
use Rattle.pg_session.proofs.Complete.Groups.{AreReplies, IsAside, are-replies, groups-behind}
use Rattle.pg_session.proofs.Complete.Start.{done-later, front-startup, never-refused, same-later, used-within}
use Rattle.pg_session.proofs.Opening.Passwords.{dialogue-passwords}
use Rattle.pg_session.proofs.Opening.Turns.{opening-turns}
use Rattle.pg_session.proofs.SentSoFar.Whole.{front-all}

-- one of two numbers is no less
le_or_lt : (m n : ℕ) → (m ≤ n) ⊎ (n < m)
le_or_lt zero n = inl (omega arith)
le_or_lt (suc m) zero = inr (omega arith)
le_or_lt (suc m) (suc n) = elim (le_or_lt m n) [ inl low ↦ inl (omega (arith, low)) | inr less ↦ inr (omega (arith, less)) ]

none-long : {X : Type 0} (xs : List X) → length xs ≡ 0 → xs ≡ []
none-long [] e = refl
none-long (x ∷ xs) e = absurd (omega (arith, e))

ok-of : (r : Result (List ℕ) FrameFault) → IsOk r → (frame : List ℕ) × (r ≡ Ok frame)
ok-of (Ok frame) is = (frame, refl)
ok-of (Err fault) is = absurd cc

-- what is set isn't missing
none-user : (o : Option (List ℕ)) → o ≡ None → IsSome o → ⊥
none-user None none some = absurd cc
none-user (Some user) none some = cc

-- The plan answers the startup, and each request that was sent.
pub record IsAnswered (call : Call) (s : Settings) (plan : Plan) (t : List ℕ) : Type 0 where
  pub opens : AnswersStartup call s plan
  pub few : turns_given t - opens.frames ≤ length plan.entries - opens.frames
  pub replies : AllByRecursion IsOneReply (drop opens.frames (take (turns_given t) plan.entries))

-- as one that conforms does
pub is-answered : (call : Call) (s : Settings) (plan : Plan) (t : List ℕ) → Conforms call s plan t → IsAnswered call s plan t
is-answered call s plan t c =
    let few = c.later.entries in
    record { opens = c.opens; few = omega (arith, few); replies = recursion_from_All IsOneReply (drop c.opens.frames (take (turns_given t) plan.entries)) c.later.replies }

module _ (call : Call) (settings : Settings) (plan : Plan) (g t : List ℕ) (means : Means call.config settings)
    (v : IsValid call settings plan) (c : IsAnswered call settings plan t) (k : HoldsCourse call settings plan g t) where
  abbrev entries : List (List ℕ)
  entries = plan.entries

  -- how many frames the startup has
  abbrev many : ℕ
  many = c.opens.frames

  abbrev used : ℕ
  used = c.opens.started.0

  -- what may come, that of the startup, and behind it
  abbrev come : List ℕ
  come = concat (take (turns_given t) entries)

  abbrev first : List ℕ
  first = concat (take many entries)

  abbrev replies : List (List ℕ)
  replies = drop many (take (turns_given t) entries)

  abbrev dialogue_of : List RawMessage → Startup
  dialogue_of ms = startup settings call.nonce ms

  whole : AllByRecursion IsWhole entries
  whole = recursion_from_All IsWhole entries c.opens.whole

  opening : (frame : List ℕ) × (frame_of settings ≡ Ok frame)
  opening = ok-of (frame_of settings) v.frame

  done-first : (dialogue_of (messages first)).outcome ≡ Done used
  done-first = c.opens.started.1

  asides : AllByRecursion IsAside (drop used (messages first))
  asides = recursion_from_All IsAside (drop used (messages first)) c.opens.started.2

  enough : used ≤ length (messages first)
  enough = used-within settings call.nonce (messages first) used done-first

  whole-first : bytes_left first ≡ []
  whole-first = whole-concat (take many entries) (all-take IsWhole many entries whole)

  whole-come : bytes_left come ≡ []
  whole-come = whole-concat (take (turns_given t) entries) (all-take IsWhole (turns_given t) entries whole)

  -- the messages of the whole plan begin with those of the startup
  all-split : messages (concat entries) ≡ messages first ++ messages (concat (drop many entries))
  all-split = ap messages (sym (split-concat many entries)) ∙ messages-behind first (concat (drop many entries)) whole-first

  done-all : (dialogue_of (messages (concat entries))).outcome ≡ Done used
  done-all = subst (λ (l : List RawMessage). (dialogue_of l).outcome ≡ Done used) (sym all-split)
      (done-later settings call.nonce (messages first) (messages (concat (drop many entries))) used done-first)

  frames-all : length (dialogue_of (messages (concat entries))).frames ≡ many
  frames-all =
      ap (λ (l : List RawMessage). length (dialogue_of l).frames) all-split
      ∙ ap (λ (d : Startup). length d.frames) (same-later settings call.nonce (messages first) (messages (concat (drop many entries))) used done-first)
      ∙ c.opens.all_frames

  -- and with those given
  front-bytes : g ++ (k.rest ++ concat (drop (turns_given t) entries)) ≡ concat entries
  front-bytes = sym (append_assoc g k.rest (concat (drop (turns_given t) entries)))
      ∙ ap (λ (l : List ℕ). l ++ concat (drop (turns_given t) entries)) k.front ∙ split-concat (turns_given t) entries

  front : IsFrontOf g (concat entries)
  front = front-of g (k.rest ++ concat (drop (turns_given t) entries)) (concat entries) front-bytes

  done-front : (dialogue_of (messages g ++ front.more)).outcome ≡ Done used
  done-front = subst (λ (l : List RawMessage). (dialogue_of l).outcome ≡ Done used) front.is done-all

  -- ---- the startup

  refused : (f : Failure) → InStartup f call settings g → ⊥
  refused f h = never-refused settings call.nonce (messages g) front.more used f done-front h.1

  done-same : (u : ℕ) → (dialogue_of (messages g)).outcome ≡ Done u → u ≡ used
  done-same u done = elim (front-startup settings call.nonce (messages g) front.more used done-front) [
    | inl open_ ↦ absurd (let no : More ≡ Done u = sym open_ ∙ done in cc)
    | inr same ↦ ap used_of (sym done ∙ same)
  ]

  -- once it is done, all its frames are written
  frames-done : (u : ℕ) → (dialogue_of (messages g)).outcome ≡ Done u → length (dialogue_of (messages g)).frames ≡ many
  frames-done u done =
      ap (λ (d : Startup). length d.frames) (sym (same-later settings call.nonce (messages g) front.more u done))
      ∙ ap (λ (l : List RawMessage). length (dialogue_of l).frames) (sym front.is) ∙ frames-all

  -- what was taken of its frames gave as many turns
  frames-turns : (ms : List RawMessage) → t ≡ concat (dialogue_of ms).frames → turns_given t ≡ length (dialogue_of ms).frames
  frames-turns ms is =
      let ps = (dialogue (plain_login settings call.nonce) First ms).frames in
      let all : (dialogue_of ms).frames ≡ opening.0 ∷ ps =
      ap (λ (r : Result (List ℕ) FrameFault). (begun_by r (dialogue (plain_login settings call.nonce) First ms)).frames) opening.1 in
      let turns = opening-turns settings opening.0 opening.1 ps (dialogue-passwords (plain_login settings call.nonce) First ms) t []
      (is ∙ ap concat all ∙ sym (append-nil (opening.0 ++ concat ps))) in
      omega (arith, turns, ap length all)

  -- ---- what stands behind it

  readable : list_all is_readable (messages g) ≡ true
  readable = all-front is_readable (messages g) front.more (subst (λ (l : List RawMessage). list_all is_readable l ≡ true) front.is c.opens.readable)

  abbrev tells : RawMessage → Result Message WireFault → Bool
  tells m r = elim r [ Ok message ↦ is_none (aside_fault message) | Err fault ↦ not (is_async m || is_parameter m) ]

  unreadable : (cause : faults.Cause) → AsideUnreadable cause (messages g) → ⊥
  unreadable cause h =
      let read : is_readable h.0 ≡ true = all-holds is_readable (messages g) h.0 readable h.2 in
      let not-read : is_readable h.0 ≡ false = ap (tells h.0) h.3 ∙ ap (λ (o : Option faults.Cause). is_none o) h.4 in
      true≢false (sym read ∙ not-read)

  breaks : (fault : WireFault) → Behind call settings g (AsideBreaks fault) → ⊥
  breaks fault (plain, (u, done, h)) =
      let read : is_readable h.0 ≡ true = all-holds is_readable (session_part settings call.nonce (messages g)) h.0
      (all-behind is_readable (used_of (dialogue_of (messages g)).outcome) (messages g) readable) h.1 in
      let not-read : is_readable h.0 ≡ false = ap (tells h.0) h.3 ∙ ap (λ (b : Bool). not b) h.2 in
      true≢false (sym read ∙ not-read)

  bad-header : IsTrue (has_bad_header (bytes_left g)) → ⊥
  bad-header h = never-bad g (k.rest ++ concat (drop (turns_given t) entries)) (ap bytes_left front-bytes ∙ whole-concat entries whole) h

  -- the messages that came behind the startup
  session-is : (u : ℕ) → (dialogue_of (messages g)).outcome ≡ Done u → session_part settings call.nonce (messages g) ≡ drop used (messages g)
  session-is u done = ap (λ o. drop (used_of o) (messages g)) done ∙ ap (λ (n : ℕ). drop n (messages g)) (done-same u done)

  -- what may come is the startup's entries, and then the replies
  come-split : many ≤ turns_given t → messages come ≡ messages first ++ messages (concat replies)
  come-split low =
      ap messages (sym (split-concat many (take (turns_given t) entries)) ∙ ap (λ (l : List (List ℕ)). concat l ++ concat replies) (first-of-front many (turns_given t) entries low))
      ∙ messages-behind first (concat replies) whole-first

  count-replies : length replies ≡ turns_given t - many
  count-replies =
      let a = length-drop many (take (turns_given t) entries) in
      let b = length-take (turns_given t) entries in
      let few = c.few in
      omega (arith, a, b, few)

  are-all : AreReplies (length replies) (messages (concat replies))
  are-all = are-replies replies (all-drop IsWhole many (take (turns_given t) entries) (all-take IsWhole (turns_given t) entries whole))
      c.replies

  -- where not all turns of the startup were given, its entries begin with what may come
  first-split : turns_given t ≤ many → messages first ≡ messages come ++ messages (concat (drop (turns_given t) (take many entries)))
  first-split low =
      let rest = concat (drop (turns_given t) (take many entries)) in
      ap messages (sym (split-concat (turns_given t) (take many entries)) ∙ ap (λ (l : List (List ℕ)). concat l ++ rest) (first-of-front (turns_given t) many entries low))
      ∙ messages-behind come rest whole-come

  -- as many groups as replies, where the startup is done with what may come
  later-groups : used ≤ length (messages come) → groups (drop used (messages come)) ≡ groups (messages (concat replies))
  later-groups fits = elim (le_or_lt many (turns_given t)) [
    | inl low ↦
        ap (λ (l : List RawMessage). groups (drop used l)) (come-split low)
        ∙ ap groups (drop-append-le used (messages first) (messages (concat replies)) enough)
        ∙ groups-behind (drop used (messages first)) (messages (concat replies)) asides
    | inr less ↦
        let rest = messages (concat (drop (turns_given t) (take many entries))) in
        let behind : drop used (messages first) ≡ drop used (messages come) ++ rest =
        ap (drop used) (first-split (omega (arith, less))) ∙ drop-append-le used (messages come) rest fits in
        let none : groups (drop used (messages come)) ≡ [] =
        ap groups (sym (append-nil (drop used (messages come))))
        ∙ groups-behind (drop used (messages come)) [] (front-all IsAside (drop used (messages come)) rest (subst (AllByRecursion IsAside) behind asides)) in
        let no-reply : replies ≡ [] = none-long replies (omega (arith, count-replies, less)) in
        none ∙ sym (ap (λ (l : List (List ℕ)). groups (messages (concat l))) no-reply)
  ]

  -- no message comes out of turn
  in-turn : (f : Failure) → Behind call settings g (OutOfTurn f t) → ⊥
  in-turn f (plain, (u, done, o)) =
      let given = front-of g k.rest come k.front in
      let fits : used ≤ length (messages g) = used-within settings call.nonce (messages g) used (done ∙ ap Done (done-same u done)) in
      let long : length (messages come) ≡ length (messages g) + length given.more = ap length given.is ∙ length-append (messages g) given.more in
      let all : groups (drop used (messages g) ++ given.more) ≡ groups (messages (concat replies)) =
      ap groups (sym (drop-append-le used (messages g) given.more fits)) ∙ ap (λ (l : List RawMessage). groups (drop used l)) (sym given.is) ∙ later-groups (omega (arith, fits, long)) in
      let there = groups-AreFronts (drop used (messages g)) given.more o.before (o.first ∷ o.group)
      (subst (λ (l : List RawMessage). slice_get (groups l) o.before ≡ Some (o.first ∷ o.group)) (session-is u done) o.stands) in
      let place = place-low (groups (drop used (messages g) ++ given.more)) o.before ((o.first ∷ o.group) ++ there.0) there.1 in
      let count : length (groups (drop used (messages g) ++ given.more)) ≡ length replies = ap length all ∙ are-all.count in
      let unasked = o.unasked in
      let asked = k.asked in
      omega (arith, place, count, unasked, asked, count-replies, frames-done u done)

  -- ---- nothing more may come

  module _ (dry : call.after.due ≡ Some []) where
    all-given : g ≡ come
    all-given =
        let none : due_by plan g t ≡ [] = same_Some (due_by plan g t) [] (sym k.due ∙ dry) in
        let rest : k.rest ≡ [] = sym (drop-append_seam g k.rest) ∙ ap (drop (length g)) k.front ∙ none in
        sym (append-nil g) ∙ ap (λ (l : List ℕ). g ++ l) (sym rest) ∙ k.front

    -- where all turns of the startup were given, it is done
    goes-on : many ≤ turns_given t → (dialogue_of (messages g)).outcome ≡ More → ⊥
    goes-on low more =
        let done : (dialogue_of (messages come)).outcome ≡ Done used =
        subst (λ (l : List RawMessage). (dialogue_of l).outcome ≡ Done used) (sym (come-split low)) (done-later settings call.nonce (messages first) (messages (concat replies)) used done-first) in
        let no : More ≡ Done used = sym more ∙ ap (λ (l : List ℕ). (dialogue_of (messages l)).outcome) all-given ∙ done in cc

    -- and where not, it has written one frame more than turns were given
    writes-on : turns_given t < many → t ≡ concat (dialogue_of (messages g)).frames → ⊥
    writes-on less is =
        let one-more : length (dialogue_of (messages come)).frames ≡ turns_given t + 1 = c.opens.each_frame (turns_given t) less in
        omega (arith, one-more, frames-turns (messages g) is, ap (λ (l : List ℕ). length (dialogue_of (messages l)).frames) all-given)

    not-awaited : IsAwaited call settings g t → ⊥
    not-awaited (inl (plain, more, is)) = elim (le_or_lt many (turns_given t)) [ inl low ↦ goes-on low more | inr less ↦ writes-on less is ]
    not-awaited (inr (inl asked)) = v.no_tls asked.0.0
    not-awaited (inr (inr (plain, (u, done, less)))) =
        let fits : used ≤ length (messages come) =
        subst (λ (l : List ℕ). used ≤ length (messages l)) all-given (used-within settings call.nonce (messages g) used (done ∙ ap Done (done-same u done))) in
        let count : whole_groups (session_part settings call.nonce (messages g)) ≡ length replies =
        ap whole_groups (session-is u done) ∙ ap (λ (l : List ℕ). whole_groups (drop used (messages l))) all-given
        ∙ ap (λ (l : List (List RawMessage)). count_by is_whole_group l) (later-groups fits) ∙ are-all.whole in
        elim k.whole [
          | inl none ↦ omega (arith, less, none)
          | inr some ↦ omega (arith, less, count, count-replies, some, frames-done u done)
        ]

  -- ---- each failure

  -- P of the settings and the bytes
  dialogue-says : (P : Settings → List ℕ → List ℕ → Type 0) → OfDialogue call P → P settings g t
  dialogue-says P (s', is, told) =
      let given : added call.before.given call.after.given ≡ Some g = ap (λ o. added o call.after.given) k.none_given ∙ ap (λ o. added (Some []) o) k.tells_given in
      let taken : added call.before.taken call.after.taken ≡ Some t = ap (λ o. added o call.after.taken) k.none_taken ∙ ap (λ o. added (Some []) o) k.tells_taken in
      subst (λ (x : Settings). P x g t) (means_one call.config s' settings is means)
      (subst (λ o. IfSome o (λ t. P s' g t)) taken
      (subst (λ o. IfSome o (λ g. IfSome (added call.before.taken call.after.taken) (λ t. P s' g t))) given told))

  -- the same of settings that require no TLS
  plain-says : (P : Settings → List ℕ → List ℕ → Type 0) → OfPlainDialogue call P → P settings g t
  plain-says P (s', is, both) = dialogue-says P (s', is, both.1)

  within : (given limit : ℕ) → IsPastLimit call given limit → ⊥
  within given limit h =
      let count : length g ≡ given = dialogue-says (λ s g t. length g ≡ given) (settings, means, h.counted) in
      let more : length g ≤ length (concat entries) = subst (λ (l : List ℕ). length g ≤ length l) front-bytes
      (omega (arith, length-append g (k.rest ++ concat (drop (turns_given t) entries)))) in
      let most = v.limit in
      let past = h.more in
      let is = h.asked in
      omega (arith, count, more, most, past, is)

  no-tls : (cause : faults.Cause) → HasCause call (faults.Tls cause) → ⊥
  no-tls cause h = v.no_tls (ap (λ (x : Settings). x.ssl_mode) (sym (means_one call.config h.1.0 settings h.1.1 means)) ∙ h.1.2.0)

  -- nothing is wrong with the bytes
  no-fault : (fault : WireFault) → OfPlainDialogue call (λ s g t.
      ((fault ≡ faults.BadLength) × IsTrue (has_bad_header (bytes_left g)))
      ⊎ InStartup (faults.Io (faults.Wire fault)) call s g ⊎ Behind call s g (AsideBreaks fault)) → ⊥
  no-fault fault h = elim (plain-says _ h) [
    | inl header ↦ bad-header header.1
    | inr (inl start) ↦ refused (faults.Io (faults.Wire fault)) start
    | inr (inr later) ↦ breaks fault later
  ]

  -- a session that fails fails for want of memory
  pub ends-well : (f : Failure) → HasCause call f → EndsWell (Err f)
  ends-well (faults.ConfigParse cause) h = no_fault call.config settings cause means h
  ends-well (faults.Config faults.NoUser) h =
      none-user settings.user (ap (λ (x : Settings). x.user) (sym (means_one call.config h.0 settings h.1 means)) ∙ h.2) v.user
  ends-well (faults.Config faults.Nonce) h = true≢false (sym v.nonce ∙ h.1)
  ends-well (faults.Config faults.NoPassword) h = refused (faults.Config faults.NoPassword) (plain-says _ h)
  ends-well (faults.Config _) h = absurd h
  ends-well (faults.Tls cause) h = no-tls cause h
  ends-well (faults.Encode (faults.Frame faults.ZeroByte)) h = refused (faults.Encode (faults.Frame faults.ZeroByte)) (plain-says _ h)
  ends-well (faults.Encode (faults.Frame faults.TooMany)) h = refused (faults.Encode (faults.Frame faults.TooMany)) (plain-says _ h)
  ends-well (faults.Encode (faults.Frame faults.TooLong)) h = refused (faults.Encode (faults.Frame faults.TooLong)) (plain-says _ h)
  ends-well (faults.Encode _) h = absurd h
  ends-well (faults.Authentication cause) h = refused (faults.Authentication cause) (plain-says _ h.1)
  ends-well (faults.Db error) h = elim (plain-says _ h) [
    | inl start ↦ refused (faults.Db error) start
    | inr later ↦ in-turn (faults.Db error) later
  ]
  ends-well faults.UnexpectedMessage h = elim (plain-says _ h) [
    | inl start ↦ refused faults.UnexpectedMessage start
    | inr later ↦ in-turn faults.UnexpectedMessage later
  ]
  ends-well (faults.Parse cause) h = elim (plain-says _ h.1) [
    | inl start ↦ refused (faults.Parse cause) start
    | inr (inl aside) ↦ unreadable cause aside
    | inr (inr later) ↦ in-turn (faults.Parse cause) later
  ]
  ends-well (faults.Io faults.Link) h = k.no_fault h
  ends-well (faults.Io faults.Ended) h = k.no_end h.0
  ends-well (faults.Io (faults.Wire faults.BadLength)) h = no-fault faults.BadLength h
  ends-well (faults.Io (faults.Wire faults.UnknownTag)) h = no-fault faults.UnknownTag h
  ends-well (faults.Io (faults.Wire faults.Layout)) h = no-fault faults.Layout h
  ends-well (faults.Io (faults.Wire faults.NotUtf8)) h = no-fault faults.NotUtf8 h
  ends-well (faults.Io _) h = absurd h
  ends-well faults.Closed h = k.no_end h.0
  ends-well (faults.Stalled before after) h =
      let a = h.awaited k.steady in
      not-awaited a.0 (dialogue-says (λ s g t. IsAwaited call s g t) a.1)
  ends-well (faults.LimitReached given limit) h = within given limit h
  ends-well faults.OutOfMemory h = tt
  ends-well _ h = absurd h
