-- Pipelined equals one at a time, over the bytes of a session.
use Rattle.std.proofs.Common.{◌≡◌, ℕ, suc, ◌+◌, ◌^◌, ◌<◌, ◌≤◌, Bool, true, false, cond, ◌&&◌, List, [], ◌∷◌, ◌++◌, Option, Some, None, Result, Ok, Err, refl, sym, ap, ◌∙◌, subst, append_assoc, append-nil, arith, rules, inl, inr, length, drop}
use Rattle.std.specs.Prelude.{map, nat_lt}
use Rattle.std.specs.List.{AllByRecursion, list_any, list_all, concat, flat_map, onto_first}
use Rattle.std.proofs.lemmas.Option.{same_Some}
use Rattle.std.proofs.lemmas.List.{length-append, drop-append-le, drop_at}
use Rattle.pg_spec.specs.Book.{Booking, wire}
use Rattle.pg_spec.specs.Faults.{FrameFault, ZeroByte, TooMany, TooLong}
use Rattle.pg_spec.specs.Bytes.{text0}
use Rattle.std.proofs.lemmas.Bool.{ltb-false}
use Rattle.pg_spec.specs.Frames.{terminate_frame, startup_frame, untagged, unless_fault, frame_fault, has_zero}
use Rattle.pg_spec.specs.RawMessages.{RawMessage, is_ready, messages, bytes_left, groups, cut_after, ends_in, is_whole_group, sync_of}
use Rattle.pg_spec.specs.Sent.{after_startup_frame}
use Rattle.pg_spec.specs.Settings.{Settings, startup_parameters}
use Rattle.pg_spec.specs.Startup.{Startup, Outcome, Done, Refused, More, Move, Writes, Ends, Refuses, Phase, First, startup, session_part, used_of, moved_by, startup_move, dialogue, begun_by, plain_login}
use Rattle.pg_spec.proofs.MessageLaws.{messages-append, messages-join}
use Rattle.pg_spec.proofs.GroupLaws.{cut_after-append, AreFronts, groups-AreFronts}
use Rattle.pg_spec.proofs.StartupLaws.{IsOpenOr, startup-append}
use Rattle.pg_spec.proofs.SentLaws.{after_startup_frame-front}
use Rattle.pg_machine.specs.declared.serving.Mode.{Mode}
use Rattle.pg_machine.specs.declared.serving.Mode.TheVariants.{Normal, Skip, CopyIn}
use Rattle.pg_machine.specs.Serving.{Service, Serving, Replied, served, joined, one_at_a_time}
use Rattle.pg_machine.specs.Requests.{IsRequest, IsReply}
use Rattle.pg_machine.specs.Sessions.{begun, spoken, frames_of, AreRequests, alone, IsExchange, IsStartup, IsOver, KeepsRules}
use Rattle.pg_machine.proofs.ServingLaws.{IsOneGroup, reply-group, served-append, requests-IsReply, replies-Fit, pipelined-one_at_a_time}

-- ---- a whole group that is a front of one is that group

cut_after-some : {X : Type 0} (p : X → Bool) (x : X) (xs : List X) →
    (piece : List X) × (pieces : List (List X)) × (cut_after p (x ∷ xs) ≡ piece ∷ pieces)
cut_after-some {X = X} p x xs = by_test (p x) (cut_after p xs)
  where
    by_pieces : {X : Type 0} (x : X) (pieces : List (List X)) → (piece : List X) × (others : List (List X)) × (onto_first x pieces ≡ piece ∷ others)
    by_pieces x [] = (x ∷ [], [], refl)
    by_pieces x (piece ∷ pieces) = (x ∷ piece, pieces, refl)

    by_test : (b : Bool) (rest : List (List X)) →
        (piece : List X) × (pieces : List (List X)) × (cond b ((x ∷ []) ∷ rest) (onto_first x rest) ≡ piece ∷ pieces)
    by_test true rest = (x ∷ [], rest, refl)
    by_test false [] = (x ∷ [], [], refl)
    by_test false (piece ∷ pieces) = (x ∷ piece, pieces, refl)

-- two pieces or more aren't one
two_pieces : {X : Type 0} (p : X → Bool) (a more : List X) → ends_in p a ≡ true → cut_after p a ++ cut_after p more ≡ (a ++ more) ∷ [] → more ≡ []
two_pieces p [] more ends one = absurd cc
two_pieces p (x ∷ xs) [] ends one = refl
two_pieces {X = X} p (x ∷ xs) (y ∷ ys) ends one =
    let first = cut_after-some p x xs in
    let second = cut_after-some p y ys in
    let e : length ((first.0 ∷ first.1) ++ (second.0 ∷ second.1)) ≡ 1
    = ap (λ pieces. length (pieces ++ (second.0 ∷ second.1))) (sym first.2) ∙ ap (λ pieces. length (cut_after p (x ∷ xs) ++ pieces)) (sym second.2) ∙ ap length one in
    absurd (omega (arith, length-append first.1 (second.0 ∷ second.1)))

whole_front : (a more : List RawMessage) → ends_in is_ready a ≡ true → IsOneGroup (a ++ more) → more ≡ []
whole_front a more ends one = two_pieces is_ready a more ends (sym (cut_after-append is_ready a more ends) ∙ one.one)

pub both_true : (a b : Bool) → (a && b) ≡ true → (a ≡ true) × (b ≡ true)
both_true true b e = (refl, e)
both_true false b e = absurd cc

fronts-equal : (few many : List (List RawMessage)) → AreFronts few many → length few ≡ length many →
    list_all is_whole_group few ≡ true → AllByRecursion IsOneGroup many → few ≡ many
fronts-equal [] [] fronts same whole one = refl
fronts-equal [] (b ∷ bs) fronts same whole one = absurd (omega arith)
fronts-equal (a ∷ as_) [] fronts same whole one = absurd (omega arith)
fronts-equal (a ∷ as_) (b ∷ bs) fronts same whole one =
    let parts = both_true (is_whole_group a) (list_all is_whole_group as_) whole in
    let front = fronts 0 a refl in
    let e : b ≡ a ++ front.0 = same_Some b (a ++ front.0) front.1 in
    let none : front.0 ≡ [] = whole_front a front.0 parts.0 (subst IsOneGroup e one.0) in
    let first : a ≡ b = sym (append-nil a) ∙ ap (λ more. a ++ more) (sym none) ∙ sym e in
    ap (λ g. g ∷ as_) first ∙ ap (λ gs. b ∷ gs) (fronts-equal as_ bs (λ k. fronts (suc k)) (omega arith) parts.1 one.1)

-- ---- the startup

-- it uses no more messages than came
used-few : (s : Settings) (nonce : List ℕ) (phase : Phase) (ms : List RawMessage) (used : ℕ) → (dialogue (plain_login s nonce) phase ms).outcome ≡ Done used → used ≤ length ms
used-few s nonce phase [] used e = absurd cc
used-few s nonce phase (m ∷ ms) used e = by_move (startup_move (plain_login s nonce) phase m) (λ next u h. used-few s nonce next ms u h) e
  where
    done-same : (a b : ℕ) → Done a ≡ Done b → a ≡ b
    done-same a b e = ap used_of e

    by_outcome : (o : Outcome) → ((u : ℕ) → o ≡ Done u → u ≤ length ms) → elim o [ Done u ↦ Done (u + 1) | Refused failure ↦ Refused failure | More ↦ More ] ≡ Done used → used ≤ suc (length ms)
    by_outcome (Done u) h e = omega (arith, h u refl, done-same (u + 1) used e)
    by_outcome (Refused failure) h e = absurd cc
    by_outcome More h e = absurd cc

    by_move : (move : Move) → ((next : Phase) (u : ℕ) → (dialogue (plain_login s nonce) next ms).outcome ≡ Done u → u ≤ length ms) →
        (moved_by move (λ next. dialogue (plain_login s nonce) next ms)).outcome ≡ Done used → used ≤ suc (length ms)
    by_move (Writes frames next) h e = by_outcome (dialogue (plain_login s nonce) next ms).outcome (h next) e
    by_move Ends h e = omega (arith, done-same 1 used e)
    by_move (Refuses failure) h e = absurd cc

startup-few : (s : Settings) (nonce : List ℕ) (ms : List RawMessage) (used : ℕ) → (startup s nonce ms).outcome ≡ Done used → used ≤ length ms
startup-few s nonce ms used e = by_frame (startup_frame (startup_parameters s)) e
  where
    by_frame : (frame : Result (List ℕ) FrameFault) → (begun_by frame (dialogue (plain_login s nonce) First ms)).outcome ≡ Done used → used ≤ length ms
    by_frame (Ok frame) e = used-few s nonce First ms used e
    by_frame (Err fault) e = absurd cc

-- the startup of two streams that begin alike
startup-same : (s : Settings) (nonce : List ℕ) (ms tail front later : List RawMessage) (used n : ℕ) → ms ++ tail ≡ front ++ later →
    (startup s nonce ms).outcome ≡ Done used → (startup s nonce front).outcome ≡ Done n → startup s nonce ms ≡ startup s nonce front
startup-same s nonce ms tail front later used n same a b =
    sym (settled ms tail used a (startup-append s nonce ms tail)) ∙ ap (startup s nonce) same ∙ settled front later n b (startup-append s nonce front later)
  where
    done-more : (u : ℕ) (o : Outcome) → o ≡ Done u → o ≡ More → ⊥
    done-more u (Done v) e f = absurd cc
    done-more u (Refused failure) e f = absurd cc
    done-more u More e f = absurd cc

    settled : (xs ys : List RawMessage) (u : ℕ) → (startup s nonce xs).outcome ≡ Done u → IsOpenOr (startup s nonce xs) (startup s nonce (xs ++ ys)) →
        startup s nonce (xs ++ ys) ≡ startup s nonce xs
    settled xs ys u done (inl more) = absurd (done-more u (startup s nonce xs).outcome done more)
    settled xs ys u done (inr same) = same

-- the one frame of a startup that asks for nothing is the startup frame
pub record IsStartupFrame (frame : List ℕ) : Type 0 where
  pub rest : List ℕ
  pub is : frame ≡ untagged (0 ∷ rest)
  pub few : 5 + length rest < 2 ^ 32

abbrev first_of : List (List ℕ) → List ℕ
first_of [] = []
first_of (x ∷ xs) = x

few-none : (texts : List (List ℕ)) (n : ℕ) → frame_fault texts [] n ≡ None → n ≤ 2147483647
few-none texts n e = ltb-false 2147483647 n (fault-none (list_any has_zero texts) (list_any (λ count. nat_lt 65535 count) []) (nat_lt 2147483647 n) e)
  where
    fault-none : (zero many long : Bool) → cond zero (Some ZeroByte) (cond many (Some TooMany) (cond long (Some TooLong) None)) ≡ None → long ≡ false
    fault-none true many long e = absurd cc
    fault-none false true long e = absurd cc
    fault-none false false true e = absurd cc
    fault-none false false false e = refl

first-frame : (frame other : List ℕ) (rest whole : Startup) → begun_by (Ok frame) rest ≡ whole → whole.frames ≡ other ∷ [] → frame ≡ other
first-frame frame other rest whole e f = ap (λ (st : Startup). first_of st.frames) e ∙ ap first_of f

refused-fault : (fault : FrameFault) (bytes f : List ℕ) → unless_fault (Some fault) bytes ≡ Ok f → ⊥
refused-fault fault bytes f e = absurd cc

refused-frame : (fault : FrameFault) (rest : Startup) (frame : List ℕ) (n : ℕ) → begun_by (Err fault) rest ≡ record { frames = frame ∷ []; outcome = Done n } → ⊥
refused-frame fault rest frame n e = none (ap (λ (x : Startup). x.frames) e)
  where
    none : [] ≡ frame ∷ [] → ⊥
    none e = absurd cc

pub startup-frame : (s : Settings) (nonce : List ℕ) (ms : List RawMessage) (frame : List ℕ) (n : ℕ) →
    startup s nonce ms ≡ record { frames = frame ∷ []; outcome = Done n } → IsStartupFrame frame
startup-frame s nonce ms frame n e = by_frame (startup_frame (startup_parameters s)) refl e
  where
    pairs : List (List ℕ × List ℕ)
    pairs = startup_parameters s

    body : List ℕ
    body = 3 ∷ 0 ∷ 0 ∷ flat_map (λ pair. text0 pair.0 ++ text0 pair.1) pairs ++ 0 ∷ []

    by_fault : (fault : Option FrameFault) → frame_fault (map (λ pair. pair.0) pairs ++ map (λ pair. pair.1) pairs) [] (4 + length (0 ∷ body)) ≡ fault →
        (f : List ℕ) → unless_fault fault (untagged (0 ∷ body)) ≡ Ok f → IsStartupFrame f
    by_fault None none f ok = record {
      rest = body;
      is = sym (same_ok (untagged (0 ∷ body)) f ok);
      few = let le : 4 + length (0 ∷ body) ≤ 2147483647 = few-none (map (λ pair. pair.0) pairs ++ map (λ pair. pair.1) pairs) (4 + length (0 ∷ body)) none in omega (arith, le);
    }
      where
        same_ok : (a b : List ℕ) → unless_fault None a ≡ Ok b → a ≡ b
        same_ok a b e = ap (λ (r : Result (List ℕ) FrameFault). elim r [ Ok x ↦ x | Err x ↦ [] ]) e
    by_fault (Some fault) some f ok = absurd (refused-fault fault (untagged (0 ∷ body)) f ok)

    by_frame : (begun : Result (List ℕ) FrameFault) → startup_frame pairs ≡ begun → begun_by begun (dialogue (plain_login s nonce) First ms) ≡ record { frames = frame ∷ []; outcome = Done n } → IsStartupFrame frame
    by_frame (Ok f) is e =
        subst IsStartupFrame (first-frame f frame (dialogue (plain_login s nonce) First ms) (record { frames = frame ∷ []; outcome = Done n }) e refl)
        (by_fault (frame_fault (map (λ pair. pair.0) pairs ++ map (λ pair. pair.1) pairs) [] (4 + length (0 ∷ body))) refl f is)
    by_frame (Err fault) is e = absurd (refused-frame fault (dialogue (plain_login s nonce) First ms) frame n e)

-- ---- what was taken

-- the frames of whole requests and of what follows them
pub wire-messages : (book : List Booking) (more : List ℕ) → AreRequests book → messages (wire book ++ more) ≡ joined (map frames_of book) ++ messages more
wire-messages [] more are = refl
wire-messages (b ∷ bs) more are =
    let bytes : List ℕ = concat b.parts in
    ap messages (append_assoc bytes (wire bs) more)
    ∙ messages-append bytes (wire bs ++ more)
    ∙ ap (λ left. messages bytes ++ messages (left ++ (wire bs ++ more))) are.0.0
    ∙ ap (λ later. messages bytes ++ later) (wire-messages bs more are.1)
    ∙ sym (append_assoc (frames_of b) (joined (map frames_of bs)) (messages more))

-- Terminate
pub terminate : RawMessage
terminate = record { tag = 88; body = [] }

pub terminate-messages : messages terminate_frame ≡ terminate ∷ []
unfolding terminate
terminate-messages = refl

-- it is answered by nothing
pub silent-Terminate : {S : Type 0} (service : Service S) (at : Serving S) → (served service at (terminate ∷ [])).reply ≡ []
unfolding terminate
silent-Terminate service at = by_mode at.mode
  where
    by_mode : (mode : Mode) → (served service (record { state = at.state; mode = mode }) (terminate ∷ [])).reply ≡ []
    by_mode Normal = refl
    by_mode Skip = refl
    by_mode CopyIn = refl

-- the requests of a book
pub AllRequests : (book : List Booking) → AreRequests book → AllByRecursion IsRequest (map frames_of book)
AllRequests [] are = tt
AllRequests (b ∷ bs) are = (are.0.1, AllRequests bs are.1)

pub AllOneGroup : (replies : List (List RawMessage)) → AllByRecursion IsReply replies → AllByRecursion IsOneGroup (map sync_of replies)
AllOneGroup [] are = tt
AllOneGroup (reply ∷ replies) are =
    (subst (λ ms. IsOneGroup (sync_of ms)) (sym are.0.is) (reply-group are.0.front are.0.last are.0.no_other are.0.ready), AllOneGroup replies are.1)

pub length-alone : {S : Type 0} (service : Service S) (at : Serving S) (requests : List (List RawMessage)) → length (one_at_a_time service at requests) ≡ length requests
length-alone service at [] = refl
length-alone service at (fs ∷ more) = ap suc (length-alone service (served service at fs).next more)

pub length-map' : {X Y : Type 0} (f : X → Y) (xs : List X) → length (map f xs) ≡ length xs
length-map' f [] = refl
length-map' f (x ∷ xs) = ap suc (length-map' f xs)

-- ---- the law

-- Group k of a session over a link to this server is what request k is answered where the requests are fed one at a time.
pub session-alone : {S : Type 0} (service : Service S) (begins : S) (s : Settings) (nonce : List ℕ) (book : List Booking) (bytes given taken : List ℕ) →
    IsExchange s nonce book given taken → IsStartup s nonce bytes → IsOver service begins bytes given taken → AreRequests book → KeepsRules service begins book →
    groups (session_part s nonce (messages given)) ≡ map sync_of (alone service begins book)
session-alone {S = S} service begins s nonce book bytes given taken ex st over are rules = by_taken (after_startup_frame taken) refl
  where
    requests : List (List RawMessage)
    requests = map frames_of book

    replies : AllByRecursion IsReply (alone service begins book)
    replies = requests-IsReply service (begun begins) requests refl (AllRequests book are) rules.sound rules.only_copies_open

    -- what all frames are replied
    said : List RawMessage
    said = (served service (begun begins) (joined requests)).reply

    ms : List RawMessage
    ms = messages given

    tail : List RawMessage
    tail = messages (bytes_left given ++ over.due)

    n : ℕ
    n = length (messages bytes)

    rest : List RawMessage
    rest = session_part s nonce ms

    lengths : length (groups rest) ≡ length (map sync_of (alone service begins book))
    lengths = ex.one_group_each ∙ sym (length-map' sync_of (alone service begins book) ∙ length-alone service (begun begins) requests ∙ length-map' frames_of book)

    -- nothing is given before the startup frame, so the startup isn't done
    nothing : (x y : List ℕ) → x ++ y ≡ [] → x ≡ []
    nothing [] y e = refl
    nothing (b ∷ x) y e = absurd cc

    no-frame : (u : ℕ) → (startup s nonce []).outcome ≡ Done u → ⊥
    no-frame u e = by_frame (startup_frame (startup_parameters s)) e
      where
        by_frame : (frame : Result (List ℕ) FrameFault) → (begun_by frame (record { frames = []; outcome = More })).outcome ≡ Done u → ⊥
        by_frame (Ok frame) e = absurd cc
        by_frame (Err fault) e = absurd cc

    given_by : Option (List ℕ) → List ℕ
    given_by o = elim o [ None ↦ [] | Some behind ↦ bytes ++ spoken (served service (begun begins) (messages behind)).reply ]

    by_taken : (o : Option (List ℕ)) → after_startup_frame taken ≡ o → groups rest ≡ map sync_of (alone service begins book)
    by_taken None is =
        let none : given ≡ [] = nothing given over.due (over.in_all ∙ ap given_by is) in
        absurd (no-frame ex.started.0 (ap (λ g. (startup s nonce (messages g)).outcome) (sym none) ∙ ex.started.1))
    by_taken (Some behind) is =
        let reply : List RawMessage = (served service (begun begins) (messages behind)).reply in
        let all : ms ++ tail ≡ messages bytes ++ messages (spoken reply)
        = sym (messages-append given over.due) ∙ ap messages (over.in_all ∙ ap given_by is) ∙ messages-append bytes (spoken reply)
        ∙ ap (λ left. messages bytes ++ messages (left ++ spoken reply)) st.whole in
        let same : startup s nonce ms ≡ record { frames = st.frame ∷ []; outcome = Done n }
        = startup-same s nonce ms tail (messages bytes) (messages (spoken reply)) ex.started.0 n all ex.started.1 (ap (λ (x : Startup). x.outcome) st.done) ∙ st.done in
        let frame = startup-frame s nonce ms st.frame n same in
        let sent : taken ≡ untagged (0 ∷ frame.rest) ++ (wire book ++ terminate_frame)
        = ex.sent ∙ ap (λ (x : Startup). concat x.frames ++ wire book ++ terminate_frame) same
        ∙ ap (λ f. f ++ wire book ++ terminate_frame) (append-nil st.frame ∙ frame.is)
        ∙ append_assoc (untagged (0 ∷ frame.rest)) (wire book) terminate_frame in
        let after : behind ≡ wire book ++ terminate_frame
        = same_Some behind (wire book ++ terminate_frame) (sym is ∙ ap after_startup_frame sent ∙ after_startup_frame-front frame.rest (wire book ++ terminate_frame) frame.few) in
        let frames : messages behind ≡ joined requests ++ terminate ∷ []
        = ap messages after ∙ wire-messages book terminate_frame are ∙ ap (λ more. joined requests ++ more) terminate-messages in
        let replied : reply ≡ said
        = ap (λ fs. (served service (begun begins) fs).reply) frames
        ∙ ap (λ (r : Replied S). r.reply) (served-append service (begun begins) (joined requests) (terminate ∷ []))
        ∙ ap (λ more. said ++ more) (silent-Terminate service (served service (begun begins) (joined requests)).next) ∙ append-nil said in
        let heard : messages (spoken said) ≡ said
        = ap messages (sym (append-nil (spoken said))) ∙ messages-join said [] (replies-Fit service (begun begins) (joined requests) rules.sound) ∙ append-nil said in
        let few : n ≤ length ms = startup-few s nonce ms n (ap (λ (x : Startup). x.outcome) same) in
        let part : rest ≡ drop n ms = ap (λ (x : Startup). drop (used_of x.outcome) ms) same in
        let whole : rest ++ tail ≡ said
        = ap (λ r. r ++ tail) part ∙ sym (drop-append-le n ms tail few) ∙ ap (drop n) all
        ∙ drop_at (messages bytes) (messages (spoken reply)) n refl ∙ ap (λ r. messages (spoken r)) replied ∙ heard in
        let groups_are : groups (rest ++ tail) ≡ map sync_of (alone service begins book)
        = ap groups whole ∙ pipelined-one_at_a_time service (begun begins) requests refl (AllRequests book are) rules.sound rules.only_copies_open in
        fronts-equal (groups rest) (map sync_of (alone service begins book))
        (subst (AreFronts (groups rest)) groups_are (groups-AreFronts rest tail)) lengths ex.whole_groups
        (AllOneGroup (alone service begins book) replies)
