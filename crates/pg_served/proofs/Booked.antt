-- Requests that may be booked: each is one Query, and so many of them as were taken whole are replied.
use Rattle.std.proofs.Common.{◌≡◌, ℕ, ◌+◌, ◌≤◌, Bool, cond, not, ◌<◌, List, [], ◌∷◌, ◌++◌, Ok, refl, sym, ap, ◌∙◌, subst, append_assoc, append-nil, arith, inl, inr, ◌⊎◌, length}
use Rattle.std.specs.Prelude.{map, filter, count_by}
use Rattle.std.specs.List.{AllByRecursion}
use Rattle.std.specs.Str.{byte}
use Rattle.std.proofs.lemmas.List.Elements.{recursion_from_All}
use Rattle.std.proofs.lemmas.List.Sums.{count_by-le-length, sum_by-cons}
use Rattle.pg_spec.specs.Book.{Booking, wire}
use Rattle.pg_spec.specs.Frames.{startup_frame, terminate_frame}
use Rattle.pg_spec.specs.RawMessages.{RawMessage, messages, bytes_left, groups, cut_after, ends_in, is_whole_group, sync_of}
use Rattle.pg_spec.specs.Report.{Command}
use Rattle.pg_spec.specs.Sent.{ends_unit, is_password, tagged_frames, units, whole_units}
use Rattle.pg_spec.specs.Settings.{Settings, startup_parameters}
use Rattle.pg_spec.proofs.MessageLaws.{Fits, message_at_front, messages-append, messages-join}
use Rattle.pg_wire.proofs.Cuts.{left_of_one}
use Rattle.pg_machine.specs.Serving.{Service, Serving, Replied, joined, served}
use Rattle.pg_machine.specs.Requests.{SoundAlong}
use Rattle.pg_machine.specs.Sessions.{alone, begun, frames_of, spoken}
use Rattle.pg_machine.proofs.ServingLaws.{IsOneGroup, SoundAlong-append, pipelined-one_at_a_time, requests-IsReply, served-append}
use Rattle.pg_machine.proofs.SessionLaws.{AllOneGroup, AllRequests, length-alone, length-map', silent-Terminate, terminate, terminate-messages, wire-messages}
use Rattle.pg_session.proofs.Caused.Frames.{frames-behind}
use Rattle.pg_session.proofs.Complete.Bytes.{messages-behind, none-front}
use Rattle.pg_session.proofs.Complete.Groups.{AreReplies, ended-pieces}
use Rattle.pg_table.proofs.Counted as counted
use Rattle.pg_table.proofs.Counted.{booked-queries}
use Rattle.pg_served.specs.Conforming.{MayBook, reply_to}
use Rattle.pg_served.proofs.Requests.{AsksQuery, one-query, queries-asked}

-- ---- each is a Query

ask-so : (book : List Booking) → AllByRecursion (λ (b : Booking). counted.IsOneQuery b.parts) book → AllByRecursion AsksQuery book
ask-so [] all = tt
ask-so (b ∷ book) all = (record { frame = all.0.frame; parts = all.0.alone; query = all.0.is }, ask-so book all.1)

pub booked-asks : (scripts : List (List Command)) (book : List Booking) → MayBook scripts book → AllByRecursion AsksQuery book
booked-asks scripts book may =
    ask-so book (booked-queries scripts book (recursion_from_All (λ (b : Booking). b.stamp.owner < length scripts) book may.owners) may.order)

-- ---- what is replied

-- the bytes of a reply are its messages again
heard : (reply : List RawMessage) → AllByRecursion Fits reply → messages (spoken reply) ≡ reply
heard reply fit = ap messages (sym (append-nil (spoken reply))) ∙ messages-join reply [] fit ∙ append-nil reply

pub spoken-whole : (reply : List RawMessage) → AllByRecursion Fits reply → bytes_left (spoken reply) ≡ []
spoken-whole [] fit = refl
spoken-whole (m ∷ reply) fit = left_of_one (spoken (m ∷ reply)) m (spoken reply) (message_at_front m (spoken reply) fit.0) ∙ spoken-whole reply fit.1

pub behind-startup : (bytes : List ℕ) (reply : List RawMessage) → bytes_left bytes ≡ [] → AllByRecursion Fits reply → messages (bytes ++ spoken reply) ≡ messages bytes ++ reply
behind-startup bytes reply whole fit = messages-behind bytes (spoken reply) whole ∙ ap (λ (ms : List RawMessage). messages bytes ++ ms) (heard reply fit)

joined-more : (front later : List Booking) → joined (map frames_of (front ++ later)) ≡ joined (map frames_of front) ++ joined (map frames_of later)
joined-more [] later = refl
joined-more (b ∷ front) later =
    ap (λ (fs : List RawMessage). frames_of b ++ fs) (joined-more front later) ∙ sym (append_assoc (frames_of b) (joined (map frames_of front)) (joined (map frames_of later)))

-- the reply to more requests begins with that to the first of them
pub reply-more : {S : Type 0} (service : Service S) (begins : S) (front later book : List Booking) → front ++ later ≡ book →
    reply_to service begins book ≡ reply_to service begins front ++ (served service (served service (begun begins) (joined (map frames_of front))).next (joined (map frames_of later))).reply
reply-more {S = S} service begins front later book is =
    ap (λ (bs : List Booking). reply_to service begins bs) (sym is)
    ∙ ap (λ (fs : List RawMessage). (served service (begun begins) fs).reply) (joined-more front later)
    ∙ ap (λ (r : Replied S). r.reply) (served-append service (begun begins) (joined (map frames_of front)) (joined (map frames_of later)))

pub front-sound : {S : Type 0} (service : Service S) (begins : S) (front later book : List Booking) → front ++ later ≡ book →
    SoundAlong service (begun begins) (joined (map frames_of book)) → SoundAlong service (begun begins) (joined (map frames_of front))
front-sound service begins front later book is sound =
    (SoundAlong-append service (begun begins) (joined (map frames_of front)) (joined (map frames_of later))
    (subst (SoundAlong service (begun begins)) (ap (λ (bs : List Booking). joined (map frames_of bs)) (sym is) ∙ joined-more front later) sound)).0

all-whole : (gs : List (List RawMessage)) → AllByRecursion IsOneGroup gs → count_by is_whole_group gs ≡ length gs
all-whole [] all = refl
all-whole (g ∷ gs) all =
    let one : ◌≡◌ {A = ℕ} (cond (is_whole_group g) 1 0) 1 = ap (λ (b : Bool). cond b 1 0) all.0.whole in
    omega (arith, sum_by-cons (λ (x : List RawMessage). cond (is_whole_group x) 1 0) g gs, one, all-whole gs all.1)

-- one whole group to each request
pub replies-to : {S : Type 0} (service : Service S) (begins : S) (book : List Booking) → AllByRecursion AsksQuery book →
    SoundAlong service (begun begins) (joined (map frames_of book)) → AreReplies (length book) (reply_to service begins book)
replies-to service begins book asks sound =
    let are = queries-asked service begins book asks in
    let requests = AllRequests book are.requests in
    let each = requests-IsReply service (begun begins) (map frames_of book) refl requests sound are.only_copies_open in
    let same : groups (reply_to service begins book) ≡ map sync_of (alone service begins book)
    = pipelined-one_at_a_time service (begun begins) (map frames_of book) refl requests sound are.only_copies_open in
    let long : length (map sync_of (alone service begins book)) ≡ length book
    = length-map' sync_of (alone service begins book) ∙ length-alone service (begun begins) (map frames_of book) ∙ length-map' frames_of book in
    record {
      count = ap length same ∙ long;
      whole = ap (λ (gs : List (List RawMessage)). count_by is_whole_group gs) same ∙ all-whole (map sync_of (alone service begins book)) (AllOneGroup (alone service begins book) each) ∙ long;
    }

-- what holds of all holds of those in front
pub front-all : {X : Type 0} (P : X → Type 0) (xs ys : List X) → AllByRecursion P (xs ++ ys) → AllByRecursion P xs
front-all P [] ys h = tt
front-all P (x ∷ xs) ys h = (h.0, front-all P xs ys h.1)

-- ---- what was taken

-- Terminate or nothing
abbrev IsEnd : List RawMessage → Type 0
IsEnd ends = (ends ≡ []) ⊎ (ends ≡ terminate ∷ [])

-- The frames are those of the first requests, and maybe Terminate behind all of them.
record IsFrontOf (book : List Booking) (frames : List RawMessage) : Type 0 where
  front : List Booking
  later : List Booking
  is : front ++ later ≡ book
  ends : List RawMessage
  end : IsEnd ends
  frames_are : frames ≡ joined (map frames_of front) ++ ends

front-of-book : (book : List Booking) → AllByRecursion AsksQuery book → (frames behind : List RawMessage) → frames ++ behind ≡ joined (map frames_of book) ++ terminate ∷ [] → IsFrontOf book frames
front-of-book book asks [] behind e = record { front = []; later = book; is = refl; ends = []; end = inl refl; frames_are = refl }
front-of-book [] asks (f ∷ frames) behind e =
    let whole : f ∷ (frames ++ behind) ≡ terminate ∷ [] = e in
    let head : f ≡ terminate = cc in
    let tail : frames ++ behind ≡ [] = cc in
    record {
      front = [];
      later = [];
      is = refl;
      ends = terminate ∷ [];
      end = inr refl;
      frames_are = ap (λ (x : RawMessage). x ∷ frames) head ∙ ap (λ (fs : List RawMessage). terminate ∷ fs) (none-front frames behind tail);
    }
front-of-book (b ∷ book) asks (f ∷ frames) behind e =
    let one = one-query b asks.0 in
    let q : RawMessage = record { tag = byte "Q"; body = one.body } in
    let whole : f ∷ (frames ++ behind) ≡ q ∷ (joined (map frames_of book) ++ terminate ∷ [])
    = e ∙ ap (λ (fs : List RawMessage). (fs ++ joined (map frames_of book)) ++ terminate ∷ []) one.frames in
    let head : f ≡ q = cc in
    let tail : frames ++ behind ≡ joined (map frames_of book) ++ terminate ∷ [] = cc in
    let rest = front-of-book book asks.1 frames behind tail in
    record {
      front = b ∷ rest.front;
      later = rest.later;
      is = ap (λ (bs : List Booking). b ∷ bs) rest.is;
      ends = rest.ends;
      end = rest.end;
      frames_are = ap (λ (x : RawMessage). x ∷ frames) head ∙ ap (λ (fs : List RawMessage). q ∷ fs) rest.frames_are
          ∙ ap (λ (fs : List RawMessage). (fs ++ joined (map frames_of rest.front)) ++ rest.ends) (sym one.frames);
    }

-- what is left of frames without passwords
abbrev sent_of : List RawMessage → List RawMessage
sent_of frames = filter (λ frame. not (is_password frame)) frames

no-unit : count_by ends_unit (sent_of (terminate ∷ [])) ≡ 0
no-unit =
    ap (λ (fs : List RawMessage). count_by ends_unit (sent_of fs)) (sym terminate-messages)
    ∙ sum_by-cons (λ (x : RawMessage). cond (ends_unit x) 1 0) (record { tag = 88; body = [] }) []

-- each Query ends a unit, and Terminate none
units-in : (book : List Booking) → AllByRecursion AsksQuery book → (ends : List RawMessage) → IsEnd ends → count_by ends_unit (sent_of (joined (map frames_of book) ++ ends)) ≡ length book
units-in [] asks ends (inl none) = ap (λ (fs : List RawMessage). count_by ends_unit (sent_of fs)) none
units-in [] asks ends (inr last) = ap (λ (fs : List RawMessage). count_by ends_unit (sent_of fs)) last ∙ no-unit
units-in (b ∷ book) asks ends end =
    let one = one-query b asks.0 in
    let q : RawMessage = record { tag = byte "Q"; body = one.body } in
    let rest = sent_of (joined (map frames_of book) ++ ends) in
    let first : count_by ends_unit (sent_of (joined (map frames_of (b ∷ book)) ++ ends)) ≡ count_by ends_unit (q ∷ rest)
    = ap (λ (fs : List RawMessage). count_by ends_unit (sent_of ((fs ++ joined (map frames_of book)) ++ ends))) one.frames in
    let next : count_by ends_unit (q ∷ rest) ≡ 1 + count_by ends_unit rest = sum_by-cons (λ (x : RawMessage). cond (ends_unit x) 1 0) q rest in
    omega (arith, first, next, units-in book asks.1 ends end)

-- The first requests were taken whole, each of them was a unit, and what was given in all is the startup and the reply to them.
pub record Came {S : Type 0} (service : Service S) (begins : S) (bytes : List ℕ) (book : List Booking) (given t : List ℕ) : Type 0 where
  pub front : List Booking
  pub later : List Booking
  pub is : front ++ later ≡ book
  pub given_is : given ≡ bytes ++ spoken (reply_to service begins front)
  pub count : whole_units t ≡ length front
  pub few : length front ≤ length (units t)

pub came : {S : Type 0} (service : Service S) (begins : S) (bytes : List ℕ) (s : Settings) (frame : List ℕ) → startup_frame (startup_parameters s) ≡ Ok frame → (book : List Booking) → AllByRecursion AsksQuery book →
    (given t more unsent : List ℕ) → t ≡ frame ++ more → more ++ unsent ≡ wire book ++ terminate_frame → given ≡ bytes ++ spoken (served service (begun begins) (messages more)).reply →
    Came service begins bytes book given t
came {S = S} service begins bytes s frame made book asks given t more unsent is ends given_is =
    let requests = queries-asked service begins book asks in
    let frames : messages more ++ messages (bytes_left more ++ unsent) ≡ joined (map frames_of book) ++ terminate ∷ []
    = sym (messages-append more unsent) ∙ ap messages ends ∙ wire-messages book terminate_frame requests.requests
    ∙ ap (λ (ms : List RawMessage). joined (map frames_of book) ++ ms) terminate-messages in
    let f = front-of-book book asks (messages more) (messages (bytes_left more ++ unsent)) frames in
    let first : List RawMessage = joined (map frames_of f.front) in
    let quiet : (at : Serving S) → (e : IsEnd f.ends) → (served service at f.ends).reply ≡ []
    = λ at e. elim e [
      | inl none ↦ ap (λ (fs : List RawMessage). (served service at fs).reply) none
      | inr last ↦ ap (λ (fs : List RawMessage). (served service at fs).reply) last ∙ silent-Terminate service at
    ] in
    let replied : (served service (begun begins) (messages more)).reply ≡ reply_to service begins f.front
    = ap (λ (fs : List RawMessage). (served service (begun begins) fs).reply) f.frames_are
    ∙ ap (λ (r : Replied S). r.reply) (served-append service (begun begins) first f.ends)
    ∙ ap (λ (r : List RawMessage). reply_to service begins f.front ++ r) (quiet (served service (begun begins) first).next f.end)
    ∙ append-nil (reply_to service begins f.front) in
    let asked : AllByRecursion AsksQuery f.front = front-all AsksQuery f.front f.later (subst (AllByRecursion AsksQuery) (sym f.is) asks) in
    let tagged : tagged_frames t ≡ messages more = ap tagged_frames is ∙ frames-behind s frame more made in
    let count : whole_units t ≡ length f.front
    = ap (λ (fs : List RawMessage). count_by (ends_in ends_unit) (cut_after ends_unit (sent_of fs))) tagged
    ∙ ended-pieces ends_unit (sent_of (messages more))
    ∙ ap (λ (fs : List RawMessage). count_by ends_unit (sent_of fs)) f.frames_are
    ∙ units-in f.front asked f.ends f.end in
    record {
      front = f.front;
      later = f.later;
      is = f.is;
      given_is = given_is ∙ ap (λ (ms : List RawMessage). bytes ++ spoken ms) replied;
      count = count;
      few = omega (arith, count, count_by-le-length (ends_in ends_unit) (units t));
    }
