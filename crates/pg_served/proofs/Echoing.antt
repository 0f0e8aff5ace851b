-- A session over a server that echoes: it has no fault for simple queries in UTF-8.
use Rattle.std.proofs.Common.{◌≡◌, ℕ, zero, suc, ◌<◌, Bool, true, false, cond, ◌==◌, ◌&&◌, List, [], ◌∷◌, ◌++◌, Option, Some, None, Result, Ok, Err, refl, sym, ap, subst, ◌∙◌, append_assoc, append-nil, arith, codes, get_or, length, map}
use Rattle.std.specs.Prelude.{filter, filter_map}
use Rattle.std.specs.List.{AllByRecursion, concat, cons_option, list_all}
use Rattle.std.specs.Str.{is_utf8}
use Rattle.std.proofs.lemmas.Bool.{eq-eqb, true≢false}
use Rattle.std.proofs.lemmas.List.Elements.{recursion_from_All}
use Rattle.std.proofs.lemmas.Option.{slice_get-get_or}
use Rattle.pg_promises.specs.Promises.{request_frame}
use Rattle.pg_spec.specs.Book.{Booking, wire}
use Rattle.pg_spec.specs.Faults.{FrameFault}
use Rattle.pg_spec.specs.Frames.{query_frame, terminate_frame}
use Rattle.pg_spec.specs.Report.{Command, Simple}
use Rattle.pg_spec.specs.Settings.{Settings, named, startup_parameters}
use Rattle.pg_machine.specs.Sessions.{IsStartup}
use Rattle.pg_server.specs.Echoes.{IsTextQuery, echo_step}
use Rattle.pg_server.specs.Hearing.{said_to}
use Rattle.pg_server.specs.Standings.{unfed}
use Rattle.pg_server.proofs.EchoCalmLaws.{session-calm}
use Rattle.pg_served.specs.Conforming.{HasNoFault, MayBook, are_texts, text_of}
use Rattle.pg_served.proofs.Booked.{front-all}
use Rattle.pg_served.proofs.Ending.{frame-made}

-- ---- the names of a startup frame

abbrev HasName : List ℕ × List ℕ → Type 0
HasName pair = 0 < length pair.0

both : {X : Type 0} (P : X → Type 0) (xs ys : List X) → AllByRecursion P xs → AllByRecursion P ys → AllByRecursion P (xs ++ ys)
both P [] ys first second = second
both P (x ∷ xs) ys first second = (first.0, both P xs ys first.1 second)

a-name : (name : List ℕ) (value : Option (List ℕ)) → 0 < length name → AllByRecursion HasName (named name value)
a-name name None some = tt
a-name name (Some value) some = (some, tt)

all-named : (s : Settings) → AllByRecursion HasName (startup_parameters s)
all-named s =
    both HasName (((codes "client_encoding", codes "UTF8") ∷ named (codes "user") s.user ++ named (codes "database") s.database) ++ named (codes "options") s.options) (named (codes "application_name") s.application_name)
    (both HasName ((codes "client_encoding", codes "UTF8") ∷ named (codes "user") s.user ++ named (codes "database") s.database) (named (codes "options") s.options)
    (both HasName ((codes "client_encoding", codes "UTF8") ∷ named (codes "user") s.user) (named (codes "database") s.database)
    (omega arith, a-name (codes "user") s.user (omega arith)) (a-name (codes "database") s.database (omega arith)))
    (a-name (codes "options") s.options (omega arith))) (a-name (codes "application_name") s.application_name (omega arith))

-- ---- each booking is a query in UTF-8

-- its only part is one
record IsOneText (parts : List (List ℕ)) : Type 0 where
  frame : List ℕ
  alone : parts ≡ frame ∷ []
  is : IsTextQuery frame

both-true : (a b : Bool) → a && b ≡ true → (a ≡ true) × (b ≡ true)
both-true true true e = (refl, refl)
both-true true false e = absurd cc
both-true false b e = absurd cc

abbrev asked_by : List Command → List (List (List ℕ))
asked_by script = map (λ frame. frame ∷ []) (filter_map request_frame script)

asked-texts : (script : List Command) → list_all (λ command. is_utf8 (text_of command)) script ≡ true → AllByRecursion IsOneText (asked_by script)
asked-texts [] utf8 = tt
asked-texts (Simple text wanted ∷ script) utf8 = by (query_frame text) refl (asked-texts script (both-true (is_utf8 text) (list_all (λ command. is_utf8 (text_of command)) script) utf8).1)
  where
    asks : Result (List ℕ) FrameFault → List (List (List ℕ))
    asks r = map (λ (frame : List ℕ). frame ∷ []) (cons_option (elim r [ Ok frame ↦ Some frame | Err fault ↦ None ]) (filter_map request_frame script))

    by : (r : Result (List ℕ) FrameFault) → query_frame text ≡ r → AllByRecursion IsOneText (asked_by script) → AllByRecursion IsOneText (asks (query_frame text))
    by (Ok frame) is rest = subst (λ (r : Result (List ℕ) FrameFault). AllByRecursion IsOneText (asks r)) (sym is) (
      record {
        frame = frame;
        alone = refl;
        is = record { text = text; is_text = (both-true (is_utf8 text) (list_all (λ command. is_utf8 (text_of command)) script) utf8).0; is = is };
      },
      rest,
    )
    by (Err fault) is rest = subst (λ (r : Result (List ℕ) FrameFault). AllByRecursion IsOneText (asks r)) (sym is) rest

-- those that pass the test
passing : (test : Booking → Bool) (book : List Booking) → AllByRecursion IsOneText (map (λ b. b.parts) (filter test book)) → AllByRecursion (λ b. test b ≡ true → IsOneText b.parts) book
passing test [] h = tt
passing test (b ∷ book) h = by (test b) refl (passing test book) h
  where
    by : (t : Bool) → test b ≡ t → (AllByRecursion IsOneText (map (λ b. b.parts) (filter test book)) → AllByRecursion (λ b. test b ≡ true → IsOneText b.parts) book) →
        AllByRecursion IsOneText (map (λ b. b.parts) (cond t (b ∷ filter test book) (filter test book))) → AllByRecursion (λ b. test b ≡ true → IsOneText b.parts) (b ∷ book)
    by true is rest h = (λ passes. h.0, rest h.1)
    by false is rest h = (λ passes. absurd (true≢false (sym passes ∙ is)), rest h)

-- each is its owner's
by-owner : (book : List Booking) (n : ℕ) → AllByRecursion (λ b. b.stamp.owner < n) book →
    ((handle : ℕ) → handle < n → AllByRecursion (λ b. (b.stamp.owner == handle) ≡ true → IsOneText b.parts) book) → AllByRecursion (λ b. IsOneText b.parts) book
by-owner [] n owners each = tt
by-owner (b ∷ book) n owners each = (
  (each b.stamp.owner owners.0).0 (eq-eqb b.stamp.owner b.stamp.owner refl),
  by-owner book n owners.1 (λ handle low. (each handle low).1),
)

-- a script's texts are among those of all
text-script : (scripts : List (List Command)) (handle : ℕ) → handle < length scripts → are_texts scripts ≡ true → list_all (λ command. is_utf8 (text_of command)) (get_or scripts handle []) ≡ true
text-script [] handle low utf8 = absurd (omega (arith, low))
text-script (script ∷ scripts) zero low utf8 = (both-true (list_all (λ command. is_utf8 (text_of command)) script) (are_texts scripts) utf8).0
text-script (script ∷ scripts) (suc handle) low utf8 =
    text-script scripts handle (omega (arith, low)) (both-true (list_all (λ command. is_utf8 (text_of command)) script) (are_texts scripts) utf8).1

booked-texts : (scripts : List (List Command)) (book : List Booking) → are_texts scripts ≡ true → MayBook scripts book → AllByRecursion (λ b. IsOneText b.parts) book
booked-texts scripts book utf8 may = by-owner book (length scripts) (recursion_from_All (λ (b : Booking). b.stamp.owner < length scripts) book may.owners) (λ handle low.
    let script = get_or scripts handle [] in
    let own = may.order handle script (slice_get-get_or scripts handle [] low) in
    passing (λ b. b.stamp.owner == handle) book
    (front-all IsOneText (map (λ b. b.parts) (filter (λ b. b.stamp.owner == handle) book)) own.0
    (subst (λ (l : List (List (List ℕ))). AllByRecursion IsOneText l) (sym own.1) (asked-texts script (text-script scripts handle low utf8)))))

-- ---- what is sent

-- the frames of these requests
record AreFrames (book : List Booking) : Type 0 where
  frames : List (List ℕ)
  all : AllByRecursion IsTextQuery frames
  wire_is : wire book ≡ concat frames

frames-of : (book : List Booking) → AllByRecursion (λ b. IsOneText b.parts) book → AreFrames book
frames-of [] all = record { frames = []; all = tt; wire_is = refl }
frames-of (b ∷ book) all =
    let rest = frames-of book all.1 in record {
      frames = all.0.frame ∷ rest.frames;
      all = (all.0.is, rest.all);
      wire_is = ap (λ (parts : List (List ℕ)). concat parts ++ wire book) all.0.alone
          ∙ ap (λ (l : List ℕ). l ++ wire book) (append-nil all.0.frame) ∙ ap (λ (l : List ℕ). all.0.frame ++ l) rest.wire_is;
    }

pub echo-calm : (s : Settings) (nonce startup : List ℕ) (starts : IsStartup s nonce startup) (scripts : List (List Command)) (book : List Booking) → are_texts scripts ≡ true → MayBook scripts book →
    HasNoFault echo_step tt startup starts.frame book
echo-calm s nonce startup starts scripts book utf8 may =
    let sent = frames-of book (booked-texts scripts book utf8 may) in
    ap (λ (l : List ℕ). (said_to echo_step (unfed tt startup) l).fault)
    (append_assoc starts.frame (wire book) terminate_frame ∙ ap (λ (l : List ℕ). starts.frame ++ (l ++ terminate_frame)) sent.wire_is)
    ∙ session-calm (startup_parameters s) startup starts.frame sent.frames (all-named s) (frame-made s nonce startup starts) sent.all
