-- The names in the requests of a dialogue: it was given each of them, and uses none twice.
use Rattle.std.proofs.Common.{◌≡◌, ℕ, ◌+◌, Some, List, [], ◌∷◌, ◌++◌, take, true, Result, sym, ap, subst, ◌∙◌, append_assoc, append-nil}
use Rattle.std.specs.Prelude.{flat_map}
use Rattle.std.specs.List.{concat, AllByRecursion}
use Rattle.pg_types.specs.declared.error.Error.{Error}
use Rattle.pg_spec.specs.Book.{Booking}
use Rattle.pg_spec.specs.Courses.{Asked, Course, Given, Point, Request, Unfolds, unread}
use Rattle.pg_spec.specs.Dialogues as course
use Rattle.pg_spec.specs.RawMessages.{RawMessage}
use Rattle.pg_query.specs.Dialogue.{Dialogue, Answer, Ask, Send, Leave, Read, Put, Finish, Close, HangUp, Call, Hear, fits}
use Rattle.pg_query.specs.declared.desk_call.Cleanup.{Cleanup}
use Rattle.pg_query.specs.declared.desk_call.DeskCall.{DeskCall}
use Rattle.pg_query.specs.declared.desk_call.Reply.{Reply}
use Rattle.pg_core.specs.Behind.{behind}
use Rattle.pg_core.specs.Outcomes.{asked}
use Rattle.pg_core.proofs.Fitting.{AreFitting}
use Rattle.pg_session.specs.Speeches.{BooksWhole}
use Rattle.pg_session.proofs.SentSoFar.Whole.{IsOneRequest}
use Rattle.pg_table.specs.Mapped.{mapped}
use Rattle.pg_table.proofs.Distinct.{IsSubsequence, nothing, some-front, some-later}

-- by the names in a part, and those that a reply of the desk gives
module _ {N : Type 0} (in_part : List ℕ → List N) (in_reply : DeskCall → Reply → List N) where
  -- Each name in its requests it was given before, and they stand in that order. It puts no part to a copy.
  abbrev pub UsesGiven : {T : Type 0} → List N → Dialogue T → Type 0
  UsesGiven given (Answer r) = Unit {0}
  UsesGiven given (Ask copying part d) = (before : List N) × (later : List N) × (given ≡ before ++ (in_part part ++ later)) × UsesGiven later d
  UsesGiven given (Send part refused d) = (before : List N) × (later : List N) × (given ≡ before ++ (in_part part ++ later)) × UsesGiven later d
  UsesGiven given (Leave id d) = UsesGiven given d
  UsesGiven given (Read cleanup decides next) = (ms : List RawMessage) → UsesGiven given (next ms)
  UsesGiven given (Put cleanup part d) = ⊥
  UsesGiven given (Finish part d) = ⊥
  UsesGiven given (Close part d) = ⊥
  UsesGiven given (HangUp d) = UsesGiven given d
  UsesGiven given (Call q refused next) = (r : Reply) → UsesGiven (given ++ in_reply q r) (next r)
  UsesGiven given (Hear next) = Unit {0}

  -- so it does where it was given more
  uses-more : {T : Type 0} (extra given : List N) (d : Dialogue T) → UsesGiven given d → UsesGiven (extra ++ given) d
  uses-more extra given (Answer r) h = tt
  uses-more extra given (Ask copying part d) (before, later, is, h) = (extra ++ before, later, ap (λ (l : List N). extra ++ l) is ∙ sym (append_assoc extra before (in_part part ++ later)), h)
  uses-more extra given (Send part refused d) (before, later, is, h) = (extra ++ before, later, ap (λ (l : List N). extra ++ l) is ∙ sym (append_assoc extra before (in_part part ++ later)), h)
  uses-more extra given (Leave id d) h = uses-more extra given d h
  uses-more extra given (Read cleanup decides next) h = λ ms. uses-more extra given (next ms) (h ms)
  uses-more extra given (Put cleanup part d) h = absurd h
  uses-more extra given (Finish part d) h = absurd h
  uses-more extra given (Close part d) h = absurd h
  uses-more extra given (HangUp d) h = uses-more extra given d h
  uses-more extra given (Call q refused next) h = λ r.
      subst (λ (l : List N). UsesGiven l (next r)) (sym (append_assoc extra given (in_reply q r))) (uses-more extra (given ++ in_reply q r) (next r) (h r))
  uses-more extra given (Hear next) h = tt

  -- and so does another behind it that uses its own
  pub uses-behind : {A T : Type 0} (more : List Cleanup) (f : Result A Error → Dialogue T) → ((r : Result A Error) → UsesGiven [] (f r)) → (given : List N) (d : Dialogue A) → UsesGiven given d → UsesGiven given (behind more d f)
  uses-behind {A} {T} more f own given (Answer r) h = subst (λ (l : List N). UsesGiven l (f r)) (append-nil given) (uses-more given [] (f r) (own r))
  uses-behind more f own given (Ask copying part d) (before, later, is, h) = (before, later, is, uses-behind more f own later d h)
  uses-behind more f own given (Send part refused d) (before, later, is, h) = (before, later, is, uses-behind more f own later d h)
  uses-behind more f own given (Leave id d) h = uses-behind more f own given d h
  uses-behind more f own given (Read cleanup decides next) h = λ ms. uses-behind more f own given (next ms) (h ms)
  uses-behind more f own given (Put cleanup part d) h = absurd h
  uses-behind more f own given (Finish part d) h = absurd h
  uses-behind more f own given (Close part d) h = absurd h
  uses-behind more f own given (HangUp d) h = uses-behind more f own given d h
  uses-behind more f own given (Call q refused next) h = λ r. uses-behind more f own (given ++ in_reply q r) (next r) (h r)
  uses-behind more f own given (Hear next) h = tt

  -- its answer may be told in other words
  pub uses-mapped : {T U : Type 0} (f : T → U) (given : List N) (d : Dialogue T) → UsesGiven given d → UsesGiven given (mapped f d)
  uses-mapped f given (Answer r) h = tt
  uses-mapped f given (Ask copying part d) (before, later, is, h) = (before, later, is, uses-mapped f later d h)
  uses-mapped f given (Send part refused d) (before, later, is, h) = (before, later, is, uses-mapped f later d h)
  uses-mapped f given (Leave id d) h = uses-mapped f given d h
  uses-mapped f given (Read cleanup decides next) h = λ ms. uses-mapped f given (next ms) (h ms)
  uses-mapped f given (Put cleanup part d) h = absurd h
  uses-mapped f given (Finish part d) h = absurd h
  uses-mapped f given (Close part d) h = absurd h
  uses-mapped f given (HangUp d) h = uses-mapped f given d h
  uses-mapped f given (Call q refused next) h = λ r. uses-mapped f (given ++ in_reply q r) (next r) (h r)
  uses-mapped f given (Hear next) h = tt

  -- ---- in a session

  -- the names in a request
  abbrev pub in_booking : Booking → List N
  in_booking b = in_part (concat b.parts)

  -- the names that were given
  abbrev pub told_in : Asked DeskCall Reply → List N
  told_in a = in_reply a.question a.reply

  -- the request that it reads gets no part more, each that it books is whole, and their names are some of those that it was given
  pub record Used (given : List N) (at : Point) (requests : List Request) (questions : List (Asked DeskCall Reply)) : Type 0 where
    pub none : at.parts ≡ []
    pub whole : AllByRecursion (λ r. IsOneRequest r.booking.parts) requests
    pub names : IsSubsequence (flat_map (λ r. in_booking r.booking) requests) (given ++ flat_map told_in questions)

  -- a request in front
  names-front : (given before later : List N) (part : List ℕ) (parts : List (List ℕ)) (rest told : List N) → given ≡ before ++ (in_part part ++ later) → parts ≡ part ∷ [] → IsSubsequence rest (later ++ told) →
      IsSubsequence (in_part (concat parts) ++ rest) (given ++ told)
  names-front given before later part parts rest told is alone s =
      subst (λ (l : List N). IsSubsequence (l ++ rest) (given ++ told)) (sym (ap (λ (ps : List (List ℕ)). in_part (concat ps)) alone ∙ ap in_part (append-nil part)))
      (subst (λ (l : List N). IsSubsequence (in_part part ++ rest) l)
      (ap (λ (l : List N). before ++ l) (sym (append_assoc (in_part part) later told)) ∙ sym (append_assoc before (in_part part ++ later) told) ∙ ap (λ (l : List N). l ++ told) (sym is))
      (some-later before (some-front (in_part part) s)))

  pub used : {T A : Type 0} (x : Course DeskCall Reply) (handle : ℕ) (ends : Result T Error → A) (at : Point) (d : Dialogue T) (requests : List Request) (questions : List (Asked DeskCall Reply)) (answer : Given A) (given : List N) →
      BooksWhole d → UsesGiven given d → AreFitting questions → Unfolds x handle at (course.behind (asked d) (λ r. course.Answers (ends r))) requests questions answer → Used given at requests questions
  used x handle ends at (Answer r) requests questions answer given whole h fit (no_more, no_asked, no_part, is) = record {
    none = no_part;
    whole = subst (λ (rs : List Request). AllByRecursion (λ r. IsOneRequest r.booking.parts) rs) (sym no_more) tt;
    names = subst (λ (rs : List Request). IsSubsequence (flat_map (λ r. in_booking r.booking) rs) (given ++ flat_map told_in questions)) (sym no_more) nothing;
  }
  used x handle ends at (Ask copying part d) [] questions answer given whole h fit u = absurd u
  used x handle ends at (Ask copying part d) (r ∷ requests) questions answer given whole (before, later, is, h) fit (no_part, turn, more, parts, u) =
      let y = used x handle ends (record { turn = at.turn; request = Some r.number; read = 0; parts = more }) d requests questions answer later whole.2 h fit u in
      let alone : r.booking.parts ≡ part ∷ [] = parts ∙ ap (λ (ps : List (List ℕ)). part ∷ ps) y.none in
      record {
        none = no_part;
        whole = (record { part = part; alone = alone; is = whole.0 }, y.whole);
        names = names-front given before later part r.booking.parts (flat_map (λ r. in_booking r.booking) requests) (flat_map told_in questions) is alone y.names;
      }
  used x handle ends at (Send part refused d) [] questions answer given whole h fit u = absurd u
  used x handle ends at (Send part refused d) (r ∷ requests) questions answer given whole (before, later, is, h) fit (turn, parts, u) =
      let y = used x handle ends at d requests questions answer later whole.2 h fit u in
      record {
        none = y.none;
        whole = (record { part = part; alone = parts; is = whole.0 }, y.whole);
        names = names-front given before later part r.booking.parts (flat_map (λ r. in_booking r.booking) requests) (flat_map told_in questions) is parts y.names;
      }
  used x handle ends at (Leave id d) requests questions answer given whole h fit u = used x handle ends at d requests questions answer given whole h fit u
  used x handle ends at (Read cleanup decides next) requests questions answer given whole h fit (n, decided, turn, first, u) =
      let ms = take n (unread x at) in
      let y = used x handle ends (record at { turn = turn; read = at.read + n }) (next ms) requests questions answer given (whole ms) (h ms) fit u in
      record { none = y.none; whole = y.whole; names = y.names }
  used x handle ends at (Put cleanup part d) requests questions answer given whole h fit u = absurd h
  used x handle ends at (Finish part d) requests questions answer given whole h fit u = absurd h
  used x handle ends at (Close part d) requests questions answer given whole h fit u = absurd h
  used x handle ends at (HangUp d) requests questions answer given whole h fit u = used x handle ends at d requests questions answer given whole h fit u
  used x handle ends at (Call q refused next) requests [] answer given whole h fit u = absurd u
  used x handle ends at (Call q refused next) requests (a ∷ questions) answer given whole h fit (turn, question, u) =
      let fitting : fits q a.reply ≡ true = subst (λ (k : DeskCall). fits k a.reply ≡ true) question fit.0 in
      let y = used x handle ends at (next a.reply) requests questions answer (given ++ in_reply q a.reply) (whole.1 a.reply fitting) (h a.reply) fit.1 u in
      record {
        none = y.none;
        whole = y.whole;
        names = subst (λ (l : List N). IsSubsequence (flat_map (λ r. in_booking r.booking) requests) l)
            (append_assoc given (in_reply q a.reply) (flat_map told_in questions) ∙ ap (λ (k : DeskCall). given ++ (in_reply k a.reply ++ flat_map told_in questions)) (sym question)) y.names;
      }
  used x handle ends at (Hear next) requests questions answer given whole h fit (n, decided, turn, first, u) = record {
    none = u.2;
    whole = subst (λ (rs : List Request). AllByRecursion (λ r. IsOneRequest r.booking.parts) rs) (sym u.0) tt;
    names = subst (λ (rs : List Request). IsSubsequence (flat_map (λ r. in_booking r.booking) rs) (given ++ flat_map told_in questions)) (sym u.0) nothing;
  }
