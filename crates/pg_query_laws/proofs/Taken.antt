-- Dialogues put together: what a session takes, and what reads a request on that is booked.
use Rattle.std.proofs.Common.{◌≡◌, List, [], ◌∷◌, ℕ, length, Bool, true, false, Option, Some, None, Result, Ok, Err, refl, sym, subst}
use Rattle.std.specs.List.{list_any}
use Rattle.pg_spec.specs.Dialogues.{decided_after}
use Rattle.pg_spec.specs.RawMessages.{RawMessage, is_ready, ends_in}
use Rattle.pg_types.specs.declared.error.Error.{Error}
use Rattle.pg_types.specs.declared.error.Error.TheVariants.{OutOfMemory}
use Rattle.pg_query.specs.Dialogue.{Dialogue, Answer, Ask, Send, Leave, Read, Put, Finish, Close, HangUp, Call, Hear, fits}
use Rattle.pg_query.specs.Leaving.{Holds, LetsGo, Nothing, Request, after_reading}
use Rattle.pg_query.specs.Reading.{ends}
use Rattle.pg_query.specs.declared.desk_call.Cleanup.{Cleanup}
use Rattle.pg_query.specs.declared.desk_call.Cleanup.TheVariants.{Release}
use Rattle.pg_query.specs.declared.desk_call.DeskCall.{DeskCall}
use Rattle.pg_query.specs.declared.desk_call.Reply.{Reply}
use Rattle.pg_core.specs.Behind.{behind}
use Rattle.pg_core.specs.Composing.{asks_desk, asks_for}
use Rattle.pg_core.specs.Runs.{AddsNone, IsTidy, ReadsNothing}
use Rattle.pg_core.specs.Sequences.{or_answer, then_do}
use Rattle.pg_core.specs.Times.{EndsNone, Free, IsFaithful, IsInTime, IsSane, LacksMemory, ReadsNo}
use Rattle.pg_core.proofs.Behind.{command-behind}
use Rattle.pg_core.proofs.Gone.{no-reads}
use Rattle.pg_core.proofs.Requests.{in-time-by}
use Rattle.pg_session.specs.Speeches.{BooksWhole, IsWholeRequest}
use Rattle.pg_query_laws.specs.Taken.{IsTaken}
use Rattle.pg_query_laws.proofs.Behind.{lets-behind, whole-behind}

-- ---- a command

pub answers : {T : Type 0} (r : Result T Error) → IsTaken (Answer r)
answers r = record { command = record { tidy = tt; nothing = tt; sane = tt; in_time = tt; faithful = tt }; lets_go = tt; whole = tt }

-- a question to the desk
pub asks : {T : Type 0} (q : DeskCall) (told : Reply → Dialogue T) → ((r : Reply) → fits q r ≡ true → IsTaken (told r)) → IsTaken (asks_desk q told)
asks q told h = record {
  command = record {
    tidy = (λ e. tt, λ r fit. (h r fit).command.tidy);
    nothing = (λ e. tt, λ r fit. (h r fit).command.nothing);
    sane = (λ e. tt, λ r fit. (h r fit).command.sane);
    in_time = (λ e. tt, λ r fit. (h r fit).command.in_time);
    faithful = (refl, λ r fit. (h r fit).command.faithful);
  };
  lets_go = (λ e. tt, λ r fit. (h r fit).lets_go);
  whole = (λ e. tt, λ r fit. (h r fit).whole);
}

-- a request whose reply nobody reads, before an answer
pub sent-before : {T : Type 0} (part : List ℕ) (r : Result T Error) → IsWholeRequest part → IsTaken (Send part (λ e. Answer (Err e)) (Answer r))
sent-before part r whole = record {
  command = record { tidy = (λ e. tt, tt); nothing = (λ e. tt, tt); sane = (λ e. tt, tt); in_time = (λ e. tt, tt); faithful = (refl, tt) };
  lets_go = (λ e. tt, tt);
  whole = (whole, λ e. tt, tt);
}

-- one behind another
pub behinds : {A T : Type 0} (extra : List Cleanup) → EndsNone extra → (d : Dialogue A) (f : Result A Error → Dialogue T) → IsTaken d → ((r : Result A Error) → IsTaken (f r)) → ((r : Result A Error) → r ≡ Err OutOfMemory → LacksMemory (f r)) →
    IsTaken (behind extra d f)
behinds extra none d f h later lacks = record {
  command = command-behind extra none f (λ r. (later r).command) lacks d h.command;
  lets_go = lets-behind extra f (λ r. (later r).lets_go) Nothing d h.lets_go;
  whole = whole-behind extra f (λ r. (later r).whole) d h.whole;
}

pub or-answers : {A T : Type 0} (f : A → Dialogue T) → ((x : A) → IsTaken (f x)) → (r : Result A Error) → IsTaken (or_answer f r)
or-answers f h (Ok x) = h x
or-answers f h (Err e) = answers (Err e)

or-lacks : {A T : Type 0} (f : A → Dialogue T) (r : Result A Error) → r ≡ Err OutOfMemory → LacksMemory (or_answer f r)
or-lacks {A} {T} f r is = subst (λ (x : Result A Error). LacksMemory (or_answer f x)) (sym is) refl

pub thens : {A T : Type 0} (d : Dialogue A) (f : A → Dialogue T) → IsTaken d → ((x : A) → IsTaken (f x)) → IsTaken (then_do d f)
thens d f h later = behinds [] tt d (or_answer f) h (or-answers f later) (or-lacks f)

-- ---- what reads a request on that is booked

-- what a session asks of one, but that the request is let go
pub record ReadsWell {T : Type 0} (d : Dialogue T) : Type 0 where
  pub tidy : IsTidy d
  pub adds : AddsNone d
  pub sane : IsSane Free d
  pub reads_on : IsInTime d
  pub faithful : IsFaithful d
  pub whole : BooksWhole d

-- and that, also where its ReadyForQuery was read
pub record IsReadOn {T : Type 0} (d : Dialogue T) : Type 0 where
  pub well : ReadsWell d
  pub lets_go : (h : Holds) → LetsGo h d

-- such a request is booked first
pub booked : {T : Type 0} (part : Result (List ℕ) Error) (d : Dialogue T) → ((x : List ℕ) → part ≡ Ok x → IsWholeRequest x) → IsReadOn d → IsTaken (asks_for part d)
booked (Err e) d whole h = answers (Err e)
booked (Ok part) d whole h =
    let w = h.well in
    record {
      command = record { tidy = (w.adds, w.tidy); nothing = tt; sane = (tt, w.sane); in_time = w.reads_on; faithful = w.faithful };
      lets_go = (tt, h.lets_go Request);
      whole = (whole part refl, refl, w.whole);
    }

-- what reads nothing adds no part
adds-nothing : {T : Type 0} (d : Dialogue T) → ReadsNothing d → AddsNone d
adds-nothing (Answer r) h = tt
adds-nothing (Ask c p d) h = tt
adds-nothing (Send p refused d) h = (λ e. adds-nothing (refused e) (h.0 e), adds-nothing d h.1)
adds-nothing (Leave k d) h = adds-nothing d h
adds-nothing (Read cleanup decides next) h = absurd h
adds-nothing (Put cleanup p d) h = absurd h
adds-nothing (Finish p d) h = absurd h
adds-nothing (Close p d) h = absurd h
adds-nothing (HangUp d) h = absurd h
adds-nothing (Call q refused next) h = (λ e. adds-nothing (refused e) (h.0 e), λ r fit. adds-nothing (next r) (h.1 r fit))
adds-nothing (Hear next) h = absurd h

-- a command, which reads nothing of it
pub well-of : {T : Type 0} (d : Dialogue T) → IsTaken d → ReadsWell d
well-of d h = record { tidy = h.command.tidy; adds = adds-nothing d h.command.nothing; sane = h.command.sane; reads_on = h.command.in_time; faithful = h.command.faithful; whole = h.whole }

pub reads-none : {T : Type 0} (d : Dialogue T) → IsTaken d → ReadsNo d
reads-none d h = no-reads d h.command.nothing

-- it is hung up, and then a command follows
pub hung-behind : {T : Type 0} (d : Dialogue T) → IsTaken d → IsReadOn (HangUp d)
hung-behind d h =
    let w = well-of d h in
    record {
      well = record { tidy = (h.command.nothing, w.tidy); adds = w.adds; sane = (tt, reads-none d h, w.sane); reads_on = w.reads_on; faithful = w.faithful; whole = w.whole };
      lets_go = λ k. h.lets_go;
    }

-- a question to the desk; where it is refused the request is hung up
pub asks-on : {T : Type 0} (q : DeskCall) (told : Reply → Dialogue T) → ((r : Reply) → fits q r ≡ true → IsReadOn (told r)) → IsReadOn (Call q (λ e. HangUp (Answer (Err e))) told)
asks-on q told h = record {
  well = record {
    tidy = (λ e. (tt, tt), λ r fit. (h r fit).well.tidy);
    adds = (λ e. tt, λ r fit. (h r fit).well.adds);
    sane = (λ e. (tt, tt, tt), λ r fit. (h r fit).well.sane);
    reads_on = (λ e. tt, λ r fit. (h r fit).well.reads_on);
    faithful = (refl, λ r fit. (h r fit).well.faithful);
    whole = (λ e. tt, λ r fit. (h r fit).well.whole);
  };
  lets_go = λ k. (λ e. tt, λ r fit. (h r fit).lets_go k);
}

-- a reading that decides by the ReadyForQuery, and what stands behind it
pub reading : {T : Type 0} (decides : List RawMessage → Bool) (next : List RawMessage → Dialogue T) → ((ms : List RawMessage) → ends_in is_ready ms ≡ true → decides ms ≡ true) → ((ms : List RawMessage) → ReadsWell (next ms)) →
    ((ms : List RawMessage) → decided_after decides ms ≡ Some (length ms) → list_any is_ready ms ≡ true → ReadsNo (next ms)) → ((h : Holds) (ms : List RawMessage) → decides ms ≡ true → LetsGo (after_reading h ms) (next ms)) →
    IsReadOn (Read (Release ∷ []) decides next)
reading decides next ready well quiet lets = record {
  well = record {
    tidy = λ ms e. (well ms).tidy;
    adds = λ ms e. (well ms).adds;
    sane = (tt, λ ms e. (well ms).sane);
    reads_on = (in-time-by decides ready, λ ms e. (quiet ms e, (well ms).reads_on));
    faithful = λ ms. (well ms).faithful;
    whole = λ ms. (well ms).whole;
  };
  lets_go = lets;
}

-- ---- the end of a reading

pub ends-well : {T : Type 0} (stops : Bool) (o : Option (Result T Error)) → ReadsWell (ends stops o)
ends-well true (Some (Ok x)) = (hung-behind (Answer (Ok x)) (answers (Ok x))).well
ends-well false (Some (Ok x)) = well-of (Answer (Ok x)) (answers (Ok x))
ends-well stops (Some (Err e)) = (hung-behind (Answer (Err e)) (answers (Err e))).well
ends-well stops None = well-of _ (answers _)

pub ends-no : {T : Type 0} (stops : Bool) (o : Option (Result T Error)) → ReadsNo (ends stops o)
ends-no true (Some (Ok x)) = tt
ends-no false (Some (Ok x)) = tt
ends-no stops (Some (Err e)) = tt
ends-no stops None = tt
