-- A server's startup that asks for nothing, in a session whose startup is done.
use Rattle.std.proofs.Common.{◌≡◌, ℕ, ◌+◌, Bool, true, false, cond, ◌&&◌, ◌||◌, ◌==◌, List, [], ◌∷◌, ◌++◌, Option, Some, None, Result, Ok, Err, refl, sym, ap, ◌∙◌, subst, arith, length}
use Rattle.std.specs.Prelude.{if◌then◌else◌, ℤ}
use Rattle.std.specs.Int.{w32}
use Rattle.std.specs.Str.{byte, bytes_eq, is_utf8}
use Rattle.std.proofs.lemmas.Bool.{eqb-true}
use Rattle.std.proofs.lemmas.Slice.Eq.{bytes_eq-Decides}
use Rattle.pg_spec.specs.Batches.{is_nothing}
use Rattle.pg_spec.specs.Bytes.{◌>>=◌, byte_at, signed_at, text0_at}
use Rattle.pg_spec.specs.Faults.{FrameFault, WireFault, Wire, NotText, Io, Parse, Layout, Failure}
use Rattle.pg_spec.specs.Frames.{startup_frame}
use Rattle.pg_spec.specs.Messages.{Message, BackendKeyData, ReadyForQuery, ParameterStatus, alone, text_alone, key_data, parameter, ready}
use Rattle.pg_spec.specs.RawMessages.{RawMessage, is_ready}
use Rattle.pg_spec.specs.Settings.{Mode, Disable, Prefer, Require, Settings, startup_parameters}
use Rattle.pg_spec.specs.Startup.{Login, Phase, First, Info, Move, Writes, Ends, Refuses, Outcome, Done, Refused, More, Startup, startup_message, startup_move, moved_by, after_one, dialogue, begun_by, startup, plain_login, unless_required}
use Rattle.pg_machine.proofs.SessionLaws.{both_true}
use Rattle.pg_server.specs.Startups.{is_authentication_ok, is_report, are_settled, are_startup}

pub nothing : {X : Type 0} (xs : List X) → is_nothing xs ≡ true → xs ≡ []
nothing [] e = refl
nothing (x ∷ xs) e = absurd cc

-- ---- what a report and ReadyForQuery do

-- what a message does behind AuthenticationOk, by its layout
abbrev laid_out : Login → Option Message → Move
laid_out l o =
    let read : Result Message WireFault = elim o [ None ↦ Err Layout | Some message ↦ Ok message ] in
    elim read [
      | Ok message ↦ startup_message l Info message
      | Err fault ↦ Refuses (Io (Wire fault))
    ]

-- it is gone past, unless it is refused
abbrev GoesPast : Move → Type 0
GoesPast (Writes frames next) = (frames ≡ []) × (next ≡ Info)
GoesPast Ends = ⊥
GoesPast (Refuses failure) = Unit {0}

-- it ends the startup, unless it is refused
abbrev MayEnd : Move → Type 0
MayEnd (Writes frames next) = ⊥
MayEnd Ends = Unit {0}
MayEnd (Refuses failure) = Unit {0}

key-past : (l : Login) (body : List ℕ) → GoesPast (laid_out l (key_data body))
key-past l body = by_process (signed_at w32 body)
  where
    by_rest : (p k : ℤ) (rest : List ℕ) → GoesPast (laid_out l (alone (BackendKeyData p k) rest))
    by_rest p k [] = (refl, refl)
    by_rest p k (b ∷ rest) = tt

    by_key : (p : ℤ) (o : Option (ℤ × List ℕ)) → GoesPast (laid_out l (o >>= λ key. alone (BackendKeyData p key.0) key.1))
    by_key p None = tt
    by_key p (Some key) = by_rest p key.0 key.1

    by_process : (o : Option (ℤ × List ℕ)) → GoesPast (laid_out l (o >>= λ process. signed_at w32 process.1 >>= λ key. alone (BackendKeyData process.0 key.0) key.1))
    by_process None = tt
    by_process (Some process) = by_key process.0 (signed_at w32 process.1)

parameter-past : (l : Login) (body : List ℕ) → GoesPast (laid_out l (parameter body))
parameter-past l body = by_name (text0_at body)
  where
    by_texts : (b : Bool) → GoesPast (cond b (Writes [] Info) (Refuses (Parse NotText)))
    by_texts true = (refl, refl)
    by_texts false = tt

    by_rest : (name value rest : List ℕ) → GoesPast (laid_out l (alone (ParameterStatus name value) rest))
    by_rest name value [] = by_texts (is_utf8 name && is_utf8 value)
    by_rest name value (b ∷ rest) = tt

    by_value : (name : List ℕ) (o : Option (List ℕ × List ℕ)) → GoesPast (laid_out l (o >>= λ value. alone (ParameterStatus name value.0) value.1))
    by_value name None = tt
    by_value name (Some value) = by_rest name value.0 value.1

    by_name : (o : Option (List ℕ × List ℕ)) → GoesPast (laid_out l (o >>= λ name. text_alone (ParameterStatus name.0) name.1))
    by_name None = tt
    by_name (Some name) = by_value name.0 (text0_at name.1)

ready-ends : (l : Login) (body : List ℕ) → MayEnd (laid_out l (ready body))
ready-ends l body = by_status (byte_at body)
  where
    by_rest : (status : ℕ) (rest : List ℕ) → MayEnd (laid_out l (alone (ReadyForQuery status) rest))
    by_rest status [] = tt
    by_rest status (b ∷ rest) = tt

    by_status : (o : Option (ℕ × List ℕ)) → MayEnd (laid_out l (o >>= λ status. alone (ReadyForQuery status.0) status.1))
    by_status None = tt
    by_status (Some status) = by_rest status.0 status.1

-- a message of this tag
abbrev tagged_as : RawMessage → ℕ → RawMessage
tagged_as m tag = record { tag = tag; body = m.body }

report-past : (l : Login) (m : RawMessage) → is_report m ≡ true → GoesPast (startup_move l Info m)
report-past l m report = by_tags (m.tag == byte "K") (m.tag == byte "S") (m.tag == byte "N") refl refl refl report
  where
    by_tags : (k s n : Bool) → (m.tag == byte "K") ≡ k → (m.tag == byte "S") ≡ s → (m.tag == byte "N") ≡ n → ((k || s) || n) ≡ true → GoesPast (startup_move l Info m)
    by_tags true s n is_k is_s is_n e = subst (λ tag. GoesPast (startup_move l Info (tagged_as m tag))) (sym (eqb-true m.tag (byte "K") is_k)) (key-past l m.body)
    by_tags false true n is_k is_s is_n e = subst (λ tag. GoesPast (startup_move l Info (tagged_as m tag))) (sym (eqb-true m.tag (byte "S") is_s)) (parameter-past l m.body)
    by_tags false false true is_k is_s is_n e = subst (λ tag. GoesPast (startup_move l Info (tagged_as m tag))) (sym (eqb-true m.tag (byte "N") is_n)) (refl, refl)
    by_tags false false false is_k is_s is_n e = absurd cc

ready-may_end : (l : Login) (m : RawMessage) → is_ready m ≡ true → MayEnd (startup_move l Info m)
ready-may_end l m e = subst (λ tag. MayEnd (startup_move l Info (tagged_as m tag))) (sym (eqb-true m.tag (byte "Z") e)) (ready-ends l m.body)

-- ---- the whole startup

-- it is over
abbrev pub IsDone : Startup → Type 0
IsDone at = (used : ℕ) × (at.outcome ≡ Done used)

-- it wrote nothing more, and was over with the last of these messages
abbrev ends_with : List RawMessage → Startup
ends_with ms = record { frames = []; outcome = Done (length ms) }

refused-done : (failure : Failure) (used : ℕ) → Refused failure ≡ Done used → ⊥
refused-done failure used e = absurd cc

-- a dialogue that went on and is done, was done from there on
done-later : (frames : List (List ℕ)) (later : Startup) → IsDone (after_one frames later) → IsDone later
done-later frames later (used, e) = by_outcome later.outcome e
  where
    by_outcome : (o : Outcome) → elim o [ Done u ↦ Done (u + 1) | Refused failure ↦ Refused failure | More ↦ More ] ≡ Done used → (u : ℕ) × (o ≡ Done u)
    by_outcome (Done u) e = (u, refl)
    by_outcome (Refused failure) e = absurd cc
    by_outcome More e = absurd cc

-- reports, and ReadyForQuery behind them
settled-done : (l : Login) (ms more : List RawMessage) → are_settled ms ≡ true → IsDone (dialogue l Info (ms ++ more)) → dialogue l Info ms ≡ ends_with ms
settled-done l [] more form done = absurd cc
settled-done l (m ∷ ms) more form done = by_ready (λ form d. settled-done l ms more form d) (is_ready m) refl form
  where
    by_end : (move : Move) → MayEnd move → ms ≡ [] → IsDone (moved_by move (λ next. dialogue l next (ms ++ more))) → moved_by move (λ next. dialogue l next ms) ≡ ends_with (m ∷ ms)
    by_end (Writes frames next) may none d = absurd may
    by_end Ends may none d = ap (λ (xs : List RawMessage). ends_with (m ∷ xs)) (sym none)
    by_end (Refuses failure) may none d = absurd (refused-done failure d.0 d.1)

    by_past : (move : Move) → GoesPast move → (IsDone (dialogue l Info (ms ++ more)) → dialogue l Info ms ≡ ends_with ms) →
        IsDone (moved_by move (λ next. dialogue l next (ms ++ more))) → moved_by move (λ next. dialogue l next ms) ≡ ends_with (m ∷ ms)
    by_past (Writes frames next) past later d =
        let from : IsDone (dialogue l Info (ms ++ more)) = subst (λ (p : Phase). IsDone (dialogue l p (ms ++ more))) past.1 (done-later frames (dialogue l next (ms ++ more)) d) in
        ap (λ (fs : List (List ℕ)). after_one fs (dialogue l next ms)) past.0 ∙ ap (λ (p : Phase). after_one [] (dialogue l p ms)) past.1
        ∙ ap (after_one []) (later from) ∙ ap (λ (n : ℕ). record { frames = []; outcome = Done n }) (omega arith)
    by_past Ends past later d = absurd past
    by_past (Refuses failure) past later d = absurd (refused-done failure d.0 d.1)

    by_ready : (are_settled ms ≡ true → IsDone (dialogue l Info (ms ++ more)) → dialogue l Info ms ≡ ends_with ms) →
        (b : Bool) → is_ready m ≡ b → (if b then is_nothing ms else is_report m && are_settled ms) ≡ true → dialogue l Info (m ∷ ms) ≡ ends_with (m ∷ ms)
    by_ready later true is form = by_end (startup_move l Info m) (ready-may_end l m is) (nothing ms form) done
    by_ready later false is form =
        let parts = both_true (is_report m) (are_settled ms) form in
        by_past (startup_move l Info m) (report-past l m parts.0) (later parts.1) done

-- AuthenticationOk
abbrev authentication_ok : RawMessage
authentication_ok = record { tag = byte "R"; body = 0 ∷ 0 ∷ 0 ∷ 0 ∷ [] }

is-authentication_ok : (m : RawMessage) → is_authentication_ok m ≡ true → m ≡ authentication_ok
is-authentication_ok m e =
    let parts = both_true (m.tag == byte "R") (bytes_eq m.body (0 ∷ 0 ∷ 0 ∷ 0 ∷ [])) e in
    ap (λ (tag : ℕ). tagged_as m tag) (eqb-true m.tag (byte "R") parts.0)
    ∙ ap (λ (body : List ℕ). record { tag = byte "R"; body = body }) ((bytes_eq-Decides m.body (0 ∷ 0 ∷ 0 ∷ 0 ∷ [])).0 parts.1)

-- what a startup that is done wrote, and when it was done
pub record HasStarted (s : Settings) (nonce : List ℕ) (ms : List RawMessage) : Type 0 where
  pub frame : List ℕ
  pub written : startup_frame (startup_parameters s) ≡ Ok frame
  pub done : startup s nonce ms ≡ record { frames = frame ∷ []; outcome = Done (length ms) }

-- AuthenticationOk, then reports, then ReadyForQuery
pub startup-done : (s : Settings) (nonce : List ℕ) (ms more : List RawMessage) → are_startup ms ≡ true → IsDone (startup s nonce (ms ++ more)) → HasStarted s nonce ms
startup-done s nonce [] more form done = absurd cc
startup-done s nonce (m ∷ ms) more form done = by_frame (startup_frame (startup_parameters s)) refl done
  where
    l : Login
    l = plain_login s nonce

    parts : (is_authentication_ok m ≡ true) × (are_settled ms ≡ true)
    parts = both_true (is_authentication_ok m) (are_settled ms) form

    first : (later : Phase → Startup) → moved_by (startup_move l First m) later ≡ moved_by (unless_required s.channel_binding (Writes [] Info)) later
    first later = ap (λ (x : RawMessage). moved_by (startup_move l First x) later) (is-authentication_ok m parts.0)

    accepted : IsDone (after_one [] (dialogue l Info (ms ++ more))) → after_one [] (dialogue l Info ms) ≡ ends_with (m ∷ ms)
    accepted d = ap (after_one []) (settled-done l ms more parts.1 (done-later [] (dialogue l Info (ms ++ more)) d)) ∙ ap (λ (n : ℕ). record { frames = []; outcome = Done n }) (omega arith)

    by_binding : (mode : Mode) → IsDone (moved_by (unless_required mode (Writes [] Info)) (λ next. dialogue l next (ms ++ more))) →
        moved_by (unless_required mode (Writes [] Info)) (λ next. dialogue l next ms) ≡ ends_with (m ∷ ms)
    by_binding Require d = absurd (refused-done _ d.0 d.1)
    by_binding Prefer d = accepted d
    by_binding Disable d = accepted d

    by_frame : (frame : Result (List ℕ) FrameFault) → startup_frame (startup_parameters s) ≡ frame → IsDone (begun_by frame (dialogue l First (m ∷ ms ++ more))) → HasStarted s nonce (m ∷ ms)
    by_frame (Err fault) is d = absurd (refused-done _ d.0 d.1)
    by_frame (Ok frame) is d = record {
      frame = frame;
      written = is;
      done = ap (λ (f : Result (List ℕ) FrameFault). begun_by f (dialogue l First (m ∷ ms))) is
          ∙ ap (begun_by (Ok frame)) (first (λ next. dialogue l next ms) ∙ by_binding s.channel_binding (subst IsDone (first (λ next. dialogue l next (ms ++ more))) d));
    }
