-- The requests of portals are whole.
use Rattle.std.proofs.Common.{◌≡◌, ℕ, List, [], ◌∷◌, ◌++◌, length, map, Bool, true, false, if◌then◌else◌, ◌==◌, Option, Some, None, Result, Ok, Err, refl, sym, ap, subst, ◌∙◌, append-nil}
use Rattle.std.specs.Prelude.{ℤ, pos}
use Rattle.std.specs.List.{flat_map}
use Rattle.std.specs.Int.{w16, w32, to_be_bytes, cast_unsigned}
use Rattle.std.specs.Str.{byte}
use Rattle.pg_spec.specs.Bytes.{text0}
use Rattle.pg_spec.specs.Faults.{◌>>=◌, FrameFault, Parameters}
use Rattle.pg_spec.specs.Frames.{bind_frame, close_frame, execute_frame, sync_frame, value_bytes}
use Rattle.pg_spec.specs.RawMessages.{RawMessage, message_bytes}
use Rattle.pg_types.specs.declared.error.Error.{Error}
use Rattle.pg_desk.specs.declared.statement.Described.{Described as Statement}
use Rattle.pg_session.specs.Speeches.{EndsAlone, IsWholeRequest}
use Rattle.pg_core.specs.Composing.{or_encode}
use Rattle.pg_execute.specs.Executes.{close_part}
use Rattle.pg_execute.specs.Parameters.{Params, given_behind}
use Rattle.pg_portals.specs.Portals.{closed_with}
use Rattle.pg_portals.specs.Requests.{bind_frames, bind_request, close_frames, close_portal_request, portal_frames, portal_name, portal_request}
use Rattle.pg_portals.specs.declared.portal.Portal.{Portal}
use Rattle.pg_query_laws.proofs.ExecutionRequests.{whole-close}
use Rattle.pg_query_laws.proofs.Requests.{IsOne, frame-in, made-ok, one-tagged, sync-fits, whole-of}

-- ---- a frame and a Sync

abbrev EndsBySync : (tag : ℕ) → Type 0
EndsBySync tag = (body : List ℕ) → EndsAlone (record { tag = tag; body = body } ∷ record { tag = byte "S"; body = [] } ∷ [])

one-whole : (tag : ℕ) (one : List ℕ) → IsOne tag one → EndsBySync tag → IsWholeRequest (one ++ sync_frame)
one-whole tag one a ends =
    let m : RawMessage = record { tag = tag; body = a.body } in
    let s : RawMessage = record { tag = byte "S"; body = [] } in
    whole-of (m ∷ s ∷ []) (one ++ sync_frame) (a.fits, (sync-fits, tt)) (ends a.body)
    (ap (λ (x : List ℕ). x ++ sync_frame) a.is ∙ ap (λ (x : List ℕ). message_bytes m ++ x) (sym (append-nil (message_bytes s))))

synced : (tag : ℕ) (o : Result (List ℕ) FrameFault) (part : List ℕ) → ((one : List ℕ) → o ≡ Ok one → IsOne tag one) → EndsBySync tag → (o >>= λ one. Ok (one ++ sync_frame)) ≡ Ok part → IsWholeRequest part
synced tag (Ok one) part a ends e = subst IsWholeRequest (ap frame-in e) (one-whole tag one (a one refl) ends)
synced tag (Err fault) part a ends e = absurd cc

-- ---- a bind

whole-frames : (portal name : List ℕ) (formats : List ℤ) (values : List (Option (List ℕ))) (format : ℤ) (part : List ℕ) → (bind_frame portal name formats values format >>= λ one. Ok (one ++ sync_frame)) ≡ Ok part → IsWholeRequest part
whole-frames portal name formats values format part e =
    synced (byte "B") (bind_frame portal name formats values format) part
    (λ one is.
    one-tagged (byte "B") (portal ∷ name ∷ []) (length formats ∷ length values ∷ [])
    (text0 portal ++ text0 name ++ to_be_bytes w16 (length formats) ++ flat_map (λ format. to_be_bytes w16 (cast_unsigned w16 format)) formats
    ++ to_be_bytes w16 (length values) ++ flat_map value_bytes values ++ to_be_bytes w16 1 ++ to_be_bytes w16 (cast_unsigned w16 format)) one is)
    (λ body. (refl, refl, refl, refl)) e

with-values : (n : ℕ) (s : Statement) (given : Result (List (Option (List ℕ))) Error) (part : List ℕ) → (given >>= λ values. or_encode (bind_frames (portal_name n) s.name values)) ≡ Ok part → IsWholeRequest part
with-values n s (Ok values) part e = whole-frames (portal_name n) s.name (map (λ v. pos 1) values) values (pos 1) part (made-ok (bind_frames (portal_name n) s.name values) part e)
with-values n s (Err failure) part e = absurd cc

pub whole-bind : (n : ℕ) (s : Statement) (vs : Params) (part : List ℕ) → bind_request n s vs ≡ Ok part → IsWholeRequest part
whole-bind n s vs part e = by (vs.count == length s.params) e
  where
    by : (b : Bool) → (if b then (given_behind [] s.params vs >>= λ values. or_encode (bind_frames (portal_name n) s.name values)) else Err (Parameters (vs.count) (length s.params))) ≡ Ok part → IsWholeRequest part
    by true e = with-values n s (given_behind [] s.params vs) part e
    by false e = absurd cc

-- ---- a query of rows

pub whole-rows : (n : ℕ) (max_rows : ℤ) (part : List ℕ) → portal_request n max_rows ≡ Ok part → IsWholeRequest part
whole-rows n max_rows part e =
    synced (byte "E") (execute_frame (portal_name n) max_rows) part
    (λ one is. one-tagged (byte "E") (portal_name n ∷ []) [] (text0 (portal_name n) ++ to_be_bytes w32 (cast_unsigned w32 max_rows)) one is)
    (λ body. (refl, refl, refl, refl)) (made-ok (portal_frames (portal_name n) max_rows) part e)

-- ---- a close

pub whole-close-portal : (n : ℕ) (part : List ℕ) → close_portal_request n ≡ Ok part → IsWholeRequest part
whole-close-portal n part e =
    synced (byte "C") (close_frame (byte "P") (portal_name n)) part
    (λ one is. one-tagged (byte "C") (portal_name n ∷ []) [] (byte "P" ∷ text0 (portal_name n)) one is)
    (λ body. (refl, refl, refl, refl)) (made-ok (close_frames (portal_name n)) part e)

-- what is closed with a portal
pub whole-with : (p : Portal) (part : List ℕ) → closed_with p ≡ Some part → IsWholeRequest part
whole-with p part e = by p.closes e
  where
    by : (b : Bool) → (if b then close_part p.statement.name else None) ≡ Some part → IsWholeRequest part
    by true e = whole-close p.statement.name part e
    by false e = absurd cc
