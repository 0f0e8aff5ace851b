-- Sessions that don't end well.
use Rattle.std.proofs.Common.{◌≡◌, ℕ, List, [], ◌∷◌, length, map, Option, Some, None, refl, ap, subst, arith, codes}
use Rattle.std.specs.Prelude.{Bool, true, false, IsFalse, IsTrue}
use Rattle.std.specs.List.{list_all}
use Rattle.std.specs.Str.{is_utf8, chars}
use Rattle.std.specs.Str.Lossy.{utf8_lossy, utf8_valid_len}
use lib.Utf8.{encode}
use Rattle.pg_spec.specs.Book.{Booking}
use Rattle.pg_spec.specs.Asides.{is_readable}
use Rattle.pg_promises.specs.EndedWell.{EndedWell, received}
use Rattle.pg_promises.specs.Examples.{select_one, select_one_sent, two_clients_sent, three_sent, early_reply, booked_later, one_for_two, synced_first, notice_left_out, first_value, bad_header, report_skipped}
use Rattle.pg_spec.specs.Parameters.{last_value, parameter_reports}
use Rattle.pg_spec.specs.RawMessages.{bytes_left, has_bad_header}
use Rattle.pg_spec.specs.Report.{Command, Simple}
use Rattle.pg_spec.specs.Turns.{entry_at, Times}

abbrev command : Command
command = Simple (codes "SELECT 1") None

-- each of one or two scripts has the times of its first command
one_time : (schedule : List (List Times)) → map length schedule ≡ 1 ∷ [] → (t : Times) × (entry_at schedule 0 0 ≡ Some t)
one_time [] e = absurd cc
one_time ([] ∷ rest) e = absurd cc
one_time ((t ∷ ts) ∷ rest) e = (t, refl)

two_times : (schedule : List (List Times)) → map length schedule ≡ 1 ∷ 1 ∷ [] → (t : Times) × (entry_at schedule 0 0 ≡ Some t)
two_times [] e = absurd cc
two_times ([] ∷ rest) e = absurd cc
two_times ((t ∷ ts) ∷ rest) e = (t, refl)

-- a reply came before its request
pub not_early : EndedWell early_reply three_sent → ⊥
unfolding is_utf8 chars encode
not_early w = omega (arith, w.asked_first 1 (omega arith))

-- the turn of the only booking
turn_in : List Booking → ℕ
turn_in [] = 0
turn_in (b ∷ bs) = b.stamp.turn

-- a request was booked in a later turn than its command's first
pub not_later : EndedWell booked_later select_one_sent → ⊥
unfolding is_utf8 chars encode turn_in one_time
not_later w =
    let t = one_time w.schedule w.has_run.one_time_each in
    let own = w.has_run.own_request 0 0 command t.0 refl t.1 in
    let begins : 2 ≡ t.0.begins = ap turn_in own in
    (w.has_run.begins 0 0 t.0 t.1).first 0 (omega arith) (omega (arith, begins)) refl tt

-- a text has no request of its own
pub not_shared : EndedWell one_for_two two_clients_sent → ⊥
unfolding is_utf8 chars encode
not_shared w =
    let t = two_times w.schedule w.has_run.one_time_each in
    let own = w.has_run.own_request 0 0 command t.0 refl t.1 in
    omega (arith, ap length own)

-- more was sent than requests
pub not_synced : EndedWell select_one synced_first → ⊥
unfolding is_utf8 chars encode
not_synced w = omega (arith, ap length w.sent)

pub not_left_out : EndedWell notice_left_out select_one_sent → ⊥
unfolding is_utf8 chars encode utf8_lossy utf8_valid_len
not_left_out w = omega (arith, ap length w.asynchronous)

-- its first byte
first_of : Option (List ℕ) → ℕ
first_of (Some (byte ∷ rest)) = byte
first_of _ = 0

other : ◌≡◌ {A = Option (List ℕ)} (Some (codes "GMT")) (Some (codes "UTC")) → ⊥
unfolding first_of
other e = let apart : 71 ≡ 85 = ap first_of e in omega (arith, apart)

pub not_first_value : EndedWell first_value select_one_sent → ⊥
unfolding is_utf8 chars encode
not_first_value w =
    other (subst (λ (o : Option (List ℕ)). o ≡ Some (codes "UTC")) last ((w.parameters.values (codes "TimeZone") (codes "UTC")).0 (0, omega arith, refl)))
  where
    last : last_value (parameter_reports (received first_value)) (codes "TimeZone") ≡ Some (codes "GMT")
    last = refl

bad : IsFalse true → ⊥
bad is = absurd cc

pub not_bad_header : EndedWell bad_header select_one_sent → ⊥
unfolding is_utf8 chars encode
not_bad_header w = bad (subst (λ (b : Bool). IsFalse b) is w.no_bad_header)
  where
    is : has_bad_header (bytes_left bad_header.given) ≡ true
    is = refl

skipped : IsTrue false → ⊥
skipped is = absurd cc

pub not_skipped : EndedWell report_skipped select_one_sent → ⊥
unfolding is_utf8 chars encode
not_skipped w = skipped (subst (λ (b : Bool). IsTrue b) is w.readable)
  where
    is : list_all is_readable (received report_skipped) ≡ false
    is = refl
