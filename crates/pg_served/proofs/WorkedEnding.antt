-- Sessions whose server conforms: one simple query, to a machine that refuses all, and to a server that echoes.
use Rattle.std.proofs.Common.{◌≡◌, ◌⊎◌, ℕ, ◌<◌, cond, ◌==◌, List, [], ◌∷◌, ◌++◌, None, true, refl, sym, ap, subst, ◌∙◌, inl, inr, arith, codes, length}
use Rattle.std.specs.Prelude.{filter, map}
use Rattle.std.specs.List.{AllByRecursion}
use Rattle.std.specs.Str.{chars, is_utf8}
use lib.Utf8.{encode}
use Rattle.std.proofs.lemmas.List.Elements.{recursion_from_All}
use Rattle.pg_promises.specs.Causes.{Call}
use Rattle.pg_promises.specs.ConnectionStrings.{Means}
use Rattle.pg_promises.proofs.WorkedStrings.{means_a}
use Rattle.pg_spec.specs.Book.{Booking}
use Rattle.pg_spec.specs.Frames.{query_frame, startup_frame, tagged}
use Rattle.pg_spec.specs.Links.{LinkView}
use Rattle.pg_spec.specs.Report.{Command, Simple}
use Rattle.pg_spec.specs.Settings.{Settings, only_user, startup_parameters}
use Rattle.pg_machine.specs.Examples.{framed, refuses_all, z}
use Rattle.pg_machine.specs.Machines.{service_of}
use Rattle.pg_server.specs.Echoes.{echo_step}
use Rattle.pg_server.specs.Handlers as handlers
use Rattle.pg_served.specs.Conforming.{Conforms, GivesWell, IsValid, MayBook, are_texts}

abbrev s : Settings
s = only_user (codes "a")

abbrev bytes : List ℕ
bytes = tagged 82 (0 ∷ 0 ∷ 0 ∷ 0 ∷ []) ++ z

abbrev query : List ℕ
query = framed (query_frame (codes "a"))

abbrev script : List Command
script = Simple (codes "a") None ∷ []

-- what is asked, over any link
abbrev call : LinkView → LinkView → Call
call before after = record {
  config = codes "user=a";
  nonce = codes "abcdefghijklmnopqrstuvwx";
  scripts = script ∷ [];
  turns = [];
  limit = 100;
  before = before;
  after = after;
}

means : Means (codes "user=a") s
means = means_a

valid : (before after : LinkView) → IsValid (call before after) s
valid before after = record { user = refl; nonce = refl; no_tls = λ e. absurd cc }

-- ---- which requests may be booked: none, or that query

own-all : (book : List Booking) → AllByRecursion (λ (b : Booking). b.stamp.owner < 1) book → filter (λ b. b.stamp.owner == 0) book ≡ book
own-all [] owners = refl
own-all (b ∷ book) owners =
    let first : b.stamp.owner ≡ 0 = omega (arith, owners.0) in
    ap (λ (n : ℕ). cond (n == 0) (b ∷ filter (λ b. b.stamp.owner == 0) book) (filter (λ b. b.stamp.owner == 0) book)) first
    ∙ ap (λ (bs : List Booking). b ∷ bs) (own-all book owners.1)

one-book : (book : List Booking) → MayBook (script ∷ []) book → (book ≡ []) ⊎ ((b : Booking) × (book ≡ b ∷ []) × (b.parts ≡ query ∷ []))
one-book book may =
    let own = may.order 0 script refl in
    let owners = recursion_from_All (λ (b : Booking). b.stamp.owner < 1) book may.owners in
    by book own.0 (ap (λ (bs : List Booking). map (λ (b : Booking). b.parts) bs ++ own.0) (sym (own-all book owners)) ∙ own.1)
  where
    by : (book : List Booking) (later : List (List (List ℕ))) → map (λ (b : Booking). b.parts) book ++ later ≡ (query ∷ []) ∷ [] →
        (book ≡ []) ⊎ ((b : Booking) × (book ≡ b ∷ []) × (b.parts ≡ query ∷ []))
    by [] later e = inl refl
    by (b ∷ []) later e = let first : b.parts ≡ query ∷ [] = cc in inr (b, refl, first)
    by (b ∷ c ∷ book) later e = absurd (omega (arith, ap length e))

-- ---- the server

gives : (book : List Booking) → MayBook (script ∷ []) book → GivesWell (service_of refuses_all) 0 bytes 100 book
unfolding is_utf8
gives book may = elim (one-book book may) [
  | inl none ↦ subst (GivesWell (service_of refuses_all) 0 bytes 100) (sym none) (record { readable = refl; within = omega arith })
  | inr one ↦
      subst (GivesWell (service_of refuses_all) 0 bytes 100) (sym one.1)
      (subst (λ (parts : List (List ℕ)). GivesWell (service_of refuses_all) 0 bytes 100 (record { stamp = one.0.stamp; parts = parts } ∷ [])) (sym one.2)
      (record { readable = refl; within = omega arith }))
]

pub conforms : (before after : LinkView) → Conforms (call before after) s (service_of refuses_all) 0 bytes
conforms before after = record {
  starts = record { whole = refl; frame = framed (startup_frame (startup_parameters s)); done = refl };
  gives = gives;
}

-- ---- a server that echoes

echoes : (book : List Booking) → MayBook (script ∷ []) book → GivesWell (handlers.service_of echo_step) tt bytes 100 book
unfolding is_utf8
echoes book may = elim (one-book book may) [
  | inl none ↦ subst (GivesWell (handlers.service_of echo_step) tt bytes 100) (sym none) (record { readable = refl; within = omega arith })
  | inr one ↦
      subst (GivesWell (handlers.service_of echo_step) tt bytes 100) (sym one.1)
      (subst (λ (parts : List (List ℕ)). GivesWell (handlers.service_of echo_step) tt bytes 100 (record { stamp = one.0.stamp; parts = parts } ∷ [])) (sym one.2)
      (record { readable = refl; within = omega arith }))
]

pub echo-conforms : (before after : LinkView) → Conforms (call before after) s (handlers.service_of echo_step) tt bytes
echo-conforms before after = record {
  starts = record { whole = refl; frame = framed (startup_frame (startup_parameters s)); done = refl };
  gives = echoes;
}

-- its texts are UTF-8
texts : are_texts (script ∷ []) ≡ true
unfolding is_utf8 chars encode
texts = refl
