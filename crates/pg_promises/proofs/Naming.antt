-- What a command names decides all but what its script has then.
use Rattle.std.proofs.Common.{◌≡◌, ℕ, false, Option, Some, None, refl, ap, ◌∙◌}
use Rattle.pg_spec.specs.Dialogues.{Answers}
use Rattle.pg_spec.specs.Isolation.{IsByNames, answer_alone}
use Rattle.pg_spec.proofs.Alone.{alone-of}
use Rattle.pg_spec.specs.Simples.{simple_query}
use Rattle.pg_promises.specs.Readings.{Talk}
use Rattle.pg_promises.specs.Rows.{Begin, Commit, Count, CopyIn, Done, Failed, Line, Messages, Names, Own, Prepare, Query, Rows, Simple, Statement, begin, commit, copy_in, gives, in_slot, keeps, meaning, named, prepare, query}

-- a value's answer, or a failure
given-alone : {A : Type 0} (own other : Own) (line line' : A → Line) (d : Talk A) → ((x : A) → answer_alone (line x) ≡ answer_alone (line' x)) → answer_alone (gives own line d) ≡ answer_alone (gives other line' d)
given-alone {A} own other line line' d h =
    alone-of d (λ r. elim r as (λ _. Line) [ Some x ↦ line x | None ↦ keeps own Failed ]) (λ r. elim r as (λ _. Line) [ Some x ↦ line' x | None ↦ keeps other Failed ]) each
  where
    each : (r : Option A) → answer_alone (elim r as (λ _. Line) [ Some x ↦ line x | None ↦ keeps own Failed ]) ≡ answer_alone (elim r as (λ _. Line) [ Some x ↦ line' x | None ↦ keeps other Failed ])
    each None = refl
    each (Some x) = h x

-- on a statement, or a failure
abbrev on-it : Own → (Statement → Line) → Option Statement → Line
on-it own line s = elim s as (λ _. Line) [ Some x ↦ line x | None ↦ keeps own Failed ]

slot-alone : (own other : Own) (line line' : Statement → Line) → ((s : Statement) → answer_alone (line s) ≡ answer_alone (line' s)) → (s : Option Statement) → answer_alone (on-it own line s) ≡ answer_alone (on-it other line' s)
slot-alone own other line line' h None = refl
slot-alone own other line line' h (Some s) = h s

-- a transaction is committed
abbrev closed : Own → ℕ → Line
closed own n = Answers (record { answer = Done; own = record own { is_open = false } })

pub by-names : IsByNames meaning named
by-names own other (Simple text take) e = alone-of (simple_query text take) (λ r. keeps own (Messages r)) (λ r. keeps other (Messages r)) (λ r. refl)
by-names own other (Prepare slot text) e = given-alone own other _ _ (prepare text) (λ s. refl)
by-names own other (Query slot) e =
    slot-alone own other (λ s. gives own (λ rows. keeps own (Rows rows)) (query s)) (λ s. gives other (λ rows. keeps other (Rows rows)) (query s))
    (λ s. given-alone own other (λ rows. keeps own (Rows rows)) (λ rows. keeps other (Rows rows)) (query s) (λ rows. refl)) (in_slot slot own.statements)
    ∙ ap (λ (n : Names). answer_alone (on-it other (λ s. gives other (λ rows. keeps other (Rows rows)) (query s)) n.statement)) e
by-names own other (CopyIn slot pieces) e =
    slot-alone own other (λ s. gives own (λ n. keeps own (Count n)) (copy_in s pieces)) (λ s. gives other (λ n. keeps other (Count n)) (copy_in s pieces))
    (λ s. given-alone own other (λ n. keeps own (Count n)) (λ n. keeps other (Count n)) (copy_in s pieces) (λ n. refl)) (in_slot slot own.statements)
    ∙ ap (λ (n : Names). answer_alone (on-it other (λ s. gives other (λ n. keeps other (Count n)) (copy_in s pieces)) n.statement)) e
by-names own other Begin e = given-alone own other _ _ begin (λ n. refl)
by-names own other Commit e = given-alone own other (closed own) (closed other) (commit own.is_open) (λ n. refl) ∙ ap (λ (n : Names). answer_alone (gives other (closed other) (commit n.is_open))) e
