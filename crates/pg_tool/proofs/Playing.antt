-- A session that was played over a link in memory.
use Rattle.std.proofs.Common.{◌≡◌, ℕ, ◌&&◌, nat_le, Bool, true, false, if◌then◌else◌, zero, suc, List, [], ◌∷◌, ◌++◌, length, take, drop, take-append-drop, append_assoc, Option, Some, None, IfOk, Result, Ok, Err, refl, sym, ap, subst, ◌∙◌}
use Rattle.std.specs.List.{concat}
use Rattle.pg_spec.specs.Links.{LinkView, Plan}
use Rattle.pg_wire.specs.declared.memory_link.MemoryLink.TheInside.{Inside}
use Rattle.pg_wire.specs.Giving.{bytes_before, entries_of, entry_of}
use Rattle.pg_wire.specs.Memory.{Memory, as_count, link_of, tells}
use Rattle.pg_wire.specs.MemoryLinks.{memory_of}
use Rattle.pg_text.specs.declared.session.Session.{Session}
use Rattle.pg_text.specs.Sessions.{IsNew, session_of}
use Rattle.pg_types.specs.declared.error.Error.{Error}
use Rattle.pg_promises.specs.ConnectionStrings.{Means}
use Rattle.pg_session.specs.Sessions.{HasPlayed}
use Rattle.pg_spec.specs.Settings.{Settings}
use Rattle.pg_text.specs.declared.report.Report.{Report}
use Rattle.pg_tool.specs.RunContract.{IsPiped, IsPlayed, WasPlayed, call_of, call_over, new_link}
use Rattle.pg_table.specs.Headlines.{told_in}
use Rattle.pg_table.specs.Table.{table}
use Rattle.pg_tool.specs.TableContract.{TableContract, table_call, table_result}

-- the bytes before a place are a front of the plan's
front_of : (entries : List (List ℕ)) (entry at : ℕ) → (rest : List ℕ) × (bytes_before entries entry at ++ rest ≡ concat entries)
front_of [] zero zero = ([], refl)
front_of [] zero (suc at) = ([], refl)
front_of [] (suc entry) zero = ([], refl)
front_of [] (suc entry) (suc at) = ([], refl)
front_of (e ∷ es) zero at = (
  drop at e ++ concat es,
  sym (append_assoc (take at e) (drop at e) (concat es)) ∙ ap (λ (l : List ℕ). l ++ concat es) (take-append-drop at e),
)
front_of (e ∷ es) (suc entry) at =
    let more = front_of es entry at in (
      more.0,
      ap (λ (l : List ℕ). l ++ more.0) (append_assoc e (concat (take entry es)) (take at (entry_of es entry)))
          ∙ append_assoc e (bytes_before es entry at) more.0 ∙ ap (λ (l : List ℕ). e ++ l) more.1,
    )

-- so are those that a link in memory gave
pub gave_front : (link : Inside) (m : Memory) → memory_of link ≡ m → (rest : List ℕ) × (m.given ++ rest ≡ concat m.entries)
gave_front link m is = subst (λ (n : Memory). (rest : List ℕ) × (n.given ++ rest ≡ concat n.entries)) is
    (front_of (entries_of link.giving) link.giving.entry link.giving.at)

-- the entries of a plan that is told
abbrev told_entries : Option Plan → List (List ℕ)
told_entries None = []
told_entries (Some plan) = plan.entries

-- a count of the ends that were given: none was
no_end : (ends : Bool) → (if ends then as_count 0 else 0) ≡ 0
no_end true = refl
no_end false = refl

-- the link of a new session is that of its text
link_is : (s : Session) → IsNew s → link_of s.link ≡ new_link (session_of s)
link_is s new = ap link_of new.link ∙ ap (λ (n : ℕ). record (new_link (session_of s)) { ends = n }) (no_end (s.link.ends && nat_le (length (concat s.link.entries)) 0))

-- by the table, of the text
keeps_table : (config nonce turns : List ℕ) (s : Session) (before after : LinkView) (r : Result Report Error) → config ≡ s.config → nonce ≡ s.nonce → turns ≡ s.turns →
    TableContract (table_call config nonce s.scripts turns s.max_bytes before after) (table_result r) → TableContract (call_over (session_of s) before after) (table_result r)
keeps_table config nonce turns s before after r config_is nonce_is turns_is kept =
    subst (λ (v : List ℕ). TableContract (table_call v s.nonce s.scripts s.turns s.max_bytes before after) (table_result r)) config_is
    (subst (λ (v : List ℕ). TableContract (table_call config v s.scripts s.turns s.max_bytes before after) (table_result r)) nonce_is
    (subst (λ (v : List ℕ). TableContract (table_call config nonce s.scripts v s.max_bytes before after) (table_result r)) turns_is kept))

-- it was played turn by turn, of the text
was_played : (config nonce turns : List ℕ) (s : Session) (before after : LinkView) (r : Result Report Error) → config ≡ s.config → nonce ≡ s.nonce → turns ≡ s.turns →
    IfOk r (λ told. (settings : Settings) × Means config settings × HasPlayed table settings nonce s.scripts turns before after (told_in told)) →
    WasPlayed (session_of s) before after r
was_played config nonce turns s before after (Err e) config_is nonce_is turns_is played = tt
was_played config nonce turns s before after (Ok told) config_is nonce_is turns_is played =
    let named : HasPlayed table played.0 s.nonce s.scripts turns before after (told_in told) = subst (λ (v : List ℕ). HasPlayed table played.0 v s.scripts turns before after (told_in told)) nonce_is played.2 in (
      played.0,
      subst (λ (v : List ℕ). Means v played.0) config_is played.1,
      subst (λ (v : List ℕ). HasPlayed table played.0 s.nonce s.scripts v before after (told_in told)) turns_is named,
    )

pub played_over : (config nonce turns : List ℕ) (s : Session) (m : Memory) (r : Result Report Error) → IsNew s → config ≡ s.config → nonce ≡ s.nonce → turns ≡ s.turns →
    TableContract (table_call config nonce s.scripts turns s.max_bytes (link_of s.link) (link_of m)) (table_result r) →
    IfOk r (λ told. (settings : Settings) × Means config settings × HasPlayed table settings nonce s.scripts turns (link_of s.link) (link_of m) (told_in told)) →
    (rest : List ℕ) × (m.given ++ rest ≡ concat m.entries) → IsPlayed (session_of s) r
played_over config nonce turns s m r new config_is nonce_is turns_is kept played front = record {
  after = link_of m;
  given = m.given;
  taken = m.taken;
  told_given = refl;
  told_taken = refl;
  tells = tells m;
  rest = front.0;
  front = front.1 ∙ ap (λ (plan : Option Plan). concat (told_entries plan)) contract.link.keeps.plan;
  no_fault = refl;
  by_table = contract;
  turns = subst (λ (l : LinkView). WasPlayed (session_of s) l (link_of m) r) (link_is s new) (was_played config nonce turns s (link_of s.link) (link_of m) r config_is nonce_is turns_is played);
}
  where
    contract : TableContract (call_of (session_of s) (link_of m)) (table_result r)
    contract =
        subst (λ (l : LinkView). TableContract (call_over (session_of s) l (link_of m)) (table_result r)) (link_is s new)
        (keeps_table config nonce turns s (link_of s.link) (link_of m) r config_is nonce_is turns_is kept)

-- ---- over the link that was handed in

pub piped_over : (config nonce turns : List ℕ) (s : Session) (before after : LinkView) (r : Result Report Error) → config ≡ s.config → nonce ≡ s.nonce → turns ≡ s.turns →
    TableContract (table_call config nonce s.scripts turns s.max_bytes before after) (table_result r) →
    IfOk r (λ told. (settings : Settings) × Means config settings × HasPlayed table settings nonce s.scripts turns before after (told_in told)) →
    IsPiped before after (session_of s) r
piped_over config nonce turns s before after r config_is nonce_is turns_is kept played = record {
  by_table = keeps_table config nonce turns s before after r config_is nonce_is turns_is kept;
  turns = was_played config nonce turns s before after r config_is nonce_is turns_is played;
}
