-- Each text is that of a session or is refused at one of its lines.
use Rattle.std.proofs.Common.{◌+◌, ◌++◌, ◌∷◌, ℕ, false, List, [], length, refl, sym, subst, append_assoc}
use Rattle.pg_spec.specs.SessionText.{AreLines, default_nonce}
use Rattle.pg_text.specs.SessionText.{ConfigLine, IsRefusedAt, IsSessionText, MayBegin, SessionText}
use Rattle.pg_text.proofs.TextLaws.{are_lines}
use Rattle.pg_text.specs.Texts.{lines_of}

-- the session of a `config` line alone
abbrev bare : SessionText
bare = record { config = []; nonce = default_nonce; scripts = []; turns = []; limit = 16777216; plan = []; cut = 8192; ends = false }

-- every text may begin as one that says nothing yet
begins_so : MayBegin []
begins_so = (
  [],
  ConfigLine [] ∷ [],
  bare,
  tt,
  record { others = []; first = refl; one_config = refl; nonce = refl; limit = refl; cut = refl; ends = refl; turns = refl; plan = refl; scripts = refl },
)

module _ (text : List ℕ) (none : (s : SessionText) → IsSessionText text s → ⊥) (good : (n : ℕ) → IsRefusedAt text n → ⊥) where
  -- where no line is refused each may follow those before it, up to the last
  goes_on : (before rest : List (List ℕ)) → AreLines (before ++ rest) text → MayBegin before → ⊥
  goes_on before [] lines begins = good (length before + 1) (record { before = before; rest = []; text_lines = lines; number = refl; good = begins; bad = none })
  goes_on before (next ∷ rest) lines begins = good (length before + 1) (record {
    before = before;
    rest = next ∷ rest;
    text_lines = lines;
    number = refl;
    good = begins;
    bad = goes_on (before ++ next ∷ []) rest (subst (λ (ls : List (List ℕ)). AreLines ls text) (sym (append_assoc before (next ∷ []) rest)) lines);
  })

  pub never_neither : ⊥
  never_neither = goes_on [] (lines_of text) (are_lines text) begins_so
