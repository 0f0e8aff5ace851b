-- Groups of an address.
use Rattle.std.proofs.Common.{◌≡◌, ◌==◌, ◌&&◌, ◌+◌, ◌<◌, ◌≤◌, ℕ, Bool, true, false, cond, List, [], ◌∷◌, ◌++◌, length, get_or, take, drop, Option, Some, None, option_map, is_none, refl, sym, ap, ◌∙◌, append_assoc, append-nil, arith}
use Rattle.std.proofs.lemmas.List.{drop_more, drop-drop, length-drop, take_more}
use Rattle.std.proofs.lemmas.Bool.{cond_both}
use Rattle.std.specs.List.{onto_first}
use Rattle.pg_config.specs.Addresses.{around_gap, groups_in, is_gap, joined, none_left, of_length, piece_groups}
use Rattle.pg_config.specs.Pieces.{IsCut, pieces}
use Rattle.pg_config.specs.Reading.{pieces_left}
use Rattle.pg_config.proofs.Cuts.{pieces_cut}

-- eight items
pub eight_is : (xs : List ℕ) → 8 ≤ length xs → length xs < 9 →
    Some (get_or xs 0 0 ∷ get_or xs 1 0 ∷ get_or xs 2 0 ∷ get_or xs 3 0 ∷ get_or xs 4 0 ∷ get_or xs 5 0 ∷ get_or xs 6 0 ∷ get_or xs 7 0 ∷ []) ≡ of_length 8 (Some xs)
eight_is (a ∷ b ∷ c ∷ d ∷ e ∷ f ∷ g ∷ h ∷ []) low high = refl
eight_is (a ∷ b ∷ c ∷ d ∷ e ∷ f ∷ g ∷ h ∷ i ∷ xs) low high = absurd (omega arith)
eight_is (a ∷ b ∷ c ∷ d ∷ e ∷ f ∷ g ∷ []) low high = absurd (omega arith)
eight_is (a ∷ b ∷ c ∷ d ∷ e ∷ f ∷ []) low high = absurd (omega arith)
eight_is (a ∷ b ∷ c ∷ d ∷ e ∷ []) low high = absurd (omega arith)
eight_is (a ∷ b ∷ c ∷ d ∷ []) low high = absurd (omega arith)
eight_is (a ∷ b ∷ c ∷ []) low high = absurd (omega arith)
eight_is (a ∷ b ∷ []) low high = absurd (omega arith)
eight_is (a ∷ []) low high = absurd (omega arith)
eight_is [] low high = absurd (omega arith)

-- what stands in front of a gap that was found later
abbrev pub behind_front : List ℕ → Option (List ℕ × List ℕ) → Option (List ℕ × List ℕ)
behind_front front None = None
behind_front front (Some parts) = Some (front ++ parts.0, parts.1)

-- what was read, and the groups that are left
abbrev pub with_groups : List ℕ → Option (List ℕ) → Option (List ℕ)
with_groups items later = option_map (λ more. items ++ more) later

front_more : (at : ℕ) (text : List ℕ) (o : Option (List ℕ × List ℕ)) → at < length text →
    behind_front (take at text) (option_map (λ parts. (get_or text at 0 ∷ parts.0, parts.1)) o) ≡ behind_front (take (at + 1) text) o
front_more at text None fits = refl
front_more at text (Some parts) fits = ap (λ f. Some (f, parts.1)) (sym (append_assoc (take at text) (get_or text at 0 ∷ []) parts.0) ∙ ap (λ t. t ++ parts.0) (sym (take_more text at 0 fits)))

no_pair : (b : Bool) → (b && false) ≡ true → ⊥
no_pair true e = cc
no_pair false e = cc

gap_at : (text : List ℕ) → is_gap text ≡ true → (2 ≤ length text) × (around_gap text ≡ Some ([], drop 2 text))
gap_at [] e = absurd cc
gap_at (c ∷ []) e = absurd (no_pair (c == 58) e)
gap_at (c ∷ d ∷ rest) e =
    (omega arith, ap (λ b. cond b (Some ([], drop 1 (d ∷ rest))) (option_map (λ parts. (c ∷ parts.0, parts.1)) (around_gap (d ∷ rest)))) e)

no_gap_at : (b : ℕ) (rest : List ℕ) → is_gap (b ∷ rest) ≡ false → around_gap (b ∷ rest) ≡ option_map (λ parts. (b ∷ parts.0, parts.1)) (around_gap rest)
no_gap_at b rest e = ap (λ t. cond t (Some ([], drop 1 rest)) (option_map (λ parts. (b ∷ parts.0, parts.1)) (around_gap rest))) e

-- no gap stands there: the next place
pub gap_later : (at : ℕ) (text : List ℕ) → at < length text → is_gap (drop at text) ≡ false →
    around_gap text ≡ behind_front (take at text) (around_gap (drop at text)) → around_gap text ≡ behind_front (take (at + 1) text) (around_gap (drop (at + 1) text))
gap_later at text fits none so_far =
    let here = drop_more text at 0 fits in
    so_far
    ∙ ap (λ t. behind_front (take at text) (around_gap t)) here
    ∙ ap (behind_front (take at text)) (no_gap_at (get_or text at 0) (drop (at + 1) text) (sym (ap is_gap here) ∙ none))
    ∙ front_more at text (around_gap (drop (at + 1) text)) fits

-- a gap stands there
pub gap_here : (at : ℕ) (text : List ℕ) → is_gap (drop at text) ≡ true →
    around_gap text ≡ behind_front (take at text) (around_gap (drop at text)) →
    (at + 2 ≤ length text) × (around_gap text ≡ Some (take at text, drop (at + 2) text))
gap_here at text here so_far =
    let found = gap_at (drop at text) here in
    let fits = length-drop at text in (
      omega (arith, found.0, fits),
      so_far ∙ ap (behind_front (take at text)) found.1 ∙ ap (λ t. Some t) (λ i. (append-nil (take at text) i, drop-drop 2 at text i)),
    )

more_groups : (items more : List ℕ) (later : Option (List ℕ)) → with_groups items (option_map (λ t. more ++ t) later) ≡ with_groups (items ++ more) later
more_groups items more None = refl
more_groups items more (Some t) = ap (λ t. Some t) (sym (append_assoc items more t))

some_pieces : (mark : ℕ) (text : List ℕ) → none_left (pieces mark text) ≡ false
some_pieces mark [] = refl
some_pieces mark (b ∷ text) = cond_both (b == mark) _ _ (λ ps. none_left ps ≡ false) (λ e. refl) (λ e. put_first (pieces mark text)) where
  put_first : (ps : List (List ℕ)) → none_left (onto_first b ps) ≡ false
  put_first [] = refl
  put_first (p ∷ ps) = refl

at_last : (tail : Bool) (behind : Option (List ℕ)) → (tail && none_left (pieces_left 58 behind)) ≡ (tail && is_none behind)
at_last tail None = refl
at_last tail (Some text) = ap (λ b. tail && b) (some_pieces 58 text)

-- groups were read
pub groups_read : (tail : Bool) (items items' more : List ℕ) (rest : Option (List ℕ)) (text piece : List ℕ) (behind : Option (List ℕ)) (whole : Option (List ℕ)) →
    IsCut 58 text piece behind → piece_groups (tail && is_none behind) piece ≡ Some more → items' ≡ items ++ more → rest ≡ Some text →
    with_groups items (groups_in tail (pieces_left 58 rest)) ≡ whole → with_groups items' (groups_in tail (pieces_left 58 behind)) ≡ whole
groups_read tail items items' more rest text piece behind whole is found longer here so_far =
    ap (λ t. with_groups t (groups_in tail (pieces_left 58 behind))) longer
    ∙ sym (more_groups items more (groups_in tail (pieces_left 58 behind)))
    ∙ sym (ap (λ o. with_groups items (joined o (groups_in tail (pieces_left 58 behind)))) (ap (λ b. piece_groups b piece) (at_last tail behind) ∙ found))
    ∙ sym (ap (λ ps. with_groups items (groups_in tail ps)) (pieces_cut 58 text piece behind is))
    ∙ sym (ap (λ r. with_groups items (groups_in tail (pieces_left 58 r))) here)
    ∙ so_far

-- a piece that is no group
pub groups_refused : (tail : Bool) (items : List ℕ) (rest : Option (List ℕ)) (text piece : List ℕ) (behind : Option (List ℕ)) (whole : Option (List ℕ)) →
    IsCut 58 text piece behind → piece_groups (tail && is_none behind) piece ≡ None → rest ≡ Some text →
    with_groups items (groups_in tail (pieces_left 58 rest)) ≡ whole → None ≡ whole
groups_refused tail items rest text piece behind whole is found here so_far =
    sym (ap (λ o. with_groups items (joined o (groups_in tail (pieces_left 58 behind)))) (ap (λ b. piece_groups b piece) (at_last tail behind) ∙ found))
    ∙ sym (ap (λ ps. with_groups items (groups_in tail ps)) (pieces_cut 58 text piece behind is))
    ∙ sym (ap (λ r. with_groups items (groups_in tail (pieces_left 58 r))) here)
    ∙ so_far
