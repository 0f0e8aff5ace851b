-- Pieces are read one after another.
use Rattle.std.proofs.Common.{◌≡◌, ◌<◌, ℕ, suc, List, [], ◌∷◌, ◌++◌, map, length, Option, Some, None, option_map, refl, sym, ap, ◌∙◌, append_assoc, append-nil, arith}
use Rattle.std.proofs.lemmas.List.{length-append}
use Rattle.pg_config.specs.declared.config.Config.{Config}
use Rattle.pg_config.specs.Pieces.{IsCut, all_of}
use Rattle.pg_config.specs.Reading.{pieces_left}
use Rattle.pg_config.specs.Settings.{host_of}
use Rattle.pg_config.proofs.Cuts.{pieces_cut}

-- how much is left
abbrev pub left_size : Option (List ℕ) → ℕ
left_size None = 0
left_size (Some text) = suc (length text)

pub cut_smaller : (mark : ℕ) (text front : List ℕ) (behind : Option (List ℕ)) → IsCut mark text front behind → left_size behind < suc (length text)
cut_smaller mark text front None is = omega arith
cut_smaller mark text front (Some rest) is = let long = ap length is.1 ∙ length-append front (mark ∷ rest) in omega (arith, long)

-- what was read, and what the pieces that are left mean
abbrev pub with_read : {A : Type 0} → List A → Option (List A) → Option (List A)
with_read items later = option_map (λ more. items ++ more) later

pub none_read_yet : {A : Type 0} (later : Option (List A)) → with_read [] later ≡ later
none_read_yet None = refl
none_read_yet (Some more) = refl

one_more : {A : Type 0} (items : List A) (x : A) (later : Option (List A)) →
    with_read items (option_map (λ more. x ∷ more) later) ≡ with_read (items ++ x ∷ []) later
one_more items x None = refl
one_more items x (Some more) = ap (λ t. Some t) (sym (append_assoc items (x ∷ []) more))

abbrev with_first : {A : Type 0} → (List ℕ → Option A) → Option A → List (List ℕ) → Option (List A)
with_first f o later = elim o [ None ↦ None | Some x ↦ option_map (λ xs. x ∷ xs) (all_of f later) ]

-- a piece was read
pub piece_read : {A : Type 0} (f : List ℕ → Option A) (mark : ℕ) (items items' : List A) (rest : Option (List ℕ)) (text piece : List ℕ) (behind : Option (List ℕ)) (x : A) (whole : Option (List A)) →
    IsCut mark text piece behind → f piece ≡ Some x → items' ≡ items ++ x ∷ [] → rest ≡ Some text →
    with_read items (all_of f (pieces_left mark rest)) ≡ whole → with_read items' (all_of f (pieces_left mark behind)) ≡ whole
piece_read f mark items items' rest text piece behind x whole is found longer here so_far =
    ap (λ t. with_read t (all_of f (pieces_left mark behind))) longer
    ∙ sym (one_more items x (all_of f (pieces_left mark behind)))
    ∙ sym (ap (λ o. with_read items (with_first f o (pieces_left mark behind))) found)
    ∙ sym (ap (λ ps. with_read items (all_of f ps)) (pieces_cut mark text piece behind is))
    ∙ sym (ap (λ r. with_read items (all_of f (pieces_left mark r))) here)
    ∙ so_far

-- a piece means nothing
pub piece_refused : {A : Type 0} (f : List ℕ → Option A) (mark : ℕ) (items : List A) (rest : Option (List ℕ)) (text piece : List ℕ) (behind : Option (List ℕ)) (whole : Option (List A)) →
    IsCut mark text piece behind → f piece ≡ None → rest ≡ Some text →
    with_read items (all_of f (pieces_left mark rest)) ≡ whole → None ≡ whole
piece_refused f mark items rest text piece behind whole is found here so_far =
    sym (ap (λ o. with_read items (with_first f o (pieces_left mark behind))) found)
    ∙ sym (ap (λ ps. with_read items (all_of f ps)) (pieces_cut mark text piece behind is))
    ∙ sym (ap (λ r. with_read items (all_of f (pieces_left mark r))) here)
    ∙ so_far

-- all were read
pub all_read : {A : Type 0} (f : List ℕ → Option A) (mark : ℕ) (items : List A) (rest : Option (List ℕ)) (whole : Option (List A)) →
    rest ≡ None → with_read items (all_of f (pieces_left mark rest)) ≡ whole → Some items ≡ whole
all_read f mark items rest whole done so_far =
    sym (ap (λ t. Some t) (append-nil items)) ∙ sym (ap (λ r. with_read items (all_of f (pieces_left mark r))) done) ∙ so_far

-- hosts are added one after another
abbrev pub with_hosts : Config → Option (List ℕ) → Config
with_hosts s rest = record s { hosts = s.hosts ++ map host_of (pieces_left 44 rest) }

pub host_added : (s s' : Config) (rest : Option (List ℕ)) (text piece : List ℕ) (behind : Option (List ℕ)) (whole : Config) → IsCut 44 text piece behind → rest ≡ Some text →
    s' ≡ record s { hosts = s.hosts ++ host_of piece ∷ [] } → with_hosts s rest ≡ whole → with_hosts s' behind ≡ whole
host_added s s' rest text piece behind whole is here longer so_far =
    ap (λ t. with_hosts t behind) longer
    ∙ ap (λ hosts. record s { hosts = hosts }) (append_assoc s.hosts (host_of piece ∷ []) (map host_of (pieces_left 44 behind)))
    ∙ sym (ap (λ ps. record s { hosts = s.hosts ++ map host_of ps }) (pieces_cut 44 text piece behind is))
    ∙ sym (ap (λ r. with_hosts s r) here)
    ∙ so_far
