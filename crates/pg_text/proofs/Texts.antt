-- Texts that are written piece by piece.
use Rattle.std.proofs.Common.{◌≡◌, ℕ, List, [], ◌∷◌, ◌++◌, map, codes, decimal, string_bytes, String, Result, Ok, Err, OnOk, refl, ap, sym, ◌∙◌, append_assoc, append-nil, arith}
use Rattle.std.specs.List.{join_with_byte}
use Rattle.std.proofs.lemmas.Grind.{common_steps}
use Rattle.hex.specs.Hex.{encode_with}
use Rattle.pg_desk.specs.declared.statement.Described.{Described}
use Rattle.pg_text.specs.ReportText.{answer_lines, answer_words, further_lines}
use Rattle.pg_text.specs.Written.{Adds, answered, behind_spaces}
use Rattle.pg_text.specs.declared.command.Answer.{Answer}
use Rattle.pg_text.specs.declared.command.Answer.TheVariants.{Statement}

-- one piece, and then another
pub adds : (a b c xs ys : List ℕ) → b ≡ a ++ xs → c ≡ b ++ ys → c ≡ a ++ (xs ++ ys)
adds a b c xs ys is next = next ∙ (ap (λ t. t ++ ys) is ∙ append_assoc a xs ys)

-- one piece, and where that comes to its end another
pub then_adds : {A E : Type 0} (a b c xs ys : List ℕ) (r : Result A E) → b ≡ a ++ xs → OnOk r (c ≡ b ++ ys) → OnOk r (c ≡ a ++ (xs ++ ys))
then_adds a b c xs ys (Ok x) is h = adds a b c xs ys is h
then_adds a b c xs ys (Err e) is h = h

-- the hex of no bytes
pub encode_with-nil : (t : List ℕ) → encode_with t [] ≡ []
unfolding encode_with
encode_with-nil t = refl

-- the hex of joined bytes
pub encode_with-append : (t xs ys : List ℕ) → encode_with t (xs ++ ys) ≡ encode_with t xs ++ encode_with t ys
unfolding encode_with
encode_with-append t [] ys = refl
encode_with-append t (x ∷ xs) ys = rw (encode_with-append t xs ys) refl

-- words between single spaces: the first one, and the others behind spaces
pub join_behind : {A : Type 0} (word : A → List ℕ) (first : List ℕ) (items : List A) → join_with_byte 32 (first ∷ map word items) ≡ first ++ behind_spaces word items
join_behind word first [] = sym (append-nil first)
join_behind word first (x ∷ items) = ap (λ rest. first ++ (32 ∷ rest)) (join_behind word (word x) items)

-- the first of items that stand behind spaces was written
pub first_written : {A : Type 0} (word : A → List ℕ) (items others : List A) (x : A) (old new : List ℕ) → items ≡ x ∷ others → new ≡ old ++ (32 ∷ word x) →
    new ++ behind_spaces word others ≡ old ++ behind_spaces word items
first_written {A} word items others x old new is wrote =
    ap (λ (t : List ℕ). t ++ behind_spaces word others) wrote
    ∙ append_assoc old (32 ∷ word x) (behind_spaces word others)
    ∙ ap (λ (l : List A). old ++ behind_spaces word l) (sym is)

-- ---- an answer

joined : (old start handle command words more : List ℕ) →
    (old ++ (start ++ 32 ∷ (handle ++ 32 ∷ command))) ++ (32 ∷ (words ++ 10 ∷ []) ++ more) ≡ old ++ ((start ++ 32 ∷ (handle ++ 32 ∷ (command ++ 32 ∷ words))) ++ 10 ∷ [] ++ more)
joined old start handle command words more = grind (arith, common_steps)

-- an answer behind the numbers of its handle and command is the answer to a command, where these are its words
pub answered_so : {A E Z : Type 0} (handle command : ℕ) (a : Answer) (old mid new : String Z) (r : Result A E) →
    join_with_byte 32 (codes "answer" ∷ decimal handle ∷ decimal command ∷ answer_words a) ≡ codes "answer" ++ 32 ∷ (decimal handle ++ 32 ∷ (decimal command ++ 32 ∷ join_with_byte 32 (answer_words a))) →
    string_bytes mid ≡ string_bytes old ++ (codes "answer" ++ 32 ∷ (decimal handle ++ 32 ∷ decimal command)) →
    Adds (answered a) mid new r → Adds (answer_lines handle (command, a)) old new r
answered_so handle command a old mid new (Ok x) words numbered added =
    added ∙ ap (λ (t : List ℕ). t ++ answered a) numbered
    ∙ joined (string_bytes old) (codes "answer") (decimal handle) (decimal command) (join_with_byte 32 (answer_words a)) (further_lines a)
    ∙ ap (λ (t : List ℕ). string_bytes old ++ ((t ++ 10 ∷ []) ++ further_lines a)) (sym words)
answered_so handle command a old mid new (Err e) words numbered added = added

-- so is a statement
pub answered_by : {A E Z : Type 0} (handle command : ℕ) (s : Described) (old mid new : String Z) (r : Result A E) →
    string_bytes mid ≡ string_bytes old ++ (codes "answer" ++ 32 ∷ (decimal handle ++ 32 ∷ decimal command)) →
    Adds (answered (Statement s)) mid new r → Adds (answer_lines handle (command, Statement s)) old new r
answered_by handle command s old mid new (Ok x) numbered added =
    added ∙ ap (λ (t : List ℕ). t ++ answered (Statement s)) numbered
    ∙ joined (string_bytes old) (codes "answer") (decimal handle) (decimal command) (join_with_byte 32 (answer_words (Statement s))) (further_lines (Statement s))
answered_by handle command s old mid new (Err e) numbered added = added
