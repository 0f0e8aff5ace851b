-- What a search asks and answers, whatever waits on its stack.
use Rattle.std.proofs.Common.{◌≡◌, ℕ, zero, suc, ◌-◌, List, [], ◌∷◌, ◌++◌, Bool, true, false, not, ◌&&◌, nat_lt, Option, Some, None, Result, Err, refl, sym, ◌∙◌, ap, arith, append-nil}
use Rattle.std.proofs.lemmas.Bool.{lt-ltb, le-ltb}
use Rattle.pg_types.specs.declared.pg_type.PgType.{PgType}
use Rattle.pg_types.specs.declared.error.Error.{Error}
use Rattle.pg_types.specs.declared.error.Error.TheVariants.{UnexpectedMessage}
use Rattle.pg_query.specs.declared.desk_call.DeskCall.{DeskCall}
use Rattle.pg_query.specs.declared.desk_call.Reply.{Reply}
use Rattle.pg_query.specs.Dialogue.{Dialogue, Answer, Ask, Send, Leave, Read, Put, Finish, Close, HangUp, Call, Hear}
use Rattle.pg_core.specs.Behind.{behind}
use Rattle.pg_core.specs.Sequences.{or_answer, then_do}
use Rattle.pg_core.specs.Composing.{asks_desk}
use Rattle.pg_core.specs.Prepares.{known}
use Rattle.pg_core.specs.Lookups.{row_of, made_by, sort_of, find, find_each, is_among, unless_known}
use Rattle.pg_core.specs.Searches.{Frame, find_above, resumes, searching}

-- a dialogue behind one that stands behind another
pub behind-behind : {A B T : Type 0} (d : Dialogue A) (f : Result A Error → Dialogue B) (g : Result B Error → Dialogue T) → behind [] (behind [] d f) g ≡ behind [] d (λ r. behind [] (f r) g)
behind-behind (Answer r) f g = refl
behind-behind (Ask copying part d) f g = λ i. Ask copying part (behind-behind d f g i)
behind-behind (Send part refused d) f g = λ i. Send part (λ e. behind-behind (refused e) f g i) (behind-behind d f g i)
behind-behind (Leave id d) f g = λ i. Leave id (behind-behind d f g i)
behind-behind (Read cleanup decides next) f g = λ i. Read (append-nil (cleanup ++ []) i) decides (λ ms. behind-behind (next ms) f g i)
behind-behind (Put cleanup part d) f g = λ i. Put (append-nil (cleanup ++ []) i) part (behind-behind d f g i)
behind-behind (Finish part d) f g = λ i. Finish part (behind-behind d f g i)
behind-behind (Close part d) f g = λ i. Close part (behind-behind d f g i)
behind-behind (HangUp d) f g = λ i. HangUp (behind-behind d f g i)
behind-behind (Call q refused next) f g = λ i. Call q (λ e. behind-behind (refused e) f g i) (λ r. behind-behind (next r) f g i)
behind-behind (Hear next) f g = λ i. Hear (λ r. behind-behind (next r) f g i)

-- what a search asks the catalog, it asks whatever waits
pub searching-behind : {X : Type 0} (left : List ℕ) (found : List PgType) (fs : List Frame) (d : Dialogue X) (k : Result X Error → Dialogue PgType) →
    searching left found fs (behind [] d k) ≡ behind [] d (λ x. searching left found fs (k x))
searching-behind left found [] d k = behind-behind d k (or_answer (λ ty. find_each (find 64 []) left (found ++ ty ∷ [])))
searching-behind left found (f ∷ fs) d k =
    ap (searching left found fs) (behind-behind d k (or_answer (resumes (find_above (f ∷ fs)) f)))
    ∙ searching-behind left found fs d (λ x. then_do (k x) (resumes (find_above (f ∷ fs)) f))

-- and so what it asks the desk
pub searching-asks : (left : List ℕ) (found : List PgType) (fs : List Frame) (q : DeskCall) (told : Reply → Dialogue PgType) →
    searching left found fs (asks_desk q told) ≡ Call q (λ e. Answer (Err e)) (λ r. searching left found fs (told r))
searching-asks left found [] q told = refl
searching-asks left found (f ∷ fs) q told = searching-asks left found fs q (λ r. then_do (told r) (resumes (find_above (f ∷ fs)) f))

-- an error is the whole answer
pub searching-fails : (left : List ℕ) (found : List PgType) (fs : List Frame) (e : Error) → searching left found fs (Answer (Err e)) ≡ Answer (Err e)
searching-fails left found [] e = refl
searching-fails left found (f ∷ fs) e = searching-fails left found fs e

-- where no more may be in progress, it doesn't matter what would be searched
none-searched : (search other : Dialogue PgType) (b : Bool) → b ≡ false → (o : Option PgType) → unless_known false other o ≡ unless_known b search o
none-searched search other b e o = none-at o ∙ ap (λ (x : Bool). unless_known x search o) (sym e)
  where
    none-at : (o : Option PgType) → unless_known false other o ≡ unless_known false search o
    none-at (Some ty) = refl
    none-at None = refl

-- the type of an oid is known, or may be searched
pub found-by : (more n below : ℕ) (busy : List ℕ) (oid : ℕ) → more ≡ 64 - n → below ≡ 64 - suc n →
    find more busy oid ≡ known oid (unless_known (nat_lt n 64 && not (is_among oid busy)) (then_do (row_of oid) (λ row. made_by (find below (oid ∷ busy)) oid row (sort_of row))))
found-by zero n below busy oid e b =
    let full : nat_lt n 64 ≡ false = le-ltb n 64 (omega arith) in
    λ i. known oid (λ o. none-searched (then_do (row_of oid) (λ row. made_by (find below (oid ∷ busy)) oid row (sort_of row))) (Answer (Err UnexpectedMessage)) (nat_lt n 64 && not (is_among oid busy)) (ap (λ (x : Bool). x && not (is_among oid busy)) full) o i)
found-by (suc more) n below busy oid e b =
    let room : nat_lt n 64 ≡ true = lt-ltb n 64 (omega arith) in
    let same : more ≡ below = omega arith in
    ap (λ (k : ℕ). known oid (unless_known (not (is_among oid busy)) (then_do (row_of oid) (λ row. made_by (find k (oid ∷ busy)) oid row (sort_of row))))) same
    ∙ ap (λ (x : Bool). known oid (unless_known (x && not (is_among oid busy)) (then_do (row_of oid) (λ row. made_by (find below (oid ∷ busy)) oid row (sort_of row))))) (sym room)
