-- Dialogues without what their scripts have then.
use Rattle.std.proofs.Common.{◌≡◌, ap}
use Rattle.pg_spec.specs.Dialogues.{Dialogue, Answers, Asks, Sends, Reads, Puts, Closes, Calls, behind}
use Rattle.pg_spec.specs.Isolation.{answer_alone}
use Rattle.pg_spec.specs.Meanings.{Ending}

-- where what stands behind is the same, so is the whole
pub alone-of : {Q R X A E : Type 0} (d : Dialogue Q R X) (k l : X → Dialogue Q R (Ending A E)) → ((x : X) → answer_alone (k x) ≡ answer_alone (l x)) → answer_alone (behind d k) ≡ answer_alone (behind d l)
alone-of (Answers x) k l h = h x
alone-of (Asks copying part d) k l h = ap (Asks copying part) (alone-of d k l h)
alone-of (Sends part d) k l h = ap (Sends part) (alone-of d k l h)
alone-of (Reads decides next) k l h = λ i. Reads decides (λ ms. alone-of (next ms) k l h i)
alone-of (Puts part d) k l h = ap (Puts part) (alone-of d k l h)
alone-of (Closes part d) k l h = ap (Closes part) (alone-of d k l h)
alone-of (Calls q next) k l h = λ i. Calls q (λ r. alone-of (next r) k l h i)
