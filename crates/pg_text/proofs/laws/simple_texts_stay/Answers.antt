use Rattle.pg_text.proofs.SimpleTexts.{text-as, text-back}
use Rattle.pg_text.proofs.laws.simple_texts_stay.Goals as goal

pub returns : goal.returns
returns c = λ text s. (text-as text s, text-back text s)
