-- What is said to some bytes, one frame behind another, and how the loop comes there.
use Rattle.std.proofs.Common.{◌≡◌, ℕ, zero, suc, ◌+◌, ◌-◌, ◌<◌, List, [], ◌++◌, Some, None, Ok, Err, refl, sym, ap, ◌∙◌, arith, length, drop, append_assoc, append-nil}
use Rattle.std.proofs.lemmas.List.{length-append, drop_at}
use Rattle.pg_server.specs.declared.fault.ServerFault.{ServerFault}
use Rattle.pg_server.specs.declared.fault.ServerFault.TheVariants as faults
use Rattle.pg_server.specs.Handlers.{Step}
use Rattle.pg_server.specs.Hearing.{Said, waiting, stopped, before, going_on, said_within, said_to, Hears}
use Rattle.pg_server.specs.Standings.{Standing, Front, Waits, Says, Stops, front, Does}
use Rattle.pg_server.proofs.CutLaws.{IsBehind, front-behind}

-- there are no more frames than bytes
enough : {S : Type 0} (step : Step S) (n m : ℕ) (at : Standing S) (bytes : List ℕ) → length bytes < n → length bytes < m → said_within n step at bytes ≡ said_within m step at bytes
enough step zero m at bytes p q = absurd (omega arith)
enough step (suc n) zero at bytes p q = absurd (omega arith)
enough {S = S} step (suc n) (suc m) at bytes p q =
    elim (front step at bytes) as (λ x. front step at bytes ≡ x → going_on (said_within n step) at bytes x ≡ going_on (said_within m step) at bytes x) [
      | Waits ↦ λ e. refl
      | Says said next rest ↦ λ e.
          let shorter : length rest < length bytes = shorter_by bytes rest (front-behind step at bytes said next rest e) in
          ap (before said) (enough step n m next rest (omega (arith, shorter, p)) (omega (arith, shorter, q)))
      | Stops fault ↦ λ e. refl
    ] refl
  where
    shorter_by : (bytes rest : List ℕ) → IsBehind bytes rest 1 → length rest < length bytes
    shorter_by bytes rest is = omega (arith, is.some, length-append is.gone rest, ap length is.is)

pub shorter : (bytes rest : List ℕ) → IsBehind bytes rest 1 → length rest < length bytes
shorter bytes rest is = omega (arith, is.some, length-append is.gone rest, ap length is.is)

pub said_to-says : {S : Type 0} (step : Step S) (at : Standing S) (bytes said : List ℕ) (next : Standing S) (rest : List ℕ) → front step at bytes ≡ Says said next rest →
    said_to step at bytes ≡ before said (said_to step next rest)
said_to-says {S = S} step at bytes said next rest e =
    let less : length rest < length bytes = shorter bytes rest (front-behind step at bytes said next rest e) in
    ap (going_on (said_within (length bytes) step) at bytes) e
    ∙ ap (before said) (enough step (length bytes) (suc (length rest)) next rest less (omega arith))

pub said_to-waits : {S : Type 0} (step : Step S) (at : Standing S) (bytes : List ℕ) → front step at bytes ≡ Waits → said_to step at bytes ≡ waiting at bytes
said_to-waits step at bytes e = ap (going_on (said_within (length bytes) step) at bytes) e

pub said_to-stops : {S : Type 0} (step : Step S) (at : Standing S) (bytes : List ℕ) (fault : ServerFault) → front step at bytes ≡ Stops fault → said_to step at bytes ≡ stopped at bytes fault
said_to-stops step at bytes fault e = ap (going_on (said_within (length bytes) step) at bytes) e

-- ---- the loop

-- so much was said, and this is left
pub record HeardSoFar {S : Type 0} (step : Step S) (at : Standing S) (bytes out : List ℕ) (now : Standing S) (rest later : List ℕ) : Type 0 where
  pub gone : List ℕ
  pub behind : gone ++ rest ≡ bytes
  pub some : List ℕ
  pub said : later ≡ out ++ some
  pub all : said_to step at bytes ≡ before some (said_to step now rest)
  -- by so many frames
  pub frames : ℕ
  pub first : (n k : ℕ) → k ≡ frames + n → said_within k step at bytes ≡ before some (said_within n step now rest)

pub begin_heard : {S : Type 0} (step : Step S) (at : Standing S) (bytes out : List ℕ) → HeardSoFar step at bytes out at bytes out
begin_heard step at bytes out = record {
  gone = [];
  behind = refl;
  some = [];
  said = sym (append-nil out);
  all = refl;
  frames = 0;
  first = λ n k is. let same : k ≡ n = omega (arith, is) in ap (λ (j : ℕ). said_within j step at bytes) same;
}

pub more_heard : {S : Type 0} (step : Step S) (at : Standing S) (bytes out : List ℕ) (now next : Standing S) (rest later behind last : List ℕ) →
    HeardSoFar step at bytes out now rest later → (said : List ℕ) × (front step now rest ≡ Says said next behind) × (last ≡ later ++ said) → HeardSoFar step at bytes out next behind last
more_heard {S = S} step at bytes out now next rest later behind last was (said, does, adds) =
    let cut : IsBehind rest behind 1 = front-behind step now rest said next behind does in
    record {
      gone = was.gone ++ cut.gone;
      behind = append_assoc was.gone cut.gone behind ∙ ap (λ (r : List ℕ). was.gone ++ r) cut.is ∙ was.behind;
      some = was.some ++ said;
      said = adds ∙ ap (λ (o : List ℕ). o ++ said) was.said ∙ append_assoc out was.some said;
      all = was.all ∙ ap (before was.some) (said_to-says step now rest said next behind does)
          ∙ ap (λ (x : List ℕ). record (said_to step next behind) { said = x }) (sym (append_assoc was.some said (said_to step next behind).said));
      frames = suc was.frames;
      first = λ n k is. was.first (suc n) k (omega (arith, is)) ∙ ap (λ (x : Front S). before was.some (going_on (said_within n step) now rest x)) does
          ∙ ap (λ (x : List ℕ). record (said_within n step next behind) { said = x }) (sym (append_assoc was.some said (said_within n step next behind).said));
    }

pub less_left : {S : Type 0} (step : Step S) (now next : Standing S) (rest later behind last : List ℕ) →
    (said : List ℕ) × (front step now rest ≡ Says said next behind) × (last ≡ later ++ said) → length behind < length rest
less_left step now next rest later behind last (said, does, adds) = shorter rest behind (front-behind step now rest said next behind does)

pub heard_all : {S : Type 0} (step : Step S) (at : Standing S) (bytes out : List ℕ) (now last : Standing S) (rest later said : List ℕ) (n : ℕ) → HeardSoFar step at bytes out now rest later →
    Does (front step now rest) now last later said (Ok None) → n ≡ length rest → Hears step at last bytes out said (Ok n)
heard_all {S = S} step at bytes out now last rest later said n was (waits, same, quiet) n_is =
    let all : said_to step at bytes ≡ before was.some (waiting now rest) = was.all ∙ ap (before was.some) (said_to-waits step now rest waits) in
    let size : length bytes ≡ length was.gone + length rest = ap length (sym was.behind) ∙ length-append was.gone rest in
    let skip : length bytes - n ≡ length was.gone = omega (arith, size, n_is) in (
      omega (arith, size, n_is),
      ap (λ (s : Said S). s.fault) all,
      quiet ∙ was.said ∙ ap (λ (x : List ℕ). out ++ x) (sym (ap (λ (s : Said S). s.said) all ∙ append-nil was.some)),
      same ∙ sym (ap (λ (s : Said S). s.next) all),
      ap (λ (k : ℕ). drop k bytes) skip ∙ ap (drop (length was.gone)) (sym was.behind) ∙ drop_at was.gone rest (length was.gone) refl ∙ sym (ap (λ (s : Said S). s.left) all),
    )

pub heard_fault : {S : Type 0} (step : Step S) (at : Standing S) (bytes out : List ℕ) (now last : Standing S) (rest later said : List ℕ) (fault : ServerFault) → HeardSoFar step at bytes out now rest later →
    Does (front step now rest) now last later said (Err fault) → Hears step at last bytes out said (Err fault)
heard_fault {S = S} step at bytes out now last rest later said fault was does = by_fault fault does
  where
    refused : (fault : ServerFault) → (front step now rest ≡ Stops fault) × (said ≡ later) →
        ((said_to step at bytes).fault ≡ Some fault) × (said ≡ out ++ (said_to step at bytes).said)
    refused fault (stops, quiet) =
        let all : said_to step at bytes ≡ before was.some (stopped now rest fault) = was.all ∙ ap (before was.some) (said_to-stops step now rest fault stops) in (
          ap (λ (s : Said S). s.fault) all,
          quiet ∙ was.said ∙ ap (λ (x : List ℕ). out ++ x) (sym (ap (λ (s : Said S). s.said) all ∙ append-nil was.some)),
        )

    by_fault : (fault : ServerFault) → Does (front step now rest) now last later said (Err fault) → Hears step at last bytes out said (Err fault)
    by_fault faults.BadStartup d = refused faults.BadStartup d
    by_fault (faults.Version n) d = refused (faults.Version n) d
    by_fault faults.Cancel d = refused faults.Cancel d
    by_fault (faults.BadFrame f) d = refused (faults.BadFrame f) d
    by_fault (faults.BadEffect n) d = refused (faults.BadEffect n) d
    by_fault faults.Ended d = refused faults.Ended d
    by_fault faults.OutOfMemory d =
        let first : (said_within was.frames step at bytes).said ≡ was.some = ap (λ (s : Said S). s.said) (was.first 0 was.frames (omega arith)) ∙ append-nil was.some in
        record {
          frames = was.frames;
          said = d ∙ was.said ∙ ap (λ (x : List ℕ). out ++ x) (sym first);
          rest = (said_to step now rest).said;
          front = ap (λ (x : List ℕ). x ++ (said_to step now rest).said) first ∙ sym (ap (λ (s : Said S). s.said) was.all);
        }
