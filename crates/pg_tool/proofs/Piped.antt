-- A session that `pipe` played went over the link handed in.
use Rattle.std.proofs.Common.{◌≡◌, ◌⊎◌, ℕ, List, [], ◌∷◌, Option, Some, inl, inr, sym, ap, ◌∙◌, subst, codes, arith, length}
use Rattle.std.specs.Prelude.{IfSome}
use Rattle.pg_text.specs.SessionText.{SessionText}
use Rattle.pg_tool.specs.RunContract.{IsOver, IsPiped, PlaysNumbers, PlaysText, Run, RunContract, SessionAnswer}
use Rattle.pg_tool.specs.Words.{Asks}
use Rattle.pg_tool.specs.declared.over.Over.{Over}
use Rattle.pg_tool.specs.declared.over.Over.TheVariants as over

pub piped : (run : Run) (file report : List ℕ) (result : SessionAnswer) → run.words ≡ codes "pipe" ∷ file ∷ report ∷ [] → run.result ≡ Some result → RunContract run →
    (text : SessionText) × IsPiped run.link_before run.link_after text result
piped run file report result words is contract =
    by_session (subst (λ (o : Option SessionAnswer). IfSome o (λ result. PlaysText run result ⊎ PlaysNumbers run result)) is contract.session)
  where
    by_link : (which : Over) → Asks run.words which → (text : SessionText) → IsOver which run.link_before run.link_after text result →
        (text : SessionText) × IsPiped run.link_before run.link_after text result
    by_link over.Own asks text played = absurd (omega (arith, ap length (sym words ∙ asks)))
    by_link over.Handed asks text played = (text, played)

    by_session : PlaysText run result ⊎ PlaysNumbers run result → (text : SessionText) × IsPiped run.link_before run.link_after text result
    by_session (inl (which, asks, bytes, left, short, text, is_text, played)) = by_link which asks text played
    by_session (inr (numbers, (commands, seed, gen, spelled), played, simply, source, link)) =
        let same : codes "pipe" ∷ file ∷ report ∷ [] ≡ codes "gen" ∷ commands ∷ seed ∷ [] = sym words ∙ gen in
        let first : codes "pipe" ≡ codes "gen" = cc in
        absurd (omega (arith, ap length first))
