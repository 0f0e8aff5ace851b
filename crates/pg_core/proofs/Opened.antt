-- Where a command waits, its copy takes parts where the desk's does.
use Rattle.std.proofs.Common.{◌≡◌, inl, inr, ℕ}
use Rattle.pg_desk.specs.History.{State, is_copying}
use Rattle.pg_query.specs.Dialogue.{Dialogue, Answer, Ask, Send, Leave, Read, Put, Finish, Close, HangUp, Call, Hear}
use Rattle.pg_query.specs.Scripts.{cleanup_of}
use Rattle.pg_core.specs.Lists.{got_of}
use Rattle.pg_core.specs.Runs.{MayWait}
use Rattle.pg_core.specs.Times.{EndsFirst, Fits, IsKept, IsSane, Stage, Free, HasCome, Opening, Open, takes_parts}

pub opened-so : {T : Type 0} (s : State) (d : Dialogue T) (id : ℕ) → Fits s d id → MayWait d →
    (stage : Stage) × IsSane stage d × (is_copying id s.copying ≡ takes_parts stage) × EndsFirst (takes_parts stage) (cleanup_of d) × HasCome (got_of s id) stage
opened-so {T} s (Read cleanup decides next) id (stage, sane, kept, come) (inl reads) = by stage sane kept come
  where
    by : (at : Stage) → IsSane at (Read cleanup decides next) → IsKept s id (takes_parts at) (Read cleanup decides next) → HasCome (got_of s id) at →
        (stage : Stage) × IsSane stage (Read cleanup decides next) × (is_copying id s.copying ≡ takes_parts stage) × EndsFirst (takes_parts stage) cleanup × HasCome (got_of s id) stage
    by Free sane (inl none) come = absurd none
    by Free sane (inr k) come = (Free, sane, k.1, sane.0, come)
    by (Opening came) sane k come = (Opening came, sane, k.1, sane.0, come)
    by Open sane k come = absurd sane
opened-so s (Read cleanup decides next) id fits (inr puts) = absurd puts
opened-so s (Put cleanup part d) id fits (inl reads) = absurd reads
opened-so s (Put cleanup part d) id (first, sane, kept, come) (inr puts) = (Open, (tt, first, sane), kept.1, first, come)
opened-so s (Answer r) id fits (inl h) = absurd h
opened-so s (Answer r) id fits (inr h) = absurd h
opened-so s (Ask copying part d) id fits (inl h) = absurd h
opened-so s (Ask copying part d) id fits (inr h) = absurd h
opened-so s (Send part refused d) id fits (inl h) = absurd h
opened-so s (Send part refused d) id fits (inr h) = absurd h
opened-so s (Leave sent d) id fits (inl h) = absurd h
opened-so s (Leave sent d) id fits (inr h) = absurd h
opened-so s (Finish part d) id fits (inl h) = absurd h
opened-so s (Finish part d) id fits (inr h) = absurd h
opened-so s (Close part d) id fits (inl h) = absurd h
opened-so s (Close part d) id fits (inr h) = absurd h
opened-so s (HangUp d) id fits (inl h) = absurd h
opened-so s (HangUp d) id fits (inr h) = absurd h
opened-so s (Call q refused next) id fits (inl h) = absurd h
opened-so s (Call q refused next) id fits (inr h) = absurd h
opened-so s (Hear next) id fits (inl h) = absurd h
opened-so s (Hear next) id fits (inr h) = absurd h
