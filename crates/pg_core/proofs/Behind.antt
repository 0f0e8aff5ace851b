-- One command behind another is a command that the core takes.
use Rattle.std.proofs.Common.{◌≡◌, List, [], ◌∷◌, ◌++◌, Bool, true, false, Result, Err}
use Rattle.pg_types.specs.declared.error.Error.{Error}
use Rattle.pg_types.specs.declared.error.Error.TheVariants.{OutOfMemory}
use Rattle.pg_query.specs.Dialogue.{Dialogue, Answer, Ask, Send, Leave, Read, Put, Finish, Close, HangUp, Call, Hear}
use Rattle.pg_core.specs.Behind.{behind}
use Rattle.pg_query.specs.declared.desk_call.Cleanup.{Cleanup}
use Rattle.pg_query.specs.declared.desk_call.Cleanup.TheVariants.{Close as CloseFirst, Post, Release}
use Rattle.pg_core.specs.Runs.{AddsNone, AddsTo, IsTidy, ReadsNothing}
use Rattle.pg_core.specs.Times.{Stage, Free, Opening, Open, stage_of, EndsFirst, EndsNone, ReadsNo, IsSane, IsInTime, IsCommand, LacksMemory, IsFaithful}
use Rattle.pg_core.proofs.Gone.{no-reads}

-- what is left to do, with more behind it that ends no copy
ends-none-behind : (cs more : List Cleanup) → EndsNone more → EndsNone cs → EndsNone (cs ++ more)
ends-none-behind [] more m h = m
ends-none-behind (CloseFirst part ∷ cs) more m h = absurd h
ends-none-behind (Release ∷ cs) more m h = ends-none-behind cs more m h
ends-none-behind (Post part ∷ cs) more m h = ends-none-behind cs more m h

ends-first-behind : (opened : Bool) (cs more : List Cleanup) → EndsNone more → EndsFirst opened cs → EndsFirst opened (cs ++ more)
ends-first-behind true [] more m h = absurd h
ends-first-behind true (CloseFirst part ∷ cs) more m h = ends-none-behind cs more m h
ends-first-behind true (Release ∷ cs) more m h = absurd h
ends-first-behind true (Post part ∷ cs) more m h = absurd h
ends-first-behind false cs more m h = ends-none-behind cs more m h

module _ {A T : Type 0} (extra : List Cleanup) (none : EndsNone extra) (f : Result A Error → Dialogue T) (later : (r : Result A Error) → IsCommand (f r)) where
  nothing-behind : (d : Dialogue A) → ReadsNothing d → ReadsNothing (behind extra d f)
  nothing-behind (Answer r) h = (later r).nothing
  nothing-behind (Ask c p d) h = tt
  nothing-behind (Send p refused d) h = (λ e. nothing-behind (refused e) (h.0 e), nothing-behind d h.1)
  nothing-behind (Leave k d) h = nothing-behind d h
  nothing-behind (Read cleanup decides next) h = absurd h
  nothing-behind (Put cleanup p d) h = absurd h
  nothing-behind (Finish p d) h = absurd h
  nothing-behind (Close p d) h = absurd h
  nothing-behind (HangUp d) h = absurd h
  nothing-behind (Call q refused next) h = (λ e. nothing-behind (refused e) (h.0 e), λ r fit. nothing-behind (next r) (h.1 r fit))
  nothing-behind (Hear next) h = absurd h

  no-behind : (d : Dialogue A) → ReadsNo d → ReadsNo (behind extra d f)
  no-behind (Answer r) h = no-reads (f r) (later r).nothing
  no-behind (Ask c p d) h = tt
  no-behind (Send p refused d) h = (λ e. no-behind (refused e) (h.0 e), no-behind d h.1)
  no-behind (Leave k d) h = no-behind d h
  no-behind (Read cleanup decides next) h = absurd h
  no-behind (Put cleanup p d) h = no-behind d h
  no-behind (Finish p d) h = no-behind d h
  no-behind (Close p d) h = no-behind d h
  no-behind (HangUp d) h = no-behind d h
  no-behind (Call q refused next) h = (λ e. no-behind (refused e) (h.0 e), λ r fit. no-behind (next r) (h.1 r fit))
  no-behind (Hear next) h = tt

  adds-nothing : (d : Dialogue T) → ReadsNothing d → AddsNone d
  adds-nothing (Answer r) h = tt
  adds-nothing (Ask c p d) h = tt
  adds-nothing (Send p refused d) h = (λ e. adds-nothing (refused e) (h.0 e), adds-nothing d h.1)
  adds-nothing (Leave k d) h = adds-nothing d h
  adds-nothing (Read cleanup decides next) h = absurd h
  adds-nothing (Put cleanup p d) h = absurd h
  adds-nothing (Finish p d) h = absurd h
  adds-nothing (Close p d) h = absurd h
  adds-nothing (HangUp d) h = absurd h
  adds-nothing (Call q refused next) h = (λ e. adds-nothing (refused e) (h.0 e), λ r fit. adds-nothing (next r) (h.1 r fit))
  adds-nothing (Hear next) h = absurd h

  adds-behind : (d : Dialogue A) → AddsNone d → AddsNone (behind extra d f)
  adds-behind (Answer r) h = adds-nothing (f r) (later r).nothing
  adds-behind (Ask c p d) h = tt
  adds-behind (Send p refused d) h = (λ e. adds-behind (refused e) (h.0 e), adds-behind d h.1)
  adds-behind (Leave k d) h = adds-behind d h
  adds-behind (Read cleanup decides next) h = λ ms e. adds-behind (next ms) (h ms e)
  adds-behind (Put cleanup p d) h = absurd h
  adds-behind (Finish p d) h = absurd h
  adds-behind (Close p d) h = absurd h
  adds-behind (HangUp d) h = adds-behind d h
  adds-behind (Call q refused next) h = (λ e. adds-behind (refused e) (h.0 e), λ r fit. adds-behind (next r) (h.1 r fit))
  adds-behind (Hear next) h = tt

  to-behind : (c : Bool) (d : Dialogue A) → AddsTo c d → AddsTo c (behind extra d f)
  to-behind true d h = tt
  to-behind false d h = adds-behind d h

  tidy-behind : (d : Dialogue A) → IsTidy d → IsTidy (behind extra d f)
  tidy-behind (Answer r) h = (later r).tidy
  tidy-behind (Ask c p d) h = (to-behind c d h.0, tidy-behind d h.1)
  tidy-behind (Send p refused d) h = (λ e. tidy-behind (refused e) (h.0 e), tidy-behind d h.1)
  tidy-behind (Leave k d) h = tidy-behind d h
  tidy-behind (Read cleanup decides next) h = λ ms e. tidy-behind (next ms) (h ms e)
  tidy-behind (Put cleanup p d) h = tidy-behind d h
  tidy-behind (Finish p d) h = tidy-behind d h
  tidy-behind (Close p d) h = tidy-behind d h
  tidy-behind (HangUp d) h = (nothing-behind d h.0, tidy-behind d h.1)
  tidy-behind (Call q refused next) h = (λ e. tidy-behind (refused e) (h.0 e), λ r fit. tidy-behind (next r) (h.1 r fit))
  tidy-behind (Hear next) h = tt

  sane-behind : (stage : Stage) (d : Dialogue A) → IsSane stage d → IsSane stage (behind extra d f)
  sane-behind Free (Answer r) h = (later r).sane
  sane-behind (Opening came) (Answer r) h = absurd h
  sane-behind Open (Answer r) h = absurd h
  sane-behind stage (Ask c p d) h = (h.0, sane-behind (stage_of c) d h.1)
  sane-behind Free (Send p refused d) h = (λ e. sane-behind Free (refused e) (h.0 e), sane-behind Free d h.1)
  sane-behind (Opening came) (Send p refused d) h = absurd h
  sane-behind Open (Send p refused d) h = (λ e. sane-behind Open (refused e) (h.0 e), sane-behind Open d h.1)
  sane-behind stage (Leave k d) h = absurd h
  sane-behind Free (Read cleanup decides next) h = (ends-first-behind false cleanup extra none h.0, λ ms e. sane-behind Free (next ms) (h.1 ms e))
  sane-behind (Opening came) (Read cleanup decides next) h = (ends-first-behind true cleanup extra none h.0, h.1, λ ms e. sane-behind Open (next ms) (h.2 ms e))
  sane-behind Open (Read cleanup decides next) h = absurd h
  sane-behind stage (Put cleanup p d) h = (h.0, ends-first-behind true cleanup extra none h.1, sane-behind Open d h.2)
  sane-behind stage (Finish p d) h = (h.0, sane-behind Free d h.1)
  sane-behind stage (Close p d) h = (h.0, no-behind d h.1, sane-behind Free d h.2)
  sane-behind stage (HangUp d) h = (h.0, no-behind d h.1, sane-behind Free d h.2)
  sane-behind Free (Call q refused next) h = (λ e. sane-behind Free (refused e) (h.0 e), λ r fit. sane-behind Free (next r) (h.1 r fit))
  sane-behind (Opening came) (Call q refused next) h = absurd h
  sane-behind Open (Call q refused next) h = (λ e. sane-behind Open (refused e) (h.0 e), λ r fit. sane-behind Open (next r) (h.1 r fit))
  sane-behind stage (Hear next) h = tt

  time-behind : (d : Dialogue A) → IsInTime d → IsInTime (behind extra d f)
  time-behind (Answer r) h = (later r).in_time
  time-behind (Ask c p d) h = time-behind d h
  time-behind (Send p refused d) h = (λ e. time-behind (refused e) (h.0 e), time-behind d h.1)
  time-behind (Leave k d) h = time-behind d h
  time-behind (Read cleanup decides next) h = (h.0, λ ms e. (λ any. no-behind (next ms) ((h.1 ms e).0 any), time-behind (next ms) (h.1 ms e).1))
  time-behind (Put cleanup p d) h = time-behind d h
  time-behind (Finish p d) h = time-behind d h
  time-behind (Close p d) h = time-behind d h
  time-behind (HangUp d) h = time-behind d h
  time-behind (Call q refused next) h = (λ e. time-behind (refused e) (h.0 e), λ r fit. time-behind (next r) (h.1 r fit))
  time-behind (Hear next) h = tt

  -- where memory lacked the second isn't begun
  lacks-behind : ((r : Result A Error) → r ≡ Err OutOfMemory → LacksMemory (f r)) → (d : Dialogue A) → LacksMemory d → LacksMemory (behind extra d f)
  lacks-behind g (Answer r) h = g r h
  lacks-behind g (Send p refused d) h = (lacks-behind g (refused OutOfMemory) h.0, lacks-behind g d h.1)
  lacks-behind g (Leave k d) h = lacks-behind g d h
  lacks-behind g (HangUp d) h = lacks-behind g d h
  lacks-behind g (Ask c p d) h = absurd h
  lacks-behind g (Read cleanup decides next) h = absurd h
  lacks-behind g (Put cleanup p d) h = absurd h
  lacks-behind g (Finish p d) h = absurd h
  lacks-behind g (Close p d) h = lacks-behind g d h
  lacks-behind g (Call q refused next) h = absurd h
  lacks-behind g (Hear next) h = absurd h

  faithful-behind : ((r : Result A Error) → r ≡ Err OutOfMemory → LacksMemory (f r)) → (d : Dialogue A) → IsFaithful d → IsFaithful (behind extra d f)
  faithful-behind g (Answer r) h = (later r).faithful
  faithful-behind g (Ask c p d) h = faithful-behind g d h
  faithful-behind g (Send p refused d) h = (lacks-behind g (refused OutOfMemory) h.0, faithful-behind g d h.1)
  faithful-behind g (Leave k d) h = faithful-behind g d h
  faithful-behind g (Read cleanup decides next) h = λ ms. faithful-behind g (next ms) (h ms)
  faithful-behind g (Put cleanup p d) h = faithful-behind g d h
  faithful-behind g (Finish p d) h = faithful-behind g d h
  faithful-behind g (Close p d) h = faithful-behind g d h
  faithful-behind g (HangUp d) h = faithful-behind g d h
  faithful-behind g (Call q refused next) h = (lacks-behind g (refused OutOfMemory) h.0, λ r fit. faithful-behind g (next r) (h.1 r fit))
  faithful-behind g (Hear next) h = tt

  pub command-behind : ((r : Result A Error) → r ≡ Err OutOfMemory → LacksMemory (f r)) → (d : Dialogue A) → IsCommand d → IsCommand (behind extra d f)
  command-behind g d h = record {
    tidy = tidy-behind d h.tidy;
    nothing = nothing-behind d h.nothing;
    sane = sane-behind Free d h.sane;
    in_time = time-behind d h.in_time;
    faithful = faithful-behind g d h.faithful;
  }
