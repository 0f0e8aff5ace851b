use Rattle.std.proofs.Common.{◌≡◌, subst, sym, List, ℕ, ◌+◌, ◌++◌, take, drop}
use Rattle.std.proofs.lemmas.List.{take-append-drop}
use Rattle.pg_machine.specs.declared.feeding.Fed.{Fed}
use Rattle.pg_machine.specs.Machines.{service_of}
use Rattle.pg_machine.specs.Sessions.{gives}
use Rattle.pg_machine.specs.ServingFeeding.{IsLonger}
use Rattle.pg_machine.specs.Feeding.{IsFed, HasFed}
use Rattle.pg_machine.specs.Steps.{serving_of}
use Rattle.pg_machine.proofs.FeedLaws.{rest_is, went_further}
use Rattle.pg_machine.proofs.machine.Machine.go_behind.Goals as goal

pub returns : goal.returns
returns c startup =
    let table = c.args.self.now in
    let taken : List ℕ = c.args.taken.now in
    let len = c.args.len in
    let fed : Fed = c.args.fed in
    let done : Fed = c.in_ok-done.done in
    let old : List ℕ = c.args.said.now.items in
    let new : List ℕ = c.feed.new.out.items in
    let h : IsFed table fed.at (drop fed.cut taken) old new done = subst (λ (x : List ℕ). IsFed table fed.at x old new done) (rest_is taken fed.cut) c.in_ok-done.ensures in
    let whole : take len taken ++ drop len taken ≡ taken = take-append-drop len taken in
    subst (λ (t : List ℕ). HasFed table t (record { cut = fed.cut + done.cut; at = done.at })
    × (old ≡ gives (service_of table) 0 startup (take len taken) → new ≡ gives (service_of table) 0 startup t) × IsLonger old new) whole
    (went_further (service_of table) 0 startup (take len taken) (drop len taken) old new fed.cut done.cut (serving_of fed.at) (serving_of done.at) c.requires.fed
    (subst (λ (t : List ℕ). IsFed table fed.at (drop fed.cut t) old new done) (sym whole) h))
