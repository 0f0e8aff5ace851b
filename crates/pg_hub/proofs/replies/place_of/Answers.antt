use Rattle.std.proofs.Common.{◌≡◌, rules, length, deque_len, subst, arith}
use Rattle.std.specs.List.Sorted.{IsSearchInRange}
use Rattle.std.proofs.lemmas.Grind.{common_steps}
use Rattle.std.proofs.lemmas.List.Sorted.{answers_always}
use Rattle.pg_hub.specs.declared.mailbox.Kept.{Kept}
use Rattle.pg_hub.proofs.Places.{searched}
use Rattle.pg_hub.proofs.replies.place_of.Goals as goal

pub returns : goal.returns
returns c =
    let facts = c.binary_search_by_key.ensures in
    let by_key = facts.position (λ (m : Kept). m.id) (answers_always _ _ _ (λ f a r g called. search rules)) in
    let size : deque_len c.args.kept.now ≡ length c.args.kept.now.items = grind (arith, common_steps) in
    searched _ c.args.id _ c.requires (subst (IsSearchInRange c.binary_search_by_key.result) size facts.bound) by_key
