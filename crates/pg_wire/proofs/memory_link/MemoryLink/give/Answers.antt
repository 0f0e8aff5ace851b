use Rattle.std.proofs.Common.{◌≡◌, ℕ, ◌++◌, take, ap, ◌∙◌, append-nil, refl, arith}
use Rattle.pg_wire.specs.Giving.{given_of, due_of}
use Rattle.pg_wire.specs.MemoryLinks.{memory_of}
use Rattle.pg_wire.proofs.MemoryLaws.{ready-same}
use Rattle.pg_wire.proofs.memory_link.MemoryLink.give.Goals as goal

pub invariant_of-self-2 : goal.invariant_of-self-2
invariant_of-self-2 c =
    let old = c.self.inside in
    let none : c.give-n.result ≡ 0 = omega arith in
    let given : given_of c.give-n.new.self ≡ given_of c.self.inside.giving =
    c.give-n.ensures.given.given ∙ ap (λ (k : ℕ). given_of c.self.inside.giving ++ take k (due_of c.self.inside.turning.turns c.self.inside.giving)) none
    ∙ append-nil (given_of c.self.inside.giving) in
    record {
      giving = c.give-n.ensures.given.place;
      counts = c.self.invariant.counts;
      turns = c.self.invariant.turns;
      promise = λ p. ready-same (memory_of old) (record (memory_of old) { entries = _; given = given_of c.give-n.new.self; quiet = c.saturating_add-self-inside-2.result; dry = c.saturating_add-self-inside-3.result })
          c.give-n.ensures.given.plan refl given refl ∙ c.self.invariant.promise p;
      cut = c.self.invariant.cut;
      room = c.self.invariant.room;
    }
