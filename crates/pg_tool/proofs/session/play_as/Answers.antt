use Rattle.std.proofs.Common.{refl, sym, subst}
use Rattle.pg_config.specs.Views.{settings_of}
use Rattle.pg_play.specs.Fails.{PlaysWithin}
use Rattle.pg_table.specs.Table.{table}
use Rattle.pg_table.proofs.SimpleMeans.{book-whole}
use Rattle.pg_tool.proofs.session.play_as.Goals as goal

pub play_over-requires : goal.play_over-requires
play_over-requires g c = λ k. (
  (refl, tt),
  (c.requires.limit, (book-whole, (rw (← c.as_slice.ensures.scripts) at c.as_slice.ensures.bounds, (c.requires.nonce, c.requires.no_tls)))),
)

pub returns-in-Ok-clause-played : goal.returns-in-Ok-clause-played
returns-in-Ok-clause-played g c =
    subst (λ told. PlaysWithin table (settings_of c.args.settings.now) c.args.nonce.now c.args.scripts.now c.args.turns.now c.args.max_bytes
    (g.L.Link.view c.args.link.now) (g.L.Link.view c.play_over.new.link) told) (sym c.in_words.ensures)
    (rw c.as_slice.ensures.scripts at c.in-Ok.ensures.played)

pub returns-in-Err-clause-fails : goal.returns-in-Err-clause-fails
returns-in-Err-clause-fails g c = rw c.as_slice.ensures.scripts at c.in-Err.ensures.fails
