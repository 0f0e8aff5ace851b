use Rattle.std.proofs.lemmas.Result.{err_from_is_err_and}
use Rattle.pg_config.specs.Views.{settings_of}
use Rattle.pg_tool.proofs.Played.{played_as, read_own}
use Rattle.pg_open.specs.declared.choice.TlsChoice.TheVariants.{Asks, Fails, Raw, Shakes}
use Rattle.pg_tool.proofs.Requiring.{choice_told, fails_so, raw_so}
use Rattle.pg_tool.proofs.Promised.{asks, plays, read_so, shakes, start_refused, text_fails}
use Rattle.pg_tool.proofs.session.run_session.Goals as goal

pub returns-in_err-settings-clause-simply : goal.returns-in_err-settings-clause-simply
returns-in_err-settings-clause-simply g c =
    let p = err_from_is_err_and c.from_residual.result c.from_residual.ensures.1 in
    let read = c.in_err-settings.ensures.answer in
    (text_fails c.args.config.now c.args.nonce.now c.args.scripts.now c.args.turns.now c.args.max_bytes (g.L.Link.view c.args.link.now)
    read.0 c.from_residual.result p.0 c.in_err-settings.field-0.0 p.1 p.2 (g.met.L.Link.tells c.args.link.now) read.1 read.2).simply

pub returns-in_err-settings-clause-by_table : goal.returns-in_err-settings-clause-by_table
returns-in_err-settings-clause-by_table g c =
    let p = err_from_is_err_and c.from_residual.result c.from_residual.ensures.1 in
    let read = c.in_err-settings.ensures.answer in
    (text_fails c.args.config.now c.args.nonce.now c.args.scripts.now c.args.turns.now c.args.max_bytes (g.L.Link.view c.args.link.now)
    read.0 c.from_residual.result p.0 c.in_err-settings.field-0.0 p.1 p.2 (g.met.L.Link.tells c.args.link.now) read.1 read.2).by_table

pub returns-in-Raw-clause-simply : goal.returns-in-Raw-clause-simply
returns-in-Raw-clause-simply g c =
    let read = c.in_ok-settings.ensures.answer in
    (plays c.args.config.now (settings_of c.in_ok-settings.settings) c.args.nonce.now c.args.scripts.now c.args.turns.now c.args.max_bytes
    (g.L.Link.view c.args.link.now) (g.L.Link.view c.play_as.new.link) c.play_as.result
    (read_so c.args.config.now read.0 c.in_ok-settings.settings read.1 read.2) c.in-Ok.ensures (raw_so (settings_of c.in_ok-settings.settings) (choice_told c.in_ok-settings.settings c.get_ssl_mode.result c.get_ssl_negotiation.result Raw c.get_ssl_mode.ensures c.get_ssl_negotiation.ensures c.in-Raw.ensures))
    (g.met.L.Link.tells c.args.link.now) (g.met.L.Link.tells c.play_as.new.link) c.play_as.ensures.link
    c.play_as.ensures.fails c.play_as.ensures.played c.play_as.ensures.calm).simply

pub returns-in-Raw-clause-by_table : goal.returns-in-Raw-clause-by_table
returns-in-Raw-clause-by_table g c =
    let read = c.in_ok-settings.ensures.answer in
    (plays c.args.config.now (settings_of c.in_ok-settings.settings) c.args.nonce.now c.args.scripts.now c.args.turns.now c.args.max_bytes
    (g.L.Link.view c.args.link.now) (g.L.Link.view c.play_as.new.link) c.play_as.result
    (read_so c.args.config.now read.0 c.in_ok-settings.settings read.1 read.2) c.in-Ok.ensures (raw_so (settings_of c.in_ok-settings.settings) (choice_told c.in_ok-settings.settings c.get_ssl_mode.result c.get_ssl_negotiation.result Raw c.get_ssl_mode.ensures c.get_ssl_negotiation.ensures c.in-Raw.ensures))
    (g.met.L.Link.tells c.args.link.now) (g.met.L.Link.tells c.play_as.new.link) c.play_as.ensures.link
    c.play_as.ensures.fails c.play_as.ensures.played c.play_as.ensures.calm).by_table

pub returns-in-Raw-clause-played : goal.returns-in-Raw-clause-played
returns-in-Raw-clause-played g c =
    let read = c.in_ok-settings.ensures.answer in
    played_as c.args.config.now (settings_of c.in_ok-settings.settings) c.args.nonce.now c.args.scripts.now c.args.turns.now c.args.max_bytes
    (g.L.Link.view c.args.link.now) (g.L.Link.view c.play_as.new.link) c.play_as.result
    (read_so c.args.config.now read.0 c.in_ok-settings.settings read.1 read.2) c.play_as.ensures.played

pub returns-in-Raw-clause-reads_own : goal.returns-in-Raw-clause-reads_own
returns-in-Raw-clause-reads_own g c =
    let read = c.in_ok-settings.ensures.answer in
    read_own c.args.config.now (settings_of c.in_ok-settings.settings) c.args.nonce.now c.args.scripts.now c.args.turns.now c.args.max_bytes
    (g.L.Link.view c.args.link.now) (g.L.Link.view c.play_as.new.link) c.play_as.result
    (read_so c.args.config.now read.0 c.in_ok-settings.settings read.1 read.2) c.play_as.ensures.played

pub returns-in-Err-clause-simply : goal.returns-in-Err-clause-simply
returns-in-Err-clause-simply g c =
    let read = c.in_ok-settings.ensures.answer in
    (start_refused c.args.config.now c.args.nonce.now c.args.scripts.now c.args.turns.now c.args.max_bytes (g.L.Link.view c.args.link.now)
    (settings_of c.in_ok-settings.settings) c.in-Err.cause (g.met.L.Link.tells c.args.link.now) (read_so c.args.config.now read.0 c.in_ok-settings.settings read.1 read.2) c.in-Err.ensures).simply

pub returns-in-Err-clause-by_table : goal.returns-in-Err-clause-by_table
returns-in-Err-clause-by_table g c =
    let read = c.in_ok-settings.ensures.answer in
    (start_refused c.args.config.now c.args.nonce.now c.args.scripts.now c.args.turns.now c.args.max_bytes (g.L.Link.view c.args.link.now)
    (settings_of c.in_ok-settings.settings) c.in-Err.cause (g.met.L.Link.tells c.args.link.now) (read_so c.args.config.now read.0 c.in_ok-settings.settings read.1 read.2) c.in-Err.ensures).by_table

pub returns-in-Asks-clause-simply : goal.returns-in-Asks-clause-simply
returns-in-Asks-clause-simply g c =
    let read = c.in_ok-settings.ensures.answer in
    (asks c.args.config.now (settings_of c.in_ok-settings.settings) c.args.nonce.now c.args.scripts.now c.args.turns.now c.args.max_bytes
    (g.L.Link.view c.args.link.now) (g.L.Link.view c.ask_in_vain.new.link) c.ask_in_vain.result
    (read_so c.args.config.now read.0 c.in_ok-settings.settings read.1 read.2) c.in-Ok.ensures (choice_told c.in_ok-settings.settings c.get_ssl_mode.result c.get_ssl_negotiation.result Asks c.get_ssl_mode.ensures c.get_ssl_negotiation.ensures c.in-Asks.ensures)
    (g.met.L.Link.tells c.args.link.now) (g.met.L.Link.tells c.ask_in_vain.new.link) c.ask_in_vain.ensures).simply

pub returns-in-Asks-clause-by_table : goal.returns-in-Asks-clause-by_table
returns-in-Asks-clause-by_table g c =
    let read = c.in_ok-settings.ensures.answer in
    (asks c.args.config.now (settings_of c.in_ok-settings.settings) c.args.nonce.now c.args.scripts.now c.args.turns.now c.args.max_bytes
    (g.L.Link.view c.args.link.now) (g.L.Link.view c.ask_in_vain.new.link) c.ask_in_vain.result
    (read_so c.args.config.now read.0 c.in_ok-settings.settings read.1 read.2) c.in-Ok.ensures (choice_told c.in_ok-settings.settings c.get_ssl_mode.result c.get_ssl_negotiation.result Asks c.get_ssl_mode.ensures c.get_ssl_negotiation.ensures c.in-Asks.ensures)
    (g.met.L.Link.tells c.args.link.now) (g.met.L.Link.tells c.ask_in_vain.new.link) c.ask_in_vain.ensures).by_table

pub returns-in-Shakes-clause-simply : goal.returns-in-Shakes-clause-simply
returns-in-Shakes-clause-simply g c =
    let read = c.in_ok-settings.ensures.answer in
    (shakes c.args.config.now (settings_of c.in_ok-settings.settings) c.args.nonce.now c.args.scripts.now c.args.turns.now c.args.max_bytes
    (g.L.Link.view c.args.link.now) (read_so c.args.config.now read.0 c.in_ok-settings.settings read.1 read.2) c.in-Ok.ensures (choice_told c.in_ok-settings.settings c.get_ssl_mode.result c.get_ssl_negotiation.result Shakes c.get_ssl_mode.ensures c.get_ssl_negotiation.ensures c.in-Shakes.ensures) (g.met.L.Link.tells c.args.link.now)).simply

pub returns-in-Shakes-clause-by_table : goal.returns-in-Shakes-clause-by_table
returns-in-Shakes-clause-by_table g c =
    let read = c.in_ok-settings.ensures.answer in
    (shakes c.args.config.now (settings_of c.in_ok-settings.settings) c.args.nonce.now c.args.scripts.now c.args.turns.now c.args.max_bytes
    (g.L.Link.view c.args.link.now) (read_so c.args.config.now read.0 c.in_ok-settings.settings read.1 read.2) c.in-Ok.ensures (choice_told c.in_ok-settings.settings c.get_ssl_mode.result c.get_ssl_negotiation.result Shakes c.get_ssl_mode.ensures c.get_ssl_negotiation.ensures c.in-Shakes.ensures) (g.met.L.Link.tells c.args.link.now)).by_table

pub returns-clause-simply : goal.returns-clause-simply
returns-clause-simply g c = absurd (fails_so (settings_of c.in_ok-settings.settings) c.in-Fails.cause
    (choice_told c.in_ok-settings.settings c.get_ssl_mode.result c.get_ssl_negotiation.result (Fails c.in-Fails.cause) c.get_ssl_mode.ensures c.get_ssl_negotiation.ensures c.in-Fails.ensures))

pub returns-clause-by_table : goal.returns-clause-by_table
returns-clause-by_table g c = absurd (fails_so (settings_of c.in_ok-settings.settings) c.in-Fails.cause
    (choice_told c.in_ok-settings.settings c.get_ssl_mode.result c.get_ssl_negotiation.result (Fails c.in-Fails.cause) c.get_ssl_mode.ensures c.get_ssl_negotiation.ensures c.in-Fails.ensures))
