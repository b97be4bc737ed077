use Rattle.clap.specs.Words.{with_subcommand}
use Rattle.scope_words.specs.App.{check_app, import_app, map_app}
use Rattle.scope_words.proofs.Subcommands.{IsApp, goes_on}
use Rattle.scope_words.proofs.commands.command.Goals as goal

pub returns : goal.returns
returns c =
    let one : IsApp c.with_sub.result (with_subcommand map_app import_app.top) =
    goes_on c.on_maps.result c.in_ok-on_maps.field-0 map_app import_app c.with_sub.result c.in_ok-on_maps.was c.on_maps.ensures
    (c.with_sub.ensures import_app c.import.ensures.app) in
    goes_on c.with_sub.result c.in_ok-import.import (with_subcommand map_app import_app.top) check_app c.with_sub-2.result c.in_ok-import.was one
    (c.with_sub-2.ensures check_app c.check.ensures.app)
