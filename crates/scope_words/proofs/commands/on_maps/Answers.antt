use Rattle.std.proofs.Common.{codes}
use Rattle.clap.specs.Words.{App, with_subcommand}
use Rattle.scope_words.specs.App.{diff_app, draw_app, explain_app, one_file, top_app, why_app}
use Rattle.scope_words.proofs.Subcommands.{IsApp, goes_on}
use Rattle.scope_words.proofs.commands.on_maps.Goals as goal

abbrev asking_app : App
asking_app = with_subcommand (with_subcommand (with_subcommand top_app why_app.top) (one_file (codes "lint")).top) diff_app.top

pub returns : goal.returns
returns c =
    let one : IsApp c.with_sub.result (with_subcommand asking_app (one_file (codes "slots")).top) =
    goes_on c.asking.result c.in_ok-asking.field-0 asking_app (one_file (codes "slots")) c.with_sub.result c.in_ok-asking.was c.asking.ensures
    (c.with_sub.ensures (one_file (codes "slots")) c.slots.ensures.app) in
    let two : IsApp c.with_sub-2.result (with_subcommand (with_subcommand asking_app (one_file (codes "slots")).top) draw_app.top) =
    goes_on c.with_sub.result c.in_ok-slots.slots (with_subcommand asking_app (one_file (codes "slots")).top) draw_app c.with_sub-2.result
    c.in_ok-slots.was one (c.with_sub-2.ensures draw_app c.draw.ensures.app) in
    goes_on c.with_sub-2.result c.in_ok-draw.draw (with_subcommand (with_subcommand asking_app (one_file (codes "slots")).top) draw_app.top) explain_app
    c.with_sub-3.result c.in_ok-draw.was two (c.with_sub-3.ensures explain_app c.explain.ensures.app)
