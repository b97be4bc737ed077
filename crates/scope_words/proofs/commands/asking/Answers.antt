use Rattle.std.proofs.Common.{codes}
use Rattle.clap.specs.Words.{with_subcommand}
use Rattle.scope_words.specs.App.{diff_app, one_file, top_app, why_app}
use Rattle.scope_words.proofs.Subcommands.{IsApp, begins, goes_on}
use Rattle.scope_words.proofs.commands.asking.Goals as goal

pub returns : goal.returns
returns c =
    let one : IsApp c.with_sub.result (with_subcommand top_app why_app.top) =
    begins c.top.result top_app why_app c.with_sub.result c.top.ensures (c.with_sub.ensures why_app c.why.ensures.app) in
    let two : IsApp c.with_sub-2.result (with_subcommand (with_subcommand top_app why_app.top) (one_file (codes "lint")).top) =
    goes_on c.with_sub.result c.in_ok-why.why (with_subcommand top_app why_app.top) (one_file (codes "lint")) c.with_sub-2.result
    c.in_ok-why.was one (c.with_sub-2.ensures (one_file (codes "lint")) c.lint.ensures.app) in
    goes_on c.with_sub-2.result c.in_ok-lint.lint (with_subcommand (with_subcommand top_app why_app.top) (one_file (codes "lint")).top) diff_app
    c.with_sub-3.result c.in_ok-lint.was two (c.with_sub-3.ensures diff_app c.diff.ensures.app)
