use Rattle.std.proofs.Common.{codes, ap, ◌∙◌}
use Rattle.std.proofs.lemmas.Result.{IfOk-weaker}
use Rattle.clap.specs.Words.{App, with_subcommand}
use Rattle.script_words.specs.App.{plain_app, seeded_app}
use Rattle.script_words.proofs.read.command.Goals as goal

pub returns : goal.returns
returns c =
    let run = c.in_ok-run.ensures ∙ ap (λ (a : App). with_subcommand a (plain_app (codes "run")).top) c.top.ensures in
    let race = c.in_ok-race.ensures ∙ ap (λ (a : App). with_subcommand a (plain_app (codes "race")).top) run in
    let make = c.in_ok-make.ensures ∙ ap (λ (a : App). with_subcommand a (seeded_app (codes "make")).top) race in
    IfOk-weaker c.with_seeded-2.result _ _ (λ r h. h ∙ ap (λ (a : App). with_subcommand a (seeded_app (codes "demo")).top) make) c.with_seeded-2.ensures
