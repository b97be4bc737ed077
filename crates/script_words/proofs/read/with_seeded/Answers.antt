use Rattle.std.proofs.Common.{ap, ◌∙◌}
use Rattle.std.proofs.lemmas.Result.{IfOk-weaker}
use Rattle.clap.specs.Words.{App, Shape, app_of, with_subcommand}
use Rattle.script_words.proofs.read.with_seeded.Goals as goal

pub returns-in-Ok : goal.returns-in-Ok
returns-in-Ok c =
    let word = ap (λ (a : App). a.top) c.in-Ok.ensures.app in
    IfOk-weaker c.subcommand.result _ _ (λ r h. h.shape c.in-Ok.ensures.local ∙ ap (λ (s : Shape). with_subcommand (app_of c.args.command) s) word)
    c.subcommand.ensures
