use Rattle.std.proofs.Common.{ap, ◌∙◌}
use Rattle.std.proofs.lemmas.Result.{IfOk-weaker}
use Rattle.clap.specs.Words.{App, Shape, app_of, with_subcommand}
use Rattle.script_words.proofs.read.with_plain.Goals as goal

pub returns : goal.returns
returns c =
    let word = ap (λ (a : App). a.top) c.plain.ensures.app in
    IfOk-weaker c.subcommand.result _ _ (λ r h. h.shape c.plain.ensures.local ∙ ap (λ (s : Shape). with_subcommand (app_of c.args.command) s) word)
    c.subcommand.ensures
