use Rattle.std.proofs.Common.{codes, ap, ◌∙◌}
use Rattle.clap.specs.Words.{found_of}
use Rattle.clap.proofs.WalkLemmas.{one_text-rows}
use Rattle.scope_words.specs.Asks.{style_by}
use Rattle.scope_words.proofs.read.style.Goals as goal

pub returns : goal.returns
returns c =
    let rows = one_text-rows (found_of c.args.matches.now) (codes "svg") in record {
      absent = λ e. c.style_by.ensures ∙ ap style_by (c.get_flag.ensures.none (rows ∙ e));
      off = λ e. c.style_by.ensures ∙ ap style_by (c.get_flag.ensures.other (rows ∙ e));
      on = λ e. c.style_by.ensures ∙ ap style_by (c.get_flag.ensures.value (rows ∙ e));
    }
