use Rattle.std.proofs.Common.{codes}
use Rattle.std.proofs.Common.{◌∙◌}
use Rattle.clap.specs.Words.{found_of}
use Rattle.clap.proofs.WalkLemmas.{one_text-rows}
use Rattle.scope_words.proofs.read.is_json.Goals as goal

pub returns : goal.returns
returns c =
    let rows = one_text-rows (found_of c.args.matches.now) (codes "json") in record {
      absent = λ e. c.get_flag.ensures.none (rows ∙ e);
      off = λ e. c.get_flag.ensures.other (rows ∙ e);
      on = λ e. c.get_flag.ensures.value (rows ∙ e);
    }
