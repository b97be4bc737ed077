use Rattle.std.proofs.Common.{ap, ◌∙◌}
use Rattle.mem_base.specs.script.Scripts.{script_of}
use Rattle.top_runs.specs.WrittenText.{text_of_script}
use Rattle.top_runs.proofs.seeds.run_seed.Goals as goal

-- the text that was drawn is the script's, and is run as that
pub returns : goal.returns
returns c =
    c.in_ok-written.ensures ∙ ap (λ text. text_of_script (script_of text)) (c.deref.ensures.value ∙ c.in_ok-script.ensures)
    ∙ ap text_of_script (c.seeds_give_scripts.ensures.reads c.args.seed)
