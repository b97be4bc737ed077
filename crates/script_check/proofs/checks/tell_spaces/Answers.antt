use Rattle.std.proofs.Common.{◌∙◌, ap}
use Rattle.script_memory.proofs.HandedOn.{Shown}
use Rattle.script_check.specs.Checks.{Compared, compared_with}
use Rattle.script_check.proofs.CheckLaws.{differs_of_all, text_of_all}
use Rattle.script_check.proofs.checks.tell_spaces.Goals as goal

pub returns-clause-text : goal.returns-clause-text
returns-clause-text c =
    let x : Compared = compared_with c.args.map.now c.args.memory.now c.args.blocks.now in
    text_of_all x c.as_slice-spaces.result.now c.new-text.result c.add_spaces.new.text c.add_all_missed.new.text c.new-text.ensures
    (c.as_slice-spaces.ensures ∙ ap (λ f. f.spaces) c.forest-forest.ensures.value ∙ ap (λ (s : Shown). s.forest.spaces) c.generation-generation.ensures.shown)
    c.in_ok-differs.ensures.text c.in_ok-missed.ensures.text

pub returns-clause-differs : goal.returns-clause-differs
returns-clause-differs c =
    let x : Compared = compared_with c.args.map.now c.args.memory.now c.args.blocks.now in
    c.one_of.ensures
    ∙ differs_of_all x c.as_slice-spaces.result.now c.in_ok-differs.differs c.in_ok-missed.missed
    (c.as_slice-spaces.ensures ∙ ap (λ f. f.spaces) c.forest-forest.ensures.value ∙ ap (λ (s : Shown). s.forest.spaces) c.generation-generation.ensures.shown)
    c.in_ok-differs.ensures.differs c.in_ok-missed.ensures.missed
