use Rattle.script_memory.proofs.NameLaws.{all_told}
use Rattle.script_memory.proofs.names.add_names.Goals as goal

pub returns : goal.returns
returns c =
    all_told c.args.memory.now c.args.names.now c.args.told.now c.add_regions.new.told c.add_spaces.new.told c.requires.none
    c.in_ok-add_regions.ensures.regions c.in_ok-add_regions.ensures.kinds c.in_ok-add_regions.ensures.others
    c.in_ok-add_spaces.ensures.spaces c.in_ok-add_spaces.ensures.others
