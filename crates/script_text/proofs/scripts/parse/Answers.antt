use Rattle.std.proofs.Common.{◌==◌}
use Rattle.std.specs.List.{slice_split}
use Rattle.mem_base.specs.declared.script.places.Section.TheVariants.{Start}
use Rattle.script_laws.proofs.ScriptLaws.{from_sound}
use Rattle.script_text.proofs.scripts.parse.Goals as goal

-- what was read is sound
pub invariant_of-result : goal.invariant_of-result
invariant_of-result c = from_sound (slice_split (λ b. b == 10) c.args.text.now) Start 1 c.in-Ok.lines c.in-Ok.ensures
