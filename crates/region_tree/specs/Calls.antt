-- Which calls are treated by themselves.
use Rattle.mem_base.specs.declared.map.calls.Call.{Call}
use Rattle.mem_base.specs.declared.map.calls.Call.TheVariants.{Add}

-- a region is to be placed in a container
abbrev pub IsAdd : Call → Type 0
IsAdd (Add parent offset child priority) = Unit {0}
IsAdd call = ⊥
