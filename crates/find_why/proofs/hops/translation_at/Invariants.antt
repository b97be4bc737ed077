use Rattle.std.proofs.Common.{◌≡◌, drop}
use Rattle.mem_base.specs.access.Translations.{translation_at}
use Rattle.find_why.proofs.hops.translation_at.Given as goal

-- the translation is among those that are left, if there is one
abbrev pub invariant-loop-entry : goal.invariant-loop-entry
invariant-loop-entry l = translation_at (drop l.entry-index l.entries) l.offset ≡ translation_at l.entries l.offset
