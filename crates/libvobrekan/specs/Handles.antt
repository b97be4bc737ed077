-- What a handle owns: nothing where it has no machine, and else the box of its machine.
use Rattle.std.specs.Prelude.{◌≡◌, Option, Some, None}
use base.Fml.{Fml, ftrue, fsep, fex}
use denote.RattleType.{RattleType}
use denote.RawPtr.{Ptr, null_ptr, Testable}
use Rattle.std.specs.declared.alloc.Global.{Global}
use Rattle.std.specs.contracts.impls.GlobalAllocator.TheImpl.{ghosts}
use Rattle.std.specs.Box.Ownership.{box_owns}

-- by the allocator, the row of the machine's type, the pointer, and the machine, if there is one. The pointer is null exactly
-- where there is none, and may be compared with null
abbrev pub kept : Global → (R : RattleType) → Ptr → Option R.Denot → Fml
kept a R p None = fex (p ≡ null_ptr) (λ _. ftrue)
kept a R p (Some x) = fsep (fex (Testable p) (λ _. ftrue)) (box_owns (ghosts.dealloc_token a) R p x)
