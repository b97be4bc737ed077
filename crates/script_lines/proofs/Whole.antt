-- The text of the greatest size.
use Rattle.std.proofs.Common.{◌≡◌, ◌^◌, codes, refl}
use Rattle.std.specs.Fmt.{digits}
use Rattle.mem_base.specs.script.Printing.{number_text}

pub whole_text : number_text (2 ^ 64) ≡ codes "0x10000000000000000"
unfolding digits
whole_text = refl
