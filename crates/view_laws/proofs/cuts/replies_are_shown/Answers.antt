use Rattle.std.proofs.Common.{refl}
use Rattle.view_laws.proofs.cuts.replies_are_shown.Goals as goal

pub returns : goal.returns
returns c = λ big offset size n old. refl
