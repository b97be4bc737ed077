use Rattle.std.proofs.Common.{◌≡◌, Bool, true, false, refl}
use Rattle.mem_base.specs.views.Naming.{names}
use Rattle.view_laws.specs.Named.{Names}
use Rattle.view_laws.proofs.NamingLaws.{names_leaves}
use Rattle.map_lint.proofs.unreached_regions_have_no_address.Goals as goal

pub returns-clause-none : goal.returns-clause-none
returns-clause-none c f region e h = let t : names f region ≡ true = (names_leaves f region).1 h in cc

pub returns-clause-some : goal.returns-clause-some
returns-clause-some c f region h = go (names f region) refl where
  go : (b : Bool) → names f region ≡ b → Names f region
  go true e = (names_leaves f region).0 e
  go false e = absurd (h e)
