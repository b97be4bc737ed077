use Rattle.mem_base.proofs.ViewLaws.{IsView-unique}
use Rattle.map_laws.proofs.OffsetLaws.{IsView-made}
use Rattle.map_laws.proofs.spaces_have_one_view.Goals as goal

pub returns-clause-one : goal.returns-clause-one
returns-clause-one c = IsView-unique

pub returns-clause-made : goal.returns-clause-made
returns-clause-made c = λ calls s h. IsView-made calls s h
