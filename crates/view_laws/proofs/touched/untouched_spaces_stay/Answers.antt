use Rattle.view_laws.proofs.TouchedLaws.{untouched_found, untouched_view}
use Rattle.view_laws.proofs.touched.untouched_spaces_stay.Goals as goal

pub returns : goal.returns
returns c = λ f g s up vp calm. record { found = untouched_found f g s up vp calm; view = untouched_view f g s up vp calm }
