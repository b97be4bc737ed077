use Rattle.view_laws.proofs.CutLaws.{runs_cut}
use Rattle.view_laws.proofs.cuts.runs_cover_once.Goals as goal

pub returns : goal.returns
returns c = runs_cut
