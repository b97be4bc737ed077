use Rattle.vobrekan.proofs.maps.view_of.Goals as goal

pub returns : goal.returns
returns g c = c.simplify.ensures.view c.args.tree.now c.args.space c.in_ok-pieces.ensures.tells
