use Rattle.std.proofs.Common.{rules, ◌≡◌, Ok, true}
use Rattle.std.specs.Arc.{arc_value}
use Rattle.mem_base.specs.map.Calls.{after}
use Rattle.touched_spaces.specs.Noted.{AreNoted}
use Rattle.transact.specs.Spares.{IsSpare}
use Rattle.transact.proofs.DeskLaws.{called, one_more}
use Rattle.transact.proofs.desk.Desk.call.Goals as goal

pub invariant_of-self-then-not-is_quiet : goal.invariant_of-self-then-not-is_quiet
invariant_of-self-then-not-is_quiet c =
    let f = c.self.inside.tree in
    let g = c.apply.new.self in
    let done : after f c.args.call.now ≡ Ok g = c.in_ok-applied.ensures.applied.0 in
    let spare : IsSpare f c.take.result = search rules in
    let old : AreNoted (arc_value c.self.inside.current).forest f c.take-2.result = search rules in
    let noted = c.noting.ensures.after (arc_value c.self.inside.current).forest f g c.in_ok-applied.ensures.applied.1 done old in
    called f g c.args.call.now c.self.inside.depth c.self.inside.pending true
    (arc_value c.self.inside.current) c.self.inside.reached.items c.self.inside.noted
    c.noting.result c.self.inside.spare c.lacking.result c.self.invariant c.knows_fits.ensures done (λ outside. search rules)
    (one_more true c.self.inside.pending)
    noted (c.lacking.ensures f g spare done)

pub invariant_of-self-else-not-is_quiet : goal.invariant_of-self-else-not-is_quiet
invariant_of-self-else-not-is_quiet c =
    let f = c.self.inside.tree in
    let g = c.apply.new.self in
    let done : after f c.args.call.now ≡ Ok g = c.in_ok-applied.ensures.applied.0 in
    let spare : IsSpare f c.take.result = search rules in
    let old : AreNoted (arc_value c.self.inside.current).forest f c.take-2.result = search rules in
    let noted = c.noting.ensures.after (arc_value c.self.inside.current).forest f g c.in_ok-applied.ensures.applied.1 done old in
    called f g c.args.call.now c.self.inside.depth c.self.inside.pending c.self.inside.pending (arc_value c.self.inside.current) c.self.inside.reached.items
    c.self.inside.noted c.noting.result c.self.inside.spare c.lacking.result c.self.invariant c.knows_fits.ensures done c.self.invariant.idle
    (one_more c.self.inside.pending c.self.inside.pending) noted (c.lacking.ensures f g spare done)
