use Rattle.epoch_rule.proofs.Common.{◌≡◌, ◌*◌, take, HasLoaded, IsAtPlace, StaysPass}
use Rattle.epoch_rule.proofs.loads.load_each.Given as goal

-- the words before this one are loaded, and the pass stands as it did
abbrev pub invariant-loop-i : goal.invariant-loop-i
invariant-loop-i g l =
    let before = l.initial.seat.me.0 in
    let now = l.seat.me.0 in (l.seat.table_id ≡ l.initial.seat.table_id) × (l.seat.me.1 ≡ l.initial.seat.me.1)
    × StaysPass l.fn.pass.0 before now
    × IsAtPlace g.E.Edition.counted g.E.Edition.forest g.E.Edition.places l.fn.pass.0 now l.place
    × HasLoaded before.sizes l.fn.pass.0 l.place l.first before.seen (take (8 * l.i) l.out) now.seen
