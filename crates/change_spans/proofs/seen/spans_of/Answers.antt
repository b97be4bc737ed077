use Rattle.std.proofs.Common.{◌≡◌, true, subst}
use Rattle.map_laws.proofs.MadeForests.{ordered_made, closed_made}
use Rattle.change_spans.specs.Reaches.{ShowsWithin}
use Rattle.change_spans.proofs.ClosedLaws.{shows_within}
use Rattle.change_spans.proofs.seen.spans_of.Goals as goal

pub returns : goal.returns
returns c =
    let f = c.args.before.now in
    let g = c.args.after.now in
    let closed : c.are_closed.result ≡ true = c.if-not-are_closed.false in
    subst (ShowsWithin f g) c.as_slice.ensures.value
    (shows_within f g c.args.changed.now c.as_slice.result.now c.move_alone-placed.result (ordered_made f c.requires.before).ascending
    (ordered_made g c.requires.after).ascending (closed_made f c.requires.before) (closed_made g c.requires.after) c.requires.others
    c.move_alone-placed.ensures (c.are_closed.ensures.before closed) (c.are_closed.ensures.after closed) (c.are_closed.ensures.spans closed))
