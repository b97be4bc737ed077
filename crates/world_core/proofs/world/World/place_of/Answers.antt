use Rattle.std.proofs.Common.{rules, ◌≡◌, false, sym, ap, ◌∙◌}
use Rattle.std.specs.Prelude.{◌==◌}
use Rattle.mem_base.specs.access.Places.{notifiers_place}
use Rattle.mem_base.specs.access.PlacesByRegion.{place_in}
use Rattle.mem_base.specs.machine.World.{World, place_in_world}
use Rattle.writer_run.proofs.ReapLaws.{same_either_way}
use Rattle.world_core.proofs.PlaceLaws.{other_place}
use Rattle.writer_desk.specs.Writers.{WriterState}
use Rattle.world_core.specs.Worlds.{state_of}
use Rattle.world_core.proofs.world.World.place_of.Goals as goal

pub returns : goal.returns
returns c =
    let s = c.self.inside in
    let d : WriterState = state_of s.desk s.due in
    let other : (4294967295 == c.args.region.0) ≡ false =
    same_either_way 4294967295 c.args.region.0 ∙ sym c.if-eq.ensures in
    let found : c.place_of.result ≡ place_in d.backed.backing.places c.args.region = search rules in
    found ∙ sym (other_place d.backed.backing.places (notifiers_place d.backed.backing.pool_words) c.args.region other)
    ∙ ap (λ (w : World). place_in_world w c.args.region) c.self.view_is
