use Rattle.scope_json.proofs.slotting.add_space.Goals as goal

pub add_tables-requires : goal.add_tables-requires
add_tables-requires c = c.in_ok-edges.ensures
