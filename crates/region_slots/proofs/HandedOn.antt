-- What this crate hands on of the crates below it: who takes these names from here need not list those crates.
pub use Rattle.map_laws.proofs.CallLaws.{edited_field, IsOrderedForest-accepted}
pub use Rattle.map_laws.proofs.DropLaws.{without, steps_of-without}
pub use Rattle.map_laws.proofs.FoundLaws.{found_at-to_leaf}
pub use Rattle.map_laws.proofs.LeadLaws.{KeepsSteps, depth_of-kept, weight_of-kept}
pub use Rattle.map_laws.proofs.MadeLaws.{depth_made, weight_made, depth_alias, weight_alias, greatest_depth_made, greatest_weight_made, shallow_made, narrow_made}
pub use Rattle.map_laws.proofs.MoveLaws.{moved_keeps}
pub use Rattle.map_laws.proofs.RefusalLaws.{has_container-none, some_of, is_known, each_none, known_node, refuse_where-none, first_none, refuse_if-none, in_use-none}
pub use Rattle.map_laws.proofs.SearchLaws.{found_in_zero, found_in_missing, found_in_step}
pub use Rattle.map_laws.proofs.SoundCallLaws.{IsClosedForest-accepted, not_met}
