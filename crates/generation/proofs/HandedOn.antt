-- What this crate hands on of the crates below it: who takes these names from here need not list those crates.
pub use Rattle.flat_lookup.proofs.AtlasLaws.{run_before, run_past, run_within}
pub use Rattle.flat_lookup.specs.Atlases.{run_end}
pub use Rattle.map_laws.proofs.CallLaws.{IsOrderedForest-made}
pub use Rattle.map_laws.proofs.FlattenedLaws.{same_attrs-is, same_attrs-same, same_path-is, same_path-same}
pub use Rattle.map_laws.proofs.OffsetLaws.{IsView-made}
pub use Rattle.map_laws.proofs.PageLaws.{one_digit}
pub use Rattle.map_laws.proofs.RefusalLaws.{refuse_if-none}
pub use Rattle.map_laws.proofs.SizeLaws.{size_whole}
pub use Rattle.map_laws.proofs.SoundCallLaws.{IsClosedForest-made}
