-- What this crate hands on of the crates below it: who takes these names from here need not list those crates.
pub use Rattle.plan_laws.proofs.FirstRuns.{IsFirst, first_is}
pub use Rattle.plan_laws.proofs.PlanLaws.{access_is_planned}
