pub mod PlanLaws
pub mod CoreLaws
