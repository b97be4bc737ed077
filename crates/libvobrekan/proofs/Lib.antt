mod AskedLaws
mod BufferLaws
mod CpuValues
mod DeskLaws
mod DeskValues
mod PlanLaws
mod Values
