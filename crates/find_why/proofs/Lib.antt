mod LookedLaws
mod SeenLaws
mod WithinLaws
mod HopLaws
