mod CutLaws
mod EndLaws
mod HandLaws
mod PastLaws
mod RunLaws
mod WordLaws
mod TryingLaws
