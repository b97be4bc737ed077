mod DeskLaws
mod SettledLaws
