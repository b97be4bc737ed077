mod BlockLaws
mod VerdictLaws
mod CheckLaws
