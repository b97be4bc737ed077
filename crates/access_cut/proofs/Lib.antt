pub mod Bytes
pub mod Good
pub mod PieceLaws
pub mod Powers
pub mod Rows
