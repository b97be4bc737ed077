pub mod Cpus
pub mod Desks
