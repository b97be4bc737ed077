pub mod Places
pub mod Pages
pub mod Probes
pub mod Ways
pub mod Hops
