pub mod Grows
pub mod OnPath
pub mod Options
