pub mod Places
pub mod LutFields
