pub mod Places
pub mod Answer
pub mod Tables
