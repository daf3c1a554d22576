pub mod OneThing
pub mod Two
