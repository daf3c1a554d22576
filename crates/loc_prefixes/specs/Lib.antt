pub mod Layouts
pub mod Singles
pub mod Holders
pub mod Prefixes
