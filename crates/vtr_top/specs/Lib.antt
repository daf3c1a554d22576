pub mod Table
pub mod Says
pub mod Valid
