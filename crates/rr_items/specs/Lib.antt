pub mod Ends
pub mod Features
pub mod Grid
pub mod Ground
pub mod NodeItems
pub mod Switches
