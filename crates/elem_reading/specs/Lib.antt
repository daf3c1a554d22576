pub mod AttributeNumbers
pub mod Kids
