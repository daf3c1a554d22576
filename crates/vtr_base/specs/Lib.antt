pub mod Decimal
pub mod Lists
pub mod Outside
pub mod Spans
