pub mod Laws
mod Parts
mod Placing
mod Ends
