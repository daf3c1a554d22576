mod Added
mod Boxed
mod Changed
mod Items
mod Mentioned
mod Named
mod Opened
mod Says
