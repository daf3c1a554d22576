pub mod PinSets
