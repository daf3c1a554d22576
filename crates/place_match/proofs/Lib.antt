mod KindSteps
mod PairSteps
mod Reduction
