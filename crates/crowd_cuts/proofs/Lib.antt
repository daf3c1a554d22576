mod Filters
mod TrailLemmas
mod CutLemmas
mod Menger
mod ReductionLemmas
