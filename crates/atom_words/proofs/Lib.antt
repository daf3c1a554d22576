pub mod AtomNames
