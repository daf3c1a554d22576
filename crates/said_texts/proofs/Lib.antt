mod Inks
mod Lines
mod Rows
mod Boxes
mod ByKind
mod Whole
