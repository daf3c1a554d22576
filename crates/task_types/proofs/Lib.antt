mod Leaves
mod Widths
