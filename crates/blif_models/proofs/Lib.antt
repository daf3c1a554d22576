mod Along
mod Lining
mod Says
