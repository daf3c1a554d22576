mod Naming
mod Holding
mod Singling
mod Looking
