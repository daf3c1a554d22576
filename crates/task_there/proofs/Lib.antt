mod Few
mod There
