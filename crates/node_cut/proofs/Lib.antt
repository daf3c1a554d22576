mod Growing
mod Barred
