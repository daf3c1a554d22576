mod Listed
mod Growing
