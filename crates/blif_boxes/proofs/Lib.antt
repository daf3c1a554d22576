mod OneCut
mod Wording
