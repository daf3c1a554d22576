mod Tables
mod Merged
mod Bodies
