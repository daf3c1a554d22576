mod Texts
mod Counting
mod Wording
mod Saying
