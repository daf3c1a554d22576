mod Covering
mod Marking
mod OneTable
mod Tables
