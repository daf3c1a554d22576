mod Rows
mod Said
mod Completed
