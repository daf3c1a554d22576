mod Once
mod Words
