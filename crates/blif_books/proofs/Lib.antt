mod Driving
mod OneBook
