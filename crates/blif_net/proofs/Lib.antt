mod Netlists
mod OneNetlist
