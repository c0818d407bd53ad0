mod Messages
mod Putting
