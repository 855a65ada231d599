mod Atoms
mod Frames
mod Calls
mod Threads
mod Programs
mod Steps
mod Beginning
mod Conditions
