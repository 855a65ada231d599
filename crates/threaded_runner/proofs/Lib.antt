mod Own
mod Worked
mod Events
mod Underway
mod Rows
mod Together
