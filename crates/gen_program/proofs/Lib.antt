mod Steps
mod Numbered
mod Fits
mod WellFormed
