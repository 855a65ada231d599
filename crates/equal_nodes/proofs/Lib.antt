mod Versions
mod Views
mod Comparing
mod Keys
