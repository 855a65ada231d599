mod Lists
mod Keeping
mod Placing
mod Counting
mod Exploring
mod Showing
