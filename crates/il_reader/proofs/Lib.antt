mod Numbers
mod Within
mod Single
mod Named
mod Total
mod Words
mod Fences
mod Places
mod Answered
pub mod Callers
