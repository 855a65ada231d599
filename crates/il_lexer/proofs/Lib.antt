mod Split
mod Longest
mod Places
mod LayoutLemmas
mod Unique
mod Total
mod SlicesLemmas
pub mod Callers
