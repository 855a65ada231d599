pub mod Callers
mod ViewLemmas
mod ThreadViewLemmas
