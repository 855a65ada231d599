mod Standing
mod Within
mod Asking
mod Turning
mod Completing
mod Cutting
mod Greater
pub mod Callers
