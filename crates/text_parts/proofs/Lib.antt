mod CutLines
mod FirstLines
mod NextLines
mod OtherLines
mod Dividing
mod EachDivision
mod Bounds
pub mod Callers
