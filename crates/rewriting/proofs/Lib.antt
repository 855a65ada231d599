mod HeadLaws
mod EachKind
mod Leaves
mod Depths
mod Changes
mod Puts
mod Places
mod LeafStatements
pub mod Callers
