mod HeadLaws
mod BoundLaws
mod WalkLaws
mod MergedLaws
mod VisitLaws
mod BesideLaws
mod PendingLaws
mod NeedLaws
mod FaultLaws
mod FirstFaults
mod Accepting
pub mod Callers
mod ShapeLaws
mod JudgeLaws
mod EachJudged
