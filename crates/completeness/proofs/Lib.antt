mod Placed
mod Parts
mod Walked
mod Accepting
mod Best
mod Dead
mod Chains
