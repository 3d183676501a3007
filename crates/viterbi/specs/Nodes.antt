pub mod Least
pub mod LatticeNodes
pub mod ReachableWords
pub mod ForwardCosts
pub mod BackwardCosts
pub mod Assembled
pub mod OnPath
