pub mod Demand3
pub mod TwoBoards
pub mod Examples
