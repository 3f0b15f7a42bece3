pub mod Parts
pub mod Plan
pub mod Laws
