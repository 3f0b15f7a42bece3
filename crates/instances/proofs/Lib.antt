-- What the theorems say of the instances of specs/.
pub mod Files
pub mod Listing
pub mod Hex
pub mod Volts
pub mod Demand3
pub mod Sizes
pub mod Cuts
pub mod CutsAtSize
pub mod CutLaws
