-- An instance goes through each theorem and law that a client reads, and uses every clause of it: one that is weakened is a proof that
-- fails here.
pub mod Files
pub mod Listing
pub mod Hex
pub mod Volts
pub mod Demand3
pub mod Sizes
pub mod Cuts
pub mod CutsAtSize
pub mod CutLaws
