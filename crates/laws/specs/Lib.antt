-- What follows from the rules of `rules` over clocks, loads, places in memory and whole runs, and why active channels may be found by
-- counting zeros. Proofs are in proofs/.
pub mod Types
pub mod Lists
pub mod Kept
pub mod Lasting
pub mod Moved
pub mod Search
pub mod Frames
pub mod Loads
pub mod Places
pub mod NeverStopped
