-- The proofs of specs/; each file opens with what it shows.

-- tools
pub mod AddedBits
pub mod Among
pub mod Actives
pub mod Search
pub mod Levels
pub mod Places
pub mod Again
-- one event
pub mod Offsets
pub mod Allowed
pub mod Kept
pub mod Clocks
-- the laws
pub mod Lasting
pub mod Targets
pub mod Moved
pub mod SoftwareClock
pub mod Frames
pub mod Loads
pub mod Leaving
pub mod Memory
pub mod NeverStopped
