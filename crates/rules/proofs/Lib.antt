-- The proofs of specs/Laws, and of the bench table; each file opens with what it shows.

-- tools
pub mod Open
pub mod Choice
pub mod Equal
pub mod Numbered
pub mod Masks
pub mod Readings
pub mod Sizes
pub mod States
-- one event
pub mod Steps
pub mod Played
pub mod Nothing
-- the laws
pub mod Bench
pub mod Soundness
pub mod Refusals
pub mod Own
pub mod Refused
pub mod Registers
pub mod Initial
pub mod ControlWritten
pub mod BufferWritten
pub mod Written
pub mod Interrupts
pub mod Rates
pub mod Runs
