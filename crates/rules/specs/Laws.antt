-- The rules once more, in other words than the definitions. Proofs are in proofs/. A wrong definition is refused by one of these, by the
-- bench table or by a session of Examples.antt, as far as wrong ones were tried: must-fail/ has them.
pub mod Sizes
pub mod Soundness
pub mod Refusals
pub mod Stays
pub mod Refused
pub mod Closed
pub mod Readings
pub mod Initial
pub mod Written
pub mod Interrupts
pub mod Rates
pub mod Runs
