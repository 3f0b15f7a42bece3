-- The laws of specs/, and how long numbers and lines are; each file opens with what it shows.
pub mod Numbers
pub mod Tails
pub mod WholeListing
pub mod Examples
pub mod Cutting
pub mod LinesListed
pub mod LineSays
pub mod Left
pub mod Lengths
