pub mod Volts
pub mod Counting
pub mod Extremes
pub mod Table
pub mod Laws
pub mod Examples
pub mod FileTables
pub mod Theorems
