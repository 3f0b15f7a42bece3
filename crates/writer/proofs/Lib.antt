-- What the functions' proofs cite; each file opens with what it shows.
pub mod Overwriting
pub mod GoodRows
pub mod Rows
pub mod NoBytes
pub mod Grouping
pub mod Marks
pub mod GoodOrders
pub mod Cutting
pub mod Orders
pub mod Outcomes
pub mod Calls
pub mod Unique
