-- The table of specs/ and its law; each file opens with what it shows.
pub mod HexTable
pub mod Spelt
