pub mod Hex
pub mod HexTable
pub mod Laws
