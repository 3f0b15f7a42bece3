pub mod Text
pub mod Listing
pub mod Laws
pub mod LineLaws
pub mod Left
pub mod Examples
