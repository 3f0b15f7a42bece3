-- The laws, and what they rest on; each file opens with what it shows.
pub mod Acts
pub mod Laws
