pub mod AsBox
pub mod WordLemmas
pub mod Readings
pub mod Bursts
pub mod Openings
pub mod WordPlaces
pub mod FaultPlaces
