pub mod Ports
pub mod Senders
pub mod Settling
pub mod Lanes
pub mod LockedCalls
pub mod Devices
