pub mod DeviceRuns
pub mod Journals
pub mod LaneRooms
pub mod Seeing
pub mod SendersFaults
