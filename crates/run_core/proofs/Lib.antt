pub mod ClosingLemmas
pub mod DeviceRunLemmas
pub mod JournalLemmas
pub mod LaneRoomLemmas
pub mod LaneRunLemmas
pub mod LeftLemmas
pub mod SeeingLemmas
