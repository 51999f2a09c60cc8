pub mod InterleavingLemmas
pub mod MeetingLemmas
pub mod RoomLemmas
pub mod SenderLemmas
