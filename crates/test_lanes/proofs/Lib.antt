pub mod LaneEndLemmas
