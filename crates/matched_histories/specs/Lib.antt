pub mod MatchedHistories
