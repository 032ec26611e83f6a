pub mod CasesHold
pub mod SlipsHold
