pub mod RefusalTexts
pub mod Parts
pub mod ManyCallsTexts
pub mod Counts
