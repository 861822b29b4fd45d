pub mod Only
pub mod Pass
pub mod Fit
pub mod Grant
pub mod Part
pub mod Rollback
pub mod Run
