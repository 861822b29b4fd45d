pub mod Both
pub mod Only
pub mod Stepwise
pub mod Outcome
pub mod Says
pub mod Heading
