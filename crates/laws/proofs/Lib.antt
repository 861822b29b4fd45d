pub mod Circle
pub mod Signed
