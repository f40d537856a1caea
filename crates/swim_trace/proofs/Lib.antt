pub mod Keeping
pub mod Reaches
pub mod Relayed
pub mod Rhythms
