pub mod Counts
pub mod Accesses
pub mod Watching
pub mod Missing
pub mod Turning
pub mod Witness
