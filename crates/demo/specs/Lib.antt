pub mod Traced
pub mod Watched
