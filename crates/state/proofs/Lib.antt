pub mod Walks
pub mod Released
