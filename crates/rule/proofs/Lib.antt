pub mod Firsts
pub mod Units
