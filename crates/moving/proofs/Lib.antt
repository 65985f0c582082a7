-- Laws that serve the code of the moving vector.
pub mod OneTask
pub mod Walk
pub mod Places
pub mod OneStep
pub mod Steps
pub mod Stands
