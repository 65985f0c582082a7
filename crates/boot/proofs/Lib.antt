-- What the fields and their table come to, and that it is the boot call.
pub mod Boots
