pub mod Sweep
pub mod Unload
pub mod Swept
