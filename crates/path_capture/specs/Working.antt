-- Words of private contracts, and of what a `CaptureName` is seen as, its bytes. No public clause names one.
pub mod Rewind
pub mod HeldName
pub mod Slashes
