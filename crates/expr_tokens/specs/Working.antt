-- Words of private contracts, and of what a `Name` is seen as, its bytes. No public clause names one.
pub mod Scanning
pub mod HeldName
