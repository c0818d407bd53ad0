-- Words of private contracts, and of what a `Key`, a `LeafText` and a `Child` are seen as, bytes with their front. No public clause names one.
pub mod Search
pub mod Share
pub mod NodeFalls
pub mod Levels
pub mod Members
pub mod Changed
pub mod Held
pub mod Words
pub mod Front
pub mod Marks
