-- Words of private contracts, and of what a `Query` and a `Table` are seen as, by their parts. No public clause names one.
pub mod Parts
pub mod Said
pub mod Numbers
pub mod Ranks
pub mod Items
pub mod Heard
pub mod Reach
pub mod Ahead
