-- Words of private contracts, and of the rule of a hall's table. No public clause names one.
pub mod Rule
pub mod Turns
pub mod Rests
