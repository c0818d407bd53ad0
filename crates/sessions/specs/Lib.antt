pub mod Traffic
pub mod Peers
pub mod Sockets
pub mod Calls
pub mod Turns
pub mod Departure
pub mod Serving
pub mod Working
