pub mod Addresses
pub mod Following
pub mod Traces
pub mod Forwardings
