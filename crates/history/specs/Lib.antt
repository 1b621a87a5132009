pub mod Call
pub mod Queues
pub mod UplinkModel
pub mod Model
pub mod Memory
pub mod Demand3
pub mod StarredCases
