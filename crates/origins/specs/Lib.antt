-- Origins, in reading order.
pub mod Places
pub mod Flows
pub mod Origins
pub mod OriginLaw
pub mod Table
