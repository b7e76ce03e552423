pub mod NumberedLemmas
pub mod ValueLemmas
pub mod MemoryLemmas
pub mod StoreLemmas
pub mod ViewLemmas
pub mod HartLemmas
pub mod SeenLemmas
