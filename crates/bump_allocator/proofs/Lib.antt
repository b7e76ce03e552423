-- Lemmas on the buffers of a bump allocator.
pub mod BufferLemmas
