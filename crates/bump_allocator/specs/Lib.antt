-- Where the buffers of a bump allocator lie.
pub mod Buffers
