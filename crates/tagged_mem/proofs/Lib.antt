pub mod ClearedMemory
pub mod Unfold
pub mod PackedBytes
pub mod PackedTags
pub mod PackedRam
pub mod SweptRam
