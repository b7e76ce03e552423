-- Memory: stored bytes, loads after stores, and the granules of an image.
pub mod StoredBytes
pub mod LoadsAfterStores
pub mod ImageGranules
