pub mod Ends
pub mod Memory
pub mod Streams
pub mod Disk
pub mod DiskCalls
pub mod MemDisk
