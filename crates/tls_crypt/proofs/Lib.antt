pub mod HeaderParts
pub mod Datagrams
pub mod FirstLine
pub mod KeyLines
pub mod Searched
