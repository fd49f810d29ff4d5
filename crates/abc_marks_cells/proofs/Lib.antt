pub mod HeardCells
pub mod UntiedKeys
pub mod Walks
