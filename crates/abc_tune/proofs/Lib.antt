pub mod HeaderText
pub mod Mentions
pub mod OneTitle
pub mod Titles
pub mod WholeFaults
