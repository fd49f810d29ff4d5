pub mod OnePass
pub mod Cuts
pub mod Cases
pub mod Rising
pub mod Lying
pub mod Stretches
