pub mod Header
pub mod KeepStep
pub mod Section
pub mod Stretch
pub mod StretchItems
pub mod VoiceSetting
pub mod VoiceStep
