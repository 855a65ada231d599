mod Forms
mod Steps
mod Reading
mod Spelled
mod Level
mod App
mod NumberTexts
mod Allowed
mod Values
mod Agreement
mod Settings
mod Meanings
mod NumberLists
mod DrawingTexts
mod WordTexts
pub mod Callers
