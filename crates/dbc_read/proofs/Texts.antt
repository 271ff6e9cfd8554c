-- From layouts to the tokens of their texts.
pub mod Longest
pub mod Layouts
pub mod Joined
