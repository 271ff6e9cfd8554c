pub mod Runs
pub mod Searches
pub mod NumberParts
pub mod Numbers
pub mod Strings
pub mod Longest
pub mod Gaps
pub mod CutStep
pub mod LineFeeds
mod PlainTokens
mod LineTexts
pub mod CutLaws
pub mod Spots
pub mod Places
pub mod FromEach
