pub mod Keys
pub mod Stated
pub mod OneLine
pub mod LineLaws
pub mod DatabaseLaws
pub mod FindingLaws
