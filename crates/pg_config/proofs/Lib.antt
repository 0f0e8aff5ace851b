mod Agreement
mod AttemptLaws
mod Cuts
mod Decoded
mod GroupLaws
mod KeyValueSpelling
mod Marks
pub mod Meanings
mod NumberLaws
pub mod OneMeaning
mod Places
mod ReadAll
mod Readings
mod Runs
mod Shapes
mod Spelling
mod Trying
mod UrlParameterSpelling
mod UrlShapes
mod UrlSpelling
mod Wholes
