pub mod RoundTrips
pub mod Utf8
pub mod KindLaws
