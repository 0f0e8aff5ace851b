pub mod Requests
pub mod Portals
pub mod Drawing
pub mod Reading
pub mod Querying
pub mod Closing
