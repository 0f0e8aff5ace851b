pub mod TlsSteps
pub mod CancelSteps
pub mod OpenSteps
pub mod OpenWaits
