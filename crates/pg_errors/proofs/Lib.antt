pub mod Numbers
pub mod FieldLemmas
