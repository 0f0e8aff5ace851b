pub mod Beginning
mod TypedBeginning
