pub mod ReplyBytes
pub mod CountLaws
pub mod SessionLaws
pub mod DigitLaws
pub mod PlanLaws
pub mod WellMade
