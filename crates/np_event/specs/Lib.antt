pub mod Lower
pub mod Words
pub mod Kind
pub mod EventForm
pub mod ReplyForm
pub mod Line
pub mod Faults
