pub mod Different
pub mod FirstFault
pub mod FromFields
pub mod Checked
pub mod Made
pub mod RecordRead
