pub mod Grammar
pub mod Lists
