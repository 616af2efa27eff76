pub mod InquiryLemmas
pub mod NamedLemmas
