pub mod MemberGaps
pub mod StoredReplies
pub mod Storage
pub mod Written
