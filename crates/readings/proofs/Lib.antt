pub mod Alone
pub mod CoreAlone
pub mod FreeBytes
pub mod ListingExact
pub mod ListingExactStated
pub mod Moved
pub mod MovedBytes
pub mod UnreadLaws
