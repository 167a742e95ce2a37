pub mod Number
pub mod Column
pub mod ByNumber
pub mod ColumnWords
pub mod NewOpen
