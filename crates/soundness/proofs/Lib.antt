pub mod InWordsLaws
