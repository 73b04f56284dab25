pub mod Byte
pub mod Good
pub mod Lexeme
pub mod Lexing
pub mod LineColumn
pub mod Spelling
