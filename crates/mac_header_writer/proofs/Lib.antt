pub mod WrittenThenRead
