pub mod WriterLaws
pub mod ReadBack
pub mod PieceLaws
