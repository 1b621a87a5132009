pub mod BuildCallLaws
