pub mod Cutting
pub mod Digits
pub mod Gaps
pub mod Numbers
pub mod PaddedCorner
pub mod PgmChecked
pub mod PlainPgm
pub mod ReadBack
