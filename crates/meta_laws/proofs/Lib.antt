mod Numbers
mod OtherMeta
pub mod Fewer
