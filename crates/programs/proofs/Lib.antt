pub mod FirstBytes
pub mod ImageDirLemmas
mod HashLemmas
mod ImageHeadLemmas
pub mod ImageErrors
mod ReadOn
mod Results
pub mod SlashLemmas
