pub mod FileLineLemmas
pub mod ListingLemmas
pub mod MatrixFileLemmas
pub mod PairLemmas
pub mod ReadingErrorLemmas
pub mod SurfaceLemmas
pub mod TemplateLemmas
