pub mod LatticePrinter
pub mod WhyPrinter
