mod RequestedOverlays
mod DirectoryLemmas
mod NoUsers
mod TextWarningLemmas
mod PrintedTexts
mod PeekedCounts
