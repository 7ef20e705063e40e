mod Listed
mod Labelled
mod WrittenReports
mod PlacedReports
mod PrintedFiles
