mod ReadSteps
mod BundleReading
mod MarkBits
