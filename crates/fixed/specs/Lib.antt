pub mod Lists
pub mod Results
pub mod Fixed
