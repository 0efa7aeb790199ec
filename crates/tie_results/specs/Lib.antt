pub mod Sound
pub mod Results
pub mod Texts
pub mod Reads
pub mod Bodies
pub mod Callees
pub mod Plans
pub mod Translated
