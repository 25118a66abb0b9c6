-- The laws of patch files.
pub mod FieldLaws
pub mod NumberLaws
pub mod BodyLaws
pub mod ReaderLaws
pub mod WriterLaws
pub mod FileLaws
pub mod RecordLaws
pub mod LatestLaws
pub mod SameLaws
pub mod CardLaws
pub mod Examples
