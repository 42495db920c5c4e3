pub mod CanonicalForms
pub mod Cuts
pub mod Dumps
pub mod FlushSizes
pub mod Heights
pub mod StoredTables
