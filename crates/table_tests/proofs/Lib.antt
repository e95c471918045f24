pub mod VersionTestLemmas
