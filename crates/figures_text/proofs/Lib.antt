pub mod OfRun
