pub mod ViewedLemmas
