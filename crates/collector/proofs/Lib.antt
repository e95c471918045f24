pub mod GatheredLemmas
