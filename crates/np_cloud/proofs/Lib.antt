pub mod CloudLemmas
