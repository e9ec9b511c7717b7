-- What only the proofs of the laws cite.
pub mod LinkReads
