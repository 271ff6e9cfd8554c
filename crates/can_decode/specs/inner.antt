-- What private functions and proofs cite, and no promise to callers: a middle step.
pub mod FirstChoices
