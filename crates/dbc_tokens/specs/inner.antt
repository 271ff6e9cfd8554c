-- How the code reads a text: an intermediate step. The tokens of a text are defined without it, in `Tokens`.
pub mod Scanner
