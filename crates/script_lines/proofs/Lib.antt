mod Tokens
mod Whole
