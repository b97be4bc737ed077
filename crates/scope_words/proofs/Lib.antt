mod Viewed
mod Walks
mod Subcommands
