mod Viewed
mod Walks
