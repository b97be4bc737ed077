mod Steps
mod SeedLaws
mod TextLaws
