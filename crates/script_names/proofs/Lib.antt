mod Viewed
