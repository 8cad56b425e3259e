-- How the code says what the rows make of a link and of a vote, and what it relies on.
pub mod Ballot
pub mod Fit
