pub mod CallsCredits
