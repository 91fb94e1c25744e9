pub mod SendPoints
