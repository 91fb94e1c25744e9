pub mod TwoPass
