pub mod CallsLongest
