pub mod EventState
