pub mod CallsSecrecy
