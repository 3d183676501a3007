pub mod TextOver
