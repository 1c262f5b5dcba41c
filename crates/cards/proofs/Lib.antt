pub mod SessionCards
