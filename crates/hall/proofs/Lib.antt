pub mod HallLaws
