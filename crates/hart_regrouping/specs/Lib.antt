pub mod Regrouping
