pub mod Simulation
