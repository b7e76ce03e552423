pub mod HartGroups
