pub mod OwnedTurns
