-- Steps and runs: checks that passed, advances of PCC, authority, replays.
pub mod Instructions
pub mod Fetches
pub mod ChecksPassed
pub mod Advances
pub mod Granted
pub mod Confined
pub mod RunsConfined
pub mod Sweeping
pub mod Replays
