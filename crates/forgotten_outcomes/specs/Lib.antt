pub mod ShownStates
