pub mod ForgottenTurns
