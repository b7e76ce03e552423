pub mod ForgottenLoops
