pub mod ForgottenRuns
