pub mod StayLemmas
pub mod ExchangeLemmas
pub mod HoldingLemmas
