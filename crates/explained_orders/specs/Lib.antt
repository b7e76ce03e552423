pub mod ExplainedOrders
