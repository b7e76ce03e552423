-- Which order of operations is a machine's, and which ledger of sweeps.
use Rattle.std.specs.Prelude.{ℕ, List, slice_index}
use Rattle.seen_order.specs.Orders.{OrderName}

-- A machine's names are those of eight ledgers, then the four of its order, and then that of the
-- ledger of its sweeps.
abbrev pub order_named : List ℕ → OrderName
order_named names = record {
  book = record {
    number = slice_index names 8;
    log_name = slice_index names 9;
    cells_name = slice_index names 10;
  };
  first = slice_index names 11;
}

abbrev pub sweeps_named : List ℕ → ℕ
sweeps_named names = slice_index names 12
