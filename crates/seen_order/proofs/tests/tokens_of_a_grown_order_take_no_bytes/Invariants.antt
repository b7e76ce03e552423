use Rattle.seen_order.proofs.tests.tokens_of_a_grown_order_take_no_bytes.Given as goal

-- the order that was just opened
abbrev pub ghosts-grow : goal.ghosts-grow
ghosts-grow g a = record { name = a.blank }
