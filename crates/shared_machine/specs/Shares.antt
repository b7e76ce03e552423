-- What contracts see of a machine's shares, and what they count.
use Rattle.std.specs.Prelude.{◌≡◌, ℕ, ◌<◌, Bool, true, false, List, length, map, count_by}
use Rattle.std.specs.Prelude.{slice_index}
use Rattle.std.specs.List.{range_with_len}
use Rattle.cheri_model.specs.declared.operation.Event.{Event}
use Rattle.cheri_model.specs.declared.operation.Event.TheVariants.{Step, Sweep}
use Rattle.cheri_model.specs.runs.Replay.{step_count}

-- the hart of a share, and how many steps of that hart it has counted
pub record ShareParts : Type 0 where
  pub hart : ℕ
  pub amount : ℕ

-- how much of each hart's ledger some tokens are, and their amounts
pub record TokenParts : Type 0 where
  pub parts : List ℕ
  pub amounts : List ℕ

-- the share of a hart that has counted all its steps of a trace
abbrev pub share_at : List Event → ℕ → ShareParts
share_at trace hart = record { hart = hart; amount = step_count trace hart }

-- one such share for each hart, in hart order
unfoldable pub shares_of : List Event → ℕ → List ShareParts
shares_of trace harts = map (share_at trace) (range_with_len 0 harts)

-- whether an event is a sweep, and how many events of a trace are
abbrev pub is_sweep : Event → Bool
is_sweep (Step entry) = false
is_sweep (Sweep count lo hi) = true

unfoldable pub sweep_count : List Event → ℕ
sweep_count trace = count_by is_sweep trace

-- The books of a machine have counted each hart's steps of the trace. There is room for eight
-- harts.
pub record IsCounted (books : List ℕ) (trace : List Event) (harts : ℕ) : Type 0 where
  pub lanes : length books ≡ 8
  pub counts : (hart : ℕ) → hart < harts → slice_index books hart ≡ step_count trace hart
