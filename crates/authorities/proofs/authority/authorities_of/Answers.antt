use Rattle.std.proofs.Common.{◌≡◌, ℕ, length, ap, arith}
use Rattle.std.specs.Prelude.{Option, IfSome, slice_get}
use Rattle.cheri_model.specs.runs.Machine.{MachineState}
use Rattle.states.proofs.SizeLemmas.{sizes_of}
use Rattle.authorities.specs.Authorities.{AreGreatest, hart_values, memory_values}
use Rattle.authorities.proofs.KeptLemmas.{graph_meant, on_kept}
use Rattle.authorities.proofs.authority.authorities_of.Goals as goal

pub overflow_cast-count : goal.overflow_cast-count
overflow_cast-count c =
    let few = (sizes_of c.into_parts-parts.result.image c.granules-granules.ensures.formed).harts_few in
    let same : c.harts.result.now ≡ c.into_parts-parts.result.image.harts = c.harts.ensures in
    let count : length c.harts.result.now ≡ length c.into_parts-parts.result.image.harts = ap length same in
    omega arith

pub hart_authorities-requires-clause-meant : goal.hart_authorities-requires-clause-meant
hart_authorities-requires-clause-meant c =
    graph_meant c.into_parts-parts.result.image c.into_parts-parts.result.sweeps.items c.into_parts-parts.result.sight c.into_parts-parts.result.graph
    c.into_parts-parts.result.reached c.into_parts-parts.result.limit c.into_parts-parts.ensures.kept

pub hart_authorities-requires-clause-few : goal.hart_authorities-requires-clause-few
hart_authorities-requires-clause-few c =
    let few = (sizes_of c.into_parts-parts.result.image c.granules-granules.ensures.formed).harts_few in
    let wide = c.into_parts-parts.ensures.kept.wide in
    omega arith

pub greatest_of-requires-clause-few : goal.greatest_of-requires-clause-few
greatest_of-requires-clause-few c =
    let few = (sizes_of c.into_parts-parts.result.image c.granules-granules.ensures.formed).harts_few in
    let wide = c.into_parts-parts.ensures.kept.wide in
    omega arith

pub greatest_of-requires-clause-meant : goal.greatest_of-requires-clause-meant
greatest_of-requires-clause-meant c =
    graph_meant c.into_parts-parts.result.image c.into_parts-parts.result.sweeps.items c.into_parts-parts.result.sight c.into_parts-parts.result.graph
    c.into_parts-parts.result.reached c.into_parts-parts.result.limit c.into_parts-parts.ensures.kept

pub returns-clause-hart : goal.returns-clause-hart
returns-clause-hart c = λ number.
    on_kept c.into_parts-parts.result.image c.into_parts-parts.result.sweeps.items c.into_parts-parts.result.sight c.into_parts-parts.result.graph
    c.into_parts-parts.result.reached c.into_parts-parts.result.limit c.into_parts-parts.ensures.kept
    (λ (at : ℕ → Option MachineState). IfSome (slice_get c.in_ok-harts.harts.items number)
    (λ list. AreGreatest at (hart_values number) list.items)) c.args.kept c.into_parts-parts.ensures.parts
    (c.in_ok-harts.ensures.lists number)

pub returns-clause-memory : goal.returns-clause-memory
returns-clause-memory c =
    on_kept c.into_parts-parts.result.image c.into_parts-parts.result.sweeps.items c.into_parts-parts.result.sight c.into_parts-parts.result.graph
    c.into_parts-parts.result.reached c.into_parts-parts.result.limit c.into_parts-parts.ensures.kept
    (λ (at : ℕ → Option MachineState). AreGreatest at memory_values c.in_ok-memory.memory.items)
    c.args.kept c.into_parts-parts.ensures.parts c.in_ok-memory.ensures
