-- What two texts mean as a run, and why a run of them is refused.
use Rattle.std.proofs.Common.{◌≡◌, Bool, true, false, ℕ, ◌+◌, ◌≤◌, List, length, refl, sym, ap, subst, ◌∙◌, inl, inr, IsErrAnd, arith}
use Rattle.std.proofs.lemmas.Bool.Decides.{nat_tests}
use Rattle.std.proofs.lemmas.Result.{err_from_is_err_and}
use Rattle.std.specs.Prelude.{nat_lt, ◌↔◌, ◌⊎◌, if◌then◌else◌, Result, Ok, Err, IsOk}
use Rattle.listings.specs.declared.fault.ListingFault.{ListingFault}
use Rattle.listings.specs.Faults.{Gives, no_memory}
use Rattle.grammar.specs.declared.fault.ListingFaultKind.TheVariants.{Size}
use Rattle.listings.specs.Meaning.{listing_meaning, listing_limit, whole_fault}
use Rattle.orders.specs.declared.fault.OrderFault.{OrderFault}
use Rattle.orders.specs.Orders.{order_of}
use Rattle.cheri_model.specs.declared.operation.Op.{Op}
use Rattle.cheri_model.specs.runs.Image.{ImageParts}
use Rattle.cores.specs.declared.faults.BootFault.{BootFault}
use Rattle.cores.specs.declared.faults.BootFault.TheVariants as boot
use Rattle.simulation.specs.declared.faults.SimFault.{SimFault}
use Rattle.simulation.specs.declared.faults.SimFault.TheVariants as sim
use Rattle.cores.specs.Cores.{is_limit}
use Rattle.cores.specs.Runs.{IsConfinedRun, Run, run_of}
use Rattle.simulation.specs.Simulation.{IsRefusedRun, IsRunAnd, IsUnbooted, IsUnrun, failures_of_run, run_meant, run_of_texts}

-- a limit is good or not
by_limit : {A : Type 0} (limit : ℕ) → (is_limit limit ≡ true → A) → (is_limit limit ≡ false → A) → A
by_limit {A} limit good bad = by (is_limit limit) refl
  where
    by : (b : Bool) → is_limit limit ≡ b → A
    by true is = good is
    by false is = bad is

-- with a good limit it is good that nothing was refused for it
limit_good : {X : Type 0} (limit : ℕ) (x : X) →
    (◌≡◌ {A = Result X BootFault} (Ok x) (Err boot.Limit)) ↔ (is_limit limit ≡ false) → is_limit limit ≡ true
limit_good {X} limit x clause = by_limit limit (λ good. good) (λ bad. no bad (clause.1 bad))
  where
    no : is_limit limit ≡ false → ◌≡◌ {A = Result X BootFault} (Ok x) (Err boot.Limit) → is_limit limit ≡ true
    no bad is = absurd cc

module _ (listing order : List ℕ) (limit : ℕ) (image : ImageParts) (operations : List Op)
    (listing_is : listing_meaning listing ≡ Ok image) (order_is : Ok operations ≡ order_of order) where
  texts_mean : run_of_texts listing order limit ≡ run_meant (Ok image) (Ok operations) limit
  texts_mean = ap (λ i. run_meant i (order_of order) limit) listing_is ∙ ap (λ o. run_meant (Ok image) o limit) (sym order_is)

  -- the run of good texts within a good limit
  pub run_is : (run : Run) → (◌≡◌ {A = Result Run BootFault} (Ok run) (Err boot.Limit)) ↔ (is_limit limit ≡ false) →
      run ≡ run_of image operations limit → run_of_texts listing order limit ≡ Ok run
  unfolding run_meant
  run_is run clause same =
      texts_mean
      ∙ (ap (λ (b : Bool). if b then Ok (run_of image operations limit) else Err (sim.Boot boot.Limit)) (limit_good limit run clause)
      ∙ ap (λ (r : Run). Ok r) (sym same))

  -- and one that was not booted
  pub unbooted : (fault : BootFault) →
      (◌≡◌ {A = Result Run BootFault} (Err fault) (Err boot.Limit)) ↔ (is_limit limit ≡ false) →
      IsUnbooted fault (run_of_texts listing order limit)
  unfolding run_meant
  unbooted boot.Limit clause =
      texts_mean ∙ ap (λ (b : Bool). if b then Ok (run_of image operations limit) else Err (sim.Boot boot.Limit)) (clause.0 refl)
  unbooted boot.NoMemory clause =
      by_limit limit
      (λ good. subst (λ (r : Result Run SimFault). IsOk r) (sym (texts_mean
      ∙ ap (λ (b : Bool). if b then Ok (run_of image operations limit) else Err (sim.Boot boot.Limit)) good)) refl)
      (λ bad. no (clause.1 bad))
    where
      no : ◌≡◌ {A = Result Run BootFault} (Err boot.NoMemory) (Err boot.Limit) → IsUnbooted boot.NoMemory (run_of_texts listing order limit)
      no is = absurd cc

-- a listing of which there is a run has a meaning
pub listing_means : (listing order : List ℕ) (limit : ℕ) (run : Run) → run_of_texts listing order limit ≡ Ok run →
    (image : ImageParts) × (listing_meaning listing ≡ Ok image)
unfolding run_meant
listing_means listing order limit run is = by (listing_meaning listing) refl
  where
    no : (fault : ListingFault) → ◌≡◌ {A = Result Run SimFault} (Err (sim.Listing fault)) (Ok run) →
        (image : ImageParts) × (listing_meaning listing ≡ Ok image)
    no fault other = absurd cc

    by : (meaning : Result ImageParts ListingFault) → listing_meaning listing ≡ meaning →
        (image : ImageParts) × (listing_meaning listing ≡ Ok image)
    by (Ok image) means = (image, means)
    by (Err fault) means = no fault (sym (ap (λ m. run_meant m (order_of order) limit) means) ∙ is)

by_length : (text : List ℕ) (image : ImageParts) (rest : Result ImageParts ListingFault) (long : Bool) → nat_lt listing_limit (length text) ≡ long
    → (if long then Err (whole_fault Size) else rest) ≡ Ok image → length text ≤ listing_limit
by_length text image rest true is meant = absurd (cc)
by_length text image rest false is meant = grind (arith, nat_tests)

-- a listing that has a meaning is not too long
pub listing_fits : (text : List ℕ) (image : ImageParts) → listing_meaning text ≡ Ok image → length text ≤ listing_limit
unfolding listing_meaning
listing_fits text image meant = by_length text image _ (nat_lt listing_limit (length text)) refl meant

-- what holds of a run holds of what means it
pub of_run : (meaning : Result Run SimFault) (run : Run) (IsSo : Run → Type 0) → meaning ≡ Ok run → IsConfinedRun run →
    IsSo run → IsRunAnd meaning IsSo
of_run meaning run IsSo is confined so = subst (λ (r : Result Run SimFault). IsRunAnd r IsSo) (sym is) (confined, so)

-- What was refused before any report says nothing of one.
pub unrun_says : (run : Result Run SimFault) (fault : SimFault) (IsSo : Run → Type 0) → IsUnrun run fault →
    IsRefusedRun run IsSo fault
unrun_says run (sim.Listing fault) IsSo is = is
unrun_says run (sim.Order fault) IsSo is = is
unrun_says run (sim.Boot fault) IsSo is = is
unrun_says (Ok run) (sim.Report fault) IsSo is = absurd is.1
unrun_says (Err other) (sim.Report fault) IsSo is = absurd is

unrun_fails_nothing : (X : Type 0) (run : Result Run SimFault) (fault : SimFault) → IsUnrun run fault →
    failures_of_run {X = X} (Err fault) ≡ 0
unrun_fails_nothing X run (sim.Listing fault) is = refl
unrun_fails_nothing X run (sim.Order fault) is = refl
unrun_fails_nothing X run (sim.Boot fault) is = refl
unrun_fails_nothing X (Ok run) (sim.Report fault) is = absurd is.1
unrun_fails_nothing X (Err other) (sim.Report fault) is = absurd is

-- what the answer of a run says of failures is what its fault says
pub failures_are : {X : Type 0} (answer : Result X SimFault) (fault : SimFault) → IsErrAnd answer (λ f. f ≡ fault) →
    failures_of_run answer ≡ failures_of_run {X = X} (Err fault)
failures_are answer fault is =
    let p = err_from_is_err_and answer is in
    ap failures_of_run (p.1 ∙ ap (λ f. Err f) p.2)

-- a fault before the report is no failure of the sink
pub none_fails : {X : Type 0} (run : Result Run SimFault) (answer : Result X SimFault) (fault : SimFault) (failures : ℕ) →
    IsErrAnd answer (λ f. f ≡ fault) → IsUnrun run fault → failures ≡ failures + failures_of_run answer
none_fails {X} run answer fault failures is unrun =
    omega (arith, failures_are answer fault is, unrun_fails_nothing X run fault unrun)

-- a listing that was refused
pub listing_refused : (listing order : List ℕ) (limit : ℕ) (fault : ListingFault) →
    Gives {X = ImageParts} (Err fault) (listing_meaning listing) →
    (fault ≡ no_memory) ⊎ (run_of_texts listing order limit ≡ Err (sim.Listing fault))
unfolding run_meant
listing_refused listing order limit fault (inl none) = inl none
listing_refused listing order limit fault (inr is) = inr (ap (λ i. run_meant i (order_of order) limit) is)

-- an order that was refused
pub order_refused : (listing order : List ℕ) (limit : ℕ) (image : ImageParts) (fault : OrderFault) →
    listing_meaning listing ≡ Ok image → Err fault ≡ order_of order →
    run_of_texts listing order limit ≡ Err (sim.Order fault)
unfolding run_meant
order_refused listing order limit image fault listing_is order_is =
    ap (λ i. run_meant i (order_of order) limit) listing_is ∙ ap (λ o. run_meant (Ok image) o limit) (sym order_is)
