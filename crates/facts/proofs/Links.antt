-- Links and unsealed values keep their tags.
use Rattle.std.proofs.Common.{◌≡◌, ℕ, true, false, refl}
use Rattle.std.specs.Prelude.{Ok}
use Rattle.cap_model.specs.values.CapValue.{CapValue, valid, raw, tag_of}
use Rattle.cap_model.specs.results.Addresses.{with_address}
use Rattle.cap_model.specs.results.Seals.{seal_entry, unsealed}
use Rattle.cheri_model.specs.steps.Checks.{first_failing, fetch_table}
use Rattle.cheri_model.specs.steps.Hart.{next_pcc, link}
use Rattle.cheri_model.proofs.Runs.Fetches.{IsFetched, fetched_is}

tagged_link : (pcc : CapValue) (count : ℕ) → IsFetched pcc count → tag_of (link pcc) ≡ true
unfolding link next_pcc with_address seal_entry
tagged_link (valid c) count is = rw (is.unsealed, is.executes) refl
tagged_link (raw word) count is = let untagged : false ≡ true = is.tagged in absurd (cc)

pub link_tagged : (pcc : CapValue) (count : ℕ) → first_failing (fetch_table pcc count) ≡ Ok tt → tag_of (link pcc) ≡ true
link_tagged pcc count passed = tagged_link pcc count (fetched_is pcc count passed)

pub unsealed_tag : (v : CapValue) → tag_of (unsealed v) ≡ tag_of v
unfolding unsealed
unsealed_tag (valid c) = refl
unsealed_tag (raw word) = refl
