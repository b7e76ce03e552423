-- What a sink has taken of a text, put by put.
use Rattle.std.proofs.Common.{◌≡◌, ℕ, ◌+◌, List, [], ◌++◌, Option, take, drop, refl, append_assoc, append-nil, take-append-drop, Result, Ok, Err, OnOk, arith}
use Rattle.std.specs.Io.KnownBytes.{Appends}
use Rattle.std.proofs.KnownBytes.{Appends-nil, Appends-trans}
use Rattle.sinks.specs.Sinks.{TakesAllBut, TakesPrefix}

-- nothing was taken yet
pub takes_none : (at : Option (List ℕ)) (text : List ℕ) → TakesAllBut at at text text
takes_none at text = record { taken = []; grown = Appends-nil at; parts = refl }

-- one put more takes the first bytes of what is left
pub takes_more : (before now after : Option (List ℕ)) (left rest text : List ℕ) (n : ℕ)
    → rest ≡ drop n left → TakesAllBut before now left text → Appends now after (take n left)
    → TakesAllBut before after rest text
takes_more before now after left rest text n rest_is so_far more = record {
  taken = so_far.taken ++ take n left;
  grown = Appends-trans before now after _ _ so_far.grown more;
  parts = rw (rest_is, append_assoc, take-append-drop) so_far.parts;
}

-- all was taken
pub takes_all : (before after : Option (List ℕ)) (left text : List ℕ)
    → left ≡ [] → TakesAllBut before after left text → Appends before after text
takes_all before after left text none all =
    let same : all.taken ≡ text = rw append-nil at (rw none at all.parts) in
    rw same at all.grown

-- all that was kept was put
pub puts_all : (before after : Option (List ℕ)) (still text put : List ℕ)
    → still ≡ [] → put ≡ text → Appends before after put → TakesAllBut before after still text
puts_all before after still text put none same more = record {
  taken = put;
  grown = more;
  parts = rw (none, append-nil) same;
}

-- what is kept was put, up to what is still kept, and rest follows
pub takes_then : (before now after : Option (List ℕ)) (kept rest left still text : List ℕ)
    → kept ++ rest ≡ left → TakesAllBut before now left text → TakesAllBut now after still kept
    → TakesAllBut before after (still ++ rest) text
takes_then before now after kept rest left still text joined so_far more = record {
  taken = so_far.taken ++ more.taken;
  grown = Appends-trans before now after _ _ so_far.grown more.grown;
  parts =
      let back : more.taken ++ (still ++ rest) ≡ left = rw (← append_assoc) (rw more.parts joined) in
      rw (append_assoc, back) so_far.parts;
}

-- the same where the put failed
pub stops_then : (before now after : Option (List ℕ)) (kept rest left text : List ℕ)
    → kept ++ rest ≡ left → TakesAllBut before now left text → TakesPrefix now after kept
    → TakesPrefix before after text
stops_then before now after kept rest left text joined so_far stop =
    (stop.0 ++ rest, takes_then before now after kept rest left stop.0 text joined so_far stop.1)

-- a text, and then more
pub takes_on : (before now after : Option (List ℕ)) (kept still text more : List ℕ)
    → TakesAllBut before now kept text → TakesAllBut now after still (kept ++ more)
    → TakesAllBut before after still (text ++ more)
takes_on before now after kept still text more so_far next = record {
  taken = so_far.taken ++ next.taken;
  grown = Appends-trans before now after _ _ so_far.grown next.grown;
  parts = rw (append_assoc, next.parts, ← append_assoc, so_far.parts) refl;
}

pub stops_on : (before now after : Option (List ℕ)) (kept text more : List ℕ)
    → TakesAllBut before now kept text → TakesPrefix now after (kept ++ more)
    → TakesPrefix before after (text ++ more)
stops_on before now after kept text more so_far stop = (stop.0, takes_on before now after kept stop.0 text more so_far stop.1)

-- a prefix of a text is one of a longer text
pub begins_on : (before after : Option (List ℕ)) (text more : List ℕ)
    → TakesPrefix before after text → TakesPrefix before after (text ++ more)
begins_on before after text more begun = (
  begun.0 ++ more,
  record {
    taken = begun.1.taken;
    grown = begun.1.grown;
    parts = rw (← append_assoc, begun.1.parts) refl;
  },
)

-- what is kept at the end is put with the last part
pub takes_to_end : (before now after : Option (List ℕ)) (kept text more : List ℕ)
    → TakesAllBut before now kept text → Appends now after (kept ++ more) → Appends before after (text ++ more)
takes_to_end before now after kept text more so_far last =
    let whole : so_far.taken ++ (kept ++ more) ≡ text ++ more = rw (← append_assoc, so_far.parts) refl in
    rw whole at (Appends-trans before now after _ _ so_far.grown last)

-- no put failed
pub no_failure : (first before after : ℕ) → after ≡ before + 0 → before ≡ first → after ≡ first
no_failure first before after none same = omega arith

-- the same of a last part, where it was done
pub takes_on_ok : {E : Type 0} (result : Result (Unit {0}) E) (before now after : Option (List ℕ)) (kept still text more whole : List ℕ)
    → text ++ more ≡ whole → TakesAllBut before now kept text → OnOk result (TakesAllBut now after still (kept ++ more))
    → OnOk result (TakesAllBut before after still whole)
takes_on_ok (Ok done) before now after kept still text more whole same so_far next =
    rw same at (takes_on before now after kept still text more so_far next)
takes_on_ok (Err fault) before now after kept still text more whole same so_far next = tt
