-- One more name.
use Rattle.std.proofs.Common.{◌≡◌, ℕ, Bool, true, false, cond, List, Option, Some, None, refl, sym, subst, ap}
use Rattle.std.specs.Prelude.{bytes_eq, is_some}
use Rattle.std.proofs.lemmas.Slice.Eq.{bytes_eq-Decides}
use Rattle.asm_symbols.specs.Names.{first_of, defined}

first_or_none : (o : Option ℕ) → o ≡ first_of o None
first_or_none (Some number) = refl
first_or_none None = refl

-- what names say after one more is put in that was free
pub put_in : (old : List ℕ → Option ℕ) (name q : List ℕ) (number : ℕ) (same : Bool) → bytes_eq name q ≡ same → old name ≡ None
    → cond same (Some number) (old q) ≡ first_of (old q) (cond same (Some number) None)
put_in old name q number true e none =
    let missing : old q ≡ None = subst (λ n. old n ≡ None) ((bytes_eq-Decides name q).0 e) none in
    sym (ap (λ o. first_of o (Some number)) missing)
put_in old name q number false e none = first_or_none (old q)

-- what names say where the name is there
had : (o : Option ℕ) (number : ℕ) → is_some o ≡ true → o ≡ first_of o (Some number)
had (Some p) number e = refl
had None number e = absurd (cc)

pub kept_in : (old : List ℕ → Option ℕ) (name q : List ℕ) (number : ℕ) (same : Bool) → bytes_eq name q ≡ same → is_some (old name) ≡ true
    → old q ≡ first_of (old q) (cond same (Some number) None)
kept_in old name q number true e some = had (old q) number (subst (λ n. is_some (old n) ≡ true) ((bytes_eq-Decides name q).0 e) some)
kept_in old name q number false e some = first_or_none (old q)

pub none_where : (o : Option ℕ) → is_some o ≡ false → o ≡ None
none_where (Some number) e = absurd (cc)
none_where None e = refl
