-- Names that are found in a table.
use Rattle.std.proofs.Common.{◌≡◌, ℕ, ◌<◌, List, length, Some, Option, ap, subst, codes}
use Rattle.std.specs.Prelude.{unwrap_or}
use Rattle.rb_base.specs.Names.{name_at, number_in}
use Rattle.commands.specs.Views.{self_in, HasSelf}
use Rattle.file_reading.proofs.Growing.{interned-text, interned-known}

pub known-in : (names all : List (List ℕ)) (t : List ℕ) (n : ℕ) → names ≡ all → Some n ≡ number_in names t → n < length all
known-in names all t n same e = subst (λ (ns : List (List ℕ)). n < length ns) same (interned-known names t n e)

pub has-self : (names all : List (List ℕ)) (n : ℕ) → names ≡ all → Some n ≡ number_in names (codes "self") → HasSelf all
has-self names all n same e =
    let is : n ≡ self_in names = ap (λ (o : Option ℕ). unwrap_or o 0) e in
    subst HasSelf same (subst (λ k. k < length names) is (interned-known names (codes "self") n e), subst (λ k. name_at names k ≡ codes "self") is (interned-text names (codes "self") n e))
