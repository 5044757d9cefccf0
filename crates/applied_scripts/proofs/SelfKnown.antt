-- A table that has the name `self`.
use Rattle.std.proofs.Common.{◌≡◌, ℕ, ◌<◌, List, length, Some, Option, ap, subst, codes}
use Rattle.std.specs.Prelude.{unwrap_or}
use Rattle.rb_base.specs.Names.{name_at, number_in}
use Rattle.commands.specs.Views.{self_in, HasSelf}
use Rattle.script_lang.proofs.Growing.{interned-text, interned-known}

pub has-self : (names : List (List ℕ)) (n : ℕ) → Some n ≡ number_in names (codes "self") → HasSelf names
has-self names n e =
    let is : n ≡ self_in names = ap (λ (o : Option ℕ). unwrap_or o 0) e in
    (subst (λ k. k < length names) is (interned-known names (codes "self") n e), subst (λ k. name_at names k ≡ codes "self") is (interned-text names (codes "self") n e))
