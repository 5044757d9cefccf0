-- Pieces written before a text that is kept from its end.
use Rattle.std.proofs.Common.{◌≡◌, refl, sym, ap, ◌∙◌, ℕ, ◌-◌, false, ◌==◌, List, [], ◌∷◌, ◌++◌, length, take, drop, reverse, append-nil, length-append, arith}
use Rattle.std.proofs.lemmas.Bool.{or_parts}
use Rattle.std.proofs.lemmas.List.{take_all, drop_all, take_at, drop_at, length-reverse, reverse-append, reverse-reverse}
use Rattle.std.specs.List.{list_any}
use Rattle.rb_base.specs.Doubling.{doubled}

-- nothing is written twice where there is no quote
pub doubled-without : (s : List ℕ) → list_any (λ b. b == 39) s ≡ false → doubled 39 s ≡ s
doubled-without [] h = refl
doubled-without (b ∷ s) h =
    let parts = or_parts (b == 39) (list_any (λ b. b == 39) s) h in rw (parts.0) (ap (λ t. b ∷ t) (doubled-without s parts.1))

-- a piece behind the bytes of a text that were turned round, and then turned round itself
pub turned_behind : (old piece whole part : List ℕ) (at n : ℕ) → whole ≡ old ++ piece → at ≡ length old → n ≡ length whole - at → part ≡ reverse (take n (drop at whole)) →
    (length (take at whole ++ (part ++ drop n (drop at whole))) ≡ length whole) × (reverse (take at whole ++ (part ++ drop n (drop at whole))) ≡ piece ++ reverse old)
turned_behind old piece whole part at n e h g f =
    let m : n ≡ length piece = omega (arith, ap length e, length-append old piece) in
    let front : take at whole ≡ old = ap (take at) e ∙ take_at old piece at (sym h) in
    let tail : drop at whole ≡ piece = ap (drop at) e ∙ drop_at old piece at (sym h) in
    let all : take n piece ≡ piece = take_all n piece (omega arith) in
    let none : drop n piece ≡ [] = drop_all n piece (omega arith) in
    rw (f, front, tail, all, none, append-nil (reverse piece)) (
      omega (arith, length-append old (reverse piece), length-reverse piece, ap length e, length-append old piece),
      rw (reverse-append old (reverse piece), reverse-reverse piece) refl,
    )

pub ruleset quote_rules = doubled-without
