-- A table that has the name `self` has it still among more names.
use Rattle.std.proofs.Common.{◌≡◌, ℕ, suc, ◌+◌, ◌<◌, Bool, true, false, not, List, [], ◌∷◌, ◌++◌, length, length-append, Some, None, sym, ap, subst, refl, ◌∙◌, arith, codes}
use Rattle.std.specs.Prelude.{unwrap_or, cond, nat_lt}
use Rattle.std.specs.List.{position_or_len}
use Rattle.std.proofs.lemmas.Bool.{ltb-true, ltb-false}
use Rattle.rb_base.specs.Names.{name_at, text_eq}
use Rattle.event_trees.specs.Naming.{Grows}
use Rattle.commands.specs.Views.{self_in, HasSelf}
use Rattle.image_rewriting.proofs.Grown.{longer}
use Rattle.image_rewriting.proofs.SameRule.{name-stays}

-- its first place in a table, or the length
abbrev self-place : List (List ℕ) → ℕ
self-place names = position_or_len (text_eq (codes "self")) names

-- the number of a place, where that is one of the table
abbrev placed : ℕ → Bool → ℕ
placed n b = unwrap_or (cond b (Some n) None) 0

-- a table that begins with it
first-place : (names : List (List ℕ)) → 0 < length names → name_at names 0 ≡ codes "self" → self-place names < length names
first-place [] h e = absurd (omega (arith, h))
first-place (x ∷ xs) h e =
    let same : text_eq (codes "self") x ≡ true = ap (text_eq (codes "self")) e in
    let first : self-place (x ∷ xs) ≡ 0 = ap (λ (b : Bool). cond (not b) (1 + self-place xs) 0) same in
    omega (arith, first)

-- a table that has it
has-place : (names : List (List ℕ)) → HasSelf names → self-place names < length names
has-place names h = by (nat_lt (self-place names) (length names)) refl
  where
    by : (b : Bool) → nat_lt (self-place names) (length names) ≡ b → self-place names < length names
    by true e = ltb-true (self-place names) (length names) e
    by false e =
        let zero : self_in names ≡ 0 = ap (placed (self-place names)) e in
        first-place names (subst (λ k. k < length names) zero h.0) (subst (λ k. name_at names k ≡ codes "self") zero h.1)

-- the first place stays where others come at the end
place-stays : (names more : List (List ℕ)) → self-place names < length names → self-place (names ++ more) ≡ self-place names
place-stays [] more h = absurd (omega (arith, h))
place-stays (x ∷ xs) more h = by (text_eq (codes "self") x) h (place-stays xs more)
  where
    by : (b : Bool) → cond (not b) (1 + self-place xs) 0 < suc (length xs) → (self-place xs < length xs → self-place (xs ++ more) ≡ self-place xs) → cond (not b) (1 + self-place (xs ++ more)) 0 ≡ cond (not b) (1 + self-place xs) 0
    by true h go = refl
    by false h go = ap (λ k. 1 + k) (go (omega (arith, h)))

-- the number of a table that grows
self-stays : (names later : List (List ℕ)) → HasSelf names → Grows names later → self_in later ≡ self_in names
self-stays names later h g =
    let here = has-place names h in
    let place : self-place later ≡ self-place names = ap self-place g.grown ∙ place-stays names g.more here in
    let there : self-place later < length later = omega (arith, here, place, ap length g.grown, length-append names g.more) in
    by (nat_lt (self-place later) (length later)) (nat_lt (self-place names) (length names)) refl refl here there place
  where
    by : (b c : Bool) → nat_lt (self-place later) (length later) ≡ b → nat_lt (self-place names) (length names) ≡ c → self-place names < length names → self-place later < length later → self-place later ≡ self-place names
        → placed (self-place later) b ≡ placed (self-place names) c
    by true true e f x y p = p
    by true false e f x y p = absurd (omega (arith, x, ltb-false (self-place names) (length names) f))
    by false c e f x y p = absurd (omega (arith, y, ltb-false (self-place later) (length later) e))

pub self-grown : (names later : List (List ℕ)) → HasSelf names → Grows names later → HasSelf later
self-grown names later h g =
    let same = sym (self-stays names later h g) in
    (subst (λ k. k < length later) same (longer names later g (self_in names) h.0), subst (λ k. name_at later k ≡ codes "self") same (name-stays names later g (self_in names) h.0 ∙ h.1))
