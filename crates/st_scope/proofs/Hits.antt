-- Searches for an assignment in a closure.
use Rattle.std.proofs.Common.{◌≡◌, refl, sym, ◌∙◌, ap, ℕ, Bool, true, false, not, cond, ◌&&◌, ◌||◌, List, [], ◌∷◌, map}
use Rattle.std.specs.Prelude.{filter, nat_eq}
use Rattle.std.specs.List.{list_any}
use Rattle.std.proofs.lemmas.Bool.{eqb-true}
use Rattle.std.proofs.lemmas.List.Folds.{list_any-append}
use Rattle.tree_model.specs.Tree.{Notes, TreeOf, block}
use Rattle.scope_model.specs.declared.local.ControlForm.{ControlForm}
use Rattle.scope_model.specs.Scope.{declares}
use Rattle.scope_model.specs.Uses.{UseOf, enclosed, uses_in_block, uses, statements_uses}
use Rattle.st_tree.specs.View.{statements_of}
use Rattle.st_tree.specs.declared.tree.Statement.{Statement}
use Rattle.st_scope.specs.Captures.{is_hit}

-- `or` with true, with false, and `and` with false
or-true : (b : Bool) → (b || true) ≡ true
or-true true = refl
or-true false = refl

or-false : (b : Bool) → (b || false) ≡ b
or-false true = refl
or-false false = refl

and-false : (b : Bool) → (b && false) ≡ false
and-false true = refl
and-false false = refl

module _ (n : ℕ) where
  -- all uses that are enclosed
  list_any-enclosed : (inside : Bool) (us : List (UseOf ℕ)) → list_any (is_hit inside n) (map enclosed us) ≡ list_any (is_hit true n) us
  list_any-enclosed inside [] = refl
  list_any-enclosed inside (u ∷ us) = λ i. (nat_eq n u.name && (u.is_assignment && or-true inside i)) || list_any-enclosed inside us i

  -- the uses in a block
  list_any-uses_in_block : (inside in_place : Bool) (us : List (UseOf ℕ)) → list_any (is_hit inside n) (uses_in_block in_place us) ≡ list_any (is_hit (inside || not in_place) n) us
  list_any-uses_in_block inside true us = ap (λ b. list_any (is_hit b n) us) (sym (or-false inside))
  list_any-uses_in_block inside false us = list_any-enclosed inside us ∙ ap (λ b. list_any (is_hit b n) us) (sym (or-true inside))

  module _ (is_pseudo : ℕ → Bool) (ps ts : List ℕ) where
    -- a use of the name that the block declares is no hit outside
    hit_head : (inside : Bool) (u : UseOf ℕ) (d e : Bool) → declares nat_eq is_pseudo ps ts n ≡ d → nat_eq n u.name ≡ e
        → (not (declares nat_eq is_pseudo ps ts u.name) && is_hit inside n u) ≡ (not d && is_hit inside n u)
    hit_head inside u d true p q =
        ap (λ b. not b && is_hit inside n u) (ap (declares nat_eq is_pseudo ps ts) (sym (eqb-true n u.name q)) ∙ p)
    hit_head inside u d false p q =
        ap (λ b. not (declares nat_eq is_pseudo ps ts u.name) && (b && (u.is_assignment && (inside || u.in_closure)))) q
        ∙ and-false (not (declares nat_eq is_pseudo ps ts u.name))
        ∙ sym (and-false (not d))
        ∙ ap (λ b. not d && (b && (u.is_assignment && (inside || u.in_closure)))) (sym q)

    -- the first use of a filtered list
    any_head : (inside : Bool) (u : UseOf ℕ) (rest : List (UseOf ℕ)) (b : Bool)
        → list_any (is_hit inside n) (cond b (u ∷ rest) rest) ≡ ((b && is_hit inside n u) || list_any (is_hit inside n) rest)
    any_head inside u rest true = refl
    any_head inside u rest false = refl

    -- `and` over `or`
    and-or : (b c d : Bool) → ((b && c) || (b && d)) ≡ (b && (c || d))
    and-or true c d = refl
    and-or false c d = refl

    -- the uses that a block does not bind
    list_any-filter_declares : (inside : Bool) (us : List (UseOf ℕ))
        → list_any (is_hit inside n) (filter (λ u. not (declares nat_eq is_pseudo ps ts u.name)) us)
        ≡ (not (declares nat_eq is_pseudo ps ts n) && list_any (is_hit inside n) us)
    list_any-filter_declares inside [] = sym (and-false (not (declares nat_eq is_pseudo ps ts n)))
    list_any-filter_declares inside (u ∷ us) =
        any_head inside u (filter (λ v. not (declares nat_eq is_pseudo ps ts v.name)) us) (not (declares nat_eq is_pseudo ps ts u.name))
        ∙ (λ i. hit_head inside u (declares nat_eq is_pseudo ps ts n) (nat_eq n u.name) refl refl i || list_any-filter_declares inside us i)
        ∙ and-or (not (declares nat_eq is_pseudo ps ts n)) (is_hit inside n u) (list_any (is_hit inside n) us)

    -- the uses of a block, seen from outside
    pub list_any-block : (inside in_place : Bool) (us : List (UseOf ℕ))
        → list_any (is_hit inside n) (uses_in_block in_place (filter (λ u. not (declares nat_eq is_pseudo ps ts u.name)) us))
        ≡ (not (declares nat_eq is_pseudo ps ts n) && list_any (is_hit (inside || not in_place) n) us)
    list_any-block inside in_place us =
        list_any-uses_in_block inside in_place (filter (λ u. not (declares nat_eq is_pseudo ps ts u.name)) us) ∙ list_any-filter_declares (inside || not in_place) us

  -- an assignment, and then what follows
  pub list_any-assign : (inside : Bool) (m : ℕ) (us : List (UseOf ℕ))
      → list_any (is_hit inside n) (record { name = m; is_assignment = true; in_closure = false } ∷ us) ≡ ((nat_eq n m && inside) || list_any (is_hit inside n) us)
  list_any-assign inside m us = ap (λ b. (nat_eq n m && b) || list_any (is_hit inside n) us) (or-false inside)

pub ruleset hit_lemmas = (list_any-append, list_any-block, list_any-assign)

module _ (is_pseudo : ℕ → Bool) (form : ℕ → ControlForm) (n : ℕ) (inside in_place : Bool) (t : TreeOf ℕ) (ps ts : List ℕ) (ss : List Statement) (tail : Notes)
    (is_block : t ≡ block ps ts (statements_of ss) tail) (own_ps own_ts : List ℕ) (same_ps : own_ps ≡ ps) (same_ts : own_ts ≡ ts)
    (d : Bool) (tells : d ≡ declares nat_eq is_pseudo own_ps own_ts n) where
  -- the test of the declarations is of the block's own
  declared : d ≡ declares nat_eq is_pseudo ps ts n
  declared = tells ∙ (λ i. declares nat_eq is_pseudo (same_ps i) (same_ts i) n)

  -- what the block holds
  block_hits : (not d && list_any (is_hit (inside || not in_place) n) (statements_uses nat_eq is_pseudo form (statements_of ss)))
      ≡ list_any (is_hit inside n) (uses nat_eq is_pseudo form in_place t)
  block_hits =
      ap (λ b. not b && list_any (is_hit (inside || not in_place) n) (statements_uses nat_eq is_pseudo form (statements_of ss))) declared
      ∙ sym (list_any-block n is_pseudo ps ts inside in_place (statements_uses nat_eq is_pseudo form (statements_of ss)))
      ∙ ap (λ (u : TreeOf ℕ). list_any (is_hit inside n) (uses nat_eq is_pseudo form in_place u)) (sym is_block)

  -- a block that declares the name
  pub block_declares : d ≡ true → false ≡ list_any (is_hit inside n) (uses nat_eq is_pseudo form in_place t)
  block_declares p = ap (λ b. not b && list_any (is_hit (inside || not in_place) n) (statements_uses nat_eq is_pseudo form (statements_of ss))) (sym p) ∙ block_hits

  -- a block that does not
  pub block_passes : (these : List Statement) (closed r : Bool) → d ≡ false → these ≡ ss → closed ≡ (inside || not in_place)
      → r ≡ list_any (is_hit closed n) (statements_uses nat_eq is_pseudo form (statements_of these))
      → r ≡ list_any (is_hit inside n) (uses nat_eq is_pseudo form in_place t)
  block_passes these closed r p q o e =
      e
      ∙ (λ i. list_any (is_hit (o i) n) (statements_uses nat_eq is_pseudo form (statements_of (q i))))
      ∙ ap (λ b. not b && list_any (is_hit (inside || not in_place) n) (statements_uses nat_eq is_pseudo form (statements_of ss))) (sym p)
      ∙ block_hits
