-- The uses of names are the free names.
use Rattle.std.proofs.Common.{◌≡◌, refl, ap, ◌∙◌, Bool, true, false, not, cond, ◌&&◌, List, [], ◌∷◌, ◌++◌, map}
use Rattle.std.specs.Prelude.{filter}
use Rattle.std.proofs.lemmas.List.{map-append}
use Rattle.tree_model.specs.Tree.{TreeOf, var, literal, send, cascade, assign, block, brace, return, TreesOf, no_trees, more_trees, MessagesOf, no_messages, more_messages, StatementsOf, no_statements, more_statements}
use Rattle.scope_model.specs.declared.local.ControlForm.{ControlForm}
use Rattle.scope_model.specs.Control.{meets, is_loop}
use Rattle.scope_model.specs.Scope.{declares}
use Rattle.scope_model.specs.FreeNames.{free_occurrences, free_in_trees, free_in_messages, free_in_statements}
use Rattle.scope_model.specs.Uses.{UseOf, enclosed, uses_in_block, uses, trees_uses, messages_uses, statements_uses}

-- the names of uses
abbrev names_of : {N : Type 0} → List (UseOf N) → List N
names_of us = map (λ u. u.name) us

module _ {N : Type 0} where
  -- uses that stand in a closure
  names_of-enclosed : (us : List (UseOf N)) → names_of (map enclosed us) ≡ names_of us
  names_of-enclosed [] = refl
  names_of-enclosed (u ∷ us) = ap (λ (ns : List N). u.name ∷ ns) (names_of-enclosed us)

  -- uses in a block
  names_of-uses_in_block : (in_place : Bool) (us : List (UseOf N)) → names_of (uses_in_block in_place us) ≡ names_of us
  names_of-uses_in_block true us = refl
  names_of-uses_in_block false us = names_of-enclosed us

  -- the uses whose names pass a test
  names_of-filter : (test : N → Bool) (us : List (UseOf N)) → names_of (filter (λ u. test u.name) us) ≡ filter test (names_of us)
  names_of-filter test [] = refl
  names_of-filter test (u ∷ us) =
      elim (test u.name) as (λ b. names_of (cond b (u ∷ filter (λ v. test v.name) us) (filter (λ v. test v.name) us)) ≡ cond b (u.name ∷ filter test (names_of us)) (filter test (names_of us))) [
        | true ↦ ap (λ (ns : List N). u.name ∷ ns) (names_of-filter test us)
        | false ↦ names_of-filter test us
      ]

module _ {N : Type 0} (same : N → N → Bool) (is_pseudo : N → Bool) (form : N → ControlForm) where
  -- the names of the uses in a tree
  mutual
    pub names_of-uses : (in_place : Bool) (t : TreeOf N) → names_of (uses same is_pseudo form in_place t) ≡ free_occurrences same is_pseudo t
    names_of-uses in_place (var n) = refl
    names_of-uses in_place (literal l) = refl
    names_of-uses in_place (send r s args) =
        map-append (λ u. u.name) (uses same is_pseudo form (is_loop (form s) && meets (form s) r args) r) (trees_uses same is_pseudo form (meets (form s) r args) args)
        ∙ (λ i. names_of-uses (is_loop (form s) && meets (form s) r args) r i ++ names_of-trees_uses (meets (form s) r args) args i)
    names_of-uses in_place (cascade r ms) =
        map-append (λ u. u.name) (uses same is_pseudo form false r) (messages_uses same is_pseudo form ms)
        ∙ (λ i. names_of-uses false r i ++ names_of-messages_uses ms i)
    names_of-uses in_place (assign n t) = ap (λ (ns : List N). n ∷ ns) (names_of-uses false t)
    names_of-uses in_place (block ps ts ss e) =
        names_of-uses_in_block in_place _
        ∙ names_of-filter (λ n. not (declares same is_pseudo ps ts n)) (statements_uses same is_pseudo form ss)
        ∙ ap (filter (λ n. not (declares same is_pseudo ps ts n))) (names_of-statements_uses ss)
    names_of-uses in_place (brace ts) = names_of-trees_uses false ts
    names_of-uses in_place (return t) = names_of-uses false t

    pub names_of-trees_uses : (in_place : Bool) (ts : TreesOf N) → names_of (trees_uses same is_pseudo form in_place ts) ≡ free_in_trees same is_pseudo ts
    names_of-trees_uses in_place no_trees = refl
    names_of-trees_uses in_place (more_trees t ts) =
        map-append (λ u. u.name) (uses same is_pseudo form in_place t) (trees_uses same is_pseudo form in_place ts)
        ∙ (λ i. names_of-uses in_place t i ++ names_of-trees_uses in_place ts i)

    pub names_of-messages_uses : (ms : MessagesOf N) → names_of (messages_uses same is_pseudo form ms) ≡ free_in_messages same is_pseudo ms
    names_of-messages_uses no_messages = refl
    names_of-messages_uses (more_messages s args ms) =
        map-append (λ u. u.name) (trees_uses same is_pseudo form false args) (messages_uses same is_pseudo form ms)
        ∙ (λ i. names_of-trees_uses false args i ++ names_of-messages_uses ms i)

    pub names_of-statements_uses : (ss : StatementsOf N) → names_of (statements_uses same is_pseudo form ss) ≡ free_in_statements same is_pseudo ss
    names_of-statements_uses no_statements = refl
    names_of-statements_uses (more_statements c t ss) =
        map-append (λ u. u.name) (uses same is_pseudo form false t) (statements_uses same is_pseudo form ss)
        ∙ (λ i. names_of-uses false t i ++ names_of-statements_uses ss i)
