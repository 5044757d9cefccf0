-- Names that have numbers, in a table that grows.
use Rattle.std.proofs.Common.{◌≡◌, ℕ, ◌<◌, List, [], ◌∷◌, length, get_or, map, Some, slice_get, refl, sym, ap, ◌∙◌}
use Rattle.std.specs.Prelude.{unwrap_or}
use Rattle.std.specs.List.{AllByRecursion}
use Rattle.std.proofs.lemmas.Option.{slice_get-get_or, slice_get_within}
use Rattle.rb_base.specs.Names.{name_at}
use Rattle.tree_model.specs.Tree.{TreeOf, TreesOf, MessagesOf, StatementsOf, map_names}
use Rattle.tree_model.specs.AllNames.{AllNames, TreesNames, MessagesNames, StatementsNames}
use Rattle.tree_model.proofs.AllNamesLemmas.{map_names-same, map_trees-same, map_statements-same, AllNames-implies, TreesNames-implies, MessagesNames-implies, StatementsNames-implies}
use Rattle.event_trees.specs.Naming.{Grows}
use Rattle.event_trees.proofs.Known.{text_stays}
use Rattle.pattern_model.specs.Bindings.{BoundOf, a_part, a_run, a_selector, a_keyword, a_message, BindingOf}
use Rattle.pattern_model.specs.Patterns.{PatternOf}
use Rattle.pattern_model.specs.Named.{map_pattern, map_bound, map_binding}
use Rattle.patterns.specs.Names.{PatternNames}
use Rattle.patterns.specs.declared.tree.Rule.{Rule}
use Rattle.filled_patterns.specs.Bound.{BoundNames, BindingNames}
use Rattle.rewritten_code.specs.Changed.{Known, RuleNames}
use Rattle.rewritten_code.proofs.PatternsSame.{pattern_same, pattern_implies}

module _ {names later : List (List ℕ)} (g : Grows names later) where
  -- a number keeps its text
  kept : (n : ℕ) → n < length names → slice_get later n ≡ Some (get_or names n [])
  kept n h = text_stays n (get_or names n []) g (slice_get-get_or names n [] h)

  pub still_known : (n : ℕ) → Known names n → Known later n
  still_known n h = slice_get_within later n (get_or names n []) (kept n h)

  pub same_text : (n : ℕ) → Known names n → name_at later n ≡ name_at names n
  same_text n h = ap (λ o. unwrap_or o []) (kept n h ∙ sym (slice_get-get_or names n [] h))

  -- what is known stays known
  pub tree_known : (t : TreeOf ℕ) → AllNames (Known names) t → AllNames (Known later) t
  tree_known t h = AllNames-implies (Known names) (Known later) still_known t h

  pub trees_known : (ts : TreesOf ℕ) → TreesNames (Known names) ts → TreesNames (Known later) ts
  trees_known ts h = TreesNames-implies (Known names) (Known later) still_known ts h

  pub messages_known : (ms : MessagesOf ℕ) → MessagesNames (Known names) ms → MessagesNames (Known later) ms
  messages_known ms h = MessagesNames-implies (Known names) (Known later) still_known ms h

  pub statements_known : (ss : StatementsOf ℕ) → StatementsNames (Known names) ss → StatementsNames (Known later) ss
  statements_known ss h = StatementsNames-implies (Known names) (Known later) still_known ss h

  pub rule_known : (r : Rule) → RuleNames names r → RuleNames later r
  rule_known r h = record {
    pattern = pattern_implies (Known names) (Known later) still_known r.pattern h.pattern;
    replacement = pattern_implies (Known names) (Known later) still_known r.replacement h.replacement;
  }

  bound_known : (b : BoundOf ℕ) → BoundNames (Known names) b → BoundNames (Known later) b
  bound_known (a_part t) h = tree_known t h
  bound_known (a_run ss) h = statements_known ss h
  bound_known (a_selector n) h = still_known n h
  bound_known (a_keyword k) h = tt
  bound_known (a_message n ts) h = (still_known n h.0, trees_known ts h.1)

  pub binding_known : (b : BindingOf ℕ) → BindingNames (Known names) b → BindingNames (Known later) b
  binding_known b h = (still_known b.meta.name h.0, bound_known b.bound h.1)

  pub bindings_known : (bs : List (BindingOf ℕ)) → AllByRecursion (BindingNames (Known names)) bs → AllByRecursion (BindingNames (Known later)) bs
  bindings_known [] h = tt
  bindings_known (b ∷ bs) h = (binding_known b h.0, bindings_known bs h.1)

  -- what is known has the same texts
  pub same_tree : (t : TreeOf ℕ) → AllNames (Known names) t → map_names (name_at later) t ≡ map_names (name_at names) t
  same_tree t h = map_names-same (name_at later) (name_at names) t (AllNames-implies (Known names) (λ n. name_at later n ≡ name_at names n) same_text t h)

  pub same_pattern : (p : PatternOf ℕ) → PatternNames (Known names) p → map_pattern (name_at later) p ≡ map_pattern (name_at names) p
  same_pattern p h = pattern_same (Known names) (name_at later) (name_at names) same_text p h

  same_bound : (b : BoundOf ℕ) → BoundNames (Known names) b → map_bound (name_at later) b ≡ map_bound (name_at names) b
  same_bound (a_part t) h = ap a_part (same_tree t h)
  same_bound (a_run ss) h =
      ap a_run (map_statements-same (name_at later) (name_at names) ss (StatementsNames-implies (Known names) (λ n. name_at later n ≡ name_at names n) same_text ss h))
  same_bound (a_selector n) h = ap a_selector (same_text n h)
  same_bound (a_keyword k) h = refl
  same_bound (a_message n ts) h =
      let others = map_trees-same (name_at later) (name_at names) ts (TreesNames-implies (Known names) (λ n. name_at later n ≡ name_at names n) same_text ts h.1) in
      λ i. a_message (same_text n h.0 i) (others i)

  pub same_binding : (b : BindingOf ℕ) → BindingNames (Known names) b → map_binding (name_at later) b ≡ map_binding (name_at names) b
  same_binding b h = λ i. record { meta = record { kind = b.meta.kind; name = same_text b.meta.name h.0 i; doubled = b.meta.doubled }; bound = same_bound b.bound h.1 i }

  pub same_bindings : (bs : List (BindingOf ℕ)) → AllByRecursion (BindingNames (Known names)) bs → map (map_binding (name_at later)) bs ≡ map (map_binding (name_at names)) bs
  same_bindings [] h = refl
  same_bindings (b ∷ bs) h = λ i. same_binding b h.0 i ∷ same_bindings bs h.1 i
