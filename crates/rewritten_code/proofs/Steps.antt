-- One step of what becomes of a node.
use Rattle.std.proofs.Common.{◌≡◌, refl, sym, ap, subst, ◌∙◌, ℕ, List, [], ◌∷◌, map, Option, Some, None}
use Rattle.std.specs.Prelude.{Bool, true, false, ◌||◌, cond, option_map}
use Rattle.std.specs.List.{concat}
use Rattle.std.specs.Option.{option_map_or}
use Rattle.rb_base.specs.Names.{text_eq, name_at}
use Rattle.tree_model.specs.Tree.{TreeOf, var, literal, return}
use Rattle.pattern_model.specs.declared.kinds.MetaKind.{MetaKind}
use Rattle.pattern_model.specs.declared.kinds.MetaKind.TheVariants.{Name, Constant, Expression, Statement}
use Rattle.pattern_model.specs.Patterns.{PatternOf, meta, var_like}
use Rattle.pattern_model.specs.Bindings.{BindingOf}
use Rattle.pattern_model.specs.Words.{PatternWordsOf, text_pattern_words}
use Rattle.pattern_model.specs.Matches.{is_name, is_literal, is_expression, may_stand}
use Rattle.pattern_model.specs.MatchTree.{FoundOf, bindings_of, match_places, match_tree}
use Rattle.pattern_model.specs.Named.{map_pattern}
use Rattle.pattern_model.specs.Fill.{fill}
use Rattle.pattern_model.specs.Rewritten.{RuleOf, each_child, each_doubled, in_match, rewritten_by, rewritten}
use Rattle.pattern_laws.proofs.Rewriting.{rewritten-step}
use Rattle.patterns.specs.declared.tree.Rule.{Rule}
use Rattle.rewritten_code.specs.Changed.{is_whole, rule_at, becomes, replaced}
use Rattle.rewritten_code.proofs.LowerBound.{alone, match_meta}

module _ {N : Type 0} where
  -- what may stand for a metavariable is told by the node alone
  name_child : (q : N → Bool) (f : TreeOf N → TreeOf N) (t : TreeOf N) → is_name q (each_child f t) ≡ is_name q t
  name_child q f (var n) = refl
  name_child q f t = refl

  literal_child : (f : TreeOf N → TreeOf N) (t : TreeOf N) → is_literal (each_child f t) ≡ is_literal t
  literal_child f (literal l) = refl
  literal_child f t = refl

  expression_child : (f : TreeOf N → TreeOf N) (t : TreeOf N) → is_expression (each_child f t) ≡ is_expression t
  expression_child f (return t) = refl
  expression_child f t = refl

  stands_child : (q : N → Bool) (k : MetaKind) (f : TreeOf N → TreeOf N) (t : TreeOf N) → may_stand q k (each_child f t) ≡ may_stand q k t
  stands_child q Name f t = name_child q f t
  stands_child q Constant f t = literal_child f t
  stands_child q Expression f t = expression_child f t
  stands_child q Statement f t = refl
  stands_child q k f t = refl

-- one choice
not_doubled : {X : Type 0} (d : Bool) (x y z : X) → d ≡ false → cond (d || false) x z ≡ cond (d || false) y z
not_doubled true x y z e = let bad : ⊥ = cc in absurd bad
not_doubled false x y z e = refl

is_doubled : {X : Type 0} (d : Bool) (x z : X) → d ≡ true → cond (d || false) x z ≡ x
is_doubled true x z e = refl
is_doubled false x z e = let bad : ⊥ = cc in absurd bad

module _ {N : Type 0} (w : PatternWordsOf N) where
  -- the parts of a match are rewritten, unless the pattern is one doubled metavariable
  parts_same : (p : PatternOf N) (f : TreeOf N → TreeOf N) (t : TreeOf N) (bs : List (BindingOf N)) → match_tree w p t ≡ Some bs → is_whole p ≡ false
      → map (each_doubled (in_match p f)) bs ≡ map (each_doubled f) bs
  parts_same (meta m) f t bs e s = by (may_stand w.tests.is_pseudo m.kind t) refl
    where
      one : each_doubled (each_child f) (alone w m t) ≡ each_doubled f (alone w m t)
      one = not_doubled m.doubled _ _ _ s

      by : (b : Bool) → may_stand w.tests.is_pseudo m.kind t ≡ b → map (each_doubled (each_child f)) bs ≡ map (each_doubled f) bs
      by true g =
          let both : Some (alone w m t ∷ []) ≡ Some bs = sym (match_meta w m t true g) ∙ e in
          let is : alone w m t ∷ [] ≡ bs = cc both in
          subst (λ (ds : List (BindingOf N)). map (each_doubled (each_child f)) ds ≡ map (each_doubled f) ds) is (λ i. one i ∷ [])
      by false g =
          let both : None ≡ Some bs = sym (match_meta w m t false g) ∙ e in
          let bad : ⊥ = cc both in absurd bad
  parts_same (var_like n) f t bs e s = refl
  parts_same p f t bs e s = refl

  module _ (joined : List (List ℕ) → N) where
    -- by the bindings of a match, the parts are rewritten, or none is
    abbrev before : (TreeOf N → TreeOf N) → PatternOf N → TreeOf N → Option (List (BindingOf N)) → TreeOf N
    before f q t o = option_map_or (λ bs. fill w.tests.same joined (map (each_doubled (each_child f)) bs) q) o (each_child f t)

    abbrev after : (TreeOf N → TreeOf N) → PatternOf N → TreeOf N → Option (List (BindingOf N)) → TreeOf N
    after f q t o = option_map_or (λ bs. fill w.tests.same joined bs q) o (each_child f t)

    -- of a pattern that is one doubled metavariable the nodes right below are rewritten first
    whole : (f : TreeOf N → TreeOf N) (p q : PatternOf N) (t : TreeOf N) → is_whole p ≡ true
        → option_map_or (λ bs. fill w.tests.same joined (map (each_doubled (in_match p f)) bs) q) (match_tree w p t) (each_child f t)
        ≡ option_map_or (λ bs. fill w.tests.same joined bs q) (match_tree w p (each_child f t)) (each_child f t)
    whole f (meta m) q t s = by (may_stand w.tests.is_pseudo m.kind t) refl
      where
        one : each_doubled (each_child f) (alone w m t) ≡ alone w m (each_child f t)
        one = is_doubled m.doubled _ _ s

        by : (b : Bool) → may_stand w.tests.is_pseudo m.kind t ≡ b → before f q t (match_tree w (meta m) t) ≡ after f q t (match_tree w (meta m) (each_child f t))
        by true g =
            ap (before f q t) (match_meta w m t true g)
            ∙ (λ i. fill w.tests.same joined (one i ∷ []) q)
            ∙ ap (after f q t) (sym (match_meta w m (each_child f t) true (stands_child w.tests.is_pseudo m.kind f t ∙ g)))
        by false g =
            ap (before f q t) (match_meta w m t false g)
            ∙ ap (after f q t) (sym (match_meta w m (each_child f t) false (stands_child w.tests.is_pseudo m.kind f t ∙ g)))
    whole f (var_like n) q t s = let bad : ⊥ = cc in absurd bad
    whole f p q t s = let bad : ⊥ = cc in absurd bad

    module _ (r : RuleOf N) where
      -- one step, by the bindings of the match
      step : (t : TreeOf N) → rewritten w joined r t
          ≡ option_map_or (λ bs. fill w.tests.same joined (map (each_doubled (in_match r.pattern (rewritten w joined r))) bs) r.replacement) (match_tree w r.pattern t) (each_child (rewritten w joined r) t)
      step t = rewritten-step w joined r t ∙ by (match_places w r.pattern t)
        where
          by : (o : FoundOf N) → rewritten_by w joined r (rewritten w joined r) t o
              ≡ option_map_or (λ bs. fill w.tests.same joined (map (each_doubled (in_match r.pattern (rewritten w joined r))) bs) r.replacement) (option_map (bindings_of w) o) (each_child (rewritten w joined r) t)
          by None = refl
          by (Some xs) = refl

whole_mapped : {M N : Type 0} (f : M → N) (p : PatternOf M) → is_whole (map_pattern f p) ≡ is_whole p
whole_mapped f (meta m) = refl
whole_mapped f (var_like n) = refl
whole_mapped f p = refl

module _ (names : List (List ℕ)) (r : Rule) (t : TreeOf (List ℕ)) where
  -- no match
  pub becomes_none : match_tree text_pattern_words (map_pattern (name_at names) r.pattern) t ≡ None → becomes names r t ≡ each_child (becomes names r) t
  unfolding becomes
  becomes_none e =
      let f : TreeOf (List ℕ) → TreeOf (List ℕ) = rewritten text_pattern_words concat (rule_at names r) in
      step text_pattern_words concat (rule_at names r) t
      ∙ ap (λ (o : Option (List (BindingOf (List ℕ)))). option_map_or (λ bs. fill text_eq concat (map (each_doubled (in_match (map_pattern (name_at names) r.pattern) f)) bs) (map_pattern (name_at names) r.replacement)) o (each_child f t)) e

  -- a match
  pub becomes_some : (bs : List (BindingOf (List ℕ))) → match_tree text_pattern_words (map_pattern (name_at names) r.pattern) t ≡ Some bs → is_whole r.pattern ≡ false
      → becomes names r t ≡ fill text_eq concat (map (each_doubled (becomes names r)) bs) (map_pattern (name_at names) r.replacement)
  unfolding becomes
  becomes_some bs e s =
      let f : TreeOf (List ℕ) → TreeOf (List ℕ) = rewritten text_pattern_words concat (rule_at names r) in
      step text_pattern_words concat (rule_at names r) t
      ∙ ap (λ (o : Option (List (BindingOf (List ℕ)))). option_map_or (λ bs. fill text_eq concat (map (each_doubled (in_match (map_pattern (name_at names) r.pattern) f)) bs) (map_pattern (name_at names) r.replacement)) o (each_child f t)) e
      ∙ ap (λ (ds : List (BindingOf (List ℕ))). fill text_eq concat ds (map_pattern (name_at names) r.replacement)) (parts_same text_pattern_words (map_pattern (name_at names) r.pattern) f t bs e (whole_mapped (name_at names) r.pattern ∙ s))

  -- a pattern that is one doubled metavariable
  pub becomes_whole : is_whole r.pattern ≡ true → becomes names r t ≡ replaced names r (each_child (becomes names r) t)
  unfolding becomes replaced
  becomes_whole s =
      step text_pattern_words concat (rule_at names r) t
      ∙ whole text_pattern_words concat (rewritten text_pattern_words concat (rule_at names r)) (map_pattern (name_at names) r.pattern) (map_pattern (name_at names) r.replacement) t (whole_mapped (name_at names) r.pattern ∙ s)

  -- the replacement, where nothing is rewritten
  pub replaced_none : match_tree text_pattern_words (map_pattern (name_at names) r.pattern) t ≡ None → replaced names r t ≡ t
  unfolding replaced
  replaced_none e = ap (λ (o : Option (List (BindingOf (List ℕ)))). option_map_or (λ bs. fill text_eq concat bs (map_pattern (name_at names) r.replacement)) o t) e

  pub replaced_some : (bs : List (BindingOf (List ℕ))) → match_tree text_pattern_words (map_pattern (name_at names) r.pattern) t ≡ Some bs → replaced names r t ≡ fill text_eq concat bs (map_pattern (name_at names) r.replacement)
  unfolding replaced
  replaced_some bs e = ap (λ (o : Option (List (BindingOf (List ℕ)))). option_map_or (λ ds. fill text_eq concat ds (map_pattern (name_at names) r.replacement)) o t) e
