-- A node that a pattern matches, or does not match, in a table of names that grows.
use Rattle.std.proofs.Common.{◌≡◌, ℕ, ◌<◌, List, [], ◌∷◌, map, Option, Some, None, refl, sym, ap, subst, ◌∙◌}
use Rattle.std.proofs.Common.{Vec, Global}
use Rattle.std.specs.Prelude.{Bool, true, false, ◌||◌, option_map, Result, Ok, Err, IfOk, MatchOption, is_none}
use Rattle.std.specs.List.{AllByRecursion, concat}
use Rattle.std.specs.Option.{option_map_or}
use Rattle.rb_base.specs.Names.{text_eq, name_at, HasNoTwice}
use Rattle.rb_base.specs.declared.Memory.{Memory}
use Rattle.tree_model.specs.Tree.{TreeOf, map_names}
use Rattle.tree_model.specs.AllNames.{AllNames}
use Rattle.tree_model.specs.Measure.{height}
use Rattle.event_trees.specs.Naming.{Grows}
use Rattle.pattern_model.specs.Patterns.{MetaOf, PatternOf, meta}
use Rattle.pattern_model.specs.Bindings.{a_part, BindingOf}
use Rattle.pattern_model.specs.Words.{text_pattern_words}
use Rattle.pattern_model.specs.Matches.{may_stand}
use Rattle.pattern_model.specs.MatchTree.{match_tree}
use Rattle.pattern_model.specs.Named.{map_meta, map_pattern, map_binding}
use Rattle.pattern_model.specs.Fill.{fill}
use Rattle.pattern_model.specs.Rewritten.{each_child, rewritten}
use Rattle.patterns.specs.Names.{PatternNames}
use Rattle.patterns.specs.View.{meta_of, pattern_from}
use Rattle.patterns.specs.declared.tree.Meta.{Meta}
use Rattle.patterns.specs.declared.tree.PatternKind.{PatternKind}
use Rattle.patterns.specs.declared.tree.PatternKind.TheVariants as kind
use Rattle.patterns.specs.declared.tree.Rule.{Rule}
use Rattle.pattern_match.specs.Words.{number_words}
use Rattle.pattern_match.specs.Bound.{held_of}
use Rattle.pattern_match.specs.declared.bindings.Held.{Held}
use Rattle.filled_patterns.specs.declared.bindings.Binding.{Binding}
use Rattle.filled_patterns.specs.Bound.{BindingNames}
use Rattle.filled_patterns.specs.Left.{Holds}
use Rattle.filled_patterns.specs.Filling.{Over}
use Rattle.pattern_match.proofs.Numbers.{match_texts}
use Rattle.rewritten_code.specs.Changed.{is_whole, IsWhole, Known, RuleNames, becomes, replaced, AreBoundIn, IsNoMatch, IsChanged, AreChanged}
use Rattle.rewritten_code.specs.Lower.{bindings_height}
use Rattle.rewritten_code.proofs.Growing.{tree_known, bindings_known, same_tree, same_pattern, same_bindings}
use Rattle.rewritten_code.proofs.NamesBound.{match_named}
use Rattle.rewritten_code.proofs.LowerBound.{alone, match_meta, match_lower}
use Rattle.rewritten_code.proofs.Steps.{becomes_none, becomes_some, becomes_whole, replaced_none, replaced_some}

-- what a search for bindings gives
abbrev pub Answer : Type 0
Answer = Result (Option (Vec Held Global)) Memory

abbrev pub IsAnswer : List (List ℕ) → PatternOf ℕ → TreeOf ℕ → Answer → Type 0
IsAnswer names p t r = IfOk r (λ o. option_map (λ bs. map held_of bs.items) o ≡ match_tree (number_words names) p t)

module _ (names : List (List ℕ)) (p : PatternOf ℕ) (t : TreeOf ℕ) where
  pub answer_found : (r : Answer) → HasNoTwice names → PatternNames (Known names) p → AllNames (Known names) t → IsAnswer names p t r
      → IfOk r (λ o. MatchOption o (IsNoMatch names p t) (λ bs. AreBoundIn names p t (map held_of bs.items)))
  answer_found (Ok None) d n h e = record { unmatched = match_texts names d p n t h ∙ ap (option_map (map (map_binding (name_at names)))) (sym e) }
  answer_found (Ok (Some bs)) d n h e = record {
    matched = match_texts names d p n t h ∙ ap (option_map (map (map_binding (name_at names)))) (sym e);
    known = match_named (Known names) (number_words names) p t (map held_of bs.items) (sym e) n h;
  }
  answer_found (Err e) d n h a = tt

  pub answer_lower : (r : Answer) → IsAnswer names p t r → IfOk r (λ o. MatchOption o (Unit {0}) (λ bs. is_whole p ≡ false → bindings_height bs.items < height t))
  answer_lower (Ok None) e = tt
  answer_lower (Ok (Some bs)) e = λ s. match_lower names p t bs.items (sym e) s
  answer_lower (Err e) a = tt

module _ {names final : List (List ℕ)} (g : Grows names final) (r : Rule) (k : RuleNames names r) (t : TreeOf ℕ) (h : AllNames (Known names) t) where
  same_match : match_tree text_pattern_words (map_pattern (name_at final) r.pattern) (map_names (name_at final) t) ≡ match_tree text_pattern_words (map_pattern (name_at names) r.pattern) (map_names (name_at names) t)
  same_match = λ i. match_tree text_pattern_words (same_pattern g r.pattern k.pattern i) (same_tree g t h i)

  still_unmatched : IsNoMatch names r.pattern t → match_tree text_pattern_words (map_pattern (name_at final) r.pattern) (map_names (name_at final) t) ≡ None
  still_unmatched m = same_match ∙ m.unmatched

  still_bound : (bs : List (BindingOf ℕ)) → AreBoundIn names r.pattern t bs → match_tree text_pattern_words (map_pattern (name_at final) r.pattern) (map_names (name_at final) t) ≡ Some (map (map_binding (name_at final)) bs)
  still_bound bs m = same_match ∙ m.matched ∙ ap (λ (ds : List (BindingOf (List ℕ))). Some ds) (sym (same_bindings g bs m.known))

  -- a node that does not match stays, or has the nodes right below it rewritten
  pub stays : IsNoMatch names r.pattern t → IsChanged final (replaced final r) t t
  stays m = record { same = sym (replaced_none final r (map_names (name_at final) t) (still_unmatched m)); known = tree_known g t h }

  pub goes_on : (u : TreeOf ℕ) → IsNoMatch names r.pattern t → IsChanged final (each_child (becomes final r)) t u → IsChanged final (becomes final r) t u
  goes_on u m c = record { same = c.same ∙ sym (becomes_none final r (map_names (name_at final) t) (still_unmatched m)); known = c.known }

  -- what becomes of a node is the same in a later table
  same_becomes : becomes final r (map_names (name_at final) t) ≡ becomes names r (map_names (name_at names) t)
  unfolding becomes
  same_becomes = λ i. rewritten text_pattern_words concat (record { pattern = same_pattern g r.pattern k.pattern i; replacement = same_pattern g r.replacement k.replacement i }) (same_tree g t h i)

  same_replaced : replaced final r (map_names (name_at final) t) ≡ replaced names r (map_names (name_at names) t)
  unfolding replaced
  same_replaced = λ i.
      option_map_or (λ bs. fill text_eq concat bs (same_pattern g r.replacement k.replacement i)) (match_tree text_pattern_words (same_pattern g r.pattern k.pattern i) (same_tree g t h i)) (same_tree g t h i)

  pub still_becomes : (v : TreeOf ℕ) → IsChanged names (becomes names r) t v → IsChanged final (becomes final r) t v
  still_becomes v c = record { same = same_tree g v c.known ∙ c.same ∙ sym same_becomes; known = tree_known g v c.known }

  pub still_replaced : (v : TreeOf ℕ) → IsChanged names (replaced names r) t v → IsChanged final (replaced final r) t v
  still_replaced v c = record { same = same_tree g v c.known ∙ c.same ∙ sym same_replaced; known = tree_known g v c.known }

-- a replacement that is filled from bindings that are held
abbrev pub FillsSame : List (List ℕ) → Rule → List Binding → TreeOf ℕ → Type 0
FillsSame names r ss v = Over names ss (λ bs. map_names (name_at names) v ≡ fill text_eq concat (map (map_binding (name_at names)) bs) (map_pattern (name_at names) r.replacement))

abbrev pub FillsKnown : List (List ℕ) → List Binding → TreeOf ℕ → Type 0
FillsKnown names ss v = Over names ss (λ bs. AllNames (Known names) v)

module _ {names new : List (List ℕ)} (a : Grows names new) (r : Rule) (k : RuleNames names r) (t : TreeOf ℕ) (h : AllNames (Known names) t) (bs : List (BindingOf ℕ)) (m : AreBoundIn names r.pattern t bs) (ss : List Binding) (v : TreeOf ℕ) (same : FillsSame new r ss v) (known : FillsKnown new ss v) where
  -- the replacement, filled with the parts as they are
  pub put_replaced : Holds bs ss → IsChanged new (replaced new r) t v
  put_replaced held =
      let all : AllByRecursion (BindingNames (Known new)) bs = bindings_known a bs m.known in
      record {
        same = same bs held all ∙ sym (replaced_some new r (map_names (name_at new) t) (map (map_binding (name_at new)) bs) (still_bound a r k t h bs m));
        known = known bs held all;
      }

  -- and with the parts rewritten
  pub put_rewritten : is_whole r.pattern ≡ false → AreChanged new (becomes new r) bs ss → IsChanged new (becomes new r) t v
  put_rewritten s c = record {
    same =
        same c.bindings c.held c.known
        ∙ ap (λ (ds : List (BindingOf (List ℕ))). fill text_eq concat ds (map_pattern (name_at new) r.replacement)) c.same
        ∙ sym (becomes_some new r (map_names (name_at new) t) (map (map_binding (name_at new)) bs) (still_bound a r k t h bs m) s);
    known = known c.bindings c.held c.known;
  }

-- of a pattern that is one doubled metavariable the nodes right below are rewritten first
pub then_replaced : (final : List (List ℕ)) (r : Rule) (t u v : TreeOf ℕ) → is_whole r.pattern ≡ true → IsChanged final (each_child (becomes final r)) t u → IsChanged final (replaced final r) u v → IsChanged final (becomes final r) t v
then_replaced final r t u v s c d = record { same = d.same ∙ ap (replaced final r) c.same ∙ sym (becomes_whole final r (map_names (name_at final) t) s); known = d.known }

-- what was found
module _ (names : List (List ℕ)) (p : PatternOf ℕ) (t : TreeOf ℕ) (o : Option (Vec Held Global)) where
  pub found_some : (bs : Vec Held Global) → o ≡ Some bs → MatchOption o (IsNoMatch names p t) (λ bs. AreBoundIn names p t (map held_of bs.items)) → AreBoundIn names p t (map held_of bs.items)
  found_some bs e h = subst (λ (x : Option (Vec Held Global)). MatchOption x (IsNoMatch names p t) (λ bs. AreBoundIn names p t (map held_of bs.items))) e h

  pub found_none : o ≡ None → MatchOption o (IsNoMatch names p t) (λ bs. AreBoundIn names p t (map held_of bs.items)) → IsNoMatch names p t
  found_none e h = subst (λ (x : Option (Vec Held Global)). MatchOption x (IsNoMatch names p t) (λ bs. AreBoundIn names p t (map held_of bs.items))) e h

pub found_low : (p : PatternOf ℕ) (t : TreeOf ℕ) (o : Option (Vec Held Global)) (bs : Vec Held Global) → o ≡ Some bs → MatchOption o (Unit {0}) (λ hs. is_whole p ≡ false → bindings_height hs.items < height t) → is_whole p ≡ false
    → bindings_height bs.items < height t
found_low p t o bs e h = subst (λ (x : Option (Vec Held Global)). MatchOption x (Unit {0}) (λ hs. is_whole p ≡ false → bindings_height hs.items < height t)) e h

-- the doubled metavariable that a pattern is
pub meta_some : (p : PatternOf ℕ) (o : Option Meta) (m : Meta) → o ≡ Some m → MatchOption o (is_whole p ≡ false) (λ n. IsWhole p (meta_of n)) → IsWhole p (meta_of m)
meta_some p o m e h = subst (λ (x : Option Meta). MatchOption x (is_whole p ≡ false) (λ n. IsWhole p (meta_of n))) e h

pub meta_none : (p : PatternOf ℕ) (o : Option Meta) → o ≡ None → MatchOption o (is_whole p ≡ false) (λ n. IsWhole p (meta_of n)) → is_whole p ≡ false
meta_none p o e h = subst (λ (x : Option Meta). MatchOption x (is_whole p ≡ false) (λ n. IsWhole p (meta_of n))) e h

-- a pattern of another kind is no metavariable
pub not_whole : (k : PatternKind) → ((m : Meta) → k ≡ kind.Meta m → ⊥) → is_whole (pattern_from k) ≡ false
not_whole (kind.Meta m) h = absurd (h m refl)
not_whole (kind.Var n) h = refl
not_whole (kind.Literal l) h = refl
not_whole (kind.Send r m) h = refl
not_whole (kind.Cascade r ms) h = refl
not_whole (kind.Assign n q) h = refl
not_whole (kind.Block ps body) h = refl
not_whole (kind.Brace ps) h = refl
not_whole (kind.Return q) h = refl

-- what one doubled metavariable binds
or_false : (b : Bool) → (b || false) ≡ b
or_false true = refl
or_false false = refl

module _ (names : List (List ℕ)) (p : PatternOf ℕ) (m : MetaOf ℕ) (t : TreeOf ℕ) (bs : List (BindingOf ℕ)) (w : IsWhole p m) (k : Known names m.name) (h : AllNames (Known names) t) (found : AreBoundIn names p t bs) where
  abbrev texts : MetaOf (List ℕ)
  texts = map_meta (name_at names) m

  abbrev tree : TreeOf (List ℕ)
  tree = map_names (name_at names) t

  is_meta : match_tree text_pattern_words (map_pattern (name_at names) p) tree ≡ match_tree text_pattern_words (meta texts) tree
  is_meta = ap (λ (q : PatternOf ℕ). match_tree text_pattern_words (map_pattern (name_at names) q) tree) w.same

  alone_same : alone text_pattern_words texts tree ≡ record { meta = texts; bound = a_part tree }
  alone_same = λ i. record { meta = record { kind = m.kind; name = name_at names m.name; doubled = or_false m.doubled i }; bound = a_part tree }

  whole_by : (b : Bool) → may_stand text_pattern_words.tests.is_pseudo m.kind tree ≡ b → match_tree text_pattern_words (map_pattern (name_at names) p) tree ≡ Some (record { meta = texts; bound = a_part tree } ∷ [])
  whole_by true g = is_meta ∙ match_meta text_pattern_words texts tree true g ∙ (λ i. Some (alone_same i ∷ []))
  whole_by false g =
      let both : None ≡ Some (map (map_binding (name_at names)) bs) = sym (is_meta ∙ match_meta text_pattern_words texts tree false g) ∙ found.matched in
      let bad : ⊥ = cc both in absurd bad

  pub whole_bound : AreBoundIn names p t (record { meta = m; bound = a_part t } ∷ [])
  whole_bound = record { matched = whole_by (may_stand text_pattern_words.tests.is_pseudo m.kind tree) refl; known = ((k, h), tt) }

pub whole_known : (names : List (List ℕ)) (p : PatternOf ℕ) (m : MetaOf ℕ) → IsWhole p m → PatternNames (Known names) p → Known names m.name
whole_known names p m w h = subst (PatternNames (Known names)) w.same h

pub is_whole_by : {N : Type 0} (p : PatternOf N) (m : MetaOf N) → IsWhole p m → is_whole p ≡ true
is_whole_by p m w = ap is_whole w.same ∙ w.doubled

-- two facts of a result
pub if_both : {T E : Type 0} (res : Result T E) (A B C : T → Type 0) → ((x : T) → A x → B x → C x) → IfOk res A → IfOk res B → IfOk res C
if_both (Ok x) A B C f a b = f x a b
if_both (Err e) A B C f a b = tt

-- whether something was found
module _ (names : List (List ℕ)) (p : PatternOf ℕ) (t : TreeOf ℕ) where
  pub found_no : (o : Option (Vec Held Global)) → is_none o ≡ true → MatchOption o (IsNoMatch names p t) (λ bs. AreBoundIn names p t (map held_of bs.items)) → IsNoMatch names p t
  found_no None e h = h
  found_no (Some bs) e h = let bad : ⊥ = cc in absurd bad

  pub found_one : (o : Option (Vec Held Global)) → is_none o ≡ false → MatchOption o (IsNoMatch names p t) (λ bs. AreBoundIn names p t (map held_of bs.items)) → (bs : List (BindingOf ℕ)) × AreBoundIn names p t bs
  found_one None e h = let bad : ⊥ = cc in absurd bad
  found_one (Some bs) e h = (map held_of bs.items, h)
