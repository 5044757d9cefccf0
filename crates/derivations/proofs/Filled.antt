-- What a law makes of a node, by what is found, and filled.
use Rattle.std.proofs.Common.{◌≡◌, ℕ, ◌+◌, ◌<◌, Bool, true, false, List, [], ◌∷◌, ◌++◌, length, get_or, take, map, Option, Some, None, sym, ap, subst, ◌∙◌}
use Rattle.std.proofs.Common.{Vec, Global}
use Rattle.std.proofs.lemmas.List.{take_more, map-append}
use Rattle.std.specs.Prelude.{if◌then◌else◌, option_map, option_and_then}
use Rattle.std.specs.List.{AllByRecursion, list_all, concat}
use Rattle.rb_base.specs.Names.{name_at, text_eq}
use Rattle.tree_model.specs.Tree.{TreeOf, map_names}
use Rattle.event_trees.specs.Naming.{Grows}
use Rattle.pattern_model.specs.Patterns.{PatternOf}
use Rattle.pattern_model.specs.Bindings.{BindingOf}
use Rattle.pattern_model.specs.Fill.{fill}
use Rattle.pattern_model.specs.MatchTree.{match_tree}
use Rattle.pattern_model.specs.Named.{map_pattern, map_binding}
use Rattle.patterns.specs.Names.{PatternNames}
use Rattle.pattern_match.specs.Words.{number_words}
use Rattle.pattern_match.specs.Bound.{held_of}
use Rattle.pattern_match.specs.declared.bindings.Held.{Held}
use Rattle.filled_patterns.specs.Bound.{BindingNames}
use Rattle.filled_patterns.specs.Filling.{Over}
use Rattle.filled_patterns.specs.Left.{HoldsOne, Holds}
use Rattle.filled_patterns.specs.declared.bindings.Binding.{Binding}
use Rattle.rewritten_code.proofs.NamesBound.{match_named}
use Rattle.rewritten_code.proofs.Growing.{bindings_known, same_bindings, same_pattern}
use Rattle.certified_model.specs.Marks.{Text}
use Rattle.derivations.specs.Numbered.{Table}
use Rattle.derivations.specs.Turned.{fits, turned_at}
use Rattle.derivations.specs.Taken.{AreKnown}

module _ (table : Table) (names : List Text) (sides : PatternOf ℕ × PatternOf ℕ) (t : TreeOf ℕ) where
  abbrev Known : ℕ → Type 0
  Known n = n < length names

  abbrev all_fit : List (BindingOf ℕ) → Bool
  all_fit bs = list_all (λ (b : BindingOf ℕ). fits table b.bound) bs

  abbrev texts_filled : List (BindingOf ℕ) → TreeOf Text
  texts_filled bs = fill text_eq concat (map (map_binding (name_at names)) bs) (map_pattern (name_at names) sides.1)

  turned_some : (bs : List (BindingOf ℕ)) (b : Bool) → match_tree (number_words names) sides.0 t ≡ Some bs → all_fit bs ≡ b → turned_at table names sides t ≡ (if b then Some (texts_filled bs) else None)
  turned_some bs b e f =
      ap (λ (o : Option (List (BindingOf ℕ))). option_and_then (λ bs. if all_fit bs then Some (texts_filled bs) else None) o) e
      ∙ ap (λ (c : Bool). if c then Some (texts_filled bs) else None) f

  -- what is found may not stand
  pub turned_unfit : (bs : List (BindingOf ℕ)) → match_tree (number_words names) sides.0 t ≡ Some bs → all_fit bs ≡ false → turned_at table names sides t ≡ None
  turned_unfit bs e f = turned_some bs false e f

  -- it may, and the other side is filled with it
  module _ (bs : List (BindingOf ℕ)) (e : match_tree (number_words names) sides.0 t ≡ Some bs) (f : all_fit bs ≡ true) (first : PatternNames Known sides.0) (second : PatternNames Known sides.1) (known : AreKnown names t) {later : List Text} (g : Grows names later) (ss : List Binding) (holds : Holds bs ss) (v : TreeOf ℕ) where
    bound_known : AllByRecursion (BindingNames Known) bs
    bound_known = match_named Known (number_words names) sides.0 t bs e first known

    pub turned_filled : Over later ss (λ ds. map_names (name_at later) v ≡ fill text_eq concat (map (map_binding (name_at later)) ds) (map_pattern (name_at later) sides.1))
        → Some (map_names (name_at later) v) ≡ turned_at table names sides t
    turned_filled h =
        ap Some (h bs holds (bindings_known g bs bound_known) ∙ (λ i. fill text_eq concat (same_bindings g bs bound_known i) (same_pattern g sides.1 second i)))
        ∙ sym (turned_some bs true e f)

    pub filled_known : Over later ss (λ ds. AreKnown later v) → AreKnown later v
    filled_known h = h bs holds (bindings_known g bs bound_known)

-- what was found
abbrev pub IsFound : List Text → PatternOf ℕ → TreeOf ℕ → Option (Vec Held Global) → Type 0
IsFound names p t o = option_map (λ (bs : Vec Held Global). map held_of bs.items) o ≡ match_tree (number_words names) p t

pub found_some : (names : List Text) (p : PatternOf ℕ) (t : TreeOf ℕ) (o : Option (Vec Held Global)) (bs : Vec Held Global) → o ≡ Some bs → IsFound names p t o → match_tree (number_words names) p t ≡ Some (map held_of bs.items)
found_some names p t o bs e h = sym h ∙ ap (option_map (λ (bs : Vec Held Global). map held_of bs.items)) e

-- one more binding is held
holds_end : (bs : List (BindingOf ℕ)) (ss : List Binding) (b : BindingOf ℕ) (s : Binding) → Holds bs ss → HoldsOne b s → Holds (bs ++ b ∷ []) (ss ++ s ∷ [])
holds_end [] [] b s h o = (o, tt)
holds_end [] (t ∷ ss) b s h o = absurd h
holds_end (d ∷ bs) [] b s h o = absurd h
holds_end (d ∷ bs) (t ∷ ss) b s h o = (h.0, holds_end bs ss b s h.1 o)

pub holds_more : (hs : List Held) (i : ℕ) (h : Held) (ss : List Binding) (s : Binding) → i < length hs → h ≡ get_or hs i h → Holds (map held_of (take i hs)) ss → HoldsOne (held_of h) s → Holds (map held_of (take (i + 1) hs)) (ss ++ s ∷ [])
holds_more hs i h ss s l e a o =
    let is : map held_of (take (i + 1) hs) ≡ map held_of (take i hs) ++ held_of h ∷ [] = ap (map held_of) (take_more hs i h l ∙ ap (λ (k : Held). take i hs ++ k ∷ []) (sym e)) ∙ map-append held_of (take i hs) (h ∷ []) in
    subst (λ (bs : List (BindingOf ℕ)). Holds bs (ss ++ s ∷ [])) (sym is) (holds_end (map held_of (take i hs)) ss (held_of h) s a o)
