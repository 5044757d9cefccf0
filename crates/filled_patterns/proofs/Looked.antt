-- What a metavariable is bound to, looked up by numbers, is what it is bound to by texts.
use Rattle.std.proofs.Common.{◌≡◌, ℕ, ◌<◌, Bool, true, false, if◌then◌else◌, List, [], ◌∷◌, length, refl, sym, ap, ◌∙◌}
use Rattle.std.specs.Prelude.{◌&&◌, nat_eq}
use Rattle.std.specs.List.{AllByRecursion}
use Rattle.rb_base.specs.Names.{name_at, text_eq, HasNoTwice}
use Rattle.rb_base.proofs.NamesLemmas.{text_eq-name_at}
use Rattle.tree_model.specs.Tree.{map_names, map_trees, map_statements}
use Rattle.tree_model.specs.AllNames.{AllNames, TreesNames, StatementsNames}
use Rattle.pattern_model.specs.Patterns.{MetaOf}
use Rattle.pattern_model.specs.Bindings.{BoundOf, a_part, a_run, a_selector, a_keyword, a_message, BindingOf, kind_number, same_meta, bound_of}
use Rattle.pattern_model.specs.Named.{map_meta, map_bound}
use Rattle.pattern_model.specs.Fill.{part_in, run_in, selector_in, keyword_in, arguments_in}
use Rattle.filled_patterns.specs.Bound.{BoundNames, BindingNames}
use Rattle.filled_patterns.specs.Filling.{AreKnown, bound_texts}

-- what is bound is known
pub bound_known : (P : ℕ → Type 0) (bs : List (BindingOf ℕ)) (m : MetaOf ℕ) → AllByRecursion (BindingNames P) bs → P m.name → BoundNames P (bound_of nat_eq bs m)
bound_known P [] m hs h = h
bound_known P (b ∷ bs) m hs h = by (same_meta nat_eq b.meta m) (bound_known P bs m hs.1 h)
  where
    by : (t : Bool) → BoundNames P (bound_of nat_eq bs m) → BoundNames P (if t then b.bound else bound_of nat_eq bs m)
    by true k = hs.0.1
    by false k = k

module _ (names : List (List ℕ)) (distinct : HasNoTwice names) where
  tested : (a b : MetaOf ℕ) → a.name < length names → b.name < length names → same_meta text_eq (map_meta (name_at names) a) (map_meta (name_at names) b) ≡ same_meta nat_eq a b
  tested a b h k = ap (λ t. nat_eq (kind_number a.kind) (kind_number b.kind) && t) (text_eq-name_at names distinct a.name b.name h k)

  pub looked_up : (bs : List (BindingOf ℕ)) (m : MetaOf ℕ) → AreKnown names bs → m.name < length names → bound_texts names bs (map_meta (name_at names) m) ≡ map_bound (name_at names) (bound_of nat_eq bs m)
  looked_up [] m hs h = refl
  looked_up (b ∷ bs) m hs h =
      ap (λ t. if t then map_bound (name_at names) b.bound else bound_texts names bs (map_meta (name_at names) m)) (tested b.meta m hs.0.0 h) ∙ by (same_meta nat_eq b.meta m) (looked_up bs m hs.1 h)
    where
      by : (t : Bool) → bound_texts names bs (map_meta (name_at names) m) ≡ map_bound (name_at names) (bound_of nat_eq bs m)
          → (if t then map_bound (name_at names) b.bound else bound_texts names bs (map_meta (name_at names) m)) ≡ map_bound (name_at names) (if t then b.bound else bound_of nat_eq bs m)
      by true k = refl
      by false k = k

-- what is bound, with each name changed
module _ (f : ℕ → List ℕ) where
  part_mapped : (n : ℕ) (b : BoundOf ℕ) → map_names f (part_in n b) ≡ part_in (f n) (map_bound f b)
  part_mapped n (a_part t) = refl
  part_mapped n (a_run ss) = refl
  part_mapped n (a_selector s) = refl
  part_mapped n (a_keyword k) = refl
  part_mapped n (a_message s ts) = refl

  run_mapped : (b : BoundOf ℕ) → map_statements f (run_in b) ≡ run_in (map_bound f b)
  run_mapped (a_part t) = refl
  run_mapped (a_run ss) = refl
  run_mapped (a_selector s) = refl
  run_mapped (a_keyword k) = refl
  run_mapped (a_message s ts) = refl

  selector_mapped : (n : ℕ) (b : BoundOf ℕ) → f (selector_in n b) ≡ selector_in (f n) (map_bound f b)
  selector_mapped n (a_part t) = refl
  selector_mapped n (a_run ss) = refl
  selector_mapped n (a_selector s) = refl
  selector_mapped n (a_keyword k) = refl
  selector_mapped n (a_message s ts) = refl

  keyword_mapped : (b : BoundOf ℕ) → keyword_in b ≡ keyword_in (map_bound f b)
  keyword_mapped (a_part t) = refl
  keyword_mapped (a_run ss) = refl
  keyword_mapped (a_selector s) = refl
  keyword_mapped (a_keyword k) = refl
  keyword_mapped (a_message s ts) = refl

  arguments_mapped : (b : BoundOf ℕ) → map_trees f (arguments_in b) ≡ arguments_in (map_bound f b)
  arguments_mapped (a_part t) = refl
  arguments_mapped (a_run ss) = refl
  arguments_mapped (a_selector s) = refl
  arguments_mapped (a_keyword k) = refl
  arguments_mapped (a_message s ts) = refl

module _ (P : ℕ → Type 0) where
  part_named : (n : ℕ) (b : BoundOf ℕ) → P n → BoundNames P b → AllNames P (part_in n b)
  part_named n (a_part t) h k = k
  part_named n (a_run ss) h k = h
  part_named n (a_selector s) h k = h
  part_named n (a_keyword w) h k = h
  part_named n (a_message s ts) h k = h

  run_named : (b : BoundOf ℕ) → BoundNames P b → StatementsNames P (run_in b)
  run_named (a_part t) k = tt
  run_named (a_run ss) k = k
  run_named (a_selector s) k = tt
  run_named (a_keyword w) k = tt
  run_named (a_message s ts) k = tt

  selector_named : (n : ℕ) (b : BoundOf ℕ) → P n → BoundNames P b → P (selector_in n b)
  selector_named n (a_part t) h k = h
  selector_named n (a_run ss) h k = h
  selector_named n (a_selector s) h k = k
  selector_named n (a_keyword w) h k = h
  selector_named n (a_message s ts) h k = k.0

  arguments_named : (b : BoundOf ℕ) → BoundNames P b → TreesNames P (arguments_in b)
  arguments_named (a_part t) k = tt
  arguments_named (a_run ss) k = tt
  arguments_named (a_selector s) k = tt
  arguments_named (a_keyword w) k = tt
  arguments_named (a_message s ts) k = k.1

-- what stands for a metavariable, in texts
module _ (names : List (List ℕ)) (distinct : HasNoTwice names) (bs : List (BindingOf ℕ)) (hs : AreKnown names bs) (m : MetaOf ℕ) (h : m.name < length names) where
  abbrev is : bound_texts names bs (map_meta (name_at names) m) ≡ map_bound (name_at names) (bound_of nat_eq bs m)
  is = looked_up names distinct bs m hs h

  abbrev known : BoundNames (λ n. n < length names) (bound_of nat_eq bs m)
  known = bound_known (λ n. n < length names) bs m hs h

  pub part_texts : map_names (name_at names) (part_in m.name (bound_of nat_eq bs m)) ≡ part_in (name_at names m.name) (bound_texts names bs (map_meta (name_at names) m))
  part_texts = part_mapped (name_at names) m.name (bound_of nat_eq bs m) ∙ ap (part_in (name_at names m.name)) (sym is)

  pub part_known : AllNames (λ n. n < length names) (part_in m.name (bound_of nat_eq bs m))
  part_known = part_named (λ n. n < length names) m.name (bound_of nat_eq bs m) h known

  pub run_texts : map_statements (name_at names) (run_in (bound_of nat_eq bs m)) ≡ run_in (bound_texts names bs (map_meta (name_at names) m))
  run_texts = run_mapped (name_at names) (bound_of nat_eq bs m) ∙ ap run_in (sym is)

  pub run_known : StatementsNames (λ n. n < length names) (run_in (bound_of nat_eq bs m))
  run_known = run_named (λ n. n < length names) (bound_of nat_eq bs m) known

  pub selector_texts : name_at names (selector_in m.name (bound_of nat_eq bs m)) ≡ selector_in (name_at names m.name) (bound_texts names bs (map_meta (name_at names) m))
  selector_texts = selector_mapped (name_at names) m.name (bound_of nat_eq bs m) ∙ ap (selector_in (name_at names m.name)) (sym is)

  pub selector_stands : selector_in m.name (bound_of nat_eq bs m) < length names
  selector_stands = selector_named (λ n. n < length names) m.name (bound_of nat_eq bs m) h known

  pub keyword_texts : keyword_in (bound_of nat_eq bs m) ≡ keyword_in (bound_texts names bs (map_meta (name_at names) m))
  keyword_texts = keyword_mapped (name_at names) (bound_of nat_eq bs m) ∙ ap keyword_in (sym is)

  pub arguments_texts : map_trees (name_at names) (arguments_in (bound_of nat_eq bs m)) ≡ arguments_in (bound_texts names bs (map_meta (name_at names) m))
  arguments_texts = arguments_mapped (name_at names) (bound_of nat_eq bs m) ∙ ap arguments_in (sym is)

  pub arguments_known : TreesNames (λ n. n < length names) (arguments_in (bound_of nat_eq bs m))
  arguments_known = arguments_named (λ n. n < length names) (bound_of nat_eq bs m) known
