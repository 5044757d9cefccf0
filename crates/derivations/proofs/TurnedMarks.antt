-- A law at one node over numbers is the law over the marks.
use Rattle.std.proofs.Common.{◌≡◌, ℕ, ◌-◌, ◌<◌, Bool, true, false, List, [], ◌∷◌, length, map, Option, Some, None, slice_get, refl, sym, ap, ◌∙◌}
use Rattle.std.specs.Prelude.{nat_lt, not, ◌&&◌, if◌then◌else◌, option_map, option_and_then}
use Rattle.std.specs.List.{AllByRecursion, list_all, concat}
use Rattle.std.specs.Option.{option_map_or}
use Rattle.rb_base.specs.Names.{name_at, text_eq, HasNoTwice}
use Rattle.tree_model.specs.Tree.{TreeOf, var, literal, send, cascade, assign, block, brace, return, map_names}
use Rattle.tree_model.specs.AllNames.{AllNames}
use Rattle.tree_model.proofs.AllNamesLemmas.{map_names-same, AllNames-implies}
use Rattle.tree_model.proofs.MapNames.{map_names-map_names}
use Rattle.pattern_model.specs.Patterns.{this_selector, any_unary, of_keywords, any_message, PatternOf}
use Rattle.pattern_model.specs.Bindings.{BoundOf, a_part, a_run, a_selector, a_keyword, a_message, BindingOf}
use Rattle.pattern_model.specs.Fill.{fill}
use Rattle.pattern_model.specs.MatchTree.{match_tree}
use Rattle.pattern_model.specs.Named.{map_pattern, map_bound, map_binding}
use Rattle.patterns.specs.Names.{PatternNames}
use Rattle.pattern_match.specs.Words.{number_words}
use Rattle.pattern_match.proofs.Numbers.{match_texts}
use Rattle.filled_patterns.specs.Bound.{BoundNames, BindingNames}
use Rattle.rewritten_code.proofs.NamesBound.{match_named}
use Rattle.certified_model.specs.Marks.{Text, Mark, plain}
use Rattle.certified_model.specs.Certificates.{stands, is_fit, turned}
use Rattle.text_steps.specs.TextSteps.{AreSides, turned_texts}
use Rattle.text_steps.specs.MarkTexts.{mark_in}
use Rattle.text_steps.proofs.TextSteps.{turned_mapped}
use Rattle.derivations.specs.Signs.{Sign, of_node, of_selector, mark_by}
use Rattle.derivations.specs.Numbered.{Table}
use Rattle.derivations.specs.Turned.{is_statement_sign, is_for_statements, fits_tree, fits, turned_at}
use Rattle.derivations.specs.Taken.{IsTable, mark_at, marks_of, AreKnown}
use Rattle.derivations.proofs.MarkTexts.{texts, is_naming, mark_found}

module _ (names : List Text) (distinct : HasNoTwice names) (table : Table) (h : IsTable names table) where
  abbrev mark : Text → Mark
  mark = mark_in (texts names distinct table h)

  abbrev Known : ℕ → Type 0
  Known n = n < length names

  -- a tree by its marks is one by the marks of its texts
  pub marks_are : (t : TreeOf ℕ) → AreKnown names t → map_names mark (map_names (name_at names) t) ≡ marks_of names table t
  marks_are t k =
      map_names-map_names mark (name_at names) t
      ∙ map_names-same (λ n. mark (name_at names n)) (mark_at names table) t (AllNames-implies Known (λ n. mark (name_at names n) ≡ mark_at names table n) (mark_found names distinct table h) t k)

  -- what may stand for a metavariable
  marked_stands : (s : Sign) → stands (var (mark_by (name_at names) s)) ≡ not (is_statement_sign s)
  marked_stands (of_node m) = refl
  marked_stands (of_selector (this_selector n)) = refl
  marked_stands (of_selector (any_unary m)) = refl
  marked_stands (of_selector (of_keywords ks)) = refl
  marked_stands (of_selector (any_message m)) = refl

  number_stands : (n : ℕ) → stands (var (mark_at names table n)) ≡ not (is_for_statements table n)
  number_stands n = by (nat_lt n table.first)
    where
      of : (o : Option Sign) → stands (var (option_map_or (mark_by (name_at names)) o (plain (name_at names n)))) ≡ not (option_map_or is_statement_sign o false)
      of None = refl
      of (Some s) = marked_stands s

      by : (b : Bool) → stands (var (if b then plain (name_at names n) else option_map_or (mark_by (name_at names)) (slice_get table.signs (n - table.first)) (plain (name_at names n))))
          ≡ not (if b then false else option_map_or is_statement_sign (slice_get table.signs (n - table.first)) false)
      by true = refl
      by false = of (slice_get table.signs (n - table.first))

  tree_fits : (t : TreeOf ℕ) → AllNames Known t → stands (map_names mark (map_names (name_at names) t)) ≡ fits_tree table t
  tree_fits (var n) k = ap (λ (m : Mark). stands (var m)) (mark_found names distinct table h n k) ∙ number_stands n
  tree_fits (literal l) k = refl
  tree_fits (send r s ts) k = refl
  tree_fits (cascade r ms) k = refl
  tree_fits (assign n t) k = refl
  tree_fits (block ps ts ss e) k = refl
  tree_fits (brace ts) k = refl
  tree_fits (return t) k = refl

  bound_fits : (b : BoundOf ℕ) → BoundNames Known b → is_fit (map_bound mark (map_bound (name_at names) b)) ≡ fits table b
  bound_fits (a_part t) k = tree_fits t k
  bound_fits (a_run ss) k = refl
  bound_fits (a_selector s) k = refl
  bound_fits (a_keyword w) k = refl
  bound_fits (a_message s ts) k = refl

  all_fit : (bs : List (BindingOf ℕ)) → AllByRecursion (BindingNames Known) bs
      → list_all (λ (x : BindingOf Text). is_fit (map_bound mark x.bound)) (map (map_binding (name_at names)) bs) ≡ list_all (λ (b : BindingOf ℕ). fits table b.bound) bs
  all_fit [] k = refl
  all_fit (b ∷ bs) k = λ i. bound_fits b.bound k.0.1 i && all_fit bs k.1 i

  module _ (sides : PatternOf ℕ × PatternOf ℕ) (first : PatternNames Known sides.0) (t : TreeOf ℕ) (known : AreKnown names t) where
    abbrev side_texts : PatternOf Text × PatternOf Text
    side_texts = (map_pattern (name_at names) sides.0, map_pattern (name_at names) sides.1)

    abbrev filled_by : List (BindingOf Text) → TreeOf Text
    filled_by bs = fill text_eq concat bs (map_pattern (name_at names) sides.1)

    abbrev after : Option (List (BindingOf Text)) → Option (TreeOf Text)
    after o = option_and_then (λ bs. if list_all (λ (x : BindingOf Text). is_fit (map_bound mark x.bound)) bs then Some (filled_by bs) else None) o

    after_found : (o : Option (List (BindingOf ℕ))) → match_tree (number_words names) sides.0 t ≡ o → after (option_map (map (map_binding (name_at names))) o)
        ≡ option_and_then (λ bs. if list_all (λ (b : BindingOf ℕ). fits table b.bound) bs then Some (filled_by (map (map_binding (name_at names)) bs)) else None) o
    after_found None e = refl
    after_found (Some bs) e =
        ap (λ (b : Bool). if b then Some (filled_by (map (map_binding (name_at names)) bs)) else None)
        (all_fit bs (match_named Known (number_words names) sides.0 t bs e first known))

    -- over texts
    text_turned : turned_texts mark side_texts (map_names (name_at names) t) ≡ turned_at table names sides t
    text_turned = ap after (match_texts names distinct sides.0 first t known) ∙ after_found (match_tree (number_words names) sides.0 t) refl

    -- over marks
    pub mark_turned : AreSides mark side_texts → option_map (map_names mark) (turned_at table names sides t) ≡ turned side_texts (marks_of names table t)
    mark_turned s =
        ap (option_map (map_names mark)) (sym text_turned)
        ∙ turned_mapped mark (is_naming names distinct table h) side_texts s (map_names (name_at names) t)
        ∙ ap (turned side_texts) (marks_are t known)
