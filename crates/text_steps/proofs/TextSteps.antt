-- A step over texts is the step over the marks that they stand for.
use Rattle.std.proofs.Common.{◌≡◌, refl, sym, ap, ◌∙◌, List, [], ◌∷◌, map, Some, None}
use Rattle.std.specs.Prelude.{Bool, true, false, ◌&&◌, if◌then◌else◌, Option, option_map, option_and_then}
use Rattle.std.specs.List.{list_all, concat}
use Rattle.rb_base.specs.Names.{text_eq}
use Rattle.tree_model.specs.Tree.{TreeOf, map_names}
use Rattle.pattern_model.specs.Patterns.{PatternOf}
use Rattle.pattern_model.specs.Bindings.{BindingOf}
use Rattle.pattern_model.specs.Fill.{fill}
use Rattle.pattern_model.specs.MatchTree.{match_tree}
use Rattle.pattern_model.specs.Named.{map_pattern, map_bound, map_binding, asked_through}
use Rattle.pattern_model.specs.Words.{PatternWordsOf, text_pattern_words}
use Rattle.pattern_laws.proofs.MatchMapped.{match_mapped}
use Rattle.certified_model.specs.Marks.{Text, Mark, plain, is_same_mark, mark_words}
use Rattle.certified_model.specs.Certificates.{is_fit, plain_joined, turned}
use Rattle.text_steps.specs.TextSteps.{IsNaming, AreSides, turned_texts}
use Rattle.text_steps.proofs.FilledMapped.{filled_mapped}

-- what patterns ask of texts is what they ask of marks
words_same : (mark : Text → Mark) → IsNaming mark → text_pattern_words ≡ asked_through mark mark_words
words_same mark h = λ i. record {
  tests = record { same = λ a b. h.same a b i; is_pseudo = λ a. h.is_pseudo a i; form = λ a. h.form a i };
  is_unary = λ a. h.is_unary a i;
  keywords = λ a. h.keywords a i;
}

all_mapped : (mark : Text → Mark) (bs : List (BindingOf Text)) → list_all (λ (x : BindingOf Text). is_fit (map_bound mark x.bound)) bs ≡ list_all (λ (x : BindingOf Mark). is_fit x.bound) (map (map_binding mark) bs)
all_mapped mark [] = refl
all_mapped mark (b ∷ bs) = ap (λ (x : Bool). is_fit (map_bound mark b.bound) && x) (all_mapped mark bs)

-- the other side, filled by bindings that fit
abbrev after : PatternOf Text → Option (List (BindingOf Mark)) → Option (TreeOf Mark)
after r o = option_and_then (λ bs. if list_all (λ (x : BindingOf Mark). is_fit x.bound) bs then Some (fill is_same_mark plain_joined bs (map_pattern plain r)) else None) o

pub turned_mapped : (mark : Text → Mark) → IsNaming mark → (sides : PatternOf Text × PatternOf Text) → AreSides mark sides → (t : TreeOf Text) → option_map (map_names mark) (turned_texts mark sides t) ≡ turned sides (map_names mark t)
turned_mapped mark h sides s t =
    by (match_tree text_pattern_words sides.0 t)
    ∙ ap (after sides.1)
    (ap (λ (w : PatternWordsOf Text). option_map (map (map_binding mark)) (match_tree w sides.0 t)) (words_same mark h)
    ∙ sym (match_mapped mark mark_words sides.0 t) ∙ ap (λ (p : PatternOf Mark). match_tree mark_words p (map_names mark t)) s.first)
  where
    chosen : (x : Bool) (u : TreeOf Text) (v : TreeOf Mark) → map_names mark u ≡ v → option_map (map_names mark) (if x then Some u else None) ≡ (if x then Some v else None)
    chosen true u v e = ap Some e
    chosen false u v e = refl

    by : (o : Option (List (BindingOf Text))) → option_map (map_names mark) (option_and_then (λ bs. if list_all (λ (x : BindingOf Text). is_fit (map_bound mark x.bound)) bs then Some (fill text_eq concat bs sides.1) else None) o)
        ≡ after sides.1 (option_map (map (map_binding mark)) o)
    by None = refl
    by (Some bs) =
        chosen (list_all (λ (x : BindingOf Text). is_fit (map_bound mark x.bound)) bs) (fill text_eq concat bs sides.1) (fill is_same_mark plain_joined (map (map_binding mark) bs) (map_pattern plain sides.1))
        (filled_mapped mark text_eq is_same_mark h.same concat plain_joined bs sides.1 s.whole ∙ ap (fill is_same_mark plain_joined (map (map_binding mark) bs)) s.second)
        ∙ ap (λ (x : Bool). if x then Some (fill is_same_mark plain_joined (map (map_binding mark) bs) (map_pattern plain sides.1)) else None) (all_mapped mark bs)
