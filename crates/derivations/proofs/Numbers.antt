-- Texts and their numbers in a table.
use Rattle.std.proofs.Common.{◌≡◌, ℕ, ◌<◌, Bool, List, [], length, Option, Some, None, slice_get, cond, sym, ap, ◌∙◌}
use Rattle.std.specs.Prelude.{unwrap_or}
use Rattle.std.specs.List.{position_or_len}
use Rattle.std.proofs.lemmas.Bool.{lt-ltb}
use Rattle.std.proofs.lemmas.List.Folds.{list_any_at}
use Rattle.std.proofs.lemmas.Option.{slice_get-get_or, slice_get_within, unwrap_or-slice_get}
use Rattle.rb_base.specs.Names.{text_eq, name_at, number_in, HasNoTwice}
use Rattle.rb_base.proofs.NamesLemmas.{text_eq-refl}
use Rattle.tree_model.specs.Tree.{TreeOf, map_names}
use Rattle.tree_model.specs.AllNames.{AllNames}
use Rattle.tree_model.proofs.AllNamesLemmas.{map_names-same, AllNames-implies}
use Rattle.tree_model.proofs.MapNames.{map_names-id, map_names-map_names}
use Rattle.event_trees.proofs.Known.{text_of_number}
use Rattle.certified_model.specs.Marks.{Text}
use Rattle.derivations.specs.Words.{HasText, number_at}
use Rattle.derivations.proofs.Known.{within}

module _ (names : List Text) where
  pub number_is : (t : Text) → HasText names t → number_in names t ≡ Some (number_at names t)
  number_is t k =
      let e : number_in names t ≡ Some (position_or_len (text_eq t) names) = ap (λ (b : Bool). cond b (Some (position_or_len (text_eq t) names)) None) (lt-ltb (position_or_len (text_eq t) names) (length names) (within (text_eq t) names k)) in
      e ∙ ap Some (sym (ap (λ (o : Option ℕ). unwrap_or o 0) e))

  -- the text of the number of a text
  pub text_at : (t : Text) → HasText names t → slice_get names (number_at names t) ≡ Some t
  text_at t k = text_of_number names t (number_at names t) (sym (number_is t k))

  module _ (distinct : HasNoTwice names) where
    -- the number of the text of a number
    number_back : (n : ℕ) → n < length names → number_at names (name_at names n) ≡ n
    number_back n k =
        let is : slice_get names n ≡ Some (name_at names n) = slice_get-get_or names n [] k ∙ ap Some (sym (unwrap_or-slice_get names n [])) in
        let has : HasText names (name_at names n) = list_any_at (text_eq (name_at names n)) names n [] k (ap (text_eq (name_at names n)) (sym (unwrap_or-slice_get names n [])) ∙ text_eq-refl (name_at names n)) in
        let there : slice_get names (number_at names (name_at names n)) ≡ Some (name_at names n) = text_at (name_at names n) has in
        distinct (number_at names (name_at names n)) n (slice_get_within names (number_at names (name_at names n)) (name_at names n) there) (there ∙ sym is)

    -- so a tree comes back from its texts
    pub tree_back : (t : TreeOf ℕ) → AllNames (λ n. n < length names) t → map_names (number_at names) (map_names (name_at names) t) ≡ t
    tree_back t k =
        map_names-map_names (number_at names) (name_at names) t
        ∙ map_names-same (λ n. number_at names (name_at names n)) (λ n. n) t (AllNames-implies (λ n. n < length names) (λ n. number_at names (name_at names n) ≡ n) number_back t k)
        ∙ map_names-id t
