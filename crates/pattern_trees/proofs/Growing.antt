-- Names that have numbers, in a table that grows.
use Rattle.std.proofs.Common.{◌≡◌, ℕ, ◌<◌, List, [], length, get_or, Some, slice_get, sym, ap, ◌∙◌}
use Rattle.std.specs.Prelude.{unwrap_or}
use Rattle.std.proofs.lemmas.Option.{slice_get-get_or, slice_get_within}
use Rattle.rb_base.specs.Names.{name_at, number_in, interned}
use Rattle.tree_model.specs.Tree.{TreeOf, TreesOf, MessagesOf, map_names}
use Rattle.tree_model.specs.AllNames.{AllNames, TreesNames, MessagesNames}
use Rattle.tree_model.proofs.AllNamesLemmas.{map_names-same, AllNames-implies, TreesNames-implies, MessagesNames-implies}
use Rattle.grammar_model.specs.Terminal.{Text}
use Rattle.event_trees.specs.Naming.{Grows}
use Rattle.event_trees.proofs.Known.{Grows-none, Grows-twice, Grows-Adds, Adds-interned, text_stays, text_of_number}
use Rattle.pattern_trees.specs.Reading.{Known}

-- a text gets a number
pub grown : (names later : List Text) (t : Text) → later ≡ interned names t → Grows names later
grown names later t e = let a = Adds-interned names t in record { more = a.more; grown = e ∙ a.grown }

pub numbered : (names : List Text) (n : ℕ) (t : Text) → Some n ≡ number_in names t → (final : List Text) → Grows names final → (name_at final n ≡ t) × (n < length final)
numbered names n t e final g =
    let s : slice_get final n ≡ Some t = text_stays n t g (text_of_number names t n e) in
    (ap (λ o. unwrap_or o []) s, slice_get_within final n t s)

module _ {names later : List Text} (g : Grows names later) where
  -- a number keeps its text
  kept : (n : ℕ) → n < length names → slice_get later n ≡ Some (get_or names n [])
  kept n h = text_stays n (get_or names n []) g (slice_get-get_or names n [] h)

  pub still_known : (n : ℕ) → Known names n → Known later n
  still_known n h = slice_get_within later n (get_or names n []) (kept n h)

  pub same_text : (n : ℕ) → Known names n → name_at later n ≡ name_at names n
  same_text n h = ap (λ o. unwrap_or o []) (kept n h ∙ sym (slice_get-get_or names n [] h))

  pub same_tree : (t : TreeOf ℕ) → AllNames (Known names) t → map_names (name_at later) t ≡ map_names (name_at names) t
  same_tree t h = map_names-same (name_at later) (name_at names) t (AllNames-implies (Known names) (λ n. name_at later n ≡ name_at names n) same_text t h)

  -- what is known stays known
  pub trees_known : (ts : TreesOf ℕ) → TreesNames (Known names) ts → TreesNames (Known later) ts
  trees_known ts h = TreesNames-implies (Known names) (Known later) still_known ts h

  pub messages_known : (ms : MessagesOf ℕ) → MessagesNames (Known names) ms → MessagesNames (Known later) ms
  messages_known ms h = MessagesNames-implies (Known names) (Known later) still_known ms h

  pub tree_known : (t : TreeOf ℕ) → AllNames (Known names) t → AllNames (Known later) t
  tree_known t h = AllNames-implies (Known names) (Known later) still_known t h

pub ruleset grow_rules = (Grows-none, Grows-twice)
