-- No method has a fresh selector, and no code sends it.
use Rattle.std.proofs.Common.{◌≡◌, ℕ, Some}
use Rattle.std.specs.Prelude.{Bool, true, false, ◌||◌, slice_get}
use Rattle.std.specs.List.{AllByRecursion, list_any}
use Rattle.rb_base.specs.Names.{text_eq}
use Rattle.tree_model.specs.Nodes.{Placed, nodes}
use Rattle.image_model.specs.Image.{EntryOf, DoItOf, ImageOf}
use Rattle.image_model.specs.Uses.{is_sender}
use Rattle.image_model.proofs.Lists.{all-implies}
use Rattle.run_model.specs.Values.{Name}
use Rattle.mapped_model.proofs.RenamedVariableLemmas.{all-at}
use Rattle.rename_model.specs.Conditions.{speaks_of, is_selector_fresh}
use Rattle.rename_laws.proofs.Unnamed.{denied, neither_left, neither_right, each-fails}
use Rattle.unfolded_places.specs.ExtractedOnce.{IsSentNowhereIn, IsSentNowhereBy}
use Rattle.moved_code_laws.proofs.Unsent.{lines-unsent}

module _ (i : ImageOf Name) (t : Name) (fresh : is_selector_fresh text_eq i t ≡ true) where
  abbrev sends_it : EntryOf Name → Bool
  sends_it n = list_any (λ (e : Placed Name). is_sender text_eq t e.1) (nodes n.tree.body)

  abbrev does_it : DoItOf Name → Bool
  does_it d = list_any (λ (e : Placed Name). is_sender text_eq t e.1) (nodes d.body)

  neither : (list_any (speaks_of text_eq t) i.methods || list_any does_it i.doits) ≡ false
  neither = denied (list_any (speaks_of text_eq t) i.methods || list_any does_it i.doits) fresh

  unspoken-at : (k : ℕ) (n : EntryOf Name) → slice_get i.methods k ≡ Some n → speaks_of text_eq t n ≡ false
  unspoken-at k n at = all-at (λ n. speaks_of text_eq t n ≡ false) i.methods k n (each-fails (speaks_of text_eq t) i.methods (neither_left (list_any (speaks_of text_eq t) i.methods) _ neither)) at

  pub other-selector : (k : ℕ) (n : EntryOf Name) → slice_get i.methods k ≡ Some n → text_eq t n.tree.selector ≡ false
  other-selector k n at = neither_left (text_eq t n.tree.selector) (sends_it n) (unspoken-at k n at)

  pub unsent : (k : ℕ) (n : EntryOf Name) → slice_get i.methods k ≡ Some n → IsSentNowhereIn t n
  unsent k n at = lines-unsent t n.tree.body.statements 0 (neither_right (text_eq t n.tree.selector) (sends_it n) (unspoken-at k n at))

  pub unsent-doits : AllByRecursion (IsSentNowhereBy t) i.doits
  unsent-doits = all-implies (λ (d : DoItOf Name). does_it d ≡ false) (IsSentNowhereBy t) (λ d h. lines-unsent t d.body.statements 0 h) i.doits (each-fails does_it i.doits (neither_right (list_any (speaks_of text_eq t) i.methods) _ neither))
