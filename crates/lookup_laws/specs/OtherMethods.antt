-- Images that differ in methods alone, and in which of them.
use Rattle.std.specs.Prelude.{◌≡◌, List, not, filter}
use Rattle.rb_base.specs.Names.{text_eq}
use Rattle.image_model.specs.Image.{EntryOf, ImageOf}
use Rattle.run_model.specs.Values.{Name}

-- the methods but those of a selector
abbrev pub of_other_selectors : Name → List (EntryOf Name) → List (EntryOf Name)
of_other_selectors s methods = filter (λ (m : EntryOf Name). not (text_eq s m.tree.selector)) methods

-- two images with the same classes and do-its, which differ in methods of one selector alone
pub record DifferInSelector (s : Name) (i j : ImageOf Name) : Type 0 where
  pub classes : j.classes ≡ i.classes
  pub doits : j.doits ≡ i.doits
  pub methods : of_other_selectors s j.methods ≡ of_other_selectors s i.methods
