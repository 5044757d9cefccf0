-- What it says of an image that the kernel does not speak of a selector.
use Rattle.std.proofs.Common.{◌≡◌, List, [], ◌∷◌, sym, ◌∙◌}
use Rattle.std.specs.Prelude.{Bool, true, false, ◌&&◌, ◌||◌, codes}
use Rattle.std.specs.List.{AllByRecursion, list_any}
use Rattle.std.proofs.lemmas.Bool.{false≢true, not-true}
use Rattle.rb_base.specs.Names.{text_eq}
use Rattle.tree_model.specs.Nodes.{nodes}
use Rattle.image_model.specs.Image.{EntryOf, ImageOf}
use Rattle.image_model.specs.Uses.{is_sender}
use Rattle.st_kernel.specs.Selectors.{is_control, is_reserved_selector, is_reflective_selector}
use Rattle.run_model.specs.Values.{Name}
use Rattle.run_model.proofs.Finite.{by_cases}
use Rattle.rename_model.specs.CommandWords.{has_own_meaning, text_command_words}
use Rattle.rename_model.specs.Conditions.{speaks_of, is_no_kernel_selector}
use Rattle.rename_laws.proofs.Unnamed.{neither_left, neither_right}
use Rattle.parameter_laws.specs.Arities.{IsPlainlyWritten}
use Rattle.parameter_laws.proofs.Reading.{HasNoPrimitive}

-- of two that do not both hold, the second fails where the first holds
pub second-fails : (a b : Bool) → (a && b) ≡ false → a ≡ true → b ≡ false
second-fails true b e t = e
second-fails false b e t = absurd (false≢true t)

-- a method of the kernel does not speak of a selector
abbrev pub IsApart : Name → EntryOf Name → Type 0
IsApart s m = m.kernel ≡ true → speaks_of text_eq s m ≡ false

module _ (i : ImageOf Name) (s : Name) (apart : is_no_kernel_selector text_eq text_command_words i s ≡ true) where
  none : (list_any (λ (m : EntryOf Name). m.kernel && speaks_of text_eq s m) i.methods || has_own_meaning s) ≡ false
  none = not-true (list_any (λ (m : EntryOf Name). m.kernel && speaks_of text_eq s m) i.methods || has_own_meaning s) apart

  -- it is none of control sends
  pub control-apart : is_control s ≡ false
  control-apart =
      neither_left (is_control s) (is_reserved_selector s || (is_reflective_selector s || text_eq (codes "doesNotUnderstand:") s))
      (neither_right (list_any (λ (m : EntryOf Name). m.kernel && speaks_of text_eq s m) i.methods) (has_own_meaning s) none)

  each-apart : (ms : List (EntryOf Name)) → list_any (λ (m : EntryOf Name). m.kernel && speaks_of text_eq s m) ms ≡ false → AllByRecursion (IsApart s) ms
  each-apart [] e = tt
  each-apart (m ∷ ms) e = (
    second-fails m.kernel (speaks_of text_eq s m) (neither_left (m.kernel && speaks_of text_eq s m) (list_any (λ (m : EntryOf Name). m.kernel && speaks_of text_eq s m) ms) e),
    each-apart ms (neither_right (m.kernel && speaks_of text_eq s m) (list_any (λ (m : EntryOf Name). m.kernel && speaks_of text_eq s m) ms) e),
  )

  pub methods-apart : AllByRecursion (IsApart s) i.methods
  methods-apart = each-apart i.methods (neither_left (list_any (λ (m : EntryOf Name). m.kernel && speaks_of text_eq s m) i.methods) (has_own_meaning s) none)

  -- so no method of it is a primitive
  own-primitive : (m : EntryOf Name) → IsApart s m → IsPlainlyWritten m → HasNoPrimitive s m
  own-primitive m h w t = by_cases m.kernel (λ k. absurd (false≢true (sym (neither_left (text_eq s m.tree.selector) (list_any (λ e. is_sender text_eq s e.1) (nodes m.tree.body)) (h k)) ∙ t))) (λ k. w.no_primitive k)

  primitives : (ms : List (EntryOf Name)) → AllByRecursion (IsApart s) ms → AllByRecursion IsPlainlyWritten ms → AllByRecursion (HasNoPrimitive s) ms
  primitives [] h w = tt
  primitives (m ∷ ms) h w = (own-primitive m h.0 w.0, primitives ms h.1 w.1)

  pub no-primitive : AllByRecursion IsPlainlyWritten i.methods → AllByRecursion (HasNoPrimitive s) i.methods
  no-primitive w = primitives i.methods methods-apart w
