-- Parts of methods that are there, and that are not.
use Rattle.std.proofs.Common.{◌≡◌, ℕ, List, [], Option, None, Some, option_map, refl, sym, ap, ◌∙◌}
use Rattle.std.specs.Option.{option_and_then}
use Rattle.std.specs.Prelude.{nat_eq}
use Rattle.tree_model.specs.Tree.{MethodOf}
use Rattle.image_model.specs.Image.{EntryOf}
use Rattle.class_table.specs.declared.record.Place.{Place}
use Rattle.class_table.specs.Slots.{Slots}
use Rattle.class_table.specs.Valid.{IsOrderly}
use Rattle.class_table.specs.View.{number_image}
use Rattle.change_set.specs.declared.change.Change.{Change}
use Rattle.command_model.specs.CodeEffects.{part_at, path_of_expression}
use Rattle.command_model.specs.Commands.{ExtractTemp}
use Rattle.command_model.specs.Parts.{Part}
use Rattle.command_model.specs.Places.{users_method}
use Rattle.command_model.specs.Temporaries.{temporary_extracted}
use Rattle.commands.specs.Views.{asked_by}
use Rattle.commands.specs.declared.command.MethodPart.{MethodPart}
use Rattle.plans.specs.Plan.{IsPlan}
use Rattle.code_plans.proofs.Given.{plan-nothing}

module _ {M P : Type 0} (look : M → Option P) where
  -- a method with its part
  abbrev with-part : Option M → Option (M × P)
  with-part o = option_and_then (λ (m : M). option_map (λ (p : P). (m, p)) (look m)) o

  -- the method that is found has the part
  looked : (o : Option M) (e : M × P) → Some e ≡ with-part o → (m : M) → o ≡ Some m → look m ≡ Some e.1
  looked o e is m at = by (look m) (is ∙ ap with-part at)
    where
      by : (q : Option P) → Some e ≡ option_map (λ (p : P). (m, p)) q → q ≡ Some e.1
      by None there = absurd (cc)
      by (Some p) there = let same : e ≡ (m, p) = cc in ap (λ (x : M × P). Some x.1) (sym same)

  -- without a part nothing is made of it
  unmade : {T : Type 0} (make : M → Option P → Option T) → ((m : M) → make m None ≡ None) → (o : Option M) → None ≡ with-part o → option_and_then (λ (m : M). make m (look m)) o ≡ None
  unmade make nothing None none = refl
  unmade make nothing (Some m) none = by (look m) none
    where
      by : (q : Option P) → ◌≡◌ {A = Option (M × P)} None (option_map (λ (p : P). (m, p)) q) → make m q ≡ None
      by None there = nothing m
      by (Some p) there = absurd (cc)

module _ (s : Slots) (p : MethodPart) where
  -- the user's method, and with the part
  abbrev own : Option (EntryOf ℕ)
  own = users_method nat_eq (number_image s) p.method.class p.method.meta p.method.selector

  abbrev look : EntryOf ℕ → Option Part
  look m = (asked_by s.names).part_of m.source p.from p.to

  abbrev parted : Option (EntryOf ℕ × Part)
  parted = part_at (asked_by s.names) (number_image s) p.method.class p.method.meta p.method.selector p.from p.to

  pub part-there : (e : EntryOf ℕ × Part) → Some e ≡ parted → (m : EntryOf ℕ) → own ≡ Some m → look m ≡ Some e.1
  part-there e there = looked look own e there

  -- the tree with a temporary in place of a part
  abbrev changed : ℕ → EntryOf ℕ → Option Part → Option (MethodOf ℕ)
  changed x m part = option_and_then (λ path. temporary_extracted (asked_by s.names) m.tree path x) (option_and_then path_of_expression part)

  -- there is no such part
  pub part-missing : IsOrderly s → (x : ℕ) (cs : List Change) (ps : List Place) → cs ≡ [] → ps ≡ [] → None ≡ parted → IsPlan s (ExtractTemp p.method.class p.method.meta p.method.selector p.from p.to x) cs ps
  part-missing o x cs ps a b none =
      plan-nothing s o p.method (ExtractTemp p.method.class p.method.meta p.method.selector p.from p.to x) (λ (m : EntryOf ℕ). changed x m (look m)) refl cs ps a b
      (unmade look (changed x) (λ m. refl) own none)
