-- The methods of a class, a side and a selector among others, and look-ups on chains where none of these differs.
use Rattle.std.proofs.Common.{◌≡◌, Option, sym, ap, ◌∙◌}
use Rattle.std.specs.Prelude.{Bool, true, false, ◌&&◌}
use Rattle.std.proofs.Math.Bool.{beq}
use Rattle.std.specs.List.{AllByRecursion}
use Rattle.std.specs.Option.{option_map_or}
use Rattle.rb_base.specs.Names.{text_eq}
use Rattle.image_model.specs.Image.{ClassOf, EntryOf, ImageOf}
use Rattle.image_model.specs.Upwards.{first_given}
use Rattle.image_model.specs.Chain.{chain_from}
use Rattle.image_model.specs.Lookup.{is_method, own_method, on_chain}
use Rattle.image_model.proofs.UpwardsLemmas.{first_given-same}
use Rattle.run_model.specs.Values.{Name}
use Rattle.run_model.proofs.Finite.{and-true_left, and-true_right}
use Rattle.run_model.proofs.RenamingLemmas.{text-same}
use Rattle.agreement_laws.proofs.Tests.{sides-same, class-there}

-- whether a class, a side and a selector are those of a method
abbrev pub is_place : Name → Bool → Name → Name → Bool → Name → Bool
is_place c meta s d b t = text_eq d c && beq b meta && text_eq t s

-- a method of one place is none of another
pub method-apart : (c : Name) (meta : Bool) (s d : Name) (b : Bool) (t : Name) → is_place c meta s d b t ≡ false → (m : EntryOf Name) → is_method text_eq c meta s m ≡ true → is_method text_eq d b t m ≡ false
method-apart c meta s d b t e m h =
    let first = and-true_left (option_map_or (text_eq c) m.class false && beq meta m.meta) (text_eq s m.tree.selector) h in
    let class = class-there c m.class (and-true_left (option_map_or (text_eq c) m.class false) (beq meta m.meta) first) in
    let side = sides-same meta m.meta (and-true_right (option_map_or (text_eq c) m.class false) (beq meta m.meta) first) in
    let selector = text-same s m.tree.selector (and-true_right (option_map_or (text_eq c) m.class false && beq meta m.meta) (text_eq s m.tree.selector) h) in
    (λ i. option_map_or (text_eq d) (class i) false && beq b (sym side i) && text_eq t (sym selector i)) ∙ e

module _ (i j : ImageOf Name) (classes : j.classes ≡ i.classes) (b : Bool) (t : Name) where
  -- on a chain whose classes have the same methods
  pub chain-same : (o : Option (ClassOf Name)) → AllByRecursion (λ (e : ClassOf Name). own_method text_eq j.methods e.name b t ≡ own_method text_eq i.methods e.name b t) (chain_from text_eq i.classes o) → on_chain text_eq j o b t ≡ on_chain text_eq i o b t
  chain-same o a =
      ap (λ cs. first_given (λ c. own_method text_eq j.methods c.name b t) (chain_from text_eq cs o)) classes
      ∙ first_given-same (λ c. own_method text_eq j.methods c.name b t) (λ c. own_method text_eq i.methods c.name b t) (chain_from text_eq i.classes o) a
