-- The names in methods that are found, and in those that are made of them, are in the table.
use Rattle.std.proofs.Common.{ℕ, ◌<◌, Bool, true, false, List, [], ◌∷◌, length, Option, None, Some, option_map}
use Rattle.std.specs.Prelude.{nat_eq, if◌then◌else◌, find}
use Rattle.std.specs.Option.{option_or}
use Rattle.tree_model.specs.Tree.{MethodOf}
use Rattle.tree_model.specs.AllNames.{TreesNames, MethodNames}
use Rattle.tree_model.specs.Normal.{normal}
use Rattle.image_model.specs.Image.{ClassOf, EntryOf}
use Rattle.image_model.specs.ImageNames.{OptionNames, EntryNames}
use Rattle.image_model.specs.Words.{number_words}
use Rattle.image_model.specs.Upwards.{first_given}
use Rattle.image_model.specs.Chain.{class_of_name, chain_from}
use Rattle.image_model.specs.Lookup.{is_method, own_method, on_chain, as_object, lookup}
use Rattle.image_model.proofs.Lists.{find-all}
use Rattle.class_table.specs.Slots.{Slots}
use Rattle.class_table.specs.Valid.{IsOrderly}
use Rattle.class_table.specs.View.{number_image}
use Rattle.wider_slots.proofs.Trees.{and_then-fact}
use Rattle.command_model.specs.CodeEffects.{part_at}
use Rattle.command_model.specs.Inlined.{tree_inlined}
use Rattle.command_model.specs.Parts.{Part}
use Rattle.command_model.specs.Places.{SendOf, sent_by}
use Rattle.commands.specs.Views.{asked_by}
use Rattle.temporary_code.proofs.NamesKept.{names-normal_by}
use Rattle.code_plans.specs.Inlined.{inlined_at}
use Rattle.code_plans.proofs.Bodies.{sent-names, inlined-names}

module _ (s : Slots) (o : IsOrderly s) where
  abbrev Here : ℕ → Type 0
  Here n = n < length s.names

  -- of either of two methods
  either-known : (a b : Option (EntryOf ℕ)) → OptionNames (EntryNames Here) a → OptionNames (EntryNames Here) b → OptionNames (EntryNames Here) (option_or a b)
  either-known None b h k = k
  either-known (Some m) b h k = h

  own-known : (c : ℕ) (meta : Bool) (selector : ℕ) → OptionNames (EntryNames Here) (own_method nat_eq (number_image s).methods c meta selector)
  own-known c meta selector = find-all (EntryNames Here) (is_method nat_eq c meta selector) (number_image s).methods o.names_known.methods

  -- of the first one on a chain
  first-known : (meta : Bool) (selector : ℕ) (cs : List (ClassOf ℕ)) → OptionNames (EntryNames Here) (first_given (λ (c : ClassOf ℕ). own_method nat_eq (number_image s).methods c.name meta selector) cs)
  first-known meta selector [] = tt
  first-known meta selector (c ∷ cs) =
      either-known (own_method nat_eq (number_image s).methods c.name meta selector) (first_given (λ (d : ClassOf ℕ). own_method nat_eq (number_image s).methods d.name meta selector) cs)
      (own-known c.name meta selector) (first-known meta selector cs)

  object-known : (b : Bool) (selector : ℕ) → OptionNames (EntryNames Here) (if b then as_object (number_words s.names) (number_image s) selector else None)
  object-known true selector = first-known false selector (chain_from nat_eq (number_image s).classes (find (λ (c : ClassOf ℕ). (number_words s.names).is_class c.name) (number_image s).classes))
  object-known false selector = tt

  -- of the one that a class finds
  found-known : (c : Option ℕ) (meta : Bool) (selector : ℕ) → OptionNames (EntryNames Here) (lookup (number_words s.names) (number_image s) c meta selector)
  found-known c meta selector =
      either-known (on_chain nat_eq (number_image s) (class_of_name nat_eq (number_image s).classes c) meta selector) (if meta then as_object (number_words s.names) (number_image s) selector else None)
      (first-known meta selector (chain_from nat_eq (number_image s).classes (class_of_name nat_eq (number_image s).classes c))) (object-known meta selector)

  -- of the user's one, where it has the part
  users-known : (m : EntryOf ℕ) → EntryNames Here m → OptionNames (EntryNames Here) (if m.kernel then None else Some m)
  users-known m h = by m.kernel
    where
      by : (b : Bool) → OptionNames (EntryNames Here) (if b then None else Some m)
      by true = tt
      by false = h

  parted-known : (m : EntryOf ℕ) → EntryNames Here m → (q : Option Part) → OptionNames (λ (e : EntryOf ℕ × Part). EntryNames Here e.0) (option_map (λ (p : Part). (m, p)) q)
  parted-known m h None = tt
  parted-known m h (Some p) = h

  pub part-known : (c : ℕ) (meta : Bool) (selector from to : ℕ) → OptionNames (λ (e : EntryOf ℕ × Part). EntryNames Here e.0) (part_at (asked_by s.names) (number_image s) c meta selector from to)
  part-known c meta selector from to =
      and_then-fact (EntryNames Here) (λ (e : EntryOf ℕ × Part). EntryNames Here e.0) _ (λ m h. parted-known m h ((asked_by s.names).part_of m.source from to)) _
      (and_then-fact (EntryNames Here) (EntryNames Here) _ users-known (own_method nat_eq (number_image s).methods c meta selector) (own-known c meta selector))

  -- of the method in which the body of the one that a message finds stands in place of it
  normal-known : (q : Option (MethodOf ℕ)) → OptionNames (MethodNames Here) q → OptionNames (MethodNames Here) (option_map normal q)
  normal-known None h = tt
  normal-known (Some m) h = names-normal_by Here m.body.temporaries m h

  pub inlined-known : (c : ℕ) (meta : Bool) (m : MethodOf ℕ) (part : Part) → MethodNames Here m → OptionNames (MethodNames Here) (option_map normal (inlined_at s c meta m part))
  inlined-known c meta m part h =
      normal-known (inlined_at s c meta m part)
      (and_then-fact (λ (e : SendOf ℕ). TreesNames Here e.arguments) (MethodNames Here) _
      (λ e passed. and_then-fact (EntryNames Here) (MethodNames Here) (λ (target : EntryOf ℕ). tree_inlined (asked_by s.names) m e target.tree) (λ target k. inlined-names Here (asked_by s.names) m e target.tree h passed k.tree) _ (found-known (Some c) meta e.selector))
      (sent_by m part) (sent-names Here m part h))
