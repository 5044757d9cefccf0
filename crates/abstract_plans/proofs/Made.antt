-- The change of the code at a place, from what was made of it.
use Rattle.std.proofs.Common.{◌≡◌, ℕ, ◌<◌, Bool, true, false, List, [], ◌++◌, length, Option, None, Some, slice_get, option_map, refl, sym, ap, ◌∙◌}
use Rattle.std.specs.Prelude.{if◌then◌else◌}
use Rattle.std.specs.Borrow.{Bor}
use Rattle.std.specs.Option.{option_copied}
use Rattle.tree_model.specs.Tree.{SequenceOf, MethodOf}
use Rattle.tree_model.specs.AllNames.{SequenceNames, MethodNames}
use Rattle.st_tree.specs.View.{method_of, sequence_of}
use Rattle.st_tree.specs.declared.tree.Method.{Method}
use Rattle.st_tree.specs.declared.tree.Sequence.{Sequence}
use Rattle.command_model.specs.Numbers.{number_writing}
use Rattle.command_model.specs.Walk.{rebuilt_sequence, rebuilt_method}
use Rattle.image_model.specs.Image.{EntryOf}
use Rattle.image_model.specs.ImageNames.{ImageNames}
use Rattle.class_table.specs.declared.record.MethodRec.{MethodRec}
use Rattle.class_table.specs.declared.record.DoIt.{DoIt}
use Rattle.class_table.specs.declared.record.MethodInfo.{MethodInfo}
use Rattle.class_table.specs.declared.record.Place.TheVariants as place
use Rattle.class_table.specs.Slots.{Slots}
use Rattle.class_table.specs.Info.{IsInfoOf}
use Rattle.class_table.specs.View.{live_at, class_name}
use Rattle.change_set.specs.declared.change.Change.TheVariants as change
use Rattle.abstracted_code.specs.declared.abstraction.Abstraction.{Abstraction}
use Rattle.abstracted_code.specs.Abstracted.{in_method, in_doit, node_after, means_it, method_after, body_after}
use Rattle.remade_plans.specs.Remade.{Remaking, image_after, change_at}
use Rattle.remade_plans.proofs.MadeAnew.{method-stays, method-names, method-changes, doit-stays, doit-names, doit-changes}
use Rattle.abstract_plans.specs.Abstracted.{remaking_of}

-- what is given if a test passes
given-none : {X : Type 0} (b : Bool) (t : X) → None ≡ (if b then Some t else None) → b ≡ false
given-none true t e = absurd (cc)
given-none false t e = refl

given-some : {X : Type 0} (b : Bool) (t x : X) → Some x ≡ (if b then Some t else None) → (b ≡ true) × (x ≡ t)
given-some true t x e = (refl, cc)
given-some false t x e = absurd (cc)

module _ (image : Bor Slots) (a : Abstraction) where
  abbrev s : Slots
  s = image.now

  abbrev r : Remaking
  r = remaking_of s a

  abbrev IsKnown : ℕ → Type 0
  IsKnown n = n < length image.now.names

  -- a method of which something is told, and whose tree is lent
  module _ (k : ℕ) (info : MethodInfo) (tree : Bor Method) (told : IsInfoOf (Some info) (live_at image.now.methods image.now.method_order k))
      (lent : option_copied (Some tree) ≡ option_map (λ (m : MethodRec). m.tree) (live_at image.now.methods image.now.method_order k))
      (found : Option Method) where
    abbrev m : EntryOf ℕ
    m = record { class = class_name s.classes info.class; meta = info.meta; protocol = []; source = []; tree = method_of tree.now; kernel = false }

    module _ (made : option_map method_of found ≡ method_after s a m) where
      abbrev meant : Bool
      meant = means_it s a (in_method s a m) m.tree.body

      abbrev after : MethodOf ℕ
      after = rebuilt_method (node_after s a (in_method s a m)) m.tree

      -- nothing was made of it
      pub method-none : found ≡ None → None ≡ change_at s r (place.Method k)
      method-none none = method-stays image r k info tree told lent (given-none meant after (sym (ap (option_map method_of) none) ∙ made))

      -- this was made of it
      module _ (new : Method) (some : found ≡ Some new) where
        both : (meant ≡ true) × (method_of new ≡ after)
        both = given-some meant after (method_of new) (sym (ap (option_map method_of) some) ∙ made)

        pub method-known : ImageNames IsKnown (image_after s r) → MethodNames IsKnown (method_of new)
        method-known known = method-names image r k info tree told lent new both.0 both.1 known

        pub method-some : (protocol source empty : List ℕ) (names : List (List ℕ)) → protocol ≡ info.protocol.now → empty ≡ [] → names ≡ image.now.names → source ≡ empty ++ (number_writing names).method_text (method_of new)
            → Some (change.Method k (record { class = info.class; meta = info.meta; protocol = protocol; source = source; tree = new; kernel = info.kernel })) ≡ change_at s r (place.Method k)
        method-some protocol source empty names noted blank known text = method-changes image r k info tree told lent new both.0 both.1 protocol source empty names noted blank known text

  -- a do-it whose body is lent
  module _ (n : ℕ) (body : Bor Sequence) (lent : option_copied (Some body) ≡ option_map (λ (d : DoIt). d.body) (slice_get image.now.doits n)) (found : Option Sequence)
      (made : option_map sequence_of found ≡ body_after s a (sequence_of body.now)) where
    abbrev doit_meant : Bool
    doit_meant = means_it s a (in_doit s a (sequence_of body.now)) (sequence_of body.now)

    abbrev doit_after : SequenceOf ℕ
    doit_after = rebuilt_sequence (node_after s a (in_doit s a (sequence_of body.now))) (sequence_of body.now)

    pub doit-none : found ≡ None → None ≡ change_at s r (place.DoIt n)
    doit-none none = doit-stays image r n body lent (given-none doit_meant doit_after (sym (ap (option_map sequence_of) none) ∙ made))

    module _ (new : Sequence) (some : found ≡ Some new) where
      doit-both : (doit_meant ≡ true) × (sequence_of new ≡ doit_after)
      doit-both = given-some doit_meant doit_after (sequence_of new) (sym (ap (option_map sequence_of) some) ∙ made)

      pub doit-known : ImageNames IsKnown (image_after s r) → SequenceNames IsKnown (sequence_of new)
      doit-known known = doit-names image r n body lent new doit-both.0 doit-both.1 known

      pub doit-some : (source empty : List ℕ) (names : List (List ℕ)) → empty ≡ [] → names ≡ image.now.names → source ≡ empty ++ (number_writing names).doit_text (sequence_of new)
          → Some (change.DoIt n (record { source = source; body = new })) ≡ change_at s r (place.DoIt n)
      doit-some source empty names blank known text = doit-changes image r n body lent new doit-both.0 doit-both.1 source empty names blank known text
