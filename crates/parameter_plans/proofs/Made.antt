-- The change of the code at a place, from what was asked of it and made of it.
use Rattle.std.proofs.Common.{◌≡◌, ℕ, ◌<◌, Bool, true, false, ◌||◌, List, [], ◌∷◌, ◌++◌, length, None, Some, slice_get, option_map, refl, sym, ap, ◌∙◌}
use Rattle.std.specs.Prelude.{nat_eq}
use Rattle.std.specs.Borrow.{Bor}
use Rattle.std.specs.List.{list_any}
use Rattle.std.specs.Option.{option_copied}
use Rattle.tree_model.specs.Tree.{TreeOf}
use Rattle.tree_model.specs.AllNames.{SequenceNames, MethodNames}
use Rattle.tree_model.specs.Nodes.{Placed, nodes}
use Rattle.st_tree.specs.View.{method_of, sequence_of}
use Rattle.st_tree.specs.declared.tree.Method.{Method}
use Rattle.st_tree.specs.declared.tree.Sequence.{Sequence}
use Rattle.command_model.specs.Numbers.{number_writing}
use Rattle.image_model.specs.ImageNames.{ImageNames}
use Rattle.image_model.specs.Uses.{is_sender}
use Rattle.class_table.specs.declared.record.MethodRec.{MethodRec}
use Rattle.class_table.specs.declared.record.DoIt.{DoIt}
use Rattle.class_table.specs.declared.record.MethodInfo.{MethodInfo}
use Rattle.class_table.specs.declared.record.Place.TheVariants as place
use Rattle.class_table.specs.Slots.{Slots}
use Rattle.class_table.specs.Info.{IsInfoOf}
use Rattle.class_table.specs.View.{live_at, entry_of, doit_of}
use Rattle.change_set.specs.declared.change.Change.TheVariants as change
use Rattle.mentions.specs.Mentions.{trees_of_nodes}
use Rattle.remade_plans.specs.Remade.{Remaking, image_after, change_at}
use Rattle.remade_plans.proofs.MadeAnew.{method_told, doit_told, method-stays, method-names, method-changes, doit-stays, doit-names, doit-changes}
use Rattle.parameter_plans.specs.declared.given.ParameterChange.{ParameterChange}
use Rattle.parameter_plans.specs.Given.{selector_before, tree_after, remaking_of}

-- a test of the nodes of code
pub any-node : (test : TreeOf ℕ → Bool) (es : List (Placed ℕ)) → list_any test (trees_of_nodes es) ≡ list_any (λ (e : Placed ℕ). test e.1) es
any-node test [] = refl
any-node test (e ∷ es) = ap (λ (b : Bool). test e.1 || b) (any-node test es)

module _ (image : Bor Slots) (p : ParameterChange) where
  abbrev r : Remaking
  r = remaking_of p

  abbrev IsKnown : ℕ → Type 0
  IsKnown n = n < length image.now.names

  -- a method of which something is told, and whose tree is lent
  module _ (k : ℕ) (info : MethodInfo) (tree : Bor Method) (told : IsInfoOf (Some info) (live_at image.now.methods image.now.method_order k))
      (lent : option_copied (Some tree) ≡ option_map (λ (m : MethodRec). m.tree) (live_at image.now.methods image.now.method_order k))
      (selector : ℕ) (spoken : Bool) (is : selector ≡ selector_before p)
      (tells : spoken ≡ (nat_eq selector tree.now.selector || list_any (λ (e : Placed ℕ). is_sender nat_eq selector e.1) (nodes (sequence_of tree.now.body)))) where
    found : r.is_method_remade (entry_of image.now.classes (method_told image r k info tree told lent)) ≡ spoken
    found = sym (tells ∙ ap (λ (s : ℕ). nat_eq s tree.now.selector || list_any (λ (e : Placed ℕ). is_sender nat_eq s e.1) (nodes (sequence_of tree.now.body))) is)

    -- it does not speak of the selector
    pub method-none : spoken ≡ false → None ≡ change_at image.now r (place.Method k)
    method-none f = method-stays image r k info tree told lent (found ∙ f)

    -- it does, and this is made of it
    module _ (copy made : Method) (f : spoken ≡ true) (same : copy ≡ tree.now) (e : method_of made ≡ tree_after p (method_of copy)) where
      tree-is : method_of made ≡ tree_after p (method_of tree.now)
      tree-is = e ∙ ap (λ (t : Method). tree_after p (method_of t)) same

      -- each name in it has a text
      pub method-known : ImageNames IsKnown (image_after image.now r) → MethodNames IsKnown (method_of made)
      method-known known = method-names image r k info tree told lent made (found ∙ f) tree-is known

      -- the change
      pub method-some : (protocol source empty : List ℕ) (names : List (List ℕ)) → protocol ≡ info.protocol.now → empty ≡ [] → names ≡ image.now.names → source ≡ empty ++ (number_writing names).method_text (method_of made)
          → Some (change.Method k (record { class = info.class; meta = info.meta; protocol = protocol; source = source; tree = made; kernel = info.kernel })) ≡ change_at image.now r (place.Method k)
      method-some protocol source empty names noted blank known text = method-changes image r k info tree told lent made (found ∙ f) tree-is protocol source empty names noted blank known text

  -- a do-it whose body is lent
  module _ (n : ℕ) (body : Bor Sequence) (lent : option_copied (Some body) ≡ option_map (λ (d : DoIt). d.body) (slice_get image.now.doits n))
      (selector : ℕ) (sent : Bool) (is : selector ≡ selector_before p)
      (tells : sent ≡ list_any (λ (e : Placed ℕ). is_sender nat_eq selector e.1) (nodes (sequence_of body.now))) where
    doit-found : r.is_doit_remade (doit_of (doit_told image r n body lent)) ≡ sent
    doit-found = sym (tells ∙ ap (λ (s : ℕ). list_any (λ (e : Placed ℕ). is_sender nat_eq s e.1) (nodes (sequence_of body.now))) is)

    -- it does not send the selector
    pub doit-none : sent ≡ false → None ≡ change_at image.now r (place.DoIt n)
    doit-none f = doit-stays image r n body lent (doit-found ∙ f)

    -- it does, and this is made of it
    module _ (copy made : Sequence) (f : sent ≡ true) (same : copy ≡ body.now) (e : sequence_of made ≡ r.body_after (sequence_of copy)) where
      body-is : sequence_of made ≡ r.body_after (sequence_of body.now)
      body-is = e ∙ ap (λ (b : Sequence). r.body_after (sequence_of b)) same

      -- each name in it has a text
      pub doit-known : ImageNames IsKnown (image_after image.now r) → SequenceNames IsKnown (sequence_of made)
      doit-known known = doit-names image r n body lent made (doit-found ∙ f) body-is known

      -- the change
      pub doit-some : (source empty : List ℕ) (names : List (List ℕ)) → empty ≡ [] → names ≡ image.now.names → source ≡ empty ++ (number_writing names).doit_text (sequence_of made)
          → Some (change.DoIt n (record { source = source; body = made })) ≡ change_at image.now r (place.DoIt n)
      doit-some source empty names blank known text = doit-changes image r n body lent made (doit-found ∙ f) body-is source empty names blank known text
