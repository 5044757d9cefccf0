-- The change of the code at a place, from what a walk through it found and made.
use Rattle.std.proofs.Common.{◌≡◌, ℕ, ◌<◌, Bool, true, false, List, [], length, Option, None, Some, IfSome, IfNone, slice_get, option_map, refl, sym, ap, subst, ◌∙◌}
use Rattle.std.specs.Borrow.{Bor}
use Rattle.std.specs.Option.{option_copied}
use Rattle.rb_base.specs.Names.{name_at}
use Rattle.tree_model.specs.Tree.{SequenceOf, MethodOf, map_sequence, map_method}
use Rattle.tree_model.specs.AllNames.{SequenceNames, MethodNames}
use Rattle.st_tree.specs.View.{statements_of, method_of, sequence_of}
use Rattle.st_tree.specs.declared.tree.Method.{Method}
use Rattle.st_tree.specs.declared.tree.Sequence.{Sequence}
use Rattle.text_model.specs.Whole.{canonical_method, canonical_doit}
use Rattle.image_model.specs.Words.{number_words}
use Rattle.command_model.specs.Numbers.{number_writing}
use Rattle.class_table.specs.declared.record.MethodRec.{MethodRec}
use Rattle.class_table.specs.declared.record.DoIt.{DoIt}
use Rattle.class_table.specs.declared.record.MethodInfo.{MethodInfo}
use Rattle.class_table.specs.declared.record.Place.TheVariants as place
use Rattle.class_table.specs.Slots.{Slots}
use Rattle.class_table.specs.Info.{IsInfoOf}
use Rattle.class_table.specs.View.{live_at, entry_of, doit_of, number_image}
use Rattle.class_table.specs.Valid.{IsOrderly}
use Rattle.change_set.specs.declared.change.Change.{Change}
use Rattle.change_set.specs.declared.change.Change.TheVariants as change
use Rattle.renamed_code.specs.declared.renamed.Renamed.{Renamed}
use Rattle.renamed_code.specs.declared.renaming.Renaming.{Renaming}
use Rattle.renamed_code.specs.Anew.{entry_after, is_entry_changed, doit_after, is_doit_changed}
use Rattle.renamed_code.specs.ChangedCode.{renamed_of, change_at}
use Rattle.renamed_code.specs.Renamings.{sequence_after, method_after, is_in_statements, is_in_method, may_stand_in, may_stand_in_method}
use Rattle.renamed_code.proofs.Nowhere.{nowhere-sequence, nowhere-method}
use Rattle.renamed_code.proofs.Views.{in_method, in_doit, method-after, method-found, doit-after, doit-found}
use Rattle.renamed_code.proofs.After.{names-entry_after, names-doit_after}
use Rattle.renamed_code.proofs.Changed.{method-there, doit-there, method-known, doit-known, method-unchanged, method-changed, doit-unchanged, doit-changed}

-- what is told of what was found
told-some : {T : Type 0} (P : T → Type 0) (found : Option T) (x : T) → found ≡ Some x → IfSome found P → P x
told-some P found x e h = subst (λ o. IfSome o P) e h

told-none : {T : Type 0} (P : Type 0) (found : Option T) → found ≡ None → IfNone found P → P
told-none P found e h = subst (λ o. IfNone o P) e h

module _ (image : Bor Slots) (to : ℕ) (what : Renamed) where
  -- what is told of a method, and its tree
  module _ (k : ℕ) (info : MethodInfo) (tree : Bor Method) (told : IsInfoOf (Some info) (live_at image.now.methods image.now.method_order k))
      (lent : option_copied (Some tree) ≡ option_map (λ (m : MethodRec). m.tree) (live_at image.now.methods image.now.method_order k)) where
    abbrev m : MethodRec
    m = record { class = info.class; meta = info.meta; protocol = info.protocol.now; source = info.source.now; tree = tree.now; kernel = info.kernel }

    abbrev r : Renaming
    r = in_method image to info.class info.meta tree what

    there : live_at image.now.methods image.now.method_order k ≡ Some m
    there = method-there image.now k info tree told lent

    found-is : (b : Bool) → is_in_method r [] (method_of tree.now) ≡ b
        → is_entry_changed (number_words image.now.names) (number_writing image.now.names) (number_image image.now) to (renamed_of what) (entry_of image.now.classes m) ≡ b
    found-is b e = sym (method-found image to info.class info.meta info.protocol.now info.source.now tree info.kernel what) ∙ e

    tree-is : (made : Method) → method_of made ≡ method_after r [] (method_of tree.now)
        → method_of made ≡ (entry_after (number_words image.now.names) (number_writing image.now.names) (number_image image.now) to (renamed_of what) (entry_of image.now.classes m)).tree
    tree-is made e = e ∙ method-after image to info.class info.meta info.protocol.now info.source.now tree info.kernel what

    -- each name in the method made has a text
    pub method-made_known : (found : Option Method) (made : Method) → IsOrderly image.now → to < length image.now.names → found ≡ Some made
        → IfSome found (λ after. method_of after ≡ method_after r [] (method_of tree.now)) → MethodNames (λ n. n < length image.now.names) (method_of made)
    method-made_known found made orderly known is after =
        subst (λ (t : MethodOf ℕ). MethodNames (λ n. n < length image.now.names) t) (sym (tree-is made (told-some _ found made is after)))
        (names-entry_after (λ n. n < length image.now.names) (number_words image.now.names) (number_writing image.now.names) (number_image image.now) to known (renamed_of what) (entry_of image.now.classes m)
        (method-known image.now k m orderly there))

    -- nothing was found
    pub method-none : (found : Option Method) → found ≡ None → IfNone found (is_in_method r [] (method_of tree.now) ≡ false) → None ≡ change_at image.now (renamed_of what) to (place.Method k)
    method-none found is none = method-unchanged image.now (renamed_of what) to k m there (found-is false (told-none _ found is none))

    -- it cannot stand there
    pub method-unused : may_stand_in_method (renamed_of what) (method_of tree.now) ≡ false → None ≡ change_at image.now (renamed_of what) to (place.Method k)
    method-unused h = method-unchanged image.now (renamed_of what) to k m there (found-is false (nowhere-method r (method_of tree.now) h))

    -- it was found
    pub method-some : (found : Option Method) (made : Method) (rec : MethodRec) → found ≡ Some made → IfSome found (λ after. method_of after ≡ method_after r [] (method_of tree.now))
        → IfSome found (λ after. is_in_method r [] (method_of tree.now) ≡ true)
        → rec ≡ record { class = info.class; meta = info.meta; protocol = info.protocol.now; source = canonical_method (map_method (name_at image.now.names) (method_of made)); tree = made; kernel = info.kernel }
        → Some (change.Method k rec) ≡ change_at image.now (renamed_of what) to (place.Method k)
    method-some found made rec is after there-it-is e =
        ap (λ (z : MethodRec). Some (change.Method k z)) e
        ∙ method-changed image.now (renamed_of what) to k m made (canonical_method (map_method (name_at image.now.names) (method_of made))) there (found-is true (told-some _ found made is there-it-is))
        (tree-is made (told-some _ found made is after)) refl

  -- the body of a do-it
  module _ (n : ℕ) (body : Bor Sequence) (lent : option_copied (Some body) ≡ option_map (λ (d : DoIt). d.body) (slice_get image.now.doits n)) where
    abbrev b : Renaming
    b = in_doit image to body what

    doit-place : (source : List ℕ) × (slice_get image.now.doits n ≡ Some (record { source = source; body = body.now }))
    doit-place = doit-there image.now n body lent

    abbrev d : DoIt
    d = record { source = doit-place.0; body = body.now }

    doit-found-is : (x : Bool) → is_in_statements b [] 0 (statements_of body.now.statements) ≡ x
        → is_doit_changed (number_words image.now.names) (number_writing image.now.names) (number_image image.now) to (renamed_of what) (doit_of d) ≡ x
    doit-found-is x e = sym (doit-found image to doit-place.0 body what) ∙ e

    body-is : (made : Sequence) → sequence_of made ≡ sequence_after b [] (sequence_of body.now)
        → sequence_of made ≡ (doit_after (number_words image.now.names) (number_writing image.now.names) (number_image image.now) to (renamed_of what) (doit_of d)).body
    body-is made e = e ∙ doit-after image to doit-place.0 body what

    -- each name in the do-it made has a text
    pub doit-made_known : (found : Option Sequence) (made : Sequence) → IsOrderly image.now → to < length image.now.names → found ≡ Some made
        → IfSome found (λ after. sequence_of after ≡ sequence_after b [] (sequence_of body.now)) → SequenceNames (λ m. m < length image.now.names) (sequence_of made)
    doit-made_known found made orderly known is after =
        subst (λ (t : SequenceOf ℕ). SequenceNames (λ m. m < length image.now.names) t) (sym (body-is made (told-some _ found made is after)))
        (names-doit_after (λ m. m < length image.now.names) (number_words image.now.names) (number_writing image.now.names) (number_image image.now) to known (renamed_of what) (doit_of d)
        (doit-known image.now n d orderly doit-place.1))

    -- nothing was found
    pub doit-none : (found : Option Sequence) → found ≡ None → IfNone found (is_in_statements b [] 0 (statements_of body.now.statements) ≡ false)
        → None ≡ change_at image.now (renamed_of what) to (place.DoIt n)
    doit-none found is none = doit-unchanged image.now (renamed_of what) to n d doit-place.1 (doit-found-is false (told-none _ found is none))

    -- it cannot stand there
    pub doit-unused : may_stand_in (renamed_of what) (sequence_of body.now) ≡ false → None ≡ change_at image.now (renamed_of what) to (place.DoIt n)
    doit-unused h = doit-unchanged image.now (renamed_of what) to n d doit-place.1 (doit-found-is false (nowhere-sequence b (sequence_of body.now) h))

    -- it was found
    pub doit-some : (found : Option Sequence) (made : Sequence) (rec : DoIt) → found ≡ Some made → IfSome found (λ after. sequence_of after ≡ sequence_after b [] (sequence_of body.now))
        → IfSome found (λ after. is_in_statements b [] 0 (statements_of body.now.statements) ≡ true)
        → rec ≡ record { source = canonical_doit (map_sequence (name_at image.now.names) (sequence_of made)); body = made }
        → Some (change.DoIt n rec) ≡ change_at image.now (renamed_of what) to (place.DoIt n)
    doit-some found made rec is after there-it-is e =
        ap (λ (z : DoIt). Some (change.DoIt n z)) e
        ∙ doit-changed image.now (renamed_of what) to n d made (canonical_doit (map_sequence (name_at image.now.names) (sequence_of made))) doit-place.1 (doit-found-is true (told-some _ found made is there-it-is))
        (body-is made (told-some _ found made is after)) refl
