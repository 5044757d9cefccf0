-- Code mentions after a renaming the new name, and names that it mentioned before.
use Rattle.std.proofs.Common.{◌≡◌, ℕ, List, ◌∷◌, Some, refl, sym, ap, subst, ◌∙◌}
use Rattle.std.specs.Prelude.{All, Contains}
use Rattle.std.proofs.lemmas.List.Elements.{All-contains_itself}
use Rattle.tree_model.specs.Tree.{SequenceOf, MethodOf}
use Rattle.st_tree.specs.View.{method_of, method_from, sequence_of, sequence_from}
use Rattle.st_tree.proofs.Back.{method_of-method_from, sequence_of-sequence_from}
use Rattle.image_model.specs.Words.{number_words}
use Rattle.command_model.specs.Numbers.{number_writing}
use Rattle.mentions.specs.Mentions.{code_names, method_names}
use Rattle.mentions.proofs.Complete.{All-SequenceNames, SequenceNames-All, All-MethodNames, MethodNames-All}
use Rattle.mentions.proofs.Lists.{Contains-first, Contains-later}
use Rattle.class_table.specs.declared.record.MethodRec.{MethodRec}
use Rattle.class_table.specs.declared.record.DoIt.{DoIt}
use Rattle.class_table.specs.declared.record.Place.TheVariants as place
use Rattle.class_table.specs.Slots.{Slots}
use Rattle.class_table.specs.View.{entry_of, doit_of, number_image}
use Rattle.change_set.specs.declared.change.Change.{Change}
use Rattle.change_set.specs.declared.change.Change.TheVariants as change
use Rattle.reference_index.specs.Mentioned.{names_at}
use Rattle.renamed_code.specs.Anew.{RenamedOf, entry_after, doit_after}
use Rattle.renamed_code.specs.ChangedCode.{method_rec_after, doit_rec_after, change_at}
use Rattle.renamed_code.proofs.After.{names-entry_after, names-doit_after}
use Rattle.renamed_code_laws.proofs.Spoken.{method-of_change, doit-of_change, names_at-method, names_at-doit}

-- what holds of all items holds of one of them
of-one : (P : ℕ → Type 0) (ns : List ℕ) (n : ℕ) → All P ns → Contains ns n → P n
of-one P ns n all (k, lt, e) = subst P e (all k n lt)

-- each name of a list is the new one or of the list
or-new : (to : ℕ) (ns : List ℕ) → All (Contains (to ∷ ns)) ns
or-new to ns k d lt = Contains-later to _ ns (All-contains_itself ns k d lt)

module _ (s : Slots) (what : RenamedOf ℕ) (to : ℕ) where
  -- in a method
  pub method-names_after : (k j : ℕ) (rec : MethodRec) → change_at s what to (place.Method k) ≡ Some (change.Method j rec) → (n : ℕ) → Contains (method_names (method_of rec.tree)) n → Contains (to ∷ names_at s (place.Method k)) n
  method-names_after k j rec e n there =
      let h = method-of_change s what to k (change.Method j rec) e in
      let m : MethodRec = h.0 in
      let ns : List ℕ = method_names (method_of m.tree) in
      let same : method_rec_after s what to m ≡ rec = cc h.3 in
      let after : MethodOf ℕ = (entry_after (number_words s.names) (number_writing s.names) (number_image s) to what (entry_of s.classes m)).tree in
      let tree : method_of rec.tree ≡ after = ap (λ (r : MethodRec). method_of r.tree) (sym same) ∙ method_of-method_from after in
      let fact : All (Contains (to ∷ ns)) (method_names after) =
      All-MethodNames (Contains (to ∷ ns)) after
      (names-entry_after (Contains (to ∷ ns)) (number_words s.names) (number_writing s.names) (number_image s) to (Contains-first to to ns refl) what (entry_of s.classes m)
      (MethodNames-All (Contains (to ∷ ns)) (method_of m.tree) (or-new to ns))) in
      subst (λ (xs : List ℕ). Contains (to ∷ xs) n) (sym (names_at-method s what to k m h.1))
      (of-one (Contains (to ∷ ns)) (method_names after) n fact (subst (λ (t : MethodOf ℕ). Contains (method_names t) n) tree there))

  -- in a do-it
  pub doit-names_after : (k j : ℕ) (doit : DoIt) → change_at s what to (place.DoIt k) ≡ Some (change.DoIt j doit) → (n : ℕ) → Contains (code_names (sequence_of doit.body)) n → Contains (to ∷ names_at s (place.DoIt k)) n
  doit-names_after k j doit e n there =
      let h = doit-of_change s what to k (change.DoIt j doit) e in
      let d : DoIt = h.0 in
      let ns : List ℕ = code_names (sequence_of d.body) in
      let same : doit_rec_after s what to d ≡ doit = cc h.3 in
      let after : SequenceOf ℕ = (doit_after (number_words s.names) (number_writing s.names) (number_image s) to what (doit_of d)).body in
      let body : sequence_of doit.body ≡ after = ap (λ (r : DoIt). sequence_of r.body) (sym same) ∙ sequence_of-sequence_from after in
      let fact : All (Contains (to ∷ ns)) (code_names after) =
      All-SequenceNames (Contains (to ∷ ns)) after
      (names-doit_after (Contains (to ∷ ns)) (number_words s.names) (number_writing s.names) (number_image s) to (Contains-first to to ns refl) what (doit_of d)
      (SequenceNames-All (Contains (to ∷ ns)) (sequence_of d.body) (or-new to ns))) in
      subst (λ (xs : List ℕ). Contains (to ∷ xs) n) (sym (names_at-doit s what to k d h.1))
      (of-one (Contains (to ∷ ns)) (code_names after) n fact (subst (λ (b : SequenceOf ℕ). Contains (code_names b) n) body there))
