-- Code of which no copy is taken, since the pattern matches nowhere in it.
use Rattle.std.proofs.Common.{◌≡◌, ◌⊎◌, inr, ℕ, ◌<◌, Bool, true, false, List, length, Option, Some, option_map, slice_get, get_or, sym, ap, subst, ◌∙◌}
use Rattle.std.proofs.lemmas.Option.{slice_get-get_or}
use Rattle.query_model.specs.Lines.{Text}
use Rattle.st_tree.specs.declared.tree.Sequence.{Sequence}
use Rattle.st_tree.specs.declared.tree.Method.{Method}
use Rattle.class_table.specs.declared.record.MethodRec.{MethodRec}
use Rattle.class_table.specs.declared.record.DoIt.{DoIt}
use Rattle.patterns.specs.declared.tree.Rule.{Rule}
use Rattle.image_rewriting.specs.Changed.{HasNoMatch}

module _ (names also : List Text) (r : Rule) (has : Bool) (same : also ≡ names) (h : has ≡ false) where
  -- of a method
  pub no-match-method : (o : Option MethodRec) (t : Method) → Some t ≡ option_map (λ (m : MethodRec). m.tree) o → (has ≡ false → HasNoMatch also r t.body)
      → (m : MethodRec) → o ≡ Some m → (m.kernel ≡ true) ⊎ HasNoMatch names r m.tree.body
  no-match-method o t is none m e =
      let there : Some t ≡ Some m.tree = is ∙ ap (option_map (λ (x : MethodRec). x.tree)) e in
      let tree : t ≡ m.tree = cc in
      inr (subst (λ (c : Method). HasNoMatch names r c.body) tree (subst (λ (ns : List Text). HasNoMatch ns r t.body) same (none h)))

  -- of a do-it
  pub no-match-doit : (o : Option DoIt) (b : Sequence) → Some b ≡ option_map (λ (d : DoIt). d.body) o → (has ≡ false → HasNoMatch also r b)
      → (d : DoIt) → o ≡ Some d → HasNoMatch names r d.body
  no-match-doit o b is none d e =
      let there : Some b ≡ Some d.body = is ∙ ap (option_map (λ (x : DoIt). x.body)) e in
      let body : b ≡ d.body = cc in
      subst (λ (c : Sequence). HasNoMatch names r c) body (subst (λ (ns : List Text). HasNoMatch ns r b) same (none h))
