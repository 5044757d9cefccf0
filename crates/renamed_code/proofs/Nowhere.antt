-- What is renamed does not stand in code of which no node may mean it.
use Rattle.std.proofs.Common.{◌≡◌, ℕ, Bool, true, false, ◌&&◌, ◌||◌, List, [], ◌∷◌, refl, sym, ap, ◌∙◌, true≢false}
use Rattle.std.specs.List.{list_any}
use Rattle.tree_model.specs.Tree.{TreeOf, var, literal, send, cascade, assign, block, brace, return, SequenceOf, MethodOf}
use Rattle.tree_model.specs.Nodes.{Placed, nodes}
use Rattle.mentions.specs.Mentions.{trees_of_nodes}
use Rattle.renamed_code.specs.declared.renaming.Renaming.{Renaming}
use Rattle.renamed_code.specs.Anew.{RenamedOf}
use Rattle.renamed_code.specs.ChangedCode.{renamed_of}
use Rattle.renamed_code.specs.Renamings.{meaning_in, has_name, is_meant_by, is_the_selector, may_mean, may_stand_in, may_stand_in_method, is_named_at, is_sent_by, is_in_statements, is_in_method}
use Rattle.renamed_code.proofs.Nodes.{passes, standing-statements}

-- neither of two tests passes
neither : (a b : Bool) → (a || b) ≡ false → (a ≡ false) × (b ≡ false)
neither true b e = absurd (true≢false e)
neither false b e = (refl, e)

module _ (w : RenamedOf ℕ) (means : List ℕ → ℕ → Bool) where
  -- what is told of a name by its spelling and its meaning
  abbrev named : List ℕ → ℕ → Bool
  named path n = has_name w n && means path n

  -- a node that may not mean it does not
  unmeant : (path : List ℕ) (t : TreeOf ℕ) → may_mean w t ≡ false → passes (is_the_selector w) named (path, t) ≡ false
  unmeant path (var n) h = ap (λ (b : Bool). (b && means path n) || false) h
  unmeant path (literal l) h = refl
  unmeant path (send r s args) h = h
  unmeant path (cascade r ms) h = h
  unmeant path (assign n t) h = ap (λ (b : Bool). (b && means path n) || false) h
  unmeant path (block ps ts ss e) h = refl
  unmeant path (brace ts) h = refl
  unmeant path (return t) h = refl

  none-means : (es : List (Placed ℕ)) → list_any (may_mean w) (trees_of_nodes es) ≡ false → list_any (passes (is_the_selector w) named) es ≡ false
  none-means [] h = refl
  none-means (e ∷ es) h =
      let n = neither (may_mean w e.1) (list_any (may_mean w) (trees_of_nodes es)) h in
      λ i. unmeant e.0 e.1 n.0 i || none-means es n.1 i

module _ (r : Renaming) where
  -- in a sequence
  pub nowhere-sequence : (b : SequenceOf ℕ) → may_stand_in (renamed_of r.what) b ≡ false → is_in_statements r [] 0 b.statements ≡ false
  unfolding is_named_at is_sent_by
  nowhere-sequence b h =
      sym (standing-statements (is_the_selector (renamed_of r.what)) (λ path n. has_name (renamed_of r.what) n && is_meant_by (renamed_of r.what) (meaning_in r.image.now r.code path n)) 0 b.statements)
      ∙ none-means (renamed_of r.what) (λ path n. is_meant_by (renamed_of r.what) (meaning_in r.image.now r.code path n)) (nodes b) h

  -- in a method
  pub nowhere-method : (m : MethodOf ℕ) → may_stand_in_method (renamed_of r.what) m ≡ false → is_in_method r [] m ≡ false
  unfolding is_sent_by
  nowhere-method m h =
      let n = neither (is_the_selector (renamed_of r.what) m.selector) (may_stand_in (renamed_of r.what) m.body) h in
      λ i. n.0 i || nowhere-sequence m.body n.1 i
