-- A method that sets a temporary once unfolds to the one without it.
use Rattle.std.proofs.Common.{◌≡◌, ◌≤◌, ℕ, List, [], ◌∷◌, length, Option, Some, None, refl, sym, ◌∙◌, subst}
use Rattle.std.specs.Prelude.{false, replicate}
use Rattle.std.proofs.lemmas.List.{length-replicate}
use Rattle.tree_model.specs.Tree.{TreeOf, block, StatementsOf, MethodOf}
use Rattle.tree_model.specs.Path.{nth, statement_trees, child, statements_replaced}
use Rattle.tree_model.proofs.Parts.{statements_replaced-part_among}
use Rattle.scope_model.specs.Control.{is_plain_block}
use Rattle.image_model.specs.Means.{MeaningOf}
use Rattle.image_model.specs.ImageNames.{OptionNames}
use Rattle.run_model.specs.Values.{Name}
use Rattle.resolved_model.specs.ResolvedTrees.{ResolvedStatements}
use Rattle.resolved_model.specs.ResolvedImages.{ResolvedImage}
use Rattle.resolved_model.specs.Environments.{Declared, opened, statements_in, code_in}
use Rattle.unfolded_calls.specs.Unfolding.{Allowed, shared, staying, scoped, outermost_context, UnfoldsLines, UnfoldsCode, same_code}
use Rattle.unfolded_calls.specs.SameContexts.{IsOutside, IsSame}
use Rattle.unfolded_calls.proofs.Untouched.{staying-all, same-scoped}
use Rattle.unfolded_calls.proofs.Itself.{all-statements}
use Rattle.unfolded_places.specs.PartsReplaced.{declared_among, StaysMessage, StaysMessageAmong}
use Rattle.unfolded_places.proofs.Congruence.{ControlLaw}
use Rattle.unfolded_places.proofs.Replaced.{control-child}
use Rattle.unfolded_places.proofs.OnePart.{one-part}
use Rattle.let_laws.specs.Lets.{LetIn, let_in_body, let_in_block}
use Rattle.let_laws.proofs.Sequences.{lines-reach, let-code, let-block, let-pair}

-- how many steps down what is set is read
abbrev pub method-reach : {f : Name → MeaningOf Name} {m m' : MethodOf Name} → LetIn f m m' → ℕ
method-reach (let_in_body b' l) = lines-reach l.lines
method-reach (let_in_block path ps b b' q l) = lines-reach l.lines

-- a block in place of one with the same parameters makes no control send
stays-message : (above : TreeOf Name) (path : List ℕ) (v u : TreeOf Name) → is_plain_block v ≡ is_plain_block u → StaysMessage above path v u
stays-message above [] v u e = tt
stays-message above (k ∷ []) v u e = λ h. sym (control-child above k v u e) ∙ h
stays-message above (k ∷ j ∷ ks) v u e = by (child above k) (λ c. stays-message c (j ∷ ks) v u e)
  where
    by : (o : Option (TreeOf Name)) → ((c : TreeOf Name) → StaysMessage c (j ∷ ks) v u) → OptionNames (λ c. StaysMessage c (j ∷ ks) v u) o
    by (Some c) h = h c
    by None h = tt

stays-among : (ss : StatementsOf Name) (path : List ℕ) (v u : TreeOf Name) → is_plain_block v ≡ is_plain_block u → StaysMessageAmong ss path v u
stays-among ss [] v u e = tt
stays-among ss (k ∷ ks) v u e = by (nth (statement_trees ss) k)
  where
    by : (o : Option (TreeOf Name)) → OptionNames (λ c. StaysMessage c ks v u) o
    by (Some c) = stays-message c ks v u e
    by None = tt

module _ (control : ControlLaw) (i : ResolvedImage) (gone : Allowed) (f : Name → MeaningOf Name) (outside : (n : Name) → IsOutside (f n)) (kept : (s : Name) → gone.is_gone s ≡ false) where
  first-context : IsSame (outermost_context None) []
  first-context = record { locals = refl; returns = refl; supers = refl }

  -- statements with the same declarations round them
  count-body : (p n : ℕ) (ss ss' : ResolvedStatements) → UnfoldsLines i gone (scoped p (replicate n shared) (outermost_context None)) ss ss' →
      UnfoldsCode i gone (outermost_context None) (record { parameters = p; temporaries = n; statements = ss }) (record { parameters = p; temporaries = n; statements = ss' })
  count-body p n ss ss' h =
      subst (λ m. UnfoldsCode i gone (outermost_context None) (record { parameters = p; temporaries = n; statements = ss }) (record { parameters = p; temporaries = m; statements = ss' })) (staying-all n)
      (subst (λ m. UnfoldsCode i gone (outermost_context None) (record { parameters = p; temporaries = m; statements = ss }) (record { parameters = p; temporaries = staying (replicate n shared); statements = ss' })) (length-replicate n shared) (same_code p (replicate n shared) h))

  pub let-method : (m m' : MethodOf Name) (l : LetIn f m m') → method-reach l ≤ gone.reach → UnfoldsCode i gone (outermost_context None) (code_in f [] m.arguments m.body) (code_in f [] m'.arguments m'.body)
  let-method m _ (let_in_body b' l) le = let-code control i gone f outside kept [] m.arguments m.body b' l le (outermost_context None) first-context
  let-method m _ (let_in_block path ps b b' q l) le =
      count-body (length m.arguments) (length m.body.temporaries) (statements_in f around m.body.statements) (statements_in f around (statements_replaced m.body.statements path after))
      (subst (λ ss. UnfoldsLines i gone (scoped (length m.arguments) (replicate (length m.body.temporaries) shared) (outermost_context None)) (statements_in f around ss) (statements_in f around (statements_replaced m.body.statements path after))) (statements_replaced-part_among m.body.statements path before q)
      (one-part control i gone f outside None around m.body.statements path before after (all-statements (λ s. gone.is_gone s ≡ false) kept m.body.statements) (stays-among m.body.statements path before after refl)
      (λ g h. let-pair control i gone f outside kept (declared_among around m.body.statements path) ps b b' l le g b.tail b'.tail h.keeps)
      (λ g h. let-block control i gone f outside kept (declared_among around m.body.statements path) ps b b' l le g b.tail b'.tail h.keeps)
      (scoped (length m.arguments) (replicate (length m.body.temporaries) shared) (outermost_context None))
      (record { same = refl; keeps = same-scoped i gone f outside (outermost_context None) [] m.arguments m.body.temporaries first-context; standing = refl })))
    where
      around : List Declared
      around = opened m.arguments m.body.temporaries []

      before : TreeOf Name
      before = block ps b.temporaries b.statements b.tail

      after : TreeOf Name
      after = block ps b'.temporaries b'.statements b'.tail
