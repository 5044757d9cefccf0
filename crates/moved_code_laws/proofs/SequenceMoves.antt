-- A method with other statements in one of its sequences unfolds where these do and temporaries that no closure assigns are steady.
use Rattle.std.proofs.Common.{◌≡◌, refl, ℕ, List, [], ◌∷◌, length, Option}
use Rattle.std.specs.Prelude.{Bool, false}
use Rattle.tree_model.specs.Tree.{block, StatementsOf, Notes}
use Rattle.tree_model.specs.Path.{statements_replaced}
use Rattle.scope_model.specs.Scope.{method_scope}
use Rattle.image_model.specs.Image.{EntryOf}
use Rattle.image_model.specs.Means.{MeaningOf}
use Rattle.run_model.specs.Values.{Name}
use Rattle.resolved_model.specs.ResolvedImages.{ResolvedImage}
use Rattle.resolved_model.specs.Environments.{declared_in, statements_in}
use Rattle.unfolded_calls.specs.Unfolding.{Allowed, Context, UnfoldsLines, UnfoldsOwn, own_lines}
use Rattle.unfolded_calls.specs.SendsOnly.{StatementsSendOnly}
use Rattle.unfolded_calls.specs.SameContexts.{IsOutside}
use Rattle.unfolded_places.proofs.Congruence.{ControlLaw}
use Rattle.unfolded_places.proofs.InlinedOne.{part-again}
use Rattle.unfolded_places.proofs.UsesApart.{uses_of_lines}
use Rattle.unfolded_places.proofs.StandsThere.{Stands}
use Rattle.unfolded_places.proofs.MethodMoves.{inside, own, stands-inside}
use Rattle.unfolded_places.proofs.BlockMoves.{block-moved}
use Rattle.moved_code_laws.proofs.SequencesThere.{IsSequence, own_sequence, of_block, round_of}

module _ (m : EntryOf Name) where
  -- the comments at the end of a sequence
  abbrev pub notes_of : {path : List ℕ} {ss : StatementsOf Name} → IsSequence m.tree path ss → Notes
  notes_of own_sequence = m.tree.body.tail
  notes_of (of_block k ks ps ts ss e at) = e

  -- the method's statements with others in the sequence
  abbrev pub with_lines : {path : List ℕ} {ss : StatementsOf Name} → IsSequence m.tree path ss → StatementsOf Name → Notes → StatementsOf Name
  with_lines own_sequence us e' = us
  with_lines (of_block k ks ps ts ss e at) us e' = statements_replaced m.tree.body.statements (k ∷ ks) (block ps ts us e')

  pub same-lines : {path : List ℕ} {ss : StatementsOf Name} → (q : IsSequence m.tree path ss) → with_lines q ss (notes_of q) ≡ m.tree.body.statements
  same-lines own_sequence = refl
  same-lines (of_block k ks ps ts ss e at) = part-again m (k ∷ ks) (block ps ts ss e) at

module _ (control : ControlLaw) (i : ResolvedImage) (gone : Allowed) (outer : Name → MeaningOf Name) (outside : (n : Name) → IsOutside (outer n)) (place : Option (Name × Bool)) (m : EntryOf Name) where
  -- statements of the sequence unfold: those of the method itself, where the last one's value counts for nothing, or those of a block
  abbrev pub Moves : {path : List ℕ} {ss : StatementsOf Name} → IsSequence m.tree path ss → StatementsOf Name → StatementsOf Name → Type 0
  Moves own_sequence us us' =
      (g : Context) → Stands i gone outer outside place g ((0, method_scope m.tree) ∷ []) (uses_of_lines m.tree.body.statements) →
      UnfoldsOwn i gone g (statements_in outer (own control i gone outer outside place m.tree) us) (statements_in outer (own control i gone outer outside place m.tree) us')
  Moves (of_block k ks ps ts ss e at) us us' =
      (g : Context) → Stands i gone outer outside place g (round_of m.tree (of_block k ks ps ts ss e at)) (uses_of_lines ss) →
      UnfoldsLines i gone g (statements_in outer (declared_in (round_of m.tree (of_block k ks ps ts ss e at))) us) (statements_in outer (declared_in (round_of m.tree (of_block k ks ps ts ss e at))) us')

  pub sequence-moves : {path : List ℕ} {ss : StatementsOf Name} (q : IsSequence m.tree path ss) (us us' : StatementsOf Name) (e e' : Notes) → StatementsSendOnly (λ s. gone.is_gone s ≡ false) m.tree.body.statements → Moves q us us' →
      UnfoldsOwn i gone (inside control i gone outer outside place m.tree) (statements_in outer (own control i gone outer outside place m.tree) (with_lines m q us e)) (statements_in outer (own control i gone outer outside place m.tree) (with_lines m q us' e'))
  sequence-moves own_sequence us us' e e' sent h = h (inside control i gone outer outside place m.tree) (stands-inside control i gone outer outside place m.tree)
  sequence-moves (of_block k ks ps ts ss d at) us us' e e' sent h =
      own_lines (block-moved control i gone outer outside place k ks (inside control i gone outer outside place m.tree) ((0, method_scope m.tree) ∷ []) m.tree.body.statements (length (k ∷ ks)) ps ts ss us us' e e' d at
      (stands-inside control i gone outer outside place m.tree) sent h)
