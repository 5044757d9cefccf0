-- An image in which a message that is a statement is the statements of the method that it runs.
use Rattle.std.proofs.Common.{◌≡◌, ℕ, suc, List, [], ◌∷◌, length, Option, Some, None, refl, sym, ap, ◌∙◌, subst, arith}
use Rattle.std.specs.Prelude.{Bool, false, not, option_and_then, option_map, unwrap_or}
use Rattle.std.specs.Option.{option_or}
use Rattle.std.proofs.lemmas.Bool.{false≢true}
use Rattle.rb_base.specs.Names.{text_eq}
use Rattle.tree_model.specs.Tree.{TreeOf, var, literal, send, cascade, assign, block, brace, return, StatementsOf, no_statements, more_statements, MethodOf, Notes}
use Rattle.tree_model.specs.Path.{nth, statement_trees, method_replaced}
use Rattle.scope_model.specs.Scope.{PlacedScope, method_scope, scopes_round}
use Rattle.image_model.specs.Image.{EntryOf, ImageOf}
use Rattle.image_model.specs.Words.{text_words}
use Rattle.image_model.specs.Means.{MeaningOf, means_outside}
use Rattle.run_model.specs.Values.{Name}
use Rattle.resolved_model.specs.ResolvedImages.{resolved_image}
use Rattle.resolved_model.specs.Environments.{Declared, opened, declared_in, statements_in}
use Rattle.rename_model.specs.ClassRenamed.{WritingOf}
use Rattle.unfolded_calls.specs.Unfolding.{Context, UnfoldsLines, UnfoldsOwn, IsUnfolded}
use Rattle.unfolded_calls.specs.SameContexts.{IsOutside}
use Rattle.unfolded_calls.proofs.Itself.{all-statements}
use Rattle.unfolded_places.specs.InlinedOnce.{none_gone}
use Rattle.unfolded_places.specs.Fillings.{filled_statements}
use Rattle.unfolded_places.proofs.Congruence.{ControlLaw}
use Rattle.unfolded_places.proofs.UsesApart.{uses_of_lines}
use Rattle.unfolded_places.proofs.Slots.{modes-count, modes-staying}
use Rattle.unfolded_places.proofs.StandsThere.{captures, Stands as IsThere}
use Rattle.unfolded_places.proofs.MethodMoves.{inside, own_modes}
use Rattle.command_model.specs.Asked.{text_asked}
use Rattle.command_model.specs.Commands.{InlineMethod}
use Rattle.command_model.specs.Effects.{effect}
use Rattle.command_model.specs.Places.{users_method, SendOf, is_return, sequence_round, whole_statement}
use Rattle.command_model.specs.Sequences.{put_for, block_changed, sequence_changed, with_tree}
use Rattle.command_model.specs.Inlined.{answered, last_unanswered, filled, unfolded, tree_inlined}
use Rattle.command_model.specs.CodeEffects.{send_at, target_of}
use Rattle.moved_code_laws.specs.WellWritten.{IsWellWritten}
use Rattle.moved_code_laws.proofs.Saying.{within, in-own}
use Rattle.moved_code_laws.proofs.FilledThere.{statements-filled}
use Rattle.moved_code_laws.proofs.BodyThere.{fills}
use Rattle.moved_code_laws.proofs.SendFound.{send-there}
use Rattle.moved_code_laws.proofs.InlinedHere.{Scene, fixed, inside as no_inside, around, opens, named-classes}
use Rattle.moved_code_laws.proofs.MethodImages.{own-doing, image-onward}
use Rattle.moved_code_laws.proofs.RunStands.{StayEach, put_at, own-at, run-at, each-stands}
use Rattle.moved_code_laws.proofs.SequencesThere.{IsSequence, own_sequence, of_block, HasMore, round_of, round-at}
use Rattle.moved_code_laws.proofs.SequenceMoves.{notes_of, with_lines, same-lines, Moves, sequence-moves}
use Rattle.moved_code_laws.proofs.StatementsThere.{AnswersLast, IsStatement}
use Rattle.moved_code_laws.proofs.StatementsInlined.{own_outside, unreturned, filled-unreturned, new_statements, message-stands}

-- statements that answer no expression
answered-none : (c : Notes) (t : TreeOf Name) (ss : StatementsOf Name) → is_return t ≡ false → answered (more_statements c t ss) ≡ None
answered-none c (var n) no_statements e = refl
answered-none c (var n) (more_statements b v ws) e = refl
answered-none c (literal l) no_statements e = refl
answered-none c (literal l) (more_statements b v ws) e = refl
answered-none c (send r s us) no_statements e = refl
answered-none c (send r s us) (more_statements b v ws) e = refl
answered-none c (cascade r ms) no_statements e = refl
answered-none c (cascade r ms) (more_statements b v ws) e = refl
answered-none c (assign n u) no_statements e = refl
answered-none c (assign n u) (more_statements b v ws) e = refl
answered-none c (block ps ts rs d) no_statements e = refl
answered-none c (block ps ts rs d) (more_statements b v ws) e = refl
answered-none c (brace us) no_statements e = refl
answered-none c (brace us) (more_statements b v ws) e = refl
answered-none c (return t) ss e = absurd (false≢true (sym e))

answered-more : (c d : Notes) (t u : TreeOf Name) (ss : StatementsOf Name) → answered (more_statements c t (more_statements d u ss)) ≡ None
answered-more c b (var n) v ws = refl
answered-more c b (literal l) v ws = refl
answered-more c b (send r s us) v ws = refl
answered-more c b (cascade r ms) v ws = refl
answered-more c b (assign n u) v ws = refl
answered-more c b (block ps ts rs d) v ws = refl
answered-more c b (brace us) v ws = refl
answered-more c b (return x) v ws = refl

-- a statement that is no return, where its value alone is no answer
no-answer : (c : Notes) (t : TreeOf Name) → answered (more_statements c t no_statements) ≡ None → is_return t ≡ false
no-answer c (var n) e = refl
no-answer c (literal l) e = refl
no-answer c (send r s us) e = refl
no-answer c (cascade r ms) e = refl
no-answer c (assign n u) e = refl
no-answer c (block ps ts rs d) e = refl
no-answer c (brace us) e = refl
no-answer c (return t) e = absurd (cc)

-- the method with statements in place of one of a sequence
abbrev pub made : (m : EntryOf Name) → {path : List ℕ} {ss : StatementsOf Name} → IsSequence m.tree path ss → ℕ → StatementsOf Name → MethodOf Name
made m own_sequence k us = record m.tree { body = put_for k us m.tree.body }
made m (of_block j js ps ts ss e at) k us = method_replaced m.tree (j ∷ js) (block_changed (put_for k us) (block ps ts ss e))

module _ (m : EntryOf Name) (k : ℕ) (us : StatementsOf Name) where
  made-so : {path : List ℕ} {ss : StatementsOf Name} → (q : IsSequence m.tree path ss) → sequence_changed (put_for k us) path m.tree ≡ made m q k us
  made-so own_sequence = refl
  made-so (of_block j js ps ts ss e at) = ap (λ (o : Option (TreeOf Name)). unwrap_or (option_map (λ u. method_replaced m.tree (j ∷ js) (block_changed (put_for k us) u)) o) m.tree) at

  made-selector : {path : List ℕ} {ss : StatementsOf Name} → (q : IsSequence m.tree path ss) → m.tree.selector ≡ (made m q k us).selector
  made-selector own_sequence = refl
  made-selector (of_block j js ps ts ss e at) = refl

  made-primitive : {path : List ℕ} {ss : StatementsOf Name} → (q : IsSequence m.tree path ss) → (made m q k us).primitive ≡ m.tree.primitive
  made-primitive own_sequence = refl
  made-primitive (of_block j js ps ts ss e at) = refl

  -- the comments that stand behind the statements
  abbrev tail_of : {path : List ℕ} {ss : StatementsOf Name} → IsSequence m.tree path ss → Notes
  tail_of own_sequence = (put_for k us m.tree.body).tail
  tail_of (of_block j js ps ts ss e at) = (put_for k us (record { temporaries = ts; statements = ss; tail = e })).tail

  made-arguments : {path : List ℕ} {ss : StatementsOf Name} → (q : IsSequence m.tree path ss) → (made m q k us).arguments ≡ m.tree.arguments
  made-arguments own_sequence = refl
  made-arguments (of_block j js ps ts ss e at) = refl

  made-temporaries : {path : List ℕ} {ss : StatementsOf Name} → (q : IsSequence m.tree path ss) → (made m q k us).body.temporaries ≡ m.tree.body.temporaries
  made-temporaries own_sequence = refl
  made-temporaries (of_block j js ps ts ss e at) = refl

  made-lines : {path : List ℕ} {ss : StatementsOf Name} → (q : IsSequence m.tree path ss) → with_lines m q (put_at us k ss) (tail_of q) ≡ (made m q k us).body.statements
  made-lines own_sequence = refl
  made-lines (of_block j js ps ts ss e at) = refl

module _ (control : ControlLaw) (i : ImageOf Name) (sound : IsWellWritten i) (c : Name) (meta : Bool) (m : EntryOf Name) (e : SendOf Name) (target : EntryOf Name) (scene : Scene i c meta m e target) (last : AnswersLast target.tree.body.statements)
    (at : IsStatement m.tree e.path (send e.receiver e.selector e.arguments)) where
  abbrev outer : Name → MeaningOf Name
  outer n = means_outside text_words i m.class m.meta n

  abbrev outside : (n : Name) → IsOutside (outer n)
  outside = own_outside control i sound c meta m e target scene last

  -- the statements that stand in place of the message
  abbrev us : StatementsOf Name
  us = new_statements control i sound c meta m e target scene last

  abbrev call : TreeOf Name
  call = send e.receiver e.selector e.arguments

  -- the scopes round it
  abbrev round : List (PlacedScope Name)
  round = around i sound c meta m e target scene

  round-so : round ≡ round_of m.tree at.sequence
  round-so = ap (scopes_round (method_scope m.tree)) at.leads ∙ round-at m.tree at.sequence at.number

  abbrev There : Context → List (PlacedScope Name) → StatementsOf Name → Type 0
  There g C ss = IsThere (resolved_image i) none_gone outer outside (Some (c, meta)) g C (uses_of_lines ss)

  stay : (g : Context) (ss : StatementsOf Name) → There g round ss → StayEach (resolved_image i) none_gone outer (declared_in round) g ss
  stay g ss h = each-stands control (resolved_image i) none_gone outer outside (Some (c, meta)) round g ss h (all-statements (λ s. false ≡ false) (λ s. refl) ss)

  -- the statements unfold
  moves : {p : List ℕ} {ss : StatementsOf Name} (q : IsSequence m.tree p ss) → HasMore q (suc at.number) → nth (statement_trees ss) at.number ≡ Some call → round ≡ round_of m.tree q → Moves control (resolved_image i) none_gone outer outside (Some (c, meta)) m q ss (put_at us at.number ss)
  moves own_sequence more there so = λ g h.
      let back : There g round m.tree.body.statements = subst (λ C. There g C m.tree.body.statements) (sym so) h in
      subst (λ C. UnfoldsOwn (resolved_image i) none_gone g (statements_in outer (declared_in C) m.tree.body.statements) (statements_in outer (declared_in C) (put_at us at.number m.tree.body.statements))) so
      (own-at (resolved_image i) none_gone outer (declared_in round) g call us (message-stands control i sound c meta m e target scene last g (uses_of_lines m.tree.body.statements) back) m.tree.body.statements at.number (stay g m.tree.body.statements back) there)
  moves (of_block j js ps ts ss d found) more there so = λ g h.
      let back : There g round ss = subst (λ C. There g C ss) (sym so) h in
      subst (λ C. UnfoldsLines (resolved_image i) none_gone g (statements_in outer (declared_in C) ss) (statements_in outer (declared_in C) (put_at us at.number ss))) so
      (run-at (resolved_image i) none_gone outer (declared_in round) g call us (message-stands control i sound c meta m e target scene last g (uses_of_lines ss) back) ss at.number (stay g ss back) there more)

  -- the method after
  abbrev pub tree_after : MethodOf Name
  tree_after = made m at.sequence at.number us

  abbrev inner : Context
  inner = inside control (resolved_image i) none_gone outer outside (Some (c, meta)) m.tree

  abbrev own : List Declared
  own = opened m.tree.arguments m.tree.body.temporaries []

  lines-unfold : UnfoldsOwn (resolved_image i) none_gone inner (statements_in outer own m.tree.body.statements) (statements_in outer own tree_after.body.statements)
  lines-unfold =
      subst (λ ss. UnfoldsOwn (resolved_image i) none_gone inner (statements_in outer own ss) (statements_in outer own tree_after.body.statements)) (same-lines m at.sequence)
      (subst (λ ss. UnfoldsOwn (resolved_image i) none_gone inner (statements_in outer own (with_lines m at.sequence at.statements (notes_of m at.sequence))) (statements_in outer own ss)) (made-lines m at.number us at.sequence)
      (sequence-moves control (resolved_image i) none_gone outer outside (Some (c, meta)) m at.sequence at.statements (put_at us at.number at.statements) (notes_of m at.sequence) (tail_of m at.number us at.sequence)
      (all-statements (λ s. false ≡ false) (λ s. refl) m.tree.body.statements) (moves at.sequence at.more at.there round-so)))

  pub image-unfolds : (writing : WritingOf Name) (s : Name) → users_method text_eq i c meta s ≡ Some m → m.tree.primitive ≡ None → IsUnfolded (resolved_image i) (resolved_image (with_tree text_eq writing c meta s tree_after i))
  image-unfolds writing s found plain =
      image-onward writing i sound c meta s m found tree_after
      (record { selector = sym (made-selector m at.number us at.sequence); primitive = made-primitive m at.number us at.sequence ∙ plain; no_primitive = plain; arguments = made-arguments m at.number us at.sequence; temporaries = made-temporaries m at.number us at.sequence })
      (opens i sound c meta m e target scene) (named-classes i sound)
      (own-doing (resolved_image i) none_gone (Some (c, meta)) (length m.tree.arguments) (length m.tree.body.temporaries) (own_modes control (resolved_image i) none_gone outer outside (Some (c, meta)) m.tree) (statements_in outer own m.tree.body.statements) (statements_in outer own tree_after.body.statements)
      (modes-count (λ n. not (captures m.tree.body.statements n)) m.tree.body.temporaries) (modes-staying (λ n. not (captures m.tree.body.statements n)) m.tree.body.temporaries) lines-unfold)

  -- it is what the command makes
  module _ (quiet : answered target.tree.body.statements ≡ None) where
    lines-filled : unfolded text_asked target.tree e.arguments ≡ filled_statements target.tree.arguments e.arguments [] target.tree.body.statements
    lines-filled =
        statements-filled target.tree e.arguments target.tree.body.statements (filled text_asked target.tree e.arguments) 1 0 [] (within target.tree) (omega arith) tt
        (fills i m e target scene.captures (no_inside i sound c meta m e target scene) (fixed i sound c meta m e target scene)) (in-own target.tree)

    filled-quiet : (ss : StatementsOf Name) → answered ss ≡ None → answered (filled_statements target.tree.arguments e.arguments [] ss) ≡ None
    filled-quiet no_statements q = refl
    filled-quiet (more_statements d t no_statements) q = answered-none d _ no_statements (filled-unreturned target.tree.arguments e.arguments (unreturned control i sound c meta m e target scene last) t (no-answer d t q))
    filled-quiet (more_statements d t (more_statements b v ws)) q = answered-more d b _ _ _

    inlined-so : tree_inlined text_asked m.tree e target.tree ≡ Some tree_after
    inlined-so =
        ap (λ ss. option_or (option_map (λ t. method_replaced m.tree e.path t) (answered ss)) (option_map (λ j. sequence_changed (put_for j (last_unanswered ss)) (sequence_round m.tree e.path) m.tree) (whole_statement m.tree e.path))) lines-filled
        ∙ ap (λ o. option_or (option_map (λ t. method_replaced m.tree e.path t) o) (option_map (λ j. sequence_changed (put_for j us) (sequence_round m.tree e.path) m.tree) (whole_statement m.tree e.path))) (filled-quiet target.tree.body.statements quiet)
        ∙ ap (option_map (λ j. sequence_changed (put_for j us) (sequence_round m.tree e.path) m.tree)) at.whole
        ∙ ap (λ p. Some (sequence_changed (put_for at.number us) p m.tree)) at.stands
        ∙ ap Some (made-so m at.number us at.sequence)

    pub effect-run : (writing : WritingOf Name) (s : Name) (from to : ℕ) (x : EntryOf Name × SendOf Name) → send_at text_asked i c meta s from to ≡ Some x → x.0 ≡ m → x.1 ≡ e → target_of text_asked i c meta e ≡ Some target →
        effect text_asked writing (InlineMethod c meta s from to) i ≡ with_tree text_eq writing c meta s tree_after i
    effect-run writing s from to x sent p q finds =
        ap (λ o. unwrap_or (option_map (λ tree. with_tree text_eq writing c meta s tree i) (option_and_then (λ (y : EntryOf Name). option_and_then (λ (z : EntryOf Name × SendOf Name). option_and_then (λ (n : EntryOf Name). tree_inlined text_asked y.tree z.1 n.tree) (target_of text_asked i c meta z.1)) (send_at text_asked i c meta s from to)) o)) i)
        ((send-there i c meta s from to x sent).0 ∙ ap Some p)
        ∙ ap (λ o. unwrap_or (option_map (λ tree. with_tree text_eq writing c meta s tree i) (option_and_then (λ (z : EntryOf Name × SendOf Name). option_and_then (λ (n : EntryOf Name). tree_inlined text_asked m.tree z.1 n.tree) (target_of text_asked i c meta z.1)) o)) i) sent
        ∙ ap (λ z. unwrap_or (option_map (λ tree. with_tree text_eq writing c meta s tree i) (option_and_then (λ (n : EntryOf Name). tree_inlined text_asked m.tree z n.tree) (target_of text_asked i c meta z))) i) q
        ∙ ap (λ o. unwrap_or (option_map (λ tree. with_tree text_eq writing c meta s tree i) (option_and_then (λ (n : EntryOf Name). tree_inlined text_asked m.tree e n.tree) o)) i) finds
        ∙ ap (λ o. unwrap_or (option_map (λ tree. with_tree text_eq writing c meta s tree i) o) i) inlined-so
