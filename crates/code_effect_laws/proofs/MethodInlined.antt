-- The tree after `inlineMethod` is proper.
use Rattle.std.proofs.Common.{◌≡◌, inr, ℕ, suc, Bool, true, false, List, ◌++◌, length, Option, Some, None, option_map, refl, sym, subst, ◌∙◌}
use Rattle.std.specs.Prelude.{if◌then◌else◌, ◌==◌}
use Rattle.std.specs.Option.{option_or}
use Rattle.tree_model.specs.Tree.{TreeOf, send, StatementsOf, MethodOf}
use Rattle.tree_model.specs.Path.{part_in, method_replaced}
use Rattle.reread_law.specs.Declarations.{known_names}
use Rattle.file_model.specs.Filing.{Text}
use Rattle.command_model.specs.Asked.{text_asked}
use Rattle.command_model.specs.Inlined.{answered, last_unanswered, unfolded, tree_inlined}
use Rattle.command_model.specs.Places.{SendOf, innermost, sequence_round, statement_round, whole_statement}
use Rattle.command_model.specs.Sequences.{put_for, sequence_changed}
use Rattle.code_effect_laws.proofs.Proper.{AreProperStatements}
use Rattle.code_effect_laws.proofs.Stands.{value_no_return}
use Rattle.code_effect_laws.proofs.Methods.{IsProperMethod, method_replaced_proper, changed_proper, changed_selector, known_in}
use Rattle.code_effect_laws.proofs.Inside.{IsInSequence, in_sequence, sequence_is, statement_is}
use Rattle.code_effect_laws.proofs.Inlined.{put_for_proper, last_proper, answered_proper, known_in_sequence}

-- the number of a whole statement is that of the innermost one
whole_is : (m : MethodOf Text) (path : List ℕ) (k : ℕ) → whole_statement m path ≡ Some k → statement_round m path ≡ Some k
whole_is m path k e = by (length path == suc (innermost m path)) e
  where
    by : (b : Bool) → (if b then statement_round m path else None) ≡ Some k → statement_round m path ≡ Some k
    by true q = q
    by false q = absurd (cc)

module _ (m : MethodOf Text) (p : IsProperMethod m) (e : SendOf Text) (there : part_in m.body e.path ≡ Some (send e.receiver e.selector e.arguments)) (target : MethodOf Text)
    (proper : AreProperStatements (known_in m e.path) (unfolded text_asked target e.arguments)) where
  abbrev node : TreeOf Text
  node = send e.receiver e.selector e.arguments

  abbrev body : StatementsOf Text
  body = unfolded text_asked target e.arguments

  -- a method of the same selector that is proper
  abbrev IsGood : MethodOf Text → Type 0
  IsGood n = IsProperMethod n × (n.selector ≡ m.selector)

  answered_good : (t : TreeOf Text) → answered body ≡ Some t → IsGood (method_replaced m e.path t)
  answered_good t q =
      let r = answered_proper (known_in m e.path) body t proper q in
      (method_replaced_proper m e.path node t p there r.0 (inr (tt, value_no_return t r.1, λ v. r.1)), refl)

  place : IsInSequence m node e.path
  place = in_sequence m node e.path there

  statements_good : (k : ℕ) → whole_statement m e.path ≡ Some k → IsGood (sequence_changed (put_for k (last_unanswered body)) (sequence_round m e.path) m)
  statements_good k q = subst (λ way. IsGood (sequence_changed (put_for k (last_unanswered body)) way m)) (sym (sequence_is m node e.path place)) (subst (λ j. IsGood (sequence_changed (put_for j (last_unanswered body)) place.way m)) number there_good)
    where
      number : place.number ≡ k
      number = let same : Some place.number ≡ Some k = sym (statement_is m node e.path place) ∙ whole_is m e.path k q in cc

      inner : AreProperStatements (known_names place.parameters place.sequence.temporaries ++ place.known) (unfolded text_asked target e.arguments)
      inner = subst (λ zs. AreProperStatements zs (unfolded text_asked target e.arguments)) (known_in_sequence m node e.path place) proper

      there_good : IsGood (sequence_changed (put_for place.number (last_unanswered body)) place.way m)
      there_good =
          let r = last_proper (known_names place.parameters place.sequence.temporaries ++ place.known) body inner in (
            changed_proper (put_for place.number (last_unanswered body)) m place.way place.known place.parameters place.sequence place.there p
                (λ s. put_for_proper place.known place.parameters place.sequence place.number place.statement (last_unanswered body) s place.stands r.0 r.1),
            changed_selector (put_for place.number (last_unanswered body)) place.way m,
          )

  pub inlined_proper : (n : MethodOf Text) → tree_inlined text_asked m e target ≡ Some n → IsProperMethod n × (n.selector ≡ m.selector)
  inlined_proper n q = by (answered body) refl (whole_statement m e.path) refl q
    where
      by : (o : Option (TreeOf Text)) → answered body ≡ o → (w : Option ℕ) → whole_statement m e.path ≡ w
          → option_or (option_map (λ t. method_replaced m e.path t) o) (option_map (λ k. sequence_changed (put_for k (last_unanswered body)) (sequence_round m e.path) m) w) ≡ Some n → IsGood n
      by (Some t) r w x h = let same : method_replaced m e.path t ≡ n = cc in subst IsGood same (answered_good t r)
      by None r (Some k) x h = let same : sequence_changed (put_for k (last_unanswered body)) (sequence_round m e.path) m ≡ n = cc in subst IsGood same (statements_good k x)
      by None r None x h = absurd (cc)
