-- An expression that becomes a method, and statements that do.
use Rattle.std.proofs.Common.{◌≡◌, ℕ, zero, suc, ◌+◌, ◌<◌, ◌≤◌, true, false, List, [], ◌∷◌, ◌++◌, length, Option, Some, None, option_and_then, refl, sym, ap, subst, ◌∙◌, append_assoc, arith}
use Rattle.std.specs.Prelude.{◌&&◌, nat_eq, nat_le, nat_lt}
use Rattle.std.specs.Option.{option_map_or}
use Rattle.std.specs.Cmp.Lexicographic.{pointwise}
use Rattle.std.proofs.lemmas.Bool.{eq-eqb, le-leb, lt-ltb}
use Rattle.std.proofs.lemmas.List.{take_at}
use Rattle.rb_base.specs.Names.{text_eq}
use Rattle.tree_model.specs.Tree.{TreeOf, var, literal, send, cascade, assign, block, brace, return, StatementsOf, no_statements, more_statements, SequenceOf, MethodOf}
use Rattle.tree_model.specs.Path.{nth, statement_trees, part_at, part_in}
use Rattle.same_trees.proofs.Told.{pointwise_refl}
use Rattle.scope_model.specs.SpecialNames.{is_pseudo_variable}
use Rattle.scope_model.specs.FreeNames.{take_statements, drop_statements, run_of, statements_at, free_occurrences, free_names, free_in_statements}
use Rattle.text_model.specs.Literals.{is_selector}
use Rattle.grammar_model.specs.Checks.{Known}
use Rattle.reread_law.specs.WellFormed.{IsValue, NoReturn}
use Rattle.reread_law.specs.Declarations.{known_names}
use Rattle.file_model.specs.Filing.{Text}
use Rattle.rename_model.specs.CommandWords.{arity}
use Rattle.command_model.specs.Asked.{text_asked}
use Rattle.command_model.specs.Extracted.{statements_of_part, part_replaced, names_in, call_of}
use Rattle.command_model.specs.PartConditions.{assigns_no_outer, has_no_return}
use Rattle.command_model.specs.Parts.{Part, Expression, Run, is_within}
use Rattle.command_model.specs.Places.{is_return}
use Rattle.command_model.specs.Sequences.{single, put_in}
use Rattle.code_command_laws.proofs.PutBackRun.{part_in-append}
use Rattle.effect_laws.proofs.Items.{Once}
use Rattle.code_effect_laws.proofs.Proper.{IsProper, AreProperStatements}
use Rattle.code_effect_laws.proofs.Stands.{value_no_return, value_statement, statement_value, value_stands}
use Rattle.code_effect_laws.proofs.Steps.{statement_proper}
use Rattle.code_effect_laws.proofs.Statements.{not_end, drop_proper, taken_proper}
use Rattle.code_effect_laws.proofs.Methods.{IsProperMethod, IsSequenceAt, IsBody, IsInBlock, method_replaced_proper, changed_proper, changed_selector, sequence_proper, known_in}
use Rattle.code_effect_laws.proofs.Inside.{number_at, way_of}
use Rattle.code_effect_laws.proofs.Scopes.{statement_scopes}
use Rattle.code_effect_laws.proofs.FreeWords.{AreWords, free_words, statements_words, once_in, once_each}
use Rattle.code_effect_laws.proofs.PartTaken.{taken, inner_known, IsPiece, piece_no_return, piece_proper, call_proper, raw_proper}

-- the method without the part, and the method that the part becomes, are proper
pub record IsExtracted (m : MethodOf Text) (part : Part) (t : Text) : Type 0 where
  pub changed : IsProperMethod (part_replaced m part (call_of text_asked t m part))
  pub selector : (part_replaced m part (call_of text_asked t m part)).selector ≡ m.selector
  pub new : IsProperMethod (record { selector = t; arguments = taken m part; head = []; primitive = None; body = record { temporaries = []; statements = statements_of_part m part; tail = [] } })

same_steps : (path : List ℕ) → pointwise nat_eq path path ≡ true
same_steps path = pointwise_refl nat_eq (λ n. eq-eqb n n refl) path

-- what is no return by the test
no_return : (t : TreeOf Text) → is_return t ≡ false → NoReturn t
no_return (var n) h = tt
no_return (literal l) h = tt
no_return (send r s xs) h = tt
no_return (cascade r ms) h = tt
no_return (assign n t) h = tt
no_return (block ps ts ss e) h = tt
no_return (brace ts) h = tt
no_return (return t) h = let wrong : true ≡ false = h in absurd (cc)

module _ (m : MethodOf Text) (p : IsProperMethod m) (t : Text) (selector : is_selector t ≡ true) where
  -- an expression
  module _ (path : List ℕ) (node : TreeOf Text) (there : part_in m.body path ≡ Some node) (value : IsValue node) (outer : assigns_no_outer text_asked m (Expression path) ≡ true) (fits : arity t ≡ length (taken m (Expression path))) where
    piece : IsPiece m (Expression path) path node
    piece = record {
      there = there;
      within = λ rest. (λ i. pointwise nat_eq path (take_at path rest (length path) refl i)) ∙ same_steps path;
      depth = refl;
      same_scopes = refl;
    }

    its_names : names_in text_asked m (Expression path) ≡ free_names text_eq is_pseudo_variable node
    its_names = ap (λ o. option_map_or (free_names text_eq is_pseudo_variable) o []) there

    words : AreWords (names_in text_asked m (Expression path))
    words =
        subst AreWords (sym its_names)
        (λ n h. free_words node (inner_known m (Expression path)) (piece_proper m (Expression path) p outer path node piece) n (once_in (free_occurrences text_eq is_pseudo_variable node) n h))

    pub expression_extracted : IsExtracted m (Expression path) t
    expression_extracted = record {
      changed =
          method_replaced_proper m path node (call_of text_asked t m (Expression path)) p there (call_proper m (Expression path) t selector fits words (known_in m path))
          (value_stands node (call_of text_asked t m (Expression path)) (value_no_return node value) tt);
      selector = refl;
      new =
          raw_proper m (Expression path) t selector fits words (subst Once (sym its_names) (once_each (free_occurrences text_eq is_pseudo_variable node)))
          (subst (AreProperStatements (inner_known m (Expression path))) (sym (ap (λ o. option_map_or (λ (u : TreeOf Text). single (return u)) o no_statements) there))
          (tt, (piece_proper m (Expression path) p outer path node piece, value), tt, tt));
    }

  -- statements
  module _ (path : List ℕ) (first n : ℕ) (ks : List Known) (ps : List Text) (b : SequenceOf Text) (at : IsSequenceAt m path ks ps b) (same : statements_at m.body path ≡ b.statements) (head : TreeOf Text)
      (first_there : nth (statement_trees b.statements) first ≡ Some head) (outer : assigns_no_outer text_asked m (Run path first n) ≡ true) (none : has_no_return m (Run path first n) ≡ true) (fits : arity t ≡ length (taken m (Run path first n))) where
    abbrev part : Part
    part = Run path first n

    -- where a statement stands
    statement_there : (way : List ℕ) (ls : List Known) (qs : List Text) (c : SequenceOf Text) (k : ℕ) (u : TreeOf Text) → IsSequenceAt m way ls qs c → nth (statement_trees c.statements) k ≡ Some u → part_in m.body (way ++ k ∷ []) ≡ Some u
    statement_there way ls qs c k u IsBody e = ap (λ (o : Option (TreeOf Text)). option_and_then (λ x. part_at x []) o) e
    statement_there way ls qs c k u (IsInBlock {k = j} {path = js} found) e =
        part_in-append m.body j js (k ∷ []) ∙ ap (λ (o : Option (TreeOf Text)). option_and_then (λ x. part_at x (k ∷ [])) o) found ∙ ap (λ (o : Option (TreeOf Text)). option_and_then (λ x. part_at x []) o) e

    one_longer : (way : List ℕ) (k : ℕ) → suc (length way) ≡ length (way ++ k ∷ [])
    one_longer [] k = refl
    one_longer (j ∷ way) k = ap suc (one_longer way k)

    statement_piece : (k : ℕ) (u : TreeOf Text) → nth (statement_trees b.statements) k ≡ Some u → first ≤ k → k < first + n → IsPiece m (Run path first n) (path ++ k ∷ []) u
    statement_piece k u e low high = record {
      there = statement_there path ks ps b k u at e;
      within = λ rest.
          ap (is_within (Run path first n)) (append_assoc path (k ∷ []) rest)
          ∙ (λ i. pointwise nat_eq path (way_of path rest k i) && option_map_or (λ j. nat_le first j && nat_lt j (first + n)) (number_at path rest k i) false)
          ∙ (λ i. same_steps path i && (le-leb first k low i && lt-ltb k (first + n) high i));
      depth = one_longer path k;
      same_scopes = statement_scopes m path ks ps b first k head u at first_there e;
    }

    -- the statements, where each of them is proper
    first_taken : (zs : List Known) (ss : StatementsOf Text) (k : ℕ) → AreProperStatements (known_names ps b.temporaries ++ ks) ss → ((j : ℕ) (u : TreeOf Text) → nth (statement_trees ss) j ≡ Some u → j < k → IsProper zs u × NoReturn u)
        → AreProperStatements zs (take_statements k ss)
    first_taken zs ss zero q h = tt
    first_taken zs no_statements (suc k) q h = tt
    first_taken zs (more_statements c u ss) (suc k) q h =
        let here = h 0 u refl (let some : 0 < suc k = omega arith in some) in
        (q.0, here.0, value_statement u (take_statements k ss) (statement_value u ss here.1 q.2), first_taken zs ss k q.3 (λ j v e lt. h (suc j) v e (let more : suc j < suc k = omega (arith, lt) in more)))

    run_taken : (zs : List Known) (ss : StatementsOf Text) (l k : ℕ) → AreProperStatements (known_names ps b.temporaries ++ ks) ss → ((j : ℕ) (u : TreeOf Text) → nth (statement_trees ss) j ≡ Some u → l ≤ j → j < l + k → IsProper zs u × NoReturn u)
        → AreProperStatements zs (run_of ss l k)
    run_taken zs ss zero k q h = first_taken zs ss k q (λ j u e lt. h j u e (let low : 0 ≤ j = omega arith in low) (let high : j < 0 + k = omega (arith, lt) in high))
    run_taken zs no_statements (suc l) k q h = first_taken zs no_statements k q (λ j u e lt. absurd (cc))
    run_taken zs (more_statements c u ss) (suc l) k q h =
        run_taken zs ss l k q.3 (λ j v e low high. h (suc j) v e (let more : suc l ≤ suc j = omega (arith, low) in more) (let less : suc j < suc l + k = omega (arith, high) in less))

    own : AreProperStatements (known_names ps b.temporaries ++ ks) b.statements
    own = (sequence_proper m path ks ps b at p).statements

    run_proper : (zs : List Known) → ((k : ℕ) (u : TreeOf Text) → nth (statement_trees b.statements) k ≡ Some u → IsPiece m (Run path first n) (path ++ k ∷ []) u → IsProper zs u) → AreProperStatements zs (run_of (statements_at m.body path) first n)
    run_proper zs h =
        subst (λ ss. AreProperStatements zs (run_of ss first n)) (sym same)
        (run_taken zs b.statements first n own
        (λ k u e low high. (let i = statement_piece k u e low high in (h k u e i, no_return u (piece_no_return m (Run path first n) none (path ++ k ∷ []) u i)))))

    run_words : AreWords (names_in text_asked m (Run path first n))
    run_words y h =
        statements_words (run_of (statements_at m.body path) first n) (known_names ps b.temporaries ++ ks)
        (run_proper (known_names ps b.temporaries ++ ks) (λ k u e i. statement_proper (known_names ps b.temporaries ++ ks) b.statements k u own e)) y
        (once_in (free_in_statements text_eq is_pseudo_variable (run_of (statements_at m.body path) first n)) y h)

    pub statements_extracted : IsExtracted m (Run path first n) t
    statements_extracted =
        let call : TreeOf Text = call_of text_asked t m (Run path first n) in
        record {
          changed =
              changed_proper (put_in first n (single call)) m path ks ps b at p
              (λ q. record {
                words = q.words;
                once = q.once;
                statements =
                    taken_proper (known_names ps b.temporaries ++ ks) first b.statements (more_statements [] call (drop_statements n (drop_statements first b.statements))) q.statements
                    (tt, call_proper m (Run path first n) t selector fits run_words (known_names ps b.temporaries ++ ks), tt, drop_proper (known_names ps b.temporaries ++ ks) n (drop_statements first b.statements) (drop_proper (known_names ps b.temporaries ++ ks) first b.statements q.statements))
                    (λ h. absurd (not_end b.statements first head first_there h));
                notes = q.notes;
              });
          selector = changed_selector (put_in first n (single call)) path m;
          new =
              raw_proper m (Run path first n) t selector fits run_words (once_each (free_in_statements text_eq is_pseudo_variable (run_of (statements_at m.body path) first n)))
              (run_proper (inner_known m (Run path first n)) (λ k u e i. piece_proper m (Run path first n) p outer (path ++ k ∷ []) u i));
        }
