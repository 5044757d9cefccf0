-- The tree after `extractTemp` is proper.
use Rattle.std.proofs.Common.{◌≡◌, ℕ, false, List, [], ◌∷◌, ◌++◌, Option, Some, option_and_then, option_map, sym, ap, ◌∙◌}
use Rattle.std.specs.Prelude.{unwrap_or}
use Rattle.std.specs.List.{list_any}
use Rattle.std.proofs.lemmas.Bool.{or_parts}
use Rattle.std.proofs.lemmas.List.Folds.{list_any-append}
use Rattle.rb_base.specs.Names.{text_eq}
use Rattle.rb_base.proofs.NamesLemmas.{text_eq-refl}
use Rattle.tree_model.specs.Tree.{TreeOf, var, assign, block, StatementsOf, more_statements, SequenceOf, MethodOf}
use Rattle.tree_model.specs.Path.{nth, statement_trees, part_among, part_in, with_statement, replaced, statements_replaced, method_replaced}
use Rattle.tree_model.specs.Nodes.{Placed, nodes}
use Rattle.tree_model.proofs.Children.{statement_trees-with_statement, nth-with_nth}
use Rattle.tree_model.proofs.NodesLemmas.{Contains-part_in}
use Rattle.scope_model.specs.FreeNames.{drop_statements}
use Rattle.grammar_model.specs.Checks.{Known}
use Rattle.reread_law.specs.WellFormed.{IsValue}
use Rattle.reread_law.specs.Declarations.{known_names}
use Rattle.file_model.specs.Filing.{Text}
use Rattle.rename_model.specs.NamesThere.{is_named_by, is_named_in}
use Rattle.command_model.specs.Asked.{text_asked}
use Rattle.command_model.specs.Places.{sequence_round, statement_round}
use Rattle.command_model.specs.Sequences.{single, put_in, sequence_changed}
use Rattle.command_model.specs.Temporaries.{temporary_extracted}
use Rattle.effect_laws.proofs.Items.{in_contains}
use Rattle.effect_laws.proofs.Tests.{none_in}
use Rattle.effect_laws.proofs.NewNames.{IsNewName}
use Rattle.code_effect_laws.proofs.Proper.{IsProper, AreProperStatements}
use Rattle.code_effect_laws.proofs.Stands.{IsEnd, value_no_return, value_stands}
use Rattle.code_effect_laws.proofs.Places.{statements_replaced_proper}
use Rattle.code_effect_laws.proofs.Statements.{not_end, drop_proper, taken_proper}
use Rattle.code_effect_laws.proofs.Methods.{IsProperSequence, IsProperMethod, IsSequenceAt, IsBody, IsInBlock, changed_proper, changed_selector}
use Rattle.code_effect_laws.proofs.Inside.{IsInSequence, in_sequence, sequence_is, statement_is, leads_from, part_there}
use Rattle.code_effect_laws.proofs.Elsewhere.{tree_elsewhere, statements_elsewhere}
use Rattle.code_effect_laws.proofs.Replaced.{changed_after, sequence_changed_after}
use Rattle.code_effect_laws.proofs.Names.{words_last, once_last, last_free, last_loose}

-- the sequence that declares x as its last temporary, and assigns it before a statement
abbrev declaring : ℕ → Text → TreeOf Text → SequenceOf Text → SequenceOf Text
declaring k x t b = let c : SequenceOf Text = put_in k 0 (single (assign x t)) b in record c { temporaries = c.temporaries ++ x ∷ [] }

module _ (x : Text) (new : IsNewName x) where
  -- a sequence in which x is not declared
  module _ (ks : List Known) (ps : List Text) (b : SequenceOf Text) (k : ℕ) (rest : List ℕ) (t : TreeOf Text) (value : IsValue t) (p : IsProperSequence ks ps b)
      (given : IsProper (known_names ps b.temporaries ++ ks) t) (statement : TreeOf Text) (stands : nth (statement_trees b.statements) k ≡ Some statement) (there : part_among (statement_trees b.statements) (k ∷ rest) ≡ Some t)
      (no_parameter : list_any (text_eq x) ps ≡ false) (no_temporary : list_any (text_eq x) b.temporaries ≡ false) where
    abbrev old : List Known
    old = known_names ps b.temporaries ++ ks

    abbrev known : List Known
    known = known_names ps (b.temporaries ++ x ∷ []) ++ ks

    abbrev changed : StatementsOf Text
    changed = statements_replaced b.statements (k ∷ rest) (var x)

    changed_is : AreProperStatements known changed
    changed_is =
        statements_elsewhere changed old known
        (statements_replaced_proper (k ∷ rest) old b.statements t (var x) p.statements there new.word (value_stands t (var x) (value_no_return t value) new.other))
        (λ n in_code ordinary free. last_loose ps b.temporaries ks x n no_parameter free)

    some_left : IsEnd (drop_statements k changed) → ⊥
    some_left h =
        let is : changed ≡ with_statement b.statements k (replaced statement rest (var x)) =
        ap (λ (o : Option (TreeOf Text)). unwrap_or (option_map (λ c. with_statement b.statements k (replaced c rest (var x))) o) b.statements) stands in
        not_end changed k (replaced statement rest (var x))
        (ap (λ (ss : StatementsOf Text). nth (statement_trees ss) k) is ∙ ap (λ ts. nth ts k) (statement_trees-with_statement b.statements k (replaced statement rest (var x)))
        ∙ nth-with_nth (statement_trees b.statements) k statement (replaced statement rest (var x)) stands) h

    pub declaring_proper : IsProperSequence ks ps (changed_after (declaring k x t) k rest (var x) b)
    declaring_proper = record {
      words = words_last b.temporaries x p.words new.word;
      once = once_last ps b.temporaries x p.once no_parameter no_temporary;
      statements =
          taken_proper known k changed (more_statements [] (assign x t) (drop_statements k changed)) changed_is
          (tt, (new.word, new.ordinary, last_free ps b.temporaries ks x (text_eq-refl x) no_parameter, tree_elsewhere t old known given (λ n in_code ordinary free. last_loose ps b.temporaries ks x n no_parameter free), value), tt, drop_proper known k changed changed_is)
          (λ h. absurd (some_left h));
      notes = p.notes;
    }

  -- the names of a sequence in a method in which x stands nowhere
  module _ (m : MethodOf Text) (no_argument : list_any (text_eq x) m.arguments ≡ false) (unnamed : is_named_in text_eq x m.body ≡ false) where
    parts : (list_any (text_eq x) m.body.temporaries ≡ false) × (list_any (λ e. is_named_by text_eq x e.1) (nodes m.body) ≡ false)
    parts = or_parts (list_any (text_eq x) m.body.temporaries) (list_any (λ e. is_named_by text_eq x e.1) (nodes m.body)) unnamed

    pub undeclared : (way : List ℕ) (ks : List Known) (ps : List Text) (b : SequenceOf Text) → IsSequenceAt m way ks ps b → (list_any (text_eq x) ps ≡ false) × (list_any (text_eq x) b.temporaries ≡ false)
    undeclared way ks ps b IsBody = (no_argument, parts.0)
    undeclared way ks ps b (IsInBlock {k = k} {path = path} {ts = ts} {ss = ss} {e = e} found) =
        let node : Placed Text = (k ∷ path, block ps ts ss e) in
        let none : list_any (text_eq x) (ps ++ ts) ≡ false = none_in (λ (y : Placed Text). is_named_by text_eq x y.1) (nodes m.body) parts.1 node (in_contains (nodes m.body) node (Contains-part_in m.body (k ∷ path) (block ps ts ss e) found)) in
        or_parts (list_any (text_eq x) ps) (list_any (text_eq x) ts) (sym (list_any-append (text_eq x) ps ts) ∙ none)

    module _ (path : List ℕ) (t : TreeOf Text) (value : IsValue t) (there : part_in m.body path ≡ Some t) (p : IsProperMethod m) where
      place : IsInSequence m t path
      place = in_sequence m t path there

      abbrev after : MethodOf Text
      after = sequence_changed (changed_after (declaring place.number x t) place.number place.rest (var x)) place.way m

      after_proper : IsProperMethod after
      after_proper =
          let n = undeclared place.way place.known place.parameters place.sequence place.there in
          changed_proper (changed_after (declaring place.number x t) place.number place.rest (var x)) m place.way place.known place.parameters place.sequence place.there p
          (λ q. declaring_proper place.known place.parameters place.sequence place.number place.rest t value q (part_there m t path place q) place.statement place.stands (leads_from m t path place) n.0 n.1)

      after_is : temporary_extracted text_asked m path x ≡ Some after
      after_is =
          ap (λ o. option_and_then (λ (c : TreeOf Text). option_map (λ k. sequence_changed (declaring k x c) (sequence_round m path) (method_replaced m path (var x))) (statement_round m path)) o) there
          ∙ ap (λ o. option_map (λ k. sequence_changed (declaring k x t) (sequence_round m path) (method_replaced m path (var x))) o) (statement_is m t path place)
          ∙ ap (λ (w : List ℕ). Some (sequence_changed (declaring place.number x t) w (method_replaced m path (var x)))) (sequence_is m t path place)
          ∙ ap (λ (w : List ℕ). Some (sequence_changed (declaring place.number x t) place.way (method_replaced m w (var x)))) place.whole
          ∙ ap Some (sequence_changed_after (declaring place.number x t) m place.way place.rest place.number (var x) place.known place.parameters place.sequence place.there)

      pub extracted_proper : (n : MethodOf Text) × (temporary_extracted text_asked m path x ≡ Some n) × IsProperMethod n × (n.selector ≡ m.selector)
      extracted_proper = (after, after_is, after_proper, changed_selector (changed_after (declaring place.number x t) place.number place.rest (var x)) place.way m)
