-- The conditions of a message that is replaced by the body of a method have the same answer once names are changed one to one.
use Rattle.std.proofs.Common.{◌≡◌, ℕ, suc, ◌-◌, ◌==◌, Bool, true, false, not, ◌&&◌, ◌||◌, nat_lt, is_some, List, map, take, length, slice_get, Option, Some, None, refl, ap, ◌∙◌}
use Rattle.std.specs.List.{list_any, list_all, enumerate_from}
use Rattle.std.specs.Option.{option_map_or}
use Rattle.tree_model.specs.Tree.{TreeOf, var, literal, send, cascade, assign, block, brace, return, StatementsOf, no_statements, more_statements, MethodOf, map_names, map_trees, map_statements, map_sequence, map_method}
use Rattle.tree_model.specs.Path.{nth, count, statement_trees, part_in, with_child}
use Rattle.tree_model.specs.Nodes.{Placed, nodes}
use Rattle.tree_model.proofs.Children.{nth-map_trees, with_child-map_names}
use Rattle.tree_model.proofs.NodesLemmas.{nodes-map_sequence}
use Rattle.tree_model.proofs.Parts.{part_in-map_sequence}
use Rattle.scope_model.specs.Control.{is_control}
use Rattle.scope_model.specs.FreeNames.{free_names, statements_at}
use Rattle.scope_model.proofs.Changed.{free_names-map_names}
use Rattle.image_model.specs.Image.{ClassOf, EntryOf, ImageOf, map_class, map_entry, map_image}
use Rattle.image_model.specs.Words.{WordsOf, KeepsWords}
use Rattle.image_model.specs.Lookup.{own_method, lookup}
use Rattle.image_model.specs.Means.{MeaningOf, pseudo, argument, temporary, variable, a_class, transcript, undeclared, map_meaning, means}
use Rattle.image_model.specs.Uses.{name_used}
use Rattle.rename_model.specs.Conditions.{stands_below}
use Rattle.command_model.specs.SameMethods.{same_meaning}
use Rattle.command_model.specs.Asked.{AskedOf}
use Rattle.command_model.specs.Places.{is_return, is_of_block, innermost, sequence_round, whole_statement, stands_in_closure, SendOf}
use Rattle.command_model.specs.Inlined.{answered, unfolded, passed_for}
use Rattle.command_model.specs.ParameterConditions.{formal_reads}
use Rattle.command_model.specs.PartConditions.{is_assigned_in_the_open}
use Rattle.command_model.specs.InlineConditions.{is_name_that, answers_last, is_statement_between, makes_control, is_self_send, is_one_target, is_inlinable, is_actual_plain, are_actuals_plain, captures_nothing, makes_no_control}
use Rattle.command_numbers.proofs.Lists.{some-map, empty-map, enumerate-map, any-same, any-total, all-total, or-total}
use Rattle.command_numbers.proofs.Everywhere.{Every, every_tree}
use Rattle.command_numbers.proofs.NodesAsked.{mapped_node, used-total, any_node, same_meaning-map}
use Rattle.command_numbers.proofs.Classes.{same-map, own_method-there, is_method_of-map, stands_below-map}
use Rattle.command_numbers.proofs.UsesAsked.{means-there}
use Rattle.command_numbers.proofs.MethodConditionsMapped.{lookup-there, has_super-map}
use Rattle.command_numbers.proofs.ParameterConditionsMapped.{formal_reads-map}
use Rattle.code_command_numbers.specs.KeepsMoves.{KeepsMoves}
use Rattle.code_command_numbers.proofs.ScopesMapped.{is_control-map}
use Rattle.code_command_numbers.proofs.PlacesMapped.{map_send, innermost-map, sequence_round-map, whole_statement-map, is_return-map, stands_in_closure-map}
use Rattle.code_command_numbers.proofs.InlinedMapped.{answered-map, passed_for-map, unfolded-map}
use Rattle.code_command_numbers.proofs.PartConditionsMapped.{local, count_at-map, local-map, is_assigned_in_the_open-map, is_self-map, is_plain-map}

module _ {M N : Type 0} (f : M → N) where
  is_name_that-map : (p : M → Bool) (q : N → Bool) → ((n : M) → q (f n) ≡ p n) → (t : TreeOf M) → is_name_that q (map_names f t) ≡ is_name_that p t
  is_name_that-map p q e (var n) = e n
  is_name_that-map p q e (literal l) = refl
  is_name_that-map p q e (send r s args) = refl
  is_name_that-map p q e (cascade r ms) = refl
  is_name_that-map p q e (assign n t) = refl
  is_name_that-map p q e (block ps ts ss d) = refl
  is_name_that-map p q e (brace ts) = refl
  is_name_that-map p q e (return t) = refl

  pub answers_last-map : (ss : StatementsOf M) → answers_last (map_statements f ss) ≡ answers_last ss
  answers_last-map no_statements = refl
  answers_last-map (more_statements c t no_statements) = refl
  answers_last-map (more_statements c t (more_statements d u ss)) = λ i. not (is_return-map f t i) && answers_last-map (more_statements d u ss) i

  pub is_statement_between-map : (m : MethodOf M) (path : List ℕ) → is_statement_between (map_method f m) path ≡ is_statement_between m path
  is_statement_between-map m path =
      (λ i. option_map_or (λ k. innermost-map f m path i == 0 || nat_lt (suc k) (count (statement_trees (statements_at (map_sequence f m.body) (sequence_round-map f m path i))))) (whole_statement-map f m path i) false)
      ∙ ap (λ (c : ℕ). option_map_or (λ k. innermost m path == 0 || nat_lt (suc k) c) (whole_statement m path) false) (count_at-map f m.body (sequence_round m path))

module _ {M N : Type 0} (f : M → N) (w : WordsOf M) (v : WordsOf N) (keeps : KeepsWords Every f w v) where
  -- whether a node that is put somewhere makes a control send
  pub makes_control-map : (m : MethodOf M) (path : List ℕ) (t : TreeOf M) → makes_control v.tests.form (map_method f m) path (map_names f t) ≡ makes_control w.tests.form m path t
  makes_control-map m path t =
      ap (λ (o : Option (TreeOf N)). option_map_or above_there o false) (part_in-map_sequence f m.body (take (length path - 1) path))
      ∙ or-total (map_names f) above_here above_there false same_above (part_in m.body (take (length path - 1) path))
    where
      above_here : TreeOf M → Bool
      above_here above = not (is_control w.tests.form above) && option_map_or (λ k. is_control w.tests.form (with_child above k t)) (slice_get path (length path - 1)) false

      above_there : TreeOf N → Bool
      above_there above = not (is_control v.tests.form above) && option_map_or (λ k. is_control v.tests.form (with_child above k (map_names f t))) (slice_get path (length path - 1)) false

      at : (above : TreeOf M) (o : Option ℕ) → option_map_or (λ k. is_control v.tests.form (with_child (map_names f above) k (map_names f t))) o false ≡ option_map_or (λ k. is_control w.tests.form (with_child above k t)) o false
      at above None = refl
      at above (Some k) = ap (is_control v.tests.form) (with_child-map_names f above k t) ∙ is_control-map f w v keeps (with_child above k t)

      same_above : (above : TreeOf M) → above_there (map_names f above) ≡ above_here above
      same_above above = λ i. not (is_control-map f w v keeps above i) && at above (slice_get path (length path - 1)) i

module _ {M N : Type 0} (f : M → N) (a : AskedOf M) (b : AskedOf N) (keeps : KeepsMoves Every f a b) (i : ImageOf M) where
  -- a message to `self`, and its one target
  pub is_self_send-map : (e : SendOf M) → is_self_send b (map_image f i) (map_send f e) ≡ is_self_send a i e
  is_self_send-map e = is_name_that-map f (a.words.tests.same a.self_name) (b.words.tests.same b.self_name) (is_self-map f a b keeps) e.receiver

  pub is_one_target-map : (c : M) (meta : Bool) (s : M) → is_one_target b (map_image f i) (f c) meta (f s) ≡ is_one_target a i c meta s
  is_one_target-map c meta s =
      λ j. (ap (λ (o : Option (EntryOf N)). option_map_or (λ (m : EntryOf N). not m.kernel) o false) (lookup-there f a.words b.words keeps.asked.words i (Some c) meta s)
      ∙ or-total (map_entry f) (λ (m : EntryOf M). not m.kernel) (λ (m : EntryOf N). not m.kernel) false (λ m. refl) (lookup a.words i (Some c) meta s)) j
      && not (any-total (map_class f)
      (λ (e : ClassOf M). stands_below a.words.tests.same i.classes c e && (not (a.words.tests.same c e.name) && is_some (own_method a.words.tests.same i.methods e.name meta s)))
      (λ (e : ClassOf N). stands_below b.words.tests.same (map (map_class f) i.classes) (f c) e && (not (b.words.tests.same (f c) e.name) && is_some (own_method b.words.tests.same (map (map_entry f) i.methods) e.name meta (f s))))
      (λ e. λ k. stands_below-map f a.words b.words keeps.asked.words i.classes c e k
      && (not (same-map f a.words b.words keeps.asked.words c e.name k)
      && (ap is_some (own_method-there f a.words b.words keeps.asked.words i.methods e.name meta s) ∙ some-map (map_entry f) (own_method a.words.tests.same i.methods e.name meta s)) k)) i.classes j)

  -- a body that may stand in place of a message
  pub is_inlinable-map : (c : M) (m : EntryOf M) (e : SendOf M) (target : EntryOf M) → is_inlinable b (map_image f i) (f c) (map_entry f m) (map_send f e) (map_entry f target) ≡ is_inlinable a i c m e target
  is_inlinable-map c m e target =
      λ j. not target.kernel
      && (empty-map f target.tree.body.temporaries j
      && (not (any_node f (λ x. is_return x.1 && nat_lt 1 (length x.0)) (λ x. is_return x.1 && nat_lt 1 (length x.0)) (λ x. ap (λ (k : Bool). k && nat_lt 1 (length x.0)) (is_return-map f x.1)) target.tree.body j)
      && ((not (has_super-map f a.words b.words keeps.asked.words a.is_super b.is_super (λ n. keeps.asked.is_super n tt) target j) || is_method_of-map f a.words b.words keeps.asked.words c target j)
      && ((ap is_some (answered-map f target.tree.body.statements) ∙ some-map (map_names f) (answered target.tree.body.statements)) j
      || (is_statement_between-map f m.tree e.path j && answers_last-map f target.tree.body.statements j)))))

  -- what may be passed
  module _ (m : EntryOf M) (e : SendOf M) (target : EntryOf M) (formal : M) where
    abbrev by : M → MeaningOf M → Bool
    by n (temporary scope) =
        is_assigned_in_the_open a m.tree e.path scope n
        && not (list_any (stands_in_closure a.words.tests.form target.tree 1) (formal_reads a target.tree formal))
    by n meaning = false

    abbrev by_there : N → MeaningOf N → Bool
    by_there n (temporary scope) =
        is_assigned_in_the_open b (map_method f m.tree) e.path scope n
        && not (list_any (stands_in_closure b.words.tests.form (map_method f target.tree) 1) (formal_reads b (map_method f target.tree) (f formal)))
    by_there n meaning = false

    by-map : (n : M) (meaning : MeaningOf M) → by_there (f n) (map_meaning f meaning) ≡ by n meaning
    by-map n pseudo = refl
    by-map n (argument scope) = refl
    by-map n (temporary scope) =
        λ j. is_assigned_in_the_open-map f a b keeps m.tree e.path scope n j
        && not ((ap (list_any (stands_in_closure b.words.tests.form (map_method f target.tree) 1)) (formal_reads-map f a b keeps.asked target.tree formal)
        ∙ any-same (stands_in_closure a.words.tests.form target.tree 1) (stands_in_closure b.words.tests.form (map_method f target.tree) 1) (stands_in_closure-map f a.words b.words keeps.asked.words target.tree 1) (formal_reads a target.tree formal)) j)
    by-map n (variable k c) = refl
    by-map n (a_class c) = refl
    by-map n transcript = refl
    by-map n undeclared = refl

    pub is_actual_plain-map : (t : TreeOf M) → is_actual_plain b (map_image f i) (map_entry f m) (map_send f e) (map_entry f target) (f formal) (map_names f t) ≡ is_actual_plain a i m e target formal t
    is_actual_plain-map t =
        λ j. is_plain-map f a b keeps i m e.path t j
        || is_name_that-map f (λ n. by n (means a.words i m e.path n)) (λ n. by_there n (means b.words (map_image f i) (map_entry f m) e.path n))
        (λ n. ap (by_there (f n)) (means-there f a.words b.words keeps.asked.words i m e.path n) ∙ by-map n (means a.words i m e.path n)) t j

  pub are_actuals_plain-map : (m : EntryOf M) (e : SendOf M) (target : EntryOf M) → are_actuals_plain b (map_image f i) (map_entry f m) (map_send f e) (map_entry f target) ≡ are_actuals_plain a i m e target
  are_actuals_plain-map m e target =
      ap (list_all passes_there) (enumerate-map f 0 target.tree.arguments)
      ∙ all-total (λ (x : ℕ × M). (x.0, f x.1)) passes passes_there same_answer (enumerate_from 0 target.tree.arguments)
    where
      passes : ℕ × M → Bool
      passes x = option_map_or (is_actual_plain a i m e target x.1) (nth e.arguments x.0) false

      is_plain_there : N → TreeOf N → Bool
      is_plain_there formal t = is_actual_plain b (map_image f i) (map_entry f m) (map_send f e) (map_entry f target) formal t

      passes_there : ℕ × N → Bool
      passes_there x = option_map_or (is_plain_there x.1) (nth (map_trees f e.arguments) x.0) false

      same_answer : (x : ℕ × M) → passes_there (x.0, f x.1) ≡ passes x
      same_answer x =
          ap (λ (o : Option (TreeOf N)). option_map_or (is_plain_there (f x.1)) o false) (nth-map_trees f e.arguments x.0)
          ∙ or-total (map_names f) (is_actual_plain a i m e target x.1) (is_plain_there (f x.1)) false (is_actual_plain-map m e target x.1) (nth e.arguments x.0)

  -- names that mean the same where a body stands
  captured_by : (m : EntryOf M) (path : List ℕ) (t : TreeOf M) → list_any (λ x. is_of_block (local b (map_method f m.tree) path x)) (free_names b.words.tests.same b.words.tests.is_pseudo (map_names f t))
      ≡ list_any (λ x. is_of_block (local a m.tree path x)) (free_names a.words.tests.same a.words.tests.is_pseudo t)
  captured_by m path t =
      ap (list_any (λ x. is_of_block (local b (map_method f m.tree) path x))) (free_names-map_names Every f a.words.tests b.words.tests keeps.asked.words.tests t (every_tree Every (λ n. tt) t))
      ∙ any-total f (λ x. is_of_block (local a m.tree path x)) (λ x. is_of_block (local b (map_method f m.tree) path x)) (λ x. ap is_of_block (local-map f a b keeps m.tree path x)) (free_names a.words.tests.same a.words.tests.is_pseudo t)

  pub means_alike : (m : EntryOf M) (path : List ℕ) (n : EntryOf M) (other : List ℕ) (x : M)
      → same_meaning b.words.tests.same (means b.words (map_image f i) (map_entry f m) path (f x)) (means b.words (map_image f i) (map_entry f n) other (f x)) ≡ same_meaning a.words.tests.same (means a.words i m path x) (means a.words i n other x)
  means_alike m path n other x =
      (λ j. same_meaning b.words.tests.same (means-there f a.words b.words keeps.asked.words i m path x j) (means-there f a.words b.words keeps.asked.words i n other x j))
      ∙ same_meaning-map f a.words.tests.same b.words.tests.same (same-map f a.words b.words keeps.asked.words) (means a.words i m path x) (means a.words i n other x)

  pub captures_nothing-map : (m : EntryOf M) (e : SendOf M) (target : EntryOf M) → captures_nothing b (map_image f i) (map_entry f m) (map_send f e) (map_entry f target) ≡ captures_nothing a i m e target
  captures_nothing-map m e target =
      ap (list_all (λ (x : Placed N). option_map_or (kept_there x.0) (name_used x.1) true)) (nodes-map_sequence f target.tree.body)
      ∙ all-total (mapped_node f) (λ (x : Placed M). option_map_or (kept x.0) (name_used x.1) true) (λ (x : Placed N). option_map_or (kept_there x.0) (name_used x.1) true)
      (λ x. used-total f (kept x.0) (kept_there x.0) true (keeps_name x.0) x.1) (nodes target.tree.body)
    where
      stays : List ℕ → M → Bool
      stays path n = is_of_block (local a target.tree path n) || same_meaning a.words.tests.same (means a.words i target path n) (means a.words i m e.path n)

      stays_there : List ℕ → N → Bool
      stays_there path n = is_of_block (local b (map_method f target.tree) path n) || same_meaning b.words.tests.same (means b.words (map_image f i) (map_entry f target) path n) (means b.words (map_image f i) (map_entry f m) e.path n)

      free : List ℕ → TreeOf M → Bool
      free path t = not (list_any (λ x. is_of_block (local a target.tree path x)) (free_names a.words.tests.same a.words.tests.is_pseudo t))

      free_there : List ℕ → TreeOf N → Bool
      free_there path t = not (list_any (λ x. is_of_block (local b (map_method f target.tree) path x)) (free_names b.words.tests.same b.words.tests.is_pseudo t))

      kept : List ℕ → M → Bool
      kept path n = option_map_or (free path) (passed_for a target.tree e.arguments path n) (stays path n)

      kept_there : List ℕ → N → Bool
      kept_there path n = option_map_or (free_there path) (passed_for b (map_method f target.tree) (map_trees f e.arguments) path n) (stays_there path n)

      stays_same : (path : List ℕ) (n : M) → stays_there path (f n) ≡ stays path n
      stays_same path n = λ j. is_of_block (local-map f a b keeps target.tree path n j) || means_alike target path m e.path n j

      keeps_name : (path : List ℕ) (n : M) → kept_there path (f n) ≡ kept path n
      keeps_name path n =
          (λ j. option_map_or (free_there path) (passed_for-map f a b keeps.asked target.tree e.arguments path n j) (stays_same path n j))
          ∙ or-total (map_names f) (free path) (free_there path) (stays path n) (λ t. ap not (captured_by target path t)) (passed_for a target.tree e.arguments path n)

  -- the expression in place of a message
  pub makes_no_control-map : (m : EntryOf M) (e : SendOf M) (target : EntryOf M) → makes_no_control b (map_image f i) (map_entry f m) (map_send f e) (map_entry f target) ≡ makes_no_control a i m e target
  makes_no_control-map m e target =
      ap not (ap (λ (ss : StatementsOf N). option_map_or (makes_control b.words.tests.form (map_method f m.tree) e.path) (answered ss) false) (unfolded-map f a b keeps.asked target.tree e.arguments)
      ∙ ap (λ (o : Option (TreeOf N)). option_map_or (makes_control b.words.tests.form (map_method f m.tree) e.path) o false) (answered-map f (unfolded a target.tree e.arguments))
      ∙ or-total (map_names f) (makes_control a.words.tests.form m.tree e.path) (makes_control b.words.tests.form (map_method f m.tree) e.path) false (makes_control-map f a.words b.words keeps.asked.words m.tree e.path)
      (answered (unfolded a target.tree e.arguments)))
