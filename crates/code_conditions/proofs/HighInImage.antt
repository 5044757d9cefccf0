-- Code that means a variable mentions its name, and where none of it is high, all of it is low.
use Rattle.std.proofs.Common.{◌≡◌, ℕ, ◌&&◌, ◌||◌, Bool, true, false, not, List, [], Option, None, Some, refl, sym, ap, ◌∙◌, true≢false}
use Rattle.std.specs.Prelude.{nat_eq, Contains, if◌then◌else◌}
use Rattle.std.specs.List.{list_any}
use Rattle.std.specs.Option.{option_map_or}
use Rattle.std.proofs.lemmas.Bool.{and_parts}
use Rattle.tree_model.specs.Tree.{TreeOf, var, literal, send, cascade, assign, block, brace, return, SequenceOf}
use Rattle.tree_model.specs.Nodes.{Placed, nodes}
use Rattle.image_model.specs.Image.{EntryOf, DoItOf, ImageOf}
use Rattle.image_model.specs.Means.{MeaningOf, of_instance}
use Rattle.image_model.specs.Uses.{name_used, is_variable}
use Rattle.image_model.specs.Words.{number_words}
use Rattle.mentions.specs.Mentions.{code_names, method_names}
use Rattle.class_table.specs.Slots.{Slots}
use Rattle.class_table.specs.View.{number_image}
use Rattle.command_model.specs.Accessors.{made, is_meant, method_made, doit_made}
use Rattle.command_model.specs.CodeHolds.{no_writing, are_low_abstracted}
use Rattle.command_model.specs.ParameterConditions.{is_low}
use Rattle.command_model.specs.Walk.{rebuilt_sequence, rebuilt_method}
use Rattle.commands.specs.Views.{asked_by, self_in}
use Rattle.abstracted_code.specs.declared.abstraction.Abstraction.{Abstraction}
use Rattle.abstracted_code.specs.Abstracted.{in_method, in_doit, node_after, means_it, method_after, body_after}
use Rattle.code_questions.specs.declared.question.Question.{Question}
use Rattle.code_questions.specs.declared.question.Way.TheVariants as way
use Rattle.code_questions.specs.declared.question.Whose.TheVariants as whose
use Rattle.code_questions.specs.Questions.{in_node}
use Rattle.code_questions.proofs.Mentioning.{found-method, found-doit}
use Rattle.parameter_questions.specs.Questions.{is_high}
use Rattle.use_questions.proofs.Tests.{alike, all-pass, weaker}
use Rattle.code_conditions.specs.HighCode.{is_tree_high, is_method_high, is_doit_high}

-- the first of two tests, beside the second one
first-of : (p q : ℕ → Bool) (o : Option ℕ) → option_map_or (λ n. p n && q n) o false ≡ true → option_map_or p o false ≡ true
first-of p q None e = e
first-of p q (Some n) e = (and_parts (p n) (q n) e).0

-- neither of two
neither : (a b : Bool) → not (a || b) ≡ (not a && not b)
neither true b = refl
neither false b = refl

none-kept : (kernel : Bool) → (not kernel && false) ≡ not (kernel || true)
none-kept true = refl
none-kept false = refl

module _ (s : Slots) (a : Abstraction) where
  abbrev i : ImageOf ℕ
  i = number_image s

  -- the question whether code reads or assigns the name of the variable
  abbrev by_name : Question
  by_name = record { whose = whose.Everyone; what = way.Used; name = a.variable }

  -- a sequence that means the variable has its name
  named : (at : List ℕ → ℕ → MeaningOf ℕ) (b : SequenceOf ℕ) → means_it s a at b ≡ true → list_any (λ (e : Placed ℕ). in_node way.Used a.variable e.1) (nodes b) ≡ true
  named at b e =
      weaker (λ (p : Placed ℕ). option_map_or (λ n. nat_eq a.variable n && is_variable nat_eq of_instance a.class (at p.0 n)) (name_used p.1) false) (λ (p : Placed ℕ). in_node way.Used a.variable p.1) (nodes b)
      (λ p h. first-of (nat_eq a.variable) (λ n. is_variable nat_eq of_instance a.class (at p.0 n)) (name_used p.1) h) e

  -- what is high then means the variable
  method-means : (m : EntryOf ℕ) → is_tree_high (method_after s a m) ≡ true → means_it s a (in_method s a m) m.tree.body ≡ true
  method-means m = by (means_it s a (in_method s a m) m.tree.body)
    where
      by : (b : Bool) → is_tree_high (if b then Some (rebuilt_method (node_after s a (in_method s a m)) m.tree) else None) ≡ true → b ≡ true
      by true h = refl
      by false h = absurd (true≢false (sym h))

  doit-means : (b : SequenceOf ℕ) → option_map_or is_high (body_after s a b) false ≡ true → means_it s a (in_doit s a b) b ≡ true
  doit-means b = by (means_it s a (in_doit s a b) b)
    where
      by : (c : Bool) → option_map_or is_high (if c then Some (rebuilt_sequence (node_after s a (in_doit s a b)) b) else None) false ≡ true → c ≡ true
      by true h = refl
      by false h = absurd (true≢false (sym h))

  pub only-methods : (m : EntryOf ℕ) → is_method_high s a m ≡ true → Contains (method_names m.tree) a.variable
  only-methods m e =
      found-method i by_name m (named (in_method s a m) m.tree.body (method-means m (and_parts (not m.kernel) (is_tree_high (method_after s a m)) e).1))

  pub only-doits : (d : DoItOf ℕ) → is_doit_high s a d ≡ true → Contains (code_names d.body) a.variable
  only-doits d e = found-doit by_name d (named (in_doit s a d.body) d.body (doit-means d.body e))

  -- a node, a method and a do-it after, without texts
  abbrev node_made : (List ℕ → ℕ → MeaningOf ℕ) → List ℕ → TreeOf ℕ → TreeOf ℕ
  node_made = made (number_words s.names) no_writing a.self_name a.class a.variable a.setter a.parameter i

  abbrev entry_made : EntryOf ℕ → EntryOf ℕ
  entry_made = method_made (number_words s.names) no_writing a.self_name a.class a.variable a.setter a.parameter i

  abbrev code_made : DoItOf ℕ → DoItOf ℕ
  code_made = doit_made (number_words s.names) no_writing a.self_name a.class a.variable a.setter a.parameter i

  -- nodes are the same with texts
  node-same : (at : List ℕ → ℕ → MeaningOf ℕ) (path : List ℕ) (t : TreeOf ℕ) → node_after s a at path t ≡ node_made at path t
  node-same at path (var n) = refl
  node-same at path (literal l) = refl
  node-same at path (send r t args) = refl
  node-same at path (cascade r ms) = refl
  node-same at path (assign n t) = refl
  node-same at path (block ps ts ss e) = refl
  node-same at path (brace ts) = refl
  node-same at path (return t) = refl

  -- whether a method of an image, and a do-it, is low then, if it means the variable
  abbrev pub low : EntryOf ℕ → Bool
  low m = m.kernel || (not (is_meant (number_words s.names) no_writing a.self_name a.class a.variable a.setter a.parameter i (in_method s a m) m.tree.body) || is_low (entry_made m).tree.body)

  abbrev pub low_doit : DoItOf ℕ → Bool
  low_doit d = not (is_meant (number_words s.names) no_writing a.self_name a.class a.variable a.setter a.parameter i (in_doit s a d.body) d.body) || is_low (code_made d).body

  pub method-low : (m : EntryOf ℕ) → is_method_high s a m ≡ not (low m)
  method-low m =
      by (means_it s a (in_method s a m) m.tree.body)
      ∙ (λ j. not (m.kernel || (not (means_it s a (in_method s a m) m.tree.body) || is_low (if means_it s a (in_method s a m) m.tree.body then record m { tree = rebuilt_method (λ path t. node-same (in_method s a m) path t j) m.tree; source = [] } else m).tree.body)))
    where
      by : (b : Bool) → (not m.kernel && is_tree_high (if b then Some (rebuilt_method (node_after s a (in_method s a m)) m.tree) else None))
          ≡ not (m.kernel || (not b || is_low (if b then record m { tree = rebuilt_method (node_after s a (in_method s a m)) m.tree; source = [] } else m).tree.body))
      by true = sym (neither m.kernel (is_low (rebuilt_method (node_after s a (in_method s a m)) m.tree).body))
      by false = none-kept m.kernel

  pub doit-low : (d : DoItOf ℕ) → is_doit_high s a d ≡ not (low_doit d)
  doit-low d =
      by (means_it s a (in_doit s a d.body) d.body)
      ∙ (λ j. not (not (means_it s a (in_doit s a d.body) d.body) || is_low (if means_it s a (in_doit s a d.body) d.body then record { body = rebuilt_sequence (λ path t. node-same (in_doit s a d.body) path t j) d.body; source = [] } else d).body))
    where
      by : (b : Bool) → option_map_or is_high (if b then Some (rebuilt_sequence (node_after s a (in_doit s a d.body)) d.body) else None) false
          ≡ not (not b || is_low (if b then record { body = rebuilt_sequence (node_after s a (in_doit s a d.body)) d.body; source = [] } else d).body)
      by true = refl
      by false = refl

  -- where no code is high, all of it is low; the getter and the setter are
  pub none-high : a.self_name ≡ self_in s.names
      → not (list_any (is_method_high s a) i.methods || list_any (is_doit_high s a) i.doits) ≡ are_low_abstracted (asked_by s.names) i a.class a.variable a.setter a.parameter
  none-high self =
      neither (list_any (is_method_high s a) i.methods) (list_any (is_doit_high s a) i.doits)
      ∙ (λ j. not (alike (is_method_high s a) (λ m. not (low m)) i.methods method-low j) && not (alike (is_doit_high s a) (λ d. not (low_doit d)) i.doits doit-low j))
      ∙ (λ j. sym (all-pass low i.methods) j && sym (all-pass low_doit i.doits) j)
      ∙ ap (λ (k : ℕ). are_low_abstracted (record (asked_by s.names) { self_name = k }) i a.class a.variable a.setter a.parameter) self
