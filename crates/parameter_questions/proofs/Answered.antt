-- What is found answers what commands ask.
use Rattle.std.proofs.Common.{◌≡◌, ℕ, ◌-◌, ◌&&◌, ◌||◌, Bool, true, false, not, List, [], ◌∷◌, Option, None, Some, slice_get, refl, sym, ap, ◌∙◌, arith, true≢false}
use Rattle.std.specs.Prelude.{nat_eq, nat_le, Contains}
use Rattle.std.specs.List.{list_any, list_all, flat_map, enumerate_from}
use Rattle.std.specs.Option.{option_map_or}
use Rattle.std.proofs.lemmas.Bool.{and_parts, or_left}
use Rattle.std.proofs.lemmas.List.Folds.{list_any-append}
use Rattle.tree_model.specs.Tree.{TreeOf, var, literal, send, cascade, assign, block, brace, return, TreesOf, SequenceOf}
use Rattle.tree_model.specs.Path.{nth}
use Rattle.tree_model.specs.Nodes.{Placed, nodes}
use Rattle.tree_model.specs.Measure.{sequence_height}
use Rattle.scope_model.specs.Control.{is_empty}
use Rattle.image_model.specs.Image.{EntryOf, DoItOf, ImageOf}
use Rattle.image_model.specs.Means.{MeaningOf, undeclared, means, means_in_doit}
use Rattle.image_model.specs.Nodes.{Place, in_method, in_doit, NodeOf, nodes_of, image_nodes, means_in}
use Rattle.mentions.specs.Mentions.{code_names, method_names}
use Rattle.class_table.specs.Slots.{Slots}
use Rattle.class_table.specs.View.{number_image}
use Rattle.rename_model.specs.Conditions.{speaks_of}
use Rattle.command_model.specs.Asked.{AskedOf}
use Rattle.command_model.specs.ParameterConditions as model
use Rattle.commands.specs.Views.{asked_by}
use Rattle.code_questions.specs.declared.question.Way.TheVariants as way
use Rattle.code_questions.specs.declared.question.Whose.TheVariants as whose
use Rattle.code_questions.proofs.Witnesses.{any-mapped}
use Rattle.code_questions.proofs.Mentioning.{found-method, found-doit}
use Rattle.use_questions.proofs.Tests.{alike, all-pass, any-numbered}
use Rattle.parameter_questions.specs.declared.question.Fault.{Fault}
use Rattle.parameter_questions.specs.declared.question.Fault.TheVariants as fault
use Rattle.parameter_questions.specs.Codes.{may_be_dropped, is_dropped, are_dropped, passes_other}
use Rattle.parameter_questions.specs.Codes as codes
use Rattle.parameter_questions.specs.Questions as asked
use Rattle.parameter_questions.proofs.Plain.{passed-dropped, other-sent}

-- a test that never passes
never : {X : Type 0} (xs : List X) → list_any (λ x. false) xs ≡ false
never [] = refl
never (x ∷ xs) = never xs

-- two tests of all items that are one
all-same : {X : Type 0} (p q : X → Bool) (xs : List X) → ((x : X) → p x ≡ q x) → list_all p xs ≡ list_all q xs
all-same p q [] same = refl
all-same p q (x ∷ xs) same = λ j. same x j && all-same p q xs same j

or-same : {X : Type 0} (p q : X → Bool) (o : Option X) → ((x : X) → p x ≡ q x) → option_map_or p o false ≡ option_map_or q o false
or-same p q None same = refl
or-same p q (Some x) same = same x

not-not : (b : Bool) → not (not b) ≡ b
not-not true = refl
not-not false = refl

or-false : (b : Bool) → (b || false) ≡ b
or-false true = refl
or-false false = refl

neither : (a b : Bool) → not (a || b) ≡ (not a && not b)
neither true b = refl
neither false b = refl

-- the tests of one method and of one do-it
user-reads : (kernel has unread : Bool) → not (kernel || (not has || unread)) ≡ (not kernel && (has && not unread))
user-reads true has unread = refl
user-reads false true unread = refl
user-reads false false unread = refl

user-high : (kernel speaks low : Bool) → not (kernel || (not speaks || low)) ≡ (not kernel && (not low && speaks))
user-high true speaks low = refl
user-high false true true = refl
user-high false true false = refl
user-high false false true = refl
user-high false false false = refl

sends-high : (sends low : Bool) → not (not sends || low) ≡ (not low && sends)
sends-high true true = refl
sends-high true false = refl
sends-high false true = refl
sends-high false false = refl

module _ (s : Slots) (selector : ℕ) where
  abbrev i : ImageOf ℕ
  i = number_image s

  abbrev a : AskedOf ℕ
  a = asked_by s.names

  -- no method of the user reads the argument
  pub none-reads : (k : ℕ) (found : Bool) → found ≡ asked.is_found s selector (fault.Read (k - 1)) → model.counts_argument a selector k ≡ true → not found ≡ model.is_parameter_unused a i selector k
  none-reads k found e counts =
      let unread : EntryOf ℕ → Bool = λ m. option_map_or (λ x. is_empty (model.formal_reads a m.tree x)) (slice_get m.tree.arguments (k - 1)) false in
      let test : EntryOf ℕ → Bool = λ m. m.kernel || (not (nat_eq selector m.tree.selector) || unread m) in
      ap not (e ∙ (λ j. list_any (asked.is_method_found s selector (fault.Read (k - 1))) i.methods || never i.doits j) ∙ or-false (list_any (asked.is_method_found s selector (fault.Read (k - 1))) i.methods))
      ∙ ap not (sym (alike (λ m. not (test m)) (asked.is_method_found s selector (fault.Read (k - 1))) i.methods (λ m. user-reads m.kernel (nat_eq selector m.tree.selector) (unread m))))
      ∙ sym (all-pass test i.methods)
      ∙ ap (λ (b : Bool). b && list_all test i.methods) (sym counts)

  module _ (k : ℕ) where
    -- whether each message of a node passes what may be dropped
    abbrev drops : NodeOf ℕ → Bool
    drops e = list_all (λ (args : TreesOf ℕ). option_map_or (model.may_be_dropped a i e) (nth args (k - 1)) false) (model.passed_by nat_eq selector e.tree)

    abbrev at_place : Place → Placed ℕ → NodeOf ℕ
    at_place place e = record { use_of = record { place = place; path = e.0 }; tree = e.1 }

    module _ (place : Place) (meaning : List ℕ → ℕ → MeaningOf ℕ) (is : (path : List ℕ) (n : ℕ) → means_in a.words i place path n ≡ meaning path n) where
      same-argument : (path : List ℕ) (u t : TreeOf ℕ) → model.may_be_dropped a i (at_place place (path, u)) t ≡ may_be_dropped (meaning path) t
      same-argument path u (var n) = ap model.is_declared (is path n)
      same-argument path u (literal l) = refl
      same-argument path u (send r t args) = refl
      same-argument path u (cascade r ms) = refl
      same-argument path u (assign n t) = refl
      same-argument path u (block ps ts ss d) = refl
      same-argument path u (brace ts) = refl
      same-argument path u (return t) = refl

      pub same-node : (e : Placed ℕ) → drops (at_place place e) ≡ are_dropped meaning selector (k - 1) e
      same-node (path, u) =
          all-same (λ (args : TreesOf ℕ). option_map_or (model.may_be_dropped a i (at_place place (path, u))) (nth args (k - 1)) false) (is_dropped (meaning path) (k - 1)) (model.passed_by nat_eq selector u)
          (λ args. or-same (model.may_be_dropped a i (at_place place (path, u))) (may_be_dropped (meaning path)) (nth args (k - 1)) (same-argument path u))
          ∙ sym (passed-dropped selector (k - 1) meaning path u)

      other-passed : (b : SequenceOf ℕ) → list_any (λ (e : NodeOf ℕ). not (drops e)) (nodes_of place b) ≡ passes_other meaning selector (k - 1) b
      other-passed b =
          any-mapped (at_place place) (λ (e : NodeOf ℕ). not (drops e)) (nodes b)
          ∙ alike (λ (e : Placed ℕ). not (drops (at_place place e))) (λ (e : Placed ℕ). not (are_dropped meaning selector (k - 1) e)) (nodes b) (λ e. ap not (same-node e))
          ∙ sym (not-not (list_any (λ (e : Placed ℕ). not (are_dropped meaning selector (k - 1) e)) (nodes b)))
          ∙ ap not (sym (all-pass (are_dropped meaning selector (k - 1)) (nodes b)))

    in-methods : list_any (λ (e : NodeOf ℕ). not (drops e)) (flat_map (λ (e : ℕ × EntryOf ℕ). nodes_of (in_method e.0) e.1.tree.body) (enumerate_from 0 i.methods)) ≡ list_any (asked.is_method_found s selector (fault.Passed (k - 1))) i.methods
    in-methods =
        any-numbered (λ (e : NodeOf ℕ). not (drops e)) (λ n m. nodes_of (in_method n) m.tree.body) (asked.is_method_found s selector (fault.Passed (k - 1))) 0 i.methods
        (λ j n m e f.
        let here : n ≡ j = omega (arith, e) in
        let found : slice_get i.methods n ≡ Some m = ap (slice_get i.methods) here ∙ f in
        other-passed (in_method n) (codes.means_in_method s m) (λ path x. ap (λ (o : Option (EntryOf ℕ)). option_map_or (λ (v : EntryOf ℕ). means a.words i v path x) o undeclared) found) m.tree.body)

    in-doits : list_any (λ (e : NodeOf ℕ). not (drops e)) (flat_map (λ (e : ℕ × DoItOf ℕ). nodes_of (in_doit e.0) e.1.body) (enumerate_from 0 i.doits)) ≡ list_any (asked.in_doit s selector (fault.Passed (k - 1))) i.doits
    in-doits =
        any-numbered (λ (e : NodeOf ℕ). not (drops e)) (λ n d. nodes_of (in_doit n) d.body) (asked.in_doit s selector (fault.Passed (k - 1))) 0 i.doits
        (λ j n d e f.
        let here : n ≡ j = omega (arith, e) in
        let found : slice_get i.doits n ≡ Some d = ap (slice_get i.doits) here ∙ f in
        other-passed (in_doit n) (codes.means_in_doit s d) (λ path x. ap (λ (o : Option (DoItOf ℕ)). option_map_or (λ (v : DoItOf ℕ). means_in_doit a.words i v path x) o undeclared) found) d.body)

    -- each message passes what may be dropped
    pub none-passed : (found : Bool) → found ≡ asked.is_found s selector (fault.Passed (k - 1)) → model.counts_argument a selector k ≡ true → not found ≡ model.are_arguments_plain a i selector k
    none-passed found e counts =
        ap not
        (e
        ∙ (λ j. sym in-methods j || sym in-doits j)
        ∙ sym (list_any-append (λ (e : NodeOf ℕ). not (drops e)) (flat_map (λ (e : ℕ × EntryOf ℕ). nodes_of (in_method e.0) e.1.tree.body) (enumerate_from 0 i.methods)) (flat_map (λ (e : ℕ × DoItOf ℕ). nodes_of (in_doit e.0) e.1.body) (enumerate_from 0 i.doits))))
        ∙ sym (all-pass drops (image_nodes i))
        ∙ ap (λ (b : Bool). b && list_all drops (image_nodes i)) (sym counts)

  -- what speaks of the selector is not high
  pub none-high : (found : Bool) → found ≡ asked.is_found s selector fault.High → not found ≡ model.is_shallow_speaking nat_eq selector i
  none-high found e =
      let low : SequenceOf ℕ → Bool = λ b. nat_le (sequence_height b) 200 in
      let method : EntryOf ℕ → Bool = λ m. m.kernel || (not (speaks_of nat_eq selector m) || low m.tree.body) in
      let doit : DoItOf ℕ → Bool = λ d. not (asked.sends_in selector d.body) || low d.body in
      ap not e
      ∙ neither (list_any (asked.is_method_found s selector fault.High) i.methods) (list_any (asked.in_doit s selector fault.High) i.doits)
      ∙ (λ j. not (sym (alike (λ m. not (method m)) (asked.is_method_found s selector fault.High) i.methods (λ m. user-high m.kernel (speaks_of nat_eq selector m) (low m.tree.body))) j)
      && not (sym (alike (λ d. not (doit d)) (asked.in_doit s selector fault.High) i.doits (λ d. sends-high (asked.sends_in selector d.body) (low d.body))) j))
      ∙ (λ j. sym (all-pass method i.methods) j && sym (all-pass doit i.doits) j)

  -- code with the fault mentions the selector
  method-mentions : (f : Fault) (m : EntryOf ℕ) → asked.in_method s selector f m ≡ true → Contains (method_names m.tree) selector
  method-mentions (fault.Read k) m e =
      found-method i (record { whose = whose.Everyone; what = way.Selector; name = selector }) m (or_left (nat_eq selector m.tree.selector) _ (and_parts (nat_eq selector m.tree.selector) (asked.reads_argument s.names k m.tree) e).0)
  method-mentions (fault.Passed k) m e = found-method i (record { whose = whose.Everyone; what = way.Sent; name = selector }) m (other-sent selector k (codes.means_in_method s m) m.tree.body e)
  method-mentions fault.High m e = found-method i (record { whose = whose.Everyone; what = way.Spoken; name = selector }) m (and_parts (asked.is_high m.tree.body) (speaks_of nat_eq selector m) e).1

  pub only-methods : (f : Fault) (m : EntryOf ℕ) → asked.is_method_found s selector f m ≡ true → Contains (method_names m.tree) selector
  only-methods f m e = method-mentions f m (and_parts (asked.is_of_all f || not m.kernel) (asked.in_method s selector f m) e).1

  pub only-doits : (f : Fault) (d : DoItOf ℕ) → asked.in_doit s selector f d ≡ true → Contains (code_names d.body) selector
  only-doits (fault.Read k) d e = absurd (true≢false (sym e))
  only-doits (fault.Passed k) d e = found-doit (record { whose = whose.Everyone; what = way.Sent; name = selector }) d (other-sent selector k (codes.means_in_doit s d) d.body e)
  only-doits fault.High d e = found-doit (record { whose = whose.Everyone; what = way.Sent; name = selector }) d (and_parts (asked.is_high d.body) (asked.sends_in selector d.body) e).1
