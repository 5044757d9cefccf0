-- With `nil` as one more do-it, conditions that only commands have which change code are as they are without it.
use Rattle.std.proofs.Common.{◌≡◌, ℕ, Bool, true, false, not, ◌&&◌, ◌||◌, List, [], ◌∷◌, refl, ap, ◌∙◌}
use Rattle.std.specs.Prelude.{◌-◌, nat_le, codes, if◌then◌else◌}
use Rattle.std.specs.List.{AllByRecursion, list_all, list_any}
use Rattle.std.specs.Option.{option_map_or}
use Rattle.std.proofs.lemmas.List.Folds.{list_all-append}
use Rattle.rb_base.specs.Names.{text_eq}
use Rattle.tree_model.specs.Tree.{TreeOf, var, TreesOf, SequenceOf}
use Rattle.tree_model.specs.Path.{nth}
use Rattle.tree_model.specs.Nodes.{nodes}
use Rattle.tree_model.specs.Measure.{sequence_height}
use Rattle.scope_model.specs.SpecialNames.{is_pseudo_variable}
use Rattle.image_model.specs.Image.{EntryOf, DoItOf, ImageOf, plus}
use Rattle.image_model.specs.Words.{text_words}
use Rattle.image_model.specs.Means.{means, means_in_doit}
use Rattle.image_model.specs.Nodes.{in_doit, NodeOf, nodes_of, image_nodes}
use Rattle.image_model.specs.Uses.{is_sender}
use Rattle.run_model.specs.Values.{Name}
use Rattle.rename_model.specs.Conditions.{speaks_of}
use Rattle.rename_model.specs.ClassRenamed.{WritingOf}
use Rattle.command_model.specs.Asked.{text_asked}
use Rattle.command_model.specs.Commands.{CommandOf, AddParameter, AbstractInstVar, InlineMethod}
use Rattle.command_model.specs.Conditions.{Inlinable, Shallow}
use Rattle.command_model.specs.Walk.{rebuilt_sequence}
use Rattle.command_model.specs.Accessors.{getter, setter_of, made, is_meant, method_made, doit_made}
use Rattle.command_model.specs.ParameterConditions.{is_declared, passed_by, is_low, is_shallow_speaking, counts_argument, may_be_dropped, are_arguments_plain}
use Rattle.command_model.specs.CodeHolds.{no_writing, are_low_abstracted}
use Rattle.command_model.specs.Holds.{holds}
use Rattle.session_model.specs.Admitted.{nil_doit}
use Rattle.command_model.proofs.CodeBeside.{last_after}
use Rattle.history_laws.proofs.NilUses.{and-false, all-implied, nodes-plus, MeansAsMuch, meanings-agree}

-- a test and what is true
true-too : (b : Bool) → (b && true) ≡ b
true-too true = refl
true-too false = refl

-- a test or what is true
or-true : (b : Bool) → (b || true) ≡ true
or-true true = refl
or-true false = refl

-- tests that agree on each item
same-all : {A : Type 0} (p q : A → Bool) (xs : List A) → AllByRecursion (λ x. p x ≡ q x) xs → list_all p xs ≡ list_all q xs
same-all p q [] agree = refl
same-all p q (x ∷ xs) agree = λ j. agree.0 j && same-all p q xs agree.1 j

module _ (i : ImageOf Name) where
  -- no command that changes code changes `nil`
  pub last-same : (writing : WritingOf Name) (c : CommandOf Name) → last_after text_asked writing i nil_doit c ≡ nil_doit
  unfolding is_pseudo_variable
  last-same writing (AbstractInstVar c x setter given) =
      let body : SequenceOf Name = rebuilt_sequence (made text_words writing (codes "self") c x setter given i (means_in_doit text_words i nil_doit)) nil_doit.body in
      ap (λ b. let d : DoItOf Name = record { body = body; source = writing.doit_text body } in if b || false then d else nil_doit) (and-false (text_eq x (codes "nil")))
  last-same writing c = refl

  -- `nil` reads and assigns no variable
  module _ (c x setter given : Name) where
    abbrev method_low : EntryOf Name → Bool
    method_low m =
        m.kernel || (not (is_meant text_words no_writing (codes "self") c x setter given i (means text_words i m) m.tree.body)
        || is_low (method_made text_words no_writing (codes "self") c x setter given i m).tree.body)

    abbrev doit_low : DoItOf Name → Bool
    doit_low d =
        not (is_meant text_words no_writing (codes "self") c x setter given i (means_in_doit text_words i d) d.body)
        || is_low (doit_made text_words no_writing (codes "self") c x setter given i d).body

    nil_low : doit_low nil_doit ≡ true
    nil_low =
        let meant : Bool = is_meant text_words no_writing (codes "self") c x setter given i (means_in_doit text_words i nil_doit) nil_doit.body in
        ap (λ (d : DoItOf Name). not meant || is_low d.body) (last-same no_writing (AbstractInstVar c x setter given)) ∙ or-true (not meant)

    abstracted-plus : are_low_abstracted text_asked (plus i nil_doit) c x setter given ≡ are_low_abstracted text_asked i c x setter given
    abstracted-plus =
        ap (λ b. is_low (getter x).body && (is_low (setter_of x setter given).body && (list_all method_low i.methods && b)))
        (list_all-append doit_low i.doits (nil_doit ∷ []) ∙ ap (λ b. list_all doit_low i.doits && (b && true)) nil_low ∙ true-too (list_all doit_low i.doits))

  -- `nil` sends nothing
  speaking-plus : (s : Name) → is_shallow_speaking text_eq s (plus i nil_doit) ≡ is_shallow_speaking text_eq s i
  speaking-plus s =
      let fine : DoItOf Name → Bool = λ d. not (list_any (λ e. is_sender text_eq s e.1) (nodes d.body)) || nat_le (sequence_height d.body) 200 in
      ap (λ b. list_all (λ (m : EntryOf Name). m.kernel || (not (speaks_of text_eq s m) || nat_le (sequence_height m.tree.body) 200)) i.methods && b)
      (list_all-append fine i.doits (nil_doit ∷ []) ∙ true-too (list_all fine i.doits))

  pub shallow-plus : (c : CommandOf Name) → holds text_asked (plus i nil_doit) c Shallow ≡ holds text_asked i c Shallow
  shallow-plus (AddParameter s t x passed) = speaking-plus s
  shallow-plus (AbstractInstVar c x setter given) = abstracted-plus c x setter given
  shallow-plus c = refl

  -- the target of a message
  pub inlinable-plus : (c : CommandOf Name) (d : Name) (meta : Bool) (s : Name) → holds text_asked (plus i nil_doit) c (Inlinable d meta s) ≡ holds text_asked i c (Inlinable d meta s)
  inlinable-plus (InlineMethod e side t from to) d meta s = refl
  inlinable-plus c d meta s = refl

  -- what may be left out of messages
  dropped-plus : (e : NodeOf Name) → MeansAsMuch i e → (t : TreeOf Name) → may_be_dropped text_asked (plus i nil_doit) e t ≡ may_be_dropped text_asked i e t
  dropped-plus e same (var n) = ap is_declared (same e.use_of.path n)
  dropped-plus e same t = refl

  abbrev drops : ImageOf Name → Name → ℕ → NodeOf Name → Bool
  drops j s k e = list_all (λ (args : TreesOf Name). option_map_or (may_be_dropped text_asked j e) (nth args (k - 1)) false) (passed_by text_eq s e.tree)

  pub arguments-plus : (s : Name) (k : ℕ) → are_arguments_plain text_asked (plus i nil_doit) s k ≡ are_arguments_plain text_asked i s k
  arguments-plus s k =
      let more = nodes-plus i in
      ap (λ b. counts_argument text_asked s k && b)
      (ap (list_all (drops (plus i nil_doit) s k)) more.1
      ∙ list_all-append (drops (plus i nil_doit) s k) (image_nodes i) (nodes_of (in_doit more.0) nil_doit.body)
      ∙ true-too (list_all (drops (plus i nil_doit) s k) (image_nodes i))
      ∙ same-all (drops (plus i nil_doit) s k) (drops i s k) (image_nodes i)
      (all-implied (MeansAsMuch i) (λ e. drops (plus i nil_doit) s k e ≡ drops i s k e)
      (λ e same j. list_all (λ (args : TreesOf Name). option_map_or (λ t. dropped-plus e same t j) (nth args (k - 1)) false) (passed_by text_eq s e.tree))
      (image_nodes i) (meanings-agree i)))
