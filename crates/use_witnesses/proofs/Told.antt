-- What the walk gathers, as the witnesses of conditions.
use Rattle.std.proofs.Common.{◌≡◌, ℕ, ◌-◌, ◌&&◌, not, Bool, true, false, cond, List, [], map, Option, Some, None, find, option_map, slice_get, refl, sym, ap, ◌∙◌}
use Rattle.std.specs.Prelude.{nat_eq, filter}
use Rattle.std.specs.Option.{option_and_then, option_map_or}
use Rattle.std.proofs.Math.Bool.{and_comm}
use Rattle.tree_model.specs.Nodes.{Placed}
use Rattle.image_model.specs.Image.{ClassOf, EntryOf, DoItOf, ImageOf}
use Rattle.image_model.specs.Lookup.{own_method, super_lookup}
use Rattle.image_model.specs.Means.{VariableKind, means, means_in_doit, undeclared}
use Rattle.image_model.specs.Nodes.{Use, NodeOf, in_method, in_doit, image_nodes}
use Rattle.image_model.specs.Uses.{class_uses, is_sender, is_variable, senders, uses}
use Rattle.image_model.specs.Words.{WordsOf, number_words}
use Rattle.class_table.specs.Slots.{Slots}
use Rattle.class_table.specs.Valid.{IsOrderly}
use Rattle.class_table.specs.View.{entry_of, number_image}
use Rattle.command_model.specs.ClassConditions.{is_in_method_that}
use Rattle.command_model.specs.Commands as model
use Rattle.command_model.specs.Commands.{CommandOf}
use Rattle.command_model.specs.Hierarchy.{is_method_of}
use Rattle.command_model.specs.SameMethods.{is_same_method}
use Rattle.command_model.specs.VariableConditions.{is_looked_through}
use Rattle.commands.specs.Views.{asked_by}
use Rattle.commands.specs.declared.command.MethodName.{MethodName}
use Rattle.method_questions.specs.Found.{are_same, bare_entry, inherited_slot, named_slot, opened_at}
use Rattle.method_questions.proofs.Inherited.{opened-inherited}
use Rattle.method_questions.proofs.OwnMethods.{named-holds, opened-holds, opened-named}
use Rattle.name_meanings.specs.declared.meaning.VariableKind as declared
use Rattle.name_meanings.specs.Meanings.{kind_of}
use Rattle.parameter_questions.specs.Codes as codes
use Rattle.parameter_questions.proofs.Answered.{same-node}
use Rattle.refusal_witnesses.specs.ClassWitnesses.{looked_uses, outer_uses}
use Rattle.refusal_witnesses.specs.MethodWitnesses.{missers}
use Rattle.refusal_witnesses.specs.ParameterWitnesses.{other_passings, passes_plain}
use Rattle.refusal_witnesses.specs.Witnesses.{WitnessOf, a_use}
use Rattle.use_questions.specs.declared.question.Meant.{Meant}
use Rattle.use_questions.specs.declared.question.Meant.TheVariants as meant
use Rattle.use_questions.specs.declared.question.Whose.{Whose}
use Rattle.use_questions.specs.declared.question.Whose.TheVariants as whose
use Rattle.use_questions.specs.Questions.{are_doits_asked, is_asked}
use Rattle.use_questions.proofs.Uses as used
use Rattle.use_witnesses.specs.declared.uses.Use.TheVariants as node
use Rattle.use_witnesses.specs.Inherited.{is_inherited}
use Rattle.use_witnesses.specs.Uses.{is_use, uses_there}
use Rattle.use_witnesses.proofs.Meant.{kept-filter, meant-at, node_at, walked}

module _ (s : Slots) where
  abbrev w : WordsOf ℕ
  w = number_words s.names

  abbrev i : ImageOf ℕ
  i = number_image s

  -- the class of which do-its are read as methods
  abbrev home_of_doits : Option ℕ
  home_of_doits = option_map (λ (c : ClassOf ℕ). c.name) (find (λ (c : ClassOf ℕ). w.is_undefined_object c.name) i.classes)

  -- uses of what is meant, in a method and in a do-it
  module _ (what : Meant) where
    abbrev means_it : NodeOf ℕ → Bool
    means_it e = uses w i (used.is_use what) e

    in-entry : (k : ℕ) (m : EntryOf ℕ) → slice_get i.methods k ≡ Some m → (e : Placed ℕ) → means_it (node_at (in_method k) e) ≡ is_use (node.Means what) (codes.means_in_method s m) e
    in-entry k m f e = meant-at s what (in_method k) m.tree.arguments m.tree.body m.class m.meta (λ path x. ap (λ (o : Option (EntryOf ℕ)). option_map_or (λ (v : EntryOf ℕ). means w i v path x) o undeclared) f) e

    in-code : (k : ℕ) (d : DoItOf ℕ) → slice_get i.doits k ≡ Some d → (e : Placed ℕ) → means_it (node_at (in_doit k) e) ≡ is_use (node.Means what) (codes.means_in_doit s d) e
    in-code k d f e = meant-at s what (in_doit k) [] d.body home_of_doits false (λ path x. ap (λ (o : Option (DoItOf ℕ)). option_map_or (λ (v : DoItOf ℕ). means_in_doit w i v path x) o undeclared) f) e

  -- what means the class
  pub class-told : (c : ℕ) → uses_there s (record { whose = whose.Everyone; what = node.Means (meant.Class c) }) ≡ map a_use (class_uses w i c)
  class-told c = sym (walked (means_it (meant.Class c)) s (record { whose = whose.Everyone; what = node.Means (meant.Class c) }) (in-entry (meant.Class c)) (in-code (meant.Class c)))

  -- what means it outside its own methods
  pub outer-told : (c : ℕ) → uses_there s (record { whose = whose.Outside c; what = node.Means (meant.Class c) }) ≡ outer_uses w i c
  outer-told c =
      let what = meant.Class c in
      let outside : Use → Bool = λ u. not (is_in_method_that (is_method_of nat_eq c) i u.place) in
      let test : NodeOf ℕ → Bool = λ e. means_it what e && outside e.use_of in
      sym (ap (map a_use) (kept-filter (λ (e : NodeOf ℕ). e.use_of) (means_it what) outside (image_nodes i))
      ∙ walked test s (record { whose = whose.Outside c; what = node.Means what })
      (λ k m f e.
      (λ j. in-entry what k m f e j && not (option_map_or (is_method_of nat_eq c) (f j) false))
      ∙ and_comm (is_use (node.Means what) (codes.means_in_method s m) e) (not (is_method_of nat_eq c m)))
      (λ k d f e. (λ j. in-code what k d f e j && true) ∙ and_comm (is_use (node.Means what) (codes.means_in_doit s d) e) true))

  -- what means the variable in the methods that a command looks through
  pub looked-told : (command : CommandOf ℕ) (c x : ℕ) (kind : declared.VariableKind) (looked : Whose) → kind_of kind ≡ model.kind_of command
      → ((m : EntryOf ℕ) → is_asked i looked m ≡ is_looked_through nat_eq i.classes command c m) → are_doits_asked looked ≡ false
      → uses_there s (record { whose = looked; what = node.Means (meant.Variable kind c x) }) ≡ looked_uses w i command c x
  looked-told command c x kind looked same methods doits =
      let what = meant.Variable kind c x in
      let inside : Use → Bool = λ u. is_in_method_that (is_looked_through nat_eq i.classes command c) i u.place in
      let test : NodeOf ℕ → Bool = λ e. means_it what e && inside e.use_of in
      sym (ap (λ (k : VariableKind). map a_use (filter inside (map (λ (e : NodeOf ℕ). e.use_of) (filter (uses w i (λ m meaning. nat_eq x m && is_variable nat_eq k c meaning)) (image_nodes i))))) (sym same)
      ∙ ap (map a_use) (kept-filter (λ (e : NodeOf ℕ). e.use_of) (means_it what) inside (image_nodes i))
      ∙ walked test s (record { whose = looked; what = node.Means what })
      (λ k m f e.
      (λ j. in-entry what k m f e j && option_map_or (is_looked_through nat_eq i.classes command c) (f j) false)
      ∙ and_comm (is_use (node.Means what) (codes.means_in_method s m) e) (is_looked_through nat_eq i.classes command c m)
      ∙ ap (λ (b : Bool). b && is_use (node.Means what) (codes.means_in_method s m) e) (sym (methods m)))
      (λ k d f e.
      (λ j. in-code what k d f e j && false)
      ∙ and_comm (is_use (node.Means what) (codes.means_in_doit s d) e) false
      ∙ ap (λ (b : Bool). b && is_use (node.Means what) (codes.means_in_doit s d) e) (sym doits)))

  -- what sends the selector
  pub sent-told : (selector : ℕ) → uses_there s (record { whose = whose.Everyone; what = node.Sends selector }) ≡ map a_use (senders w i selector)
  sent-told selector =
      sym (walked (λ (e : NodeOf ℕ). is_sender nat_eq selector e.tree) s (record { whose = whose.Everyone; what = node.Sends selector }) (λ k m f e. refl) (λ k d f e. refl))

  -- what passes something else for an argument
  pub passed-told : (selector k : ℕ) → uses_there s (record { whose = whose.Everyone; what = node.Passes selector (k - 1) }) ≡ other_passings (asked_by s.names) i selector k
  passed-told selector k =
      sym (walked (λ (e : NodeOf ℕ). not (passes_plain (asked_by s.names) i selector k e)) s (record { whose = whose.Everyone; what = node.Passes selector (k - 1) })
      (λ n m f e.
      ap not (same-node s selector k (in_method n) (codes.means_in_method s m) (λ path x. ap (λ (o : Option (EntryOf ℕ)). option_map_or (λ (v : EntryOf ℕ). means w i v path x) o undeclared) f) e))
      (λ n d f e.
      ap not (same-node s selector k (in_doit n) (codes.means_in_doit s d) (λ path x. ap (λ (o : Option (DoItOf ℕ)). option_map_or (λ (v : DoItOf ℕ). means_in_doit w i v path x) o undeclared) f) e)))

  -- what misses a method
  module _ (orderly : IsOrderly s) (n : MethodName) where
    abbrev same : EntryOf ℕ → EntryOf ℕ → Bool
    same = is_same_method w (asked_by s.names).is_super i i

    abbrev pub sent : List (WitnessOf ℕ)
    sent = map a_use (senders w i n.selector)

    -- what is no code does not count
    bared : (o r : Option (EntryOf ℕ)) → option_map_or (λ m. cond (option_map_or (same m) r false) [] sent) o [] ≡ option_map_or (λ m. cond (option_map_or (same m) (option_map bare_entry r) false) [] sent) (option_map bare_entry o) []
    bared None r = refl
    bared (Some m) None = refl
    bared (Some m) (Some k) = refl

    in-slots : missers w (asked_by s.names).is_super i n.class n.meta n.selector
        ≡ option_map_or (λ m. cond (option_map_or (same m) (option_and_then (opened_at s) (inherited_slot s n.class n.meta n.selector)) false) [] sent) (option_and_then (opened_at s) (named_slot s n.class n.meta n.selector)) []
    in-slots =
        bared (own_method nat_eq i.methods n.class n.meta n.selector) (super_lookup w i (Some n.class) n.meta n.selector)
        ∙ (λ j. option_map_or (λ m. cond (option_map_or (same m) (sym (opened-inherited s orderly n.class n.meta n.selector) j) false) [] sent) (sym (opened-named s orderly n.meta n.selector n.class) j) [])

    pub none-missing : named_slot s n.class n.meta n.selector ≡ None → [] ≡ missers w (asked_by s.names).is_super i n.class n.meta n.selector
    none-missing e =
        sym (in-slots ∙ ap (λ (o : Option ℕ). option_map_or (λ m. cond (option_map_or (same m) (option_and_then (opened_at s) (inherited_slot s n.class n.meta n.selector)) false) [] sent) (option_and_then (opened_at s) o) []) e)

    pub missing : (y : ℕ) → named_slot s n.class n.meta n.selector ≡ Some y → cond (is_inherited s y n) [] sent ≡ missers w (asked_by s.names).is_super i n.class n.meta n.selector
    missing y e =
        let h = named-holds s orderly n.meta n.selector n.class y e in
        let opened : opened_at s y ≡ Some (bare_entry (entry_of s.classes h.method)) = opened-holds s orderly n.meta n.selector y h in
        let r : Option (EntryOf ℕ) = option_and_then (opened_at s) (inherited_slot s n.class n.meta n.selector) in
        ap (λ (o : Option (EntryOf ℕ)). cond (are_same s o r) [] sent) opened
        ∙ sym (ap (λ (o : Option (EntryOf ℕ)). option_map_or (λ m. cond (option_map_or (same m) r false) [] sent) o []) (ap (option_and_then (opened_at s)) e ∙ opened))
        ∙ sym in-slots
