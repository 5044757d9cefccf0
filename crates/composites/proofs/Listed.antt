-- A method of a class that is at none of the places which the index lists under a variable does not go up with it.
use Rattle.std.proofs.Common.{◌≡◌, ℕ, ◌||◌, Bool, true, false, List, [], ◌∷◌, ◌++◌, Option, None, Some, refl, sym, ap, subst, ◌∙◌, true≢false}
use Rattle.std.specs.Prelude.{Contains, if◌then◌else◌, nat_eq}
use Rattle.std.specs.List.{list_any, filter_map, cons_option}
use Rattle.std.specs.Option.{option_and_then, option_map_or}
use Rattle.std.proofs.lemmas.List.{append-nil}
use Rattle.std.proofs.lemmas.List.Folds.{list_any_at}
use Rattle.tree_model.specs.Nodes.{Placed, nodes}
use Rattle.st_tree.specs.View.{method_of, sequence_of}
use Rattle.image_model.specs.Uses.{name_used}
use Rattle.mentions.specs.Mentions.{method_names, trees_of_nodes}
use Rattle.commands.specs.declared.command.Command.{Command}
use Rattle.commands.specs.declared.command.Command.TheVariants as command
use Rattle.class_table.specs.declared.record.MethodRec.{MethodRec}
use Rattle.class_table.specs.declared.record.Place.{Place}
use Rattle.class_table.specs.declared.record.Place.TheVariants as place
use Rattle.class_table.specs.Slots.{Slots}
use Rattle.class_table.specs.View.{entry_of, live_at, number_image}
use Rattle.class_table.proofs.Live.{eqb-refl}
use Rattle.code_questions.specs.declared.question.Way.TheVariants as way
use Rattle.code_questions.specs.declared.question.Whose.TheVariants as whose
use Rattle.code_questions.proofs.Mentioning.{found-method}
use Rattle.code_questions.proofs.Witnesses.{any-mapped}
use Rattle.reference_index.specs.Mentioned.{Mentioned, IsIndexOf, ListsPlaces}
use Rattle.composites.specs.Pushed.{has_name, is_used, own_at, method_push, slot_push}

-- a number that one of some items gives is among those that they give
found-among : {X : Type 0} (f : X → Option ℕ) (k : ℕ) (xs : List X) → list_any (λ x. list_any (nat_eq k) (cons_option (f x) [])) xs ≡ true → list_any (nat_eq k) (filter_map f xs) ≡ true
found-among f k [] e = e
found-among {X} f k (x ∷ xs) e = by (f x) (found-among f k xs) e
  where
    one : (here later rest : Bool) → (later ≡ true → rest ≡ true) → ((here || false) || later) ≡ true → (here || rest) ≡ true
    one true later rest h t = refl
    one false later rest h t = h t

    by : (o : Option ℕ) → (list_any (λ (y : X). list_any (nat_eq k) (cons_option (f y) [])) xs ≡ true → list_any (nat_eq k) (filter_map f xs) ≡ true)
        → (list_any (nat_eq k) (cons_option o []) || list_any (λ (y : X). list_any (nat_eq k) (cons_option (f y) [])) xs) ≡ true
        → list_any (nat_eq k) (cons_option o (filter_map f xs)) ≡ true
    by None rest t = rest t
    by (Some j) rest t = one (nat_eq k j) (list_any (λ (y : X). list_any (nat_eq k) (cons_option (f y) [])) xs) (list_any (nat_eq k) (filter_map f xs)) rest t

module _ (s : Slots) (x : Mentioned) (index : IsIndexOf s x) (c n k : ℕ) (places : List Place) (lists : ListsPlaces x n places) where
  -- whether a place is that of the slot, and it holds an instance method of the class
  abbrev is_at : Place → Bool
  is_at p = list_any (nat_eq k) (cons_option (own_at s c p) [])

  -- an instance method of the class in the slot does not name the variable
  unused : list_any (nat_eq k) (filter_map (own_at s c) places) ≡ false → (m : MethodRec) → live_at s.methods s.method_order k ≡ Some m → own_at s c (place.Method k) ≡ Some k → is_used n (trees_of_nodes (nodes (sequence_of m.tree.body))) ≡ true → ⊥
  unused missing m e own u =
      let mentions : Contains (method_names (method_of m.tree)) n =
      found-method (number_image s) (record { whose = whose.Everyone; what = way.Used; name = n }) (entry_of s.classes m)
      (sym (any-mapped (λ (p : Placed ℕ). p.1) (λ t. option_map_or (nat_eq n) (name_used t) false) (nodes (sequence_of m.tree.body))) ∙ u) in
      let there = (lists.members (place.Method k)).1 (((index (place.Method k)).members n).1 (subst (λ (ns : List ℕ). Contains ns n) (sym (ap (λ (o : Option MethodRec). option_map_or (λ (r : MethodRec). method_names (method_of r.tree)) o []) e)) mentions)) in
      let at : is_at (place.Method k) ≡ true = ap (λ (o : Option ℕ). list_any (nat_eq k) (cons_option o [])) own ∙ ap (λ (b : Bool). b || false) (eqb-refl k) in
      true≢false (sym (found-among (own_at s c) k places (list_any_at is_at places there.0 (place.Method k) there.1 (ap is_at there.2 ∙ at))) ∙ missing)

  missing-none : list_any (nat_eq k) (filter_map (own_at s c) places) ≡ false → slot_push s c n k ≡ None
  missing-none missing = by (live_at s.methods s.method_order k) refl
    where
      tested : (m : MethodRec) (meta named used : Bool) → ((if meta then None else if named then Some k else None) ≡ Some k → used ≡ true → ⊥)
          → (if meta then None else if named then if used then Some (command.PushUpMethod (record { class = c; meta = false; selector = m.tree.selector })) else None else None) ≡ None
      tested m true named used h = refl
      tested m false false used h = refl
      tested m false true true h = absurd (h refl refl)
      tested m false true false h = refl

      by : (o : Option MethodRec) → live_at s.methods s.method_order k ≡ o → option_and_then (method_push s c n) o ≡ None
      by None e = refl
      by (Some m) e =
          tested m m.meta (has_name s c m.class) (is_used n (trees_of_nodes (nodes (sequence_of m.tree.body))))
          (λ own. unused missing m e (ap (option_and_then (λ (r : MethodRec). if r.meta then None else if has_name s c r.class then Some k else None)) e ∙ own))

  -- so commands stay as they are, if a slot is missing among those that are found
  pub missing-same : (commands : List Command) (slots found : List ℕ) (listed : Bool) → slots ≡ found → found ≡ filter_map (own_at s c) places → listed ≡ list_any (nat_eq k) slots → listed ≡ false
      → commands ≡ commands ++ cons_option (slot_push s c n k) []
  missing-same commands slots found listed a b is absent =
      sym (append-nil commands) ∙ ap (λ (o : Option Command). commands ++ cons_option o []) (sym (missing-none (sym (is ∙ ap (list_any (nat_eq k)) (a ∙ b)) ∙ absent)))
