-- A parameter that is added or removed keeps an image valid, where the conditions of the command hold.
use Rattle.std.proofs.Common.{◌≡◌, inl, inr, ℕ, zero, suc, ◌+◌, ◌-◌, ◌<◌, ◌≤◌, Bool, true, false, not, List, [], ◌∷◌, ◌++◌, length, Option, Some, None, refl, sym, ap, subst, ◌∙◌, true≢false, arith}
use Rattle.std.specs.Prelude.{◌&&◌, ◌||◌, nat_le, slice_get, if◌then◌else◌, filter, filter_map, max, remove, option_map, option_and_then}
use Rattle.std.specs.List.{list_all, cons_option}
use Rattle.std.specs.Option.{option_map_or}
use Rattle.std.proofs.lemmas.Bool.{and_parts, or_parts, or_from, not-true, eqb-true, leb-true}
use Rattle.rb_base.specs.Names.{text_eq}
use Rattle.rb_base.proofs.NamesLemmas.{text_eq-refl}
use Rattle.token_model.specs.declared.kind.Dialect.TheVariants.{Second}
use Rattle.tree_model.specs.Tree.{LiteralOf, number, str, symbol, char, array, bytes, word, TreeOf, TreesOf, no_trees, more_trees, no_statements}
use Rattle.tree_model.specs.Path.{append, count}
use Rattle.tree_model.specs.Measure.{height, trees_height}
use Rattle.grammar_model.specs.Spelling.{SpellsDoIt}
use Rattle.grammar_model.specs.Checks.{Known}
use Rattle.text_model.specs.Literals.{is_selector}
use Rattle.scope_model.specs.Control.{is_empty}
use Rattle.image_model.specs.Image.{EntryOf, ImageOf}
use Rattle.image_model.specs.Lookup.{is_method, own_method}
use Rattle.reread_law.specs.WellFormed.{IsValue, IsStatement, WellFormed, WellFormedTrees}
use Rattle.reread_law.specs.Declarations.{has_duplicate, has_duplicate_trees, assigns_fixed, assigns_fixed_trees}
use Rattle.reread_law.specs.WholeTrees.{WellFormedMethod}
use Rattle.reread_law.proofs.Starting.{well_formed_doit}
use Rattle.file_model.specs.Filing.{Text}
use Rattle.rename_model.specs.CommandWords.{arity, may_be_declared, begins_upper}
use Rattle.rename_model.specs.NamesThere.{is_named_in_method}
use Rattle.rename_model.specs.ClassRenamed.{canonical}
use Rattle.command_model.specs.Asked.{text_asked}
use Rattle.command_model.specs.Plain.{literal_node, is_passed_atom}
use Rattle.command_model.specs.Places.{users_method}
use Rattle.command_model.specs.Commands.{AddParameter, RemoveParameter}
use Rattle.command_model.specs.Conditions.{NotIn}
use Rattle.command_model.specs.CodeNeeds.{in_no_implementor}
use Rattle.command_model.specs.ParameterConditions.{counts_argument, formal_reads}
use Rattle.command_model.specs.Parameters.{without_nth}
use Rattle.command_model.specs.Effects.{effect}
use Rattle.command_model.specs.Allowed.{Meets}
use Rattle.command_model.specs.AllHold.{AllHold}
use Rattle.command_model.specs.Spelled.{literal_alone}
use Rattle.effect_laws.proofs.Items.{In, all_in, in_filter, finds}
use Rattle.effect_laws.proofs.Sound.{IsSound}
use Rattle.effect_laws.proofs.Tests.{there_passes}
use Rattle.effect_laws.proofs.NewNames.{new_name, method_parts}
use Rattle.effect_laws.proofs.MethodCommands.{found_in, signature_of, one_signed}
use Rattle.effect_laws.proofs.RenamesKept.{kernel_silent, fresh_selector}
use Rattle.effect_laws.proofs.ArgumentsPassed.{PassesWell}
use Rattle.effect_laws.proofs.ArgumentsTaken.{TakesWell, takes_more, takes_fewer}
use Rattle.effect_laws.proofs.ParametersKept.{passing_sound}

-- a literal as a node: it is well formed where a text spells it alone, and an atom is as low as a name
literal_value : (l : LiteralOf Text) → IsStatement (literal_node l) no_statements → IsValue (literal_node l)
literal_value (number t) h = tt
literal_value (str t) h = tt
literal_value (symbol t) h = tt
literal_value (char b) h = tt
literal_value (array ls) h = tt
literal_value (bytes ls) h = tt
literal_value (word n) h = h

pub literal_well : (l : LiteralOf Text) (text : Text) → SpellsDoIt Second text (literal_alone l) → WellFormed (literal_node l) × IsValue (literal_node l)
literal_well l text spells = let w = well_formed_doit text (literal_alone l) spells in (w.statements.1, literal_value l w.statements.2)

pub atom_height : (l : LiteralOf Text) → is_passed_atom text_asked l ≡ true → height (literal_node l) ≡ 1
atom_height (number t) h = refl
atom_height (str t) h = refl
atom_height (symbol t) h = refl
atom_height (char b) h = refl
atom_height (array ls) h = absurd (true≢false (sym h))
atom_height (bytes ls) h = absurd (true≢false (sym h))
atom_height (word n) h = refl

-- it declares nothing and assigns nothing
literal_twice : (l : LiteralOf Text) → has_duplicate (literal_node l) ≡ false
literal_twice (number t) = refl
literal_twice (str t) = refl
literal_twice (symbol t) = refl
literal_twice (char b) = refl
literal_twice (array ls) = refl
literal_twice (bytes ls) = refl
literal_twice (word n) = refl

literal_assigned : (ks : List Known) (l : LiteralOf Text) → assigns_fixed ks (literal_node l) ≡ false
literal_assigned ks (number t) = refl
literal_assigned ks (str t) = refl
literal_assigned ks (symbol t) = refl
literal_assigned ks (char b) = refl
literal_assigned ks (array ls) = refl
literal_assigned ks (bytes ls) = refl
literal_assigned ks (word n) = refl

-- one tree more at the end
module _ (y : TreeOf Text) where
  abbrev longer : TreesOf Text → TreesOf Text
  longer xs = append xs (more_trees y no_trees)

  count_more : (xs : TreesOf Text) → count (longer xs) ≡ count xs + 1
  count_more no_trees = refl
  count_more (more_trees x xs) = ap (λ (k : ℕ). k + 1) (count_more xs)

  height_more : height y ≡ 1 → (xs : TreesOf Text) → trees_height (longer xs) ≤ max 1 (trees_height xs)
  height_more low no_trees = omega (arith, low)
  height_more low (more_trees x xs) = let a = height_more low xs in omega (arith, a)

  twice_more : has_duplicate y ≡ false → (xs : TreesOf Text) → has_duplicate_trees xs ≡ false → has_duplicate_trees (longer xs) ≡ false
  twice_more none no_trees h = or_from (has_duplicate y) false none refl
  twice_more none (more_trees x xs) h = let p = or_parts (has_duplicate x) (has_duplicate_trees xs) h in or_from (has_duplicate x) (has_duplicate_trees (longer xs)) p.0 (twice_more none xs p.1)

  assigned_more : (ks : List Known) → assigns_fixed ks y ≡ false → (xs : TreesOf Text) → assigns_fixed_trees ks xs ≡ false → assigns_fixed_trees ks (longer xs) ≡ false
  assigned_more ks none no_trees h = or_from (assigns_fixed ks y) false none refl
  assigned_more ks none (more_trees x xs) h = let p = or_parts (assigns_fixed ks x) (assigns_fixed_trees ks xs) h in or_from (assigns_fixed ks x) (assigns_fixed_trees ks (longer xs)) p.0 (assigned_more ks none xs p.1)

  well_more : WellFormed y → IsValue y → (xs : TreesOf Text) → WellFormedTrees xs → WellFormedTrees (longer xs)
  well_more w v no_trees h = (w, v, tt)
  well_more w v (more_trees x xs) h = (h.0, h.1, well_more w v xs h.2)

-- one tree less
count_fewer : (xs : TreesOf Text) (k : ℕ) → k < count xs → count (without_nth k xs) + 1 ≡ count xs
count_fewer no_trees k h = absurd (omega (arith, h))
count_fewer (more_trees x xs) zero h = refl
count_fewer (more_trees x xs) (suc k) h = ap (λ (j : ℕ). j + 1) (count_fewer xs k (omega (arith, h)))

height_fewer : (xs : TreesOf Text) (k : ℕ) → trees_height (without_nth k xs) ≤ trees_height xs
height_fewer no_trees zero = omega arith
height_fewer no_trees (suc k) = omega arith
height_fewer (more_trees x xs) zero = omega arith
height_fewer (more_trees x xs) (suc k) = let a = height_fewer xs k in omega (arith, a)

twice_fewer : (xs : TreesOf Text) (k : ℕ) → has_duplicate_trees xs ≡ false → has_duplicate_trees (without_nth k xs) ≡ false
twice_fewer no_trees zero h = h
twice_fewer no_trees (suc k) h = h
twice_fewer (more_trees x xs) zero h = (or_parts (has_duplicate x) (has_duplicate_trees xs) h).1
twice_fewer (more_trees x xs) (suc k) h = let p = or_parts (has_duplicate x) (has_duplicate_trees xs) h in or_from (has_duplicate x) (has_duplicate_trees (without_nth k xs)) p.0 (twice_fewer xs k p.1)

assigned_fewer : (ks : List Known) (xs : TreesOf Text) (k : ℕ) → assigns_fixed_trees ks xs ≡ false → assigns_fixed_trees ks (without_nth k xs) ≡ false
assigned_fewer ks no_trees zero h = h
assigned_fewer ks no_trees (suc k) h = h
assigned_fewer ks (more_trees x xs) zero h = (or_parts (assigns_fixed ks x) (assigns_fixed_trees ks xs) h).1
assigned_fewer ks (more_trees x xs) (suc k) h = let p = or_parts (assigns_fixed ks x) (assigns_fixed_trees ks xs) h in or_from (assigns_fixed ks x) (assigns_fixed_trees ks (without_nth k xs)) p.0 (assigned_fewer ks xs k p.1)

well_fewer : (xs : TreesOf Text) (k : ℕ) → WellFormedTrees xs → WellFormedTrees (without_nth k xs)
well_fewer no_trees zero h = tt
well_fewer no_trees (suc k) h = tt
well_fewer (more_trees x xs) zero h = h.2
well_fewer (more_trees x xs) (suc k) h = (h.0, h.1, well_fewer xs k h.2)

-- what the two commands pass
pub passes_more : (s t : Text) (l : LiteralOf Text) → arity t ≡ suc (arity s) → is_passed_atom text_asked l ≡ true → WellFormed (literal_node l) × IsValue (literal_node l) → PassesWell s t (λ xs. append xs (more_trees (literal_node l) no_trees))
passes_more s t l one atom w = record {
  number = λ xs q. (let c = count_more (literal_node l) xs in omega (arith, one, q, c));
  height = height_more (literal_node l) (atom_height l atom);
  twice = twice_more (literal_node l) (literal_twice l);
  assigned = λ ks. assigned_more (literal_node l) ks (literal_assigned ks l);
  well = well_more (literal_node l) w.0 w.1;
}

pub passes_fewer : (s t : Text) (k : ℕ) → arity t ≡ arity s - 1 → 1 ≤ k → k ≤ arity s → PassesWell s t (without_nth (k - 1))
passes_fewer s t k one low high = record {
  number = λ xs q. (let c = count_fewer xs (k - 1) (omega (arith, q, low, high)) in omega (arith, one, q, c, low, high));
  height = λ xs. (let a = height_fewer xs (k - 1) in omega (arith, a));
  twice = λ xs. twice_fewer xs (k - 1);
  assigned = λ ks xs. assigned_fewer ks xs (k - 1);
  well = λ xs. well_fewer xs (k - 1);
}

-- an item of which something is made
in_filter_map : {X Y : Type 0} (f : X → Option Y) (xs : List X) (x : X) (y : Y) → In xs x → f x ≡ Some y → In (filter_map f xs) y
in_filter_map f [] x y h q = h
in_filter_map {X} {Y} f (z ∷ zs) x y (inl e) q = subst (λ (o : Option Y). In (cons_option o (filter_map f zs)) y) (sym (ap f e ∙ q)) (inl refl)
in_filter_map {X} {Y} f (z ∷ zs) x y (inr h) q = by (f z) (in_filter_map f zs x y h q)
  where
    by : (o : Option Y) → In (filter_map f zs) y → In (cons_option o (filter_map f zs)) y
    by None k = k
    by (Some w) k = inr k

-- the method of the user that is found is one of the image
found_user : (o : Option (EntryOf Text)) (m : EntryOf Text) → option_and_then (λ (n : EntryOf Text). if n.kernel then None else Some n) o ≡ Some m → o ≡ Some m
found_user None m e = absurd (none e)
  where
    none : None ≡ Some m → ⊥
    none q = cc
found_user (Some n) m e = by n.kernel e
  where
    by : (b : Bool) → (if b then None else Some n) ≡ Some m → Some n ≡ Some m
    by true q = absurd (none q)
      where
        none : None ≡ Some m → ⊥
        none p = cc
    by false q = q

module _ (kernel i : ImageOf Text) (sound : IsSound kernel i) where
  -- no method of the selector by the user has the new name
  new_name_nowhere : (s t x : Text) (l : LiteralOf Text) → AllHold text_asked i (AddParameter s t x l) → (m : EntryOf Text) → In i.methods m → m.kernel ≡ false → s ≡ m.tree.selector → is_named_in_method text_eq x m ≡ false
  new_name_nowhere s t x l h m k user is =
      let home = sound.methods.homes m k in
      let c = home.0 in
      let one = in_filter (λ (e : EntryOf Text). not e.kernel && text_eq s e.tree.selector) i.methods m k (λ j. not (user j) && (ap (text_eq s) (sym is) ∙ text_eq-refl s) j) in
      let there = in_filter_map (λ (e : EntryOf Text). option_map (λ d. NotIn d e.meta s x) e.class) (filter (λ (e : EntryOf Text). not e.kernel && text_eq s e.tree.selector) i.methods) m (NotIn c m.meta s x) one (ap (option_map (λ d. NotIn d m.meta s x)) home.1) in
      let meets = all_in (Meets text_asked i (AddParameter s t x l)) (in_no_implementor text_asked i s x) h.new_to_methods (NotIn c m.meta s x) there in
      let found = there_passes (λ (e : EntryOf Text). not (is_named_in_method text_eq x e)) (users_method text_eq i c m.meta s) meets in
      let own = found_user (own_method text_eq i.methods c m.meta s) found.0 found.1 in
      let signed = signature_of c m.meta s found.0 (finds (is_method text_eq c m.meta s) i.methods found.0 own) in
      let same = one_signed kernel i sound found.0 m (found_in (is_method text_eq c m.meta s) i.methods found.0 own) k (signed ∙ (λ j. (sym home.1 j, m.meta, is j))) in
      ap (is_named_in_method text_eq x) (sym same) ∙ not-true (is_named_in_method text_eq x found.0) found.2

  pub add_parameter : (s t x : Text) (l : LiteralOf Text) (text : Text) → SpellsDoIt Second text (literal_alone l) → AllHold text_asked i (AddParameter s t x l) → IsSound kernel (effect text_asked canonical (AddParameter s t x l) i)
  add_parameter s t x l text spells h =
      let one = eqb-true (arity t) (suc (arity s)) h.one_more in
      passing_sound s t (λ xs. append xs (more_trees (literal_node l) no_trees)) (λ ns. ns ++ x ∷ []) (passes_more s t l one h.atom_literal (literal_well l text spells))
      (and_parts (nat_le (length t) 200) (is_selector t) h.good_selector).1 kernel i sound (kernel_silent i s h.old_not_kernel) (fresh_selector i t h.fresh_selector) takes
    where
      takes : (m : EntryOf Text) → In i.methods m → m.kernel ≡ false → s ≡ m.tree.selector → WellFormedMethod false m.tree → TakesWell t (λ ns. ns ++ x ∷ []) m.tree
      takes m k user is w =
          let named = method_parts x m (new_name_nowhere s t x l h m k user is) in
          takes_more s t m.tree is w x (eqb-true (arity t) (suc (arity s)) h.one_more) (new_name x (and_parts (may_be_declared x) (not (begins_upper x)) h.good_name).0) named.0 named.1

  -- the number counts an argument
  pub counted : (s : Text) (k : ℕ) (t : Text) → AllHold text_asked i (RemoveParameter s k t) → (1 ≤ k) × (k ≤ arity s)
  counted s k t h =
      let a = and_parts (counts_argument text_asked s k)
      (list_all (λ (m : EntryOf Text). m.kernel || (not (text_eq s m.tree.selector) || option_map_or (λ x. is_empty (formal_reads text_asked m.tree x)) (slice_get m.tree.arguments (k - 1)) false)) i.methods)
      h.unused_parameter in
      let b = and_parts (nat_le 1 k) (nat_le k (arity s)) a.0 in
      (leb-true 1 k b.0, leb-true k (arity s) b.1)

  pub remove_parameter : (s : Text) (k : ℕ) (t : Text) → AllHold text_asked i (RemoveParameter s k t) → IsSound kernel (effect text_asked canonical (RemoveParameter s k t) i)
  remove_parameter s k t h =
      let one = eqb-true (arity t) (arity s - 1) h.one_less in
      let c = counted s k t h in
      passing_sound s t (without_nth (k - 1)) (λ ns. remove ns (k - 1)) (passes_fewer s t k one c.0 c.1)
      (and_parts (nat_le (length t) 200) (is_selector t) h.good_selector).1 kernel i sound (kernel_silent i s h.old_not_kernel) (fresh_selector i t h.fresh_selector) (λ m j user is w. takes_fewer s t m.tree is w k one c.0 c.1)
