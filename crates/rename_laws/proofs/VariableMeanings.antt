-- What names mean at their places after a variable has a new name.
use Rattle.std.proofs.Common.{◌≡◌, ℕ, List, Some, refl, sym, ap, ◌∙◌}
use Rattle.std.specs.Prelude.{Bool, true, false, if◌then◌else◌, ◌&&◌}
use Rattle.std.proofs.lemmas.Bool.{false≢true}
use Rattle.rb_base.specs.Names.{text_eq}
use Rattle.tree_model.specs.Tree.{TreeOf}
use Rattle.tree_model.specs.Path.{part_among, statement_trees}
use Rattle.scope_model.specs.declared.local.Local.{Local}
use Rattle.scope_model.specs.declared.local.Local.TheVariants.{Argument, Temporary, NotLocal}
use Rattle.scope_model.specs.SpecialNames.{is_pseudo_variable}
use Rattle.scope_model.specs.Scope.{ScopeOf, scopes_round, local_by}
use Rattle.image_model.specs.Means.{VariableKind, of_instance, of_class_side, of_class, MeaningOf, pseudo, argument, temporary, variable, a_class, transcript, undeclared}
use Rattle.image_model.specs.Uses.{same_kind, is_variable, name_used}
use Rattle.run_model.specs.Values.{Name}
use Rattle.run_model.proofs.Finite.{by_cases, and-true_left, and-true_right}
use Rattle.run_model.proofs.RenamingLemmas.{text-same}
use Rattle.resolved_model.specs.ResolvedTrees.{of_instance_variable, of_class_side_variable, of_class_variable, of_named_class, to_instance_variable, to_class_side_variable, to_class_variable, to_fixed}
use Rattle.resolved_model.specs.Resolving.{place_at, reference_of, target_of}
use Rattle.mapped_model.specs.NameMaps.{NameMaps}
use Rattle.mapped_model.specs.MappedImages.{mapped_reference, mapped_target}
use Rattle.mapped_model.specs.ChangedTrees.{MeaningsAreMapped}
use Rattle.rename_model.specs.Renamed.{NewName}
use Rattle.rename_laws.proofs.ScopesAfter.{renamed_scope, local-renamed, place-renamed}
use Rattle.rename_laws.proofs.TreesAfter.{name_at_node, names_of}
use Rattle.rename_laws.proofs.MeaningsAfter.{meaning_at, by_local}
use Rattle.rename_laws.proofs.VariableClasses.{kind-same}

-- in code of a class, maps call a variable of a kind and its definer so
abbrev pub Calls : NameMaps → (owner : Name) → VariableKind → (defined_by : Name) → (before after : Name) → Type 0
Calls f owner of_instance d n m = f.instance (owner, n) ≡ m
Calls f owner of_class_side d n m = f.class_side (owner, n) ≡ m
Calls f owner of_class d n m = f.shared (d, n) ≡ (d, m)

module _ (f : NameMaps) (classes : (e : Name) → f.class e ≡ e) (owner : Name) where
  -- what is read under a name that means the same, and is called so, stays
  reference-stays : (g : MeaningOf Name) (k : ℕ) (n : Name) → ((j : VariableKind) (d : Name) → g ≡ variable j d → Calls f owner j d n n) → reference_of g k n ≡ mapped_reference f owner (reference_of g k n)
  reference-stays pseudo k n h = refl
  reference-stays (argument s) k n h = refl
  reference-stays (temporary s) k n h = refl
  reference-stays (variable of_instance d) k n h = ap of_instance_variable (sym (h of_instance d refl))
  reference-stays (variable of_class_side d) k n h = ap of_class_side_variable (sym (h of_class_side d refl))
  reference-stays (variable of_class d) k n h = λ i. of_class_variable (sym (h of_class d refl) i).0 (sym (h of_class d refl) i).1
  reference-stays (a_class e) k n h = ap of_named_class (sym (classes e))
  reference-stays transcript k n h = refl
  reference-stays undeclared k n h = refl

  -- and what is assigned
  target-stays : (g : MeaningOf Name) (k : ℕ) (n : Name) → ((j : VariableKind) (d : Name) → g ≡ variable j d → Calls f owner j d n n) → target_of g k n ≡ mapped_target f owner (target_of g k n)
  target-stays pseudo k n h = ap to_fixed (sym (classes n))
  target-stays (argument s) k n h = ap to_fixed (sym (classes n))
  target-stays (temporary s) k n h = refl
  target-stays (variable of_instance d) k n h = ap to_instance_variable (sym (h of_instance d refl))
  target-stays (variable of_class_side d) k n h = ap to_class_side_variable (sym (h of_class_side d refl))
  target-stays (variable of_class d) k n h = λ i. to_class_variable (sym (h of_class d refl) i).0 (sym (h of_class d refl) i).1
  target-stays (a_class e) k n h = ap to_fixed (sym (classes n))
  target-stays transcript k n h = ap to_fixed (sym (classes n))
  target-stays undeclared k n h = refl

  -- a variable that is read by a new name
  reference-anew : (j : VariableKind) (d : Name) (k l : ℕ) (n m : Name) → Calls f owner j d n m → reference_of (variable j d) k m ≡ mapped_reference f owner (reference_of (variable j d) l n)
  reference-anew of_instance d k l n m h = ap of_instance_variable (sym h)
  reference-anew of_class_side d k l n m h = ap of_class_side_variable (sym h)
  reference-anew of_class d k l n m h = λ i. of_class_variable (sym h i).0 (sym h i).1

  -- and one that is assigned
  target-anew : (j : VariableKind) (d : Name) (k l : ℕ) (n m : Name) → Calls f owner j d n m → target_of (variable j d) k m ≡ mapped_target f owner (target_of (variable j d) l n)
  target-anew of_instance d k l n m h = ap to_instance_variable (sym h)
  target-anew of_class_side d k l n m h = ap to_class_side_variable (sym h)
  target-anew of_class d k l n m h = λ i. to_class_variable (sym h i).0 (sym h i).1

-- a local is no variable of a class
pseudo-apart : (j : VariableKind) (d : Name) → pseudo ≡ variable j d → ⊥
pseudo-apart j d e = cc

argument-apart : (k : ℕ) (j : VariableKind) (d : Name) → argument k ≡ variable j d → ⊥
argument-apart k j d e = cc

temporary-apart : (k : ℕ) (j : VariableKind) (d : Name) → temporary k ≡ variable j d → ⊥
temporary-apart k j d e = cc

module _ (kind : VariableKind) (c : Name) where
  -- what is told to be the variable is
  is-it : (g : MeaningOf Name) → is_variable text_eq kind c g ≡ true → g ≡ variable kind c
  is-it pseudo h = absurd (false≢true h)
  is-it (argument s) h = absurd (false≢true h)
  is-it (temporary s) h = absurd (false≢true h)
  is-it (variable j d) h = λ i. variable (sym (kind-same kind j (and-true_left (same_kind kind j) (text_eq c d) h)) i) (sym (text-same c d (and-true_right (same_kind kind j) (text_eq c d) h)) i)
  is-it (a_class e) h = absurd (false≢true h)
  is-it transcript h = absurd (false≢true h)
  is-it undeclared h = absurd (false≢true h)

  -- it is meant behind all scopes
  behind-by : (b p : Bool) (l : Local) (g : MeaningOf Name) → (b && is_variable text_eq kind c (by_local p l g)) ≡ true → (by_local p l g ≡ g) × ((b && is_variable text_eq kind c g) ≡ true)
  behind-by b true l g h = absurd (false≢true (and-true_right b false h))
  behind-by b false (Argument s) g h = absurd (false≢true (and-true_right b false h))
  behind-by b false (Temporary s) g h = absurd (false≢true (and-true_right b false h))
  behind-by b false NotLocal g h = (refl, h)

  -- anything else means the same after, where it does behind all scopes
  stays-by : (b p : Bool) (l : Local) (g h : MeaningOf Name) → ((b && is_variable text_eq kind c g) ≡ false → h ≡ g) → (b && is_variable text_eq kind c (by_local p l g)) ≡ false → by_local p l h ≡ by_local p l g
  stays-by b true l g h k e = refl
  stays-by b false (Argument s) g h k e = refl
  stays-by b false (Temporary s) g h k e = refl
  stays-by b false NotLocal g h k e = k e

  -- and if it is a variable, it is one behind all scopes
  variable-by : {R : Type 0} (b p : Bool) (l : Local) (g : MeaningOf Name) (j : VariableKind) (d : Name) → ((b && is_variable text_eq kind c g) ≡ false → g ≡ variable j d → R) → (b && is_variable text_eq kind c (by_local p l g)) ≡ false → by_local p l g ≡ variable j d → R
  variable-by b true l g j d k h e = absurd (pseudo-apart j d e)
  variable-by b false (Argument s) g j d k h e = absurd (argument-apart s j d e)
  variable-by b false (Temporary s) g j d k h e = absurd (temporary-apart s j d e)
  variable-by b false NotLocal g j d k h e = k h e

-- whether a name that has a meaning is that of the variable
abbrev pub is_it : VariableKind → (c x : Name) → MeaningOf Name → Name → Bool
is_it kind c x g n = text_eq x n && is_variable text_eq kind c g

-- code behind whose scopes names mean this before and after, and what is asked of that, of names that may stand at its nodes
module _ (kind : VariableKind) (c x y : Name) (f : NameMaps) (classes : (e : Name) → f.class e ≡ e) (owner : Name) (s : ScopeOf Name) (before after : Name → MeaningOf Name) (Readable : Name → Type 0)
    (proper : is_pseudo_variable y ≡ false)
    (stays : (n : Name) → Readable n → is_it kind c x (before n) n ≡ false → after n ≡ before n)
    (anew : (n : Name) → is_it kind c x (before n) n ≡ true → after y ≡ before n)
    (free : (n : Name) → is_it kind c x (before n) n ≡ true → (path : List ℕ) → local_by text_eq (scopes_round s path) y ≡ NotLocal)
    (kept : (n : Name) → Readable n → is_it kind c x (before n) n ≡ false → (j : VariableKind) (d : Name) → before n ≡ variable j d → Calls f owner j d n n)
    (calls : (n : Name) → is_it kind c x (before n) n ≡ true → Calls f owner kind c n y) where
  -- what a name becomes at a place
  abbrev pub to : NewName Name
  to path n = if is_it kind c x (meaning_at s before path n) n then y else n

  -- what a name means at a place before and after
  abbrev was : List ℕ → Name → MeaningOf Name
  was path n = meaning_at s before path n

  abbrev is_now : List ℕ → Name → MeaningOf Name
  is_now path n = meaning_at (renamed_scope to s) after path n

  now-by : (path : List ℕ) (n : Name) → is_now path n ≡ by_local (is_pseudo_variable n) (local_by text_eq (scopes_round s path) n) (after n)
  now-by path n = ap (λ l. by_local (is_pseudo_variable n) l (after n)) (local-renamed s to path n)

  -- what is read or assigned, by how it is told
  module _ {R : Type 0} (of : MeaningOf Name → ℕ → Name → R) (put : R → R)
      (of-stays : (g : MeaningOf Name) (k : ℕ) (n : Name) → ((j : VariableKind) (d : Name) → g ≡ variable j d → Calls f owner j d n n) → of g k n ≡ put (of g k n))
      (of-anew : (j : VariableKind) (d : Name) (k l : ℕ) (n m : Name) → Calls f owner j d n m → of (variable j d) k m ≡ put (of (variable j d) l n)) where
    node-after : (path : List ℕ) (n m : Name) → Readable n → m ≡ to path n → of (is_now path m) (place_at (renamed_scope to s) path m) m ≡ put (of (was path n) (place_at s path n) n)
    node-after path n m fine so =
        by_cases (is_it kind c x (was path n) n)
        (λ e.
        let behind = behind-by kind c (text_eq x n) (is_pseudo_variable n) (local_by text_eq (scopes_round s path) n) (before n) e in
        let it : before n ≡ variable kind c = is-it kind c (before n) (and-true_right (text_eq x n) (is_variable text_eq kind c (before n)) behind.1) in
        ap (λ z. of (is_now path z) (place_at (renamed_scope to s) path z) z) (so ∙ ap (λ b. if b then y else n) e)
        ∙ ap (λ g. of g (place_at (renamed_scope to s) path y) y) (now-by path y ∙ (λ i. by_local (proper i) (free n behind.1 path i) (anew n behind.1 i)) ∙ it)
        ∙ of-anew kind c (place_at (renamed_scope to s) path y) (place_at s path n) n y (calls n behind.1)
        ∙ ap (λ g. put (of g (place_at s path n) n)) (sym (behind.0 ∙ it)))
        (λ e.
        let same : is_now path n ≡ was path n =
        now-by path n ∙ stays-by kind c (text_eq x n) (is_pseudo_variable n) (local_by text_eq (scopes_round s path) n) (before n) (after n) (stays n fine) e in
        ap (λ z. of (is_now path z) (place_at (renamed_scope to s) path z) z) (so ∙ ap (λ b. if b then y else n) e)
        ∙ (λ i. of (same i) (place-renamed s to path n i) n)
        ∙ of-stays (was path n) (place_at s path n) n (λ j d q. variable-by kind c (text_eq x n) (is_pseudo_variable n) (local_by text_eq (scopes_round s path) n) (before n) j d (λ h r. kept n fine h j d r) e q))

  -- so the meanings of its nodes are mapped
  pub meanings-after : ((path : List ℕ) (u : TreeOf Name) (n : Name) → part_among (statement_trees s.statements) path ≡ Some u → name_used u ≡ Some n → Readable n) →
      MeaningsAreMapped f owner (names_of s to) s (λ path n. record { meaning = meaning_at s before path n; place = place_at s path n }) (λ path n. record { meaning = meaning_at (renamed_scope to s) after path n; place = place_at (renamed_scope to s) path n })
  meanings-after fine path u q = record {
    read = λ n e.
        node-after reference_of (mapped_reference f owner) (reference-stays f classes owner) (reference-anew f classes owner) path n (names_of s to path n) (fine path u n q (ap name_used e))
        (ap (λ o. name_at_node o (to path n) n) (q ∙ ap Some e));
    assigned = λ n t e.
        node-after target_of (mapped_target f owner) (target-stays f classes owner) (target-anew f classes owner) path n (names_of s to path n) (fine path u n q (ap name_used e))
        (ap (λ o. name_at_node o (to path n) n) (q ∙ ap Some e));
  }
