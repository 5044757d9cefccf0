-- The statements of a method with what is passed in place of its arguments are proper where they are put.
use Rattle.std.proofs.Common.{◌≡◌, inr, ℕ, suc, ◌+◌, Bool, true, false, not, List, [], ◌∷◌, ◌++◌, Option, Some, None, option_and_then, option_map, refl, sym, ap, subst, ◌∙◌, true≢false, arith}
use Rattle.std.specs.Prelude.{◌||◌, if◌then◌else◌, unwrap_or}
use Rattle.std.specs.List.{list_all, list_any, enumerate_from}
use Rattle.std.specs.Option.{option_map_or}
use Rattle.std.proofs.lemmas.Bool.{and_parts}
use Rattle.rb_base.specs.Names.{text_eq}
use Rattle.tree_model.specs.Tree.{Notes, TreeOf, var, literal, send, cascade, assign, block, brace, return, TreesOf, no_trees, more_trees, MessagesOf, StatementsOf}
use Rattle.tree_model.specs.Path.{nth, statement_trees, part_at, part_among}
use Rattle.tree_model.specs.Nodes.{nodes}
use Rattle.tree_model.proofs.NodesLemmas.{Contains-part_in}
use Rattle.scope_model.specs.declared.local.Local.{Local}
use Rattle.scope_model.specs.declared.local.Local.TheVariants.{Argument, Temporary, NotLocal}
use Rattle.scope_model.specs.SpecialNames.{is_pseudo_variable}
use Rattle.scope_model.specs.Scope.{method_scope, entered, scopes_round, is_among, local_by, local_in}
use Rattle.scope_model.specs.FreeNames.{free_names}
use Rattle.grammar_model.specs.Words.{is_pseudo}
use Rattle.grammar_model.specs.Checks.{Known, is_fixed}
use Rattle.reread_law.specs.WellFormed.{IsWord, IsValue}
use Rattle.reread_law.specs.Declarations.{known_names}
use Rattle.image_model.specs.Image.{EntryOf, ImageOf}
use Rattle.image_model.specs.Words.{text_words}
use Rattle.image_model.specs.Means.{means}
use Rattle.file_model.specs.Filing.{Text}
use Rattle.command_model.specs.Asked.{text_asked}
use Rattle.command_model.specs.Inlined.{passed_as, passed_for, filled, unfolded}
use Rattle.command_model.specs.InlineConditions.{are_actuals_plain, captures_nothing}
use Rattle.command_model.specs.Places.{is_formal, is_of_block, SendOf}
use Rattle.command_model.specs.SameMethods.{same_meaning}
use Rattle.command_model.specs.Walk.{Making}
use Rattle.effect_laws.proofs.Items.{in_contains}
use Rattle.effect_laws.proofs.Kernel.{all_pass}
use Rattle.code_effect_laws.proofs.Proper.{IsProper, AreProper, AreProperStatements}
use Rattle.code_effect_laws.proofs.Stands.{StandsFor, value_no_return, itself_stands}
use Rattle.code_effect_laws.proofs.Places.{known_by, known_among}
use Rattle.code_effect_laws.proofs.Walked.{Leaves}
use Rattle.code_effect_laws.proofs.WalkedMethods.{rebuilt_proper}
use Rattle.code_effect_laws.proofs.Methods.{IsProperMethod, known_in}
use Rattle.code_effect_laws.proofs.Known.{is_argument, no-pseudo, fixed-local}
use Rattle.code_effect_laws.proofs.Locals.{fixed_by, known-before, local_behind, local-behind, same_fixed}

-- a name or a literal, which is proper among all names where it is among some
abbrev IsAtom : TreeOf Text → Type 0
IsAtom (var n) = Unit {0}
IsAtom (literal l) = Unit {0}
IsAtom t = ⊥

atom_proper : (t : TreeOf Text) (ks ls : List Known) → IsAtom t → IsProper ks t → IsProper ls t
atom_proper (var n) ks ls a p = p
atom_proper (literal l) ks ls a p = p
atom_proper (send r s xs) ks ls a p = absurd a
atom_proper (cascade r ms) ks ls a p = absurd a
atom_proper (assign n t) ks ls a p = absurd a
atom_proper (block ps ts ss e) ks ls a p = absurd a
atom_proper (brace ts) ks ls a p = absurd a
atom_proper (return t) ks ls a p = absurd a

-- what is passed is one of the arguments
passed_proper : (ks : List Known) (xs : List Text) (ts : TreesOf Text) (n : Text) (t : TreeOf Text) → AreProper ks ts → passed_as text_eq xs ts n ≡ Some t → IsProper ks t × IsValue t
passed_proper ks [] ts n t p e = absurd (cc)
passed_proper ks (x ∷ xs) no_trees n t p e = absurd (cc)
passed_proper ks (x ∷ xs) (more_trees u ts) n t p e = by (text_eq n x) e (passed_proper ks xs ts n t p.2)
  where
    by : (b : Bool) → (if b then Some u else passed_as text_eq xs ts n) ≡ Some t → (passed_as text_eq xs ts n ≡ Some t → IsProper ks t × IsValue t) → IsProper ks t × IsValue t
    by true q rest = let same : u ≡ t = cc in subst (λ (y : TreeOf Text). IsProper ks y × IsValue y) same (p.0, p.1)
    by false q rest = rest q

-- and passes the test that all of them pass
passed_tested : (test : ℕ × Text → TreeOf Text → Bool) (whole : TreesOf Text) (xs : List Text) (ts : TreesOf Text) (k : ℕ) (n : Text) (t : TreeOf Text) → ((j : ℕ) → nth whole (j + k) ≡ nth ts j) →
    list_all (λ (y : ℕ × Text). option_map_or (test y) (nth whole y.0) false) (enumerate_from k xs) ≡ true → passed_as text_eq xs ts n ≡ Some t → (x : ℕ × Text) × (test x t ≡ true)
passed_tested test whole [] ts k n t is all e = absurd (cc)
passed_tested test whole (x ∷ xs) no_trees k n t is all e = absurd (cc)
passed_tested test whole (x ∷ xs) (more_trees u ts) k n t is all e =
    let parts = and_parts (option_map_or (test (k, x)) (nth whole k) false) (list_all (λ (y : ℕ × Text). option_map_or (test y) (nth whole y.0) false) (enumerate_from (k + 1) xs)) all in
    by (text_eq n x) e parts.0
    (passed_tested test whole xs ts (k + 1) n t (λ j. ap (nth whole) (let same : j + (k + 1) ≡ suc j + k = omega arith in same) ∙ is (suc j)) parts.1)
  where
    by : (b : Bool) → (if b then Some u else passed_as text_eq xs ts n) ≡ Some t → option_map_or (test (k, x)) (nth whole k) false ≡ true → (passed_as text_eq xs ts n ≡ Some t → (y : ℕ × Text) × (test y t ≡ true)) → (y : ℕ × Text) × (test y t ≡ true)
    by true q h rest =
        let same : u ≡ t = cc in
        ((k, x), ap (test (k, x)) (sym same) ∙ ap (λ o. option_map_or (test (k, x)) o false) (sym (ap (nth whole) (let none : k ≡ 0 + k = omega arith in none) ∙ is 0)) ∙ h)
    by false q h rest = rest q

-- a test that only atoms pass
tested_atom : (test : TreeOf Text → Bool) → ((r : TreeOf Text) (s : Text) (xs : TreesOf Text) → test (send r s xs) ≡ false) → ((r : TreeOf Text) (ms : MessagesOf Text) → test (cascade r ms) ≡ false)
    → ((n : Text) (t : TreeOf Text) → test (assign n t) ≡ false) → ((ps ts : List Text) (ss : StatementsOf Text) (c : Notes) → test (block ps ts ss c) ≡ false) → ((ts : TreesOf Text) → test (brace ts) ≡ false)
    → ((t : TreeOf Text) → test (return t) ≡ false) → (t : TreeOf Text) → test t ≡ true → IsAtom t
tested_atom test s c a b r e (var n) h = tt
tested_atom test s c a b r e (literal l) h = tt
tested_atom test s c a b r e (send q u xs) h = absurd (true≢false (sym h ∙ s q u xs))
tested_atom test s c a b r e (cascade q ms) h = absurd (true≢false (sym h ∙ c q ms))
tested_atom test s c a b r e (assign n t) h = absurd (true≢false (sym h ∙ a n t))
tested_atom test s c a b r e (block ps ts ss d) h = absurd (true≢false (sym h ∙ b ps ts ss d))
tested_atom test s c a b r e (brace ts) h = absurd (true≢false (sym h ∙ r ts))
tested_atom test s c a b r e (return t) h = absurd (true≢false (sym h ∙ e t))

-- where all that is passed passes such a test, it is an atom
passed_are_atoms : (test : ℕ × Text → TreeOf Text → Bool) (xs : List Text) (ts : TreesOf Text) (n : Text) (t : TreeOf Text) → list_all (λ (y : ℕ × Text). option_map_or (test y) (nth ts y.0) false) (enumerate_from 0 xs) ≡ true → passed_as text_eq xs ts n ≡ Some t
    → ((y : ℕ × Text) (r : TreeOf Text) (s : Text) (zs : TreesOf Text) → test y (send r s zs) ≡ false) → ((y : ℕ × Text) (r : TreeOf Text) (ms : MessagesOf Text) → test y (cascade r ms) ≡ false)
    → ((y : ℕ × Text) (m : Text) (u : TreeOf Text) → test y (assign m u) ≡ false) → ((y : ℕ × Text) (ps ds : List Text) (ss : StatementsOf Text) (c : Notes) → test y (block ps ds ss c) ≡ false)
    → ((y : ℕ × Text) (us : TreesOf Text) → test y (brace us) ≡ false) → ((y : ℕ × Text) (u : TreeOf Text) → test y (return u) ≡ false) → IsAtom t
passed_are_atoms test xs ts n t all q s c a b r e =
    let p = passed_tested test ts xs ts 0 n t (λ j. ap (nth ts) (let same : j + 0 ≡ j = omega arith in same)) all q in
    tested_atom (test p.0) (s p.0) (c p.0) (a p.0) (b p.0) (r p.0) (e p.0) t p.1

-- where a name is neither an argument nor declared in a block, it means the same
kept_same : (l : Local) (f : TreeOf Text → Bool) (o : Option (TreeOf Text)) (b : Bool) → is_argument l ≡ false → is_of_block l ≡ false → option_map_or f (if is_formal l then o else None) (is_of_block l || b) ≡ true → b ≡ true
kept_same (Argument s) f o b a w k = absurd (true≢false a)
kept_same (Temporary s) f o b a w k = ap (λ z. z || b) (sym w) ∙ k
kept_same NotLocal f o b a w k = k

-- what the outermost scope says
outermost : (a b : Bool) → is_of_block (if a then Argument 0 else if b then Temporary 0 else NotLocal) ≡ false
outermost true b = refl
outermost false true = refl
outermost false false = refl

module _ (i : ImageOf Text) (m : EntryOf Text) (e : SendOf Text) (target : EntryOf Text) (plain : are_actuals_plain text_asked i m e target ≡ true) (kept : captures_nothing text_asked i m e target ≡ true)
    (p : IsProperMethod target.tree) (args : AreProper (known_in m.tree e.path) e.arguments) where
  abbrev ls : List Known
  ls = known_in m.tree e.path

  abbrev ks : List Known
  ks = known_names target.tree.arguments target.tree.body.temporaries ++ []

  abbrev ss : StatementsOf Text
  ss = target.tree.body.statements

  abbrev walk : Making Text
  walk = filled text_asked target.tree e.arguments

  walk_leaves : Leaves walk
  walk_leaves = record {
    literals = λ path l. refl;
    sends = λ path r s xs. refl;
    cascades = λ path r ms. refl;
    blocks = λ path qs ds bs c. refl;
    braces = λ path ts. refl;
    returns = λ path t. refl;
  }

  -- what is passed is an atom
  passed_atom : (n : Text) (t : TreeOf Text) → passed_as text_eq target.tree.arguments e.arguments n ≡ Some t → IsAtom t
  passed_atom n t q =
      passed_are_atoms _ target.tree.arguments e.arguments n t plain q (λ y r s zs. refl) (λ y r ms. refl) (λ y k u. refl) (λ y ps ds bs c. refl) (λ y us. refl) (λ y u. refl)

  read : (zs : List Known) (o : Option (TreeOf Text)) (n : Text) → IsWord n → ((t : TreeOf Text) → o ≡ Some t → IsProper zs t × IsValue t) → IsProper zs (unwrap_or o (var n)) × StandsFor (var n) (unwrap_or o (var n))
  read zs None n w h = (w, itself_stands (var n))
  read zs (Some t) n w h = let r = h t refl in (r.0, inr (tt, value_no_return t r.1, λ v. r.1))

  passed : (path : List ℕ) (n : Text) (zs : List Known) (t : TreeOf Text) → passed_for text_asked target.tree e.arguments path n ≡ Some t → IsProper zs t × IsValue t
  passed path n zs t q = by (is_formal (local_in text_eq is_pseudo_variable target.tree path n)) q
    where
      by : (b : Bool) → (if b then passed_as text_eq target.tree.arguments e.arguments n else None) ≡ Some t → IsProper zs t × IsValue t
      by true r = let one = passed_proper ls target.tree.arguments e.arguments n t args r in (atom_proper t ls zs (passed_atom n t r) one.0, one.1)
      by false r = absurd (cc)

  -- a name that is assigned in the target may be assigned where it is put
  assigned : (path : List ℕ) (n : Text) (u : TreeOf Text) → part_among (statement_trees ss) path ≡ Some (assign n u) → is_pseudo n ≡ false → is_fixed (known_in target.tree path) n ≡ false → is_fixed (known_among ss path ls) n ≡ false
  assigned [] n u q ordinary free = absurd (cc)
  assigned (k ∷ rest) n u q ordinary free = by (nth (statement_trees ss) k) refl
    where
      no_argument : is_argument (local_in text_eq is_pseudo_variable target.tree (k ∷ rest) n) ≡ false
      no_argument = sym (fixed-local target.tree (k ∷ rest) n ordinary) ∙ free

      here : option_map_or (λ (t : TreeOf Text). not (list_any (λ x. is_of_block (local_in text_eq is_pseudo_variable target.tree (k ∷ rest) x)) (free_names text_eq is_pseudo_variable t)))
          (if is_formal (local_in text_eq is_pseudo_variable target.tree (k ∷ rest) n) then passed_as text_eq target.tree.arguments e.arguments n else None)
          (is_of_block (local_in text_eq is_pseudo_variable target.tree (k ∷ rest) n) || same_meaning text_eq (means text_words i target (k ∷ rest) n) (means text_words i m e.path n)) ≡ true
      here = all_pass _ (nodes target.tree.body) kept (k ∷ rest, assign n u) (in_contains (nodes target.tree.body) (k ∷ rest, assign n u) (Contains-part_in target.tree.body (k ∷ rest) (assign n u) q))

      told : (c : TreeOf Text) → nth (statement_trees ss) k ≡ Some c → local_in text_eq is_pseudo_variable target.tree (k ∷ rest) n ≡ local_behind (local_by text_eq (entered 1 c rest) n) (local_by text_eq ((0, method_scope target.tree) ∷ []) n)
      told c there =
          ap (λ b. if b then NotLocal else local_by text_eq (scopes_round (method_scope target.tree) (k ∷ rest)) n) (no-pseudo n ordinary)
          ∙ ap (λ (o : Option (TreeOf Text)). local_by text_eq (unwrap_or (option_map (λ x. entered 1 x rest) o) [] ++ (0, method_scope target.tree) ∷ []) n) there
          ∙ local-behind (entered 1 c rest) ((0, method_scope target.tree) ∷ []) n

      same_there : is_of_block (local_in text_eq is_pseudo_variable target.tree (k ∷ rest) n) ≡ false → same_meaning text_eq (means text_words i target (k ∷ rest) n) (means text_words i m e.path n) ≡ true
      same_there outer = kept_same (local_in text_eq is_pseudo_variable target.tree (k ∷ rest) n) _ _ (same_meaning text_eq (means text_words i target (k ∷ rest) n) (means text_words i m e.path n)) no_argument outer here

      inner : (c : TreeOf Text) → nth (statement_trees ss) k ≡ Some c → (x : Local) → local_by text_eq (entered 1 c rest) n ≡ x → fixed_by x (is_fixed ls n) ≡ false
      inner c there (Argument s) r = absurd (true≢false (ap is_argument (sym (told c there ∙ ap (λ x. local_behind x (local_by text_eq ((0, method_scope target.tree) ∷ []) n)) r)) ∙ no_argument))
      inner c there (Temporary s) r = refl
      inner c there NotLocal r =
          let outer = ap is_of_block (told c there ∙ ap (λ x. local_behind x (local_by text_eq ((0, method_scope target.tree) ∷ []) n)) r) ∙ outermost (is_among text_eq target.tree.arguments n) (is_among text_eq target.tree.body.temporaries n) in
          sym (same_fixed i target m (k ∷ rest) e.path n ordinary (same_there outer)) ∙ free

      by : (o : Option (TreeOf Text)) → nth (statement_trees ss) k ≡ o → is_fixed (unwrap_or (option_map (λ c. known_by (entered 1 c rest) ++ ls) (nth (statement_trees ss) k)) ls) n ≡ false
      by None r = let nowhere = ap (option_and_then (λ x. part_at x rest)) (sym r) ∙ q in absurd (cc)
      by (Some c) r =
          ap (λ (o : Option (TreeOf Text)). is_fixed (unwrap_or (option_map (λ x. known_by (entered 1 x rest) ++ ls) o) ls) n) r
          ∙ known-before (entered 1 c rest) ls n
          ∙ inner c r (local_by text_eq (entered 1 c rest) n) refl

  pub unfolded_proper : AreProperStatements ls (unfolded text_asked target.tree e.arguments)
  unfolded_proper =
      rebuilt_proper walk ks ls ss walk_leaves
      (record {
        reads = λ path n q w. read (known_among ss path ls) (passed_for text_asked target.tree e.arguments path n) n w (λ t r. passed path n (known_among ss path ls) t r);
        assigns = λ path n u v q w o free inner value. ((w, o, assigned path n u q o free, inner, value), itself_stands (assign n v));
      })
      p.body.statements
