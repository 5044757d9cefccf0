-- A plain value of a temporary: it stays plain without the temporary, and at each read.
use Rattle.std.proofs.Common.{◌≡◌, ◌≤◌, ℕ, suc, List, [], ◌∷◌, ◌++◌, length, Option, Some, None, refl, sym, ap, ◌∙◌, subst, arith, le_refl}
use Rattle.std.specs.Prelude.{Bool, true, false, cond, if◌then◌else◌, find, option_map}
use Rattle.std.specs.List.{AllByRecursion, list_all}
use Rattle.std.proofs.lemmas.Bool.{false≢true}
use Rattle.rb_base.specs.Names.{text_eq}
use Rattle.tree_model.specs.Tree.{TreeOf, var, literal, send, cascade, assign, block, brace, return, SequenceOf}
use Rattle.tree_model.specs.Path.{nth, statement_trees, part_at}
use Rattle.scope_model.specs.declared.local.Local.{Local}
use Rattle.scope_model.specs.declared.local.Local.TheVariants.{NotLocal}
use Rattle.scope_model.specs.Control.{is_plain_block}
use Rattle.scope_model.specs.FreeNames.{free_names}
use Rattle.scope_model.specs.SpecialNames.{is_pseudo_variable}
use Rattle.scope_model.specs.Scope.{PlacedScope, method_scope, scopes_round, local_by, local_in}
use Rattle.image_model.specs.Image.{EntryOf, ImageOf}
use Rattle.image_model.specs.Words.{text_words}
use Rattle.image_model.specs.Means.{MeaningOf, pseudo, means_by, means}
use Rattle.run_model.specs.Values.{Name}
use Rattle.run_model.proofs.Finite.{by_cases, and-true_left}
use Rattle.run_model.proofs.RenamingLemmas.{text-same}
use Rattle.resolved_model.specs.Environments.{Declared, as_temporary, kind_in, place_in}
use Rattle.resolved_model.proofs.ResolvingLemmas.{IsInScopes}
use Rattle.mapped_model.proofs.NodesBelow.{Below}
use Rattle.unfolded_calls.specs.Unfolding.{StandIn, an_argument, a_self, a_nil, a_true, a_false, a_number, a_string, a_symbol, a_char}
use Rattle.unfolded_calls.specs.SameContexts.{IsOutside}
use Rattle.unfolded_places.specs.Becoming.{Becomes}
use Rattle.unfolded_places.specs.Inlining.{PlainActual, plain_self, plain_nil, plain_true, plain_false, plain_number, plain_string, plain_symbol, plain_char, plain_argument, plain_class}
use Rattle.unfolded_places.specs.Standing.{outer_of}
use Rattle.unfolded_places.proofs.NamesThere.{kind-first, kind-behind}
use Rattle.command_model.specs.Asked.{text_asked}
use Rattle.command_model.specs.SameMethods.{same_meaning}
use Rattle.command_model.specs.Plain.{is_plain_name, is_plain}
use Rattle.command_model.specs.Temporaries.{reads_of}
use Rattle.code_command_laws.proofs.LetRound.{Outside}
use Rattle.moved_code_laws.proofs.Saying.{alone, said, within, said-within}
use Rattle.moved_code_laws.proofs.ScopesOn.{on_from, in-part}
use Rattle.let_laws.specs.ReadsFirst.{IsWithout, IsSimple, simple_plain, simple_literal}
use Rattle.let_laws.specs.Lets.{valued}
use Rattle.let_laws.proofs.Unnamed.{told-back}
use Rattle.let_laws.proofs.Valued.{tree_valued, Loose}
use Rattle.let_laws.proofs.ValuePlaces.{IsNear, FineNode, tree-value}
use Rattle.let_laws.proofs.Declaring.{step-apart, Declares, base, temporary-there}
use Rattle.let_laws.proofs.LetReads.{listed-all}

-- a name that is not the temporary is what it is without it
module _ (X Y : List Declared) (x : Name) where
  kind-less : (n : Name) → text_eq n x ≡ false → kind_in (X ++ as_temporary x ∷ Y) n ≡ kind_in (X ++ Y) n
  kind-less n e = by (kind_in X n) refl
    where
      behind : kind_in (as_temporary x ∷ Y) n ≡ kind_in Y n
      behind = ap (λ c. option_map (λ (d : Declared). d.is_temporary) (cond c (Some (as_temporary x)) (find (λ (d : Declared). text_eq n d.name) Y))) e

      by : (o : Option Bool) → kind_in X n ≡ o → kind_in (X ++ as_temporary x ∷ Y) n ≡ kind_in (X ++ Y) n
      by (Some c) q = (kind-first X (as_temporary x ∷ Y) n c q).0 ∙ sym (kind-first X Y n c q).0
      by None q = (kind-behind X (as_temporary x ∷ Y) n q).0 ∙ behind ∙ sym (kind-behind X Y n q).0

  -- so is a plain node
  pub plain-less : (f : Name → MeaningOf Name) (t : TreeOf Name) (a : StandIn) → PlainActual f (X ++ as_temporary x ∷ Y) t a → IsWithout x t → (c : StandIn) × PlainActual f (X ++ Y) t c
  plain-less f _ _ plain_self w = (a_self, plain_self)
  plain-less f _ _ plain_nil w = (a_nil, plain_nil)
  plain-less f _ _ plain_true w = (a_true, plain_true)
  plain-less f _ _ plain_false w = (a_false, plain_false)
  plain-less f _ _ (plain_number t z e) w = (a_number t, plain_number t z e)
  plain-less f _ _ (plain_string t) w = (a_string t, plain_string t)
  plain-less f _ _ (plain_symbol t) w = (a_symbol t, plain_symbol t)
  plain-less f _ _ (plain_char b) w = (a_char b, plain_char b)
  plain-less f _ _ (plain_argument n p k) w = (an_argument (place_in (X ++ Y) n), plain_argument n p (sym (kind-less n w) ∙ k))
  plain-less f _ _ (plain_class n c p k e) w = (StandIn.a_class c, plain_class n c p (sym (kind-less n w) ∙ k) e)

  pub simple-less : (f : Name → MeaningOf Name) (t : TreeOf Name) → IsSimple f (X ++ as_temporary x ∷ Y) x t → IsSimple f (X ++ Y) x t
  simple-less f _ (simple_plain t a p w) = let c = plain-less f t a p w in simple_plain t c.0 c.1 w
  simple-less f _ (simple_literal n) = simple_literal n

-- scopes round a place of a scope
near-so : (n : ℕ) (ps : List (PlacedScope Name)) → Outside n ps → AllByRecursion (IsNear n) ps
near-so n [] a = tt
near-so n (p ∷ ps) a = (let l = a.0 in omega (arith, l), near-so n ps a.1)

pub longer : (path : List ℕ) (j : ℕ) → suc (length path) ≤ length (path ++ j ∷ [])
longer [] j = omega arith
longer (k ∷ path) j = let l = longer path j in omega (arith, l)

module _ (i : ImageOf Name) (m : EntryOf Name) (outside : (n : Name) → IsOutside (outer_of i m n)) (x : Name) (proper : is_pseudo_variable x ≡ false) (path : List ℕ) (ps : List Name) (b : SequenceOf Name) (outer : List (PlacedScope Name)) (d : Declares m.tree x path ps b outer) where
  -- what a name means at a place of the method
  means-proper : (r : List ℕ) (y : Name) → is_pseudo_variable y ≡ false → means text_words i m r y ≡ means_by (local_in text_eq is_pseudo_variable m.tree r y) (outer_of i m y)
  means-proper r y p = ap (λ c. if c then pseudo else means_by (local_in text_eq is_pseudo_variable m.tree r y) (outer_of i m y)) p

  module _ (number : ℕ) (v : TreeOf Name) (sets : nth (statement_trees b.statements) number ≡ Some (assign x v)) where
    -- the temporary itself is not plain
    not-plain : is_plain_name text_asked (means text_words i m (path ++ number ∷ []) x) x ≡ true → ⊥
    not-plain e =
        false≢true (sym (ap (λ z. is_plain_name text_asked z x) (means-proper (path ++ number ∷ []) x proper ∙ ap (λ l. means_by l (outer_of i m x)) (temporary-there m.tree x path ps b outer d proper number (assign x v) sets [] (assign x v) refl))) ∙ e)

    pub plain-without : (u : TreeOf Name) → is_plain text_asked i m (path ++ number ∷ []) u ≡ true → IsWithout x u
    plain-without (var y) e = by_cases (text_eq x y) (λ t. absurd (not-plain (subst (λ z. is_plain_name text_asked (means text_words i m (path ++ number ∷ []) z) z ≡ true) (sym (text-same x y t)) e))) (λ f. told-back x y f)
    plain-without (literal l) e = tt
    plain-without (send r s args) e = absurd (false≢true e)
    plain-without (cascade r ms) e = absurd (false≢true e)
    plain-without (assign n t) e = absurd (false≢true e)
    plain-without (block qs ts ss c) e = absurd (false≢true e)
    plain-without (brace ts) e = absurd (false≢true e)
    plain-without (return t) e = absurd (false≢true e)

    -- what names mean where it is set
    abbrev there : Name → MeaningOf Name
    there y = means text_words i m (path ++ number ∷ []) y

    local-set : (y : Name) → is_pseudo_variable y ≡ false → local_in text_eq is_pseudo_variable m.tree (path ++ number ∷ []) y ≡ local_by text_eq (base m.tree x path ps b outer d) y
    local-set y p = ap (λ c. if c then NotLocal else local_by text_eq (scopes_round (method_scope m.tree) (path ++ number ∷ [])) y) p ∙ ap (λ l. local_by text_eq l y) (d.round number (assign x v) sets)

    module _ (kept : list_all (λ r. list_all (λ n. same_meaning text_eq (there n) (means text_words i m r n)) (free_names text_eq is_pseudo_variable v)) (reads_of text_asked m.tree x) ≡ true) (unblocked : is_plain_block v ≡ false) (A B : List Declared) where
      -- another statement with the value at each read
      module _ (j : ℕ) (t : TreeOf Name) (at : nth (statement_trees b.statements) j ≡ Some t) where
        abbrev said_there : List ℕ → Name → Local
        said_there q y = said (within m.tree ((path ++ j ∷ []) ++ q) y)

        said-so : (q : List ℕ) (y : Name) → said_there q y ≡ local_in text_eq is_pseudo_variable m.tree (path ++ j ∷ q) y
        said-so q y = said-within m.tree ((path ++ j ∷ []) ++ q) y ∙ ap (λ l. local_in text_eq is_pseudo_variable m.tree l y) (step-apart path j q)

        same-there : (q : List ℕ) (n : Name) → part_at t q ≡ Some (var n) → text_eq x n ≡ true → (y : Name) → v ≡ var y → is_pseudo_variable y ≡ false →
            same_meaning text_eq (means_by (local_by text_eq (base m.tree x path ps b outer d) y) (outer_of i m y)) (means_by (said_there q y) (outer_of i m y)) ≡ true
        same-there q n e told y s p =
            let all = listed-all m.tree x proper path ps b outer d j t at q n e told (λ r. list_all (λ n. same_meaning text_eq (there n) (means text_words i m r n)) (free_names text_eq is_pseudo_variable v)) kept in
            let here = and-true_left (same_meaning text_eq (there y) (means text_words i m (path ++ j ∷ q) y)) true (subst (λ w. list_all (λ n. same_meaning text_eq (there n) (means text_words i m (path ++ j ∷ q) n)) (free_names text_eq is_pseudo_variable w) ≡ true) s all) in
            subst (λ g. same_meaning text_eq g (means_by (said_there q y) (outer_of i m y)) ≡ true) (means-proper (path ++ number ∷ []) y p ∙ ap (λ l. means_by l (outer_of i m y)) (local-set y p))
            (subst (λ g. same_meaning text_eq (there y) g ≡ true) (means-proper (path ++ j ∷ q) y p ∙ ap (λ l. means_by l (outer_of i m y)) (sym (said-so q y))) here)

        fine-node : Below (Loose x) t → (q : List ℕ) (u : TreeOf Name) → part_at t q ≡ Some u → FineNode (outer_of i m) outside x proper v unblocked (length path) (base m.tree x path ps b outer d) (le_refl (length path), near-so (length path) outer d.before) A B (said_there q) u
        fine-node loose q (var n) e = λ told. (said-so q x ∙ temporary-there m.tree x path ps b outer d proper j t at q (var n) e, same-there q n e told)
        fine-node loose q (literal l) e = tt
        fine-node loose q (send r s args) e = tt
        fine-node loose q (cascade r ms) e = tt
        fine-node loose q (assign n u) e = loose q (assign n u) e
        fine-node loose q (block qs ts ss c) e = tt
        fine-node loose q (brace ts) e = tt
        fine-node loose q (return u) e = tt

        pub statement-becomes : Below (Loose x) t → Becomes (valued x v A B) A B t (tree_valued x v t)
        statement-becomes loose =
            tree-value (outer_of i m) outside x proper v unblocked (length path) (base m.tree x path ps b outer d) (le_refl (length path), near-so (length path) outer d.before) A B
            t (length (path ++ j ∷ [])) [] (on_from (path ++ j ∷ []) (within m.tree)) (longer path j) tt
            (subst (λ qs. IsInScopes alone (length (path ++ j ∷ [])) t qs (on_from (path ++ j ∷ []) (within m.tree))) (d.round j t at) (in-part m.tree (path ++ j ∷ []) t (d.stands j t at)))
            (λ q u e. fine-node loose q u e)
