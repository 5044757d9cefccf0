-- The one read of a temporary in the statement behind the one that sets it.
use Rattle.std.proofs.Common.{◌≡◌, ◌≤◌, ℕ, suc, ◌+◌, List, [], ◌∷◌, ◌++◌, length, slice_get, Option, Some, None, refl, sym, ap, ◌∙◌, subst, arith, ◌⊎◌, inl, inr}
use Rattle.std.specs.Prelude.{true, false, ◌==◌, option_and_then}
use Rattle.std.specs.List.{list_any}
use Rattle.std.specs.Option.{option_map_or}
use Rattle.std.proofs.lemmas.Bool.{eqb-true}
use Rattle.rb_base.specs.Names.{text_eq}
use Rattle.tree_model.specs.Tree.{TreeOf, var, StatementsOf, SequenceOf}
use Rattle.tree_model.specs.Path.{nth, statement_trees, child, part_at, part_among, replaced}
use Rattle.tree_model.proofs.Parts.{replaced-replaced, replaced-part_at}
use Rattle.scope_model.specs.SpecialNames.{is_pseudo_variable, control_form}
use Rattle.scope_model.specs.Scope.{PlacedScope, method_scope, entered, scopes_round}
use Rattle.image_model.specs.Image.{EntryOf, ImageOf}
use Rattle.image_model.specs.ImageNames.{OptionNames}
use Rattle.run_model.specs.Values.{Name}
use Rattle.run_model.proofs.Finite.{by_cases}
use Rattle.run_model.proofs.RenamingLemmas.{text-same}
use Rattle.resolved_model.specs.Environments.{Declared, as_temporary, declared_in}
use Rattle.mapped_model.proofs.NodesBelow.{Below}
use Rattle.unfolded_calls.specs.SameContexts.{IsOutside}
use Rattle.unfolded_calls.proofs.Running.{none-some, some-same}
use Rattle.unfolded_places.specs.PartsReplaced.{StaysMessage, StaysMessageAmong}
use Rattle.unfolded_places.specs.Standing.{outer_of}
use Rattle.command_model.specs.Asked.{text_asked}
use Rattle.command_model.specs.Places.{innermost}
use Rattle.command_model.specs.Plain.{is_plain}
use Rattle.command_model.specs.InlineConditions.{makes_control}
use Rattle.command_model.specs.Temporaries.{only, reads_of}
use Rattle.code_command_laws.specs.Before.{is_plain_before}
use Rattle.code_command_laws.specs.Round.{IsOpen}
use Rattle.code_command_laws.proofs.PartRound.{BlockRound, node-round, open-enters}
use Rattle.code_command_laws.proofs.LetRound.{entered-scopes}
use Rattle.moved_code_laws.proofs.NodeAbove.{stays-among}
use Rattle.moved_code_laws.proofs.ScopesOn.{scopes-on}
use Rattle.let_laws.specs.ReadsFirst.{IsWithout, IsSimple, ReadsFirst}
use Rattle.let_laws.proofs.FirstEvaluated.{first-evaluated}
use Rattle.let_laws.proofs.PlainPlaces.{plain-there}
use Rattle.let_laws.proofs.Valued.{tree_valued, Loose, tree-left}
use Rattle.let_laws.proofs.Declaring.{step-apart, Declares, base, stands-there}
use Rattle.let_laws.proofs.LetReads.{listed-none, listed-one, same-behind}
use Rattle.let_laws.proofs.OneRead.{read-replaced, reopened, before-replaced, not-placed}
use Rattle.let_laws.proofs.LetPlain.{longer, simple-less}

-- on from a node on the way, the node above still becomes no control send
module _ (v u t : TreeOf Name) where
  pub stays-below : (way : List ℕ) (above : TreeOf Name) (k : ℕ) (ks : List ℕ) → StaysMessage above (way ++ k ∷ ks) v u → part_at above way ≡ Some t → StaysMessage t (k ∷ ks) v u
  stays-below [] above k ks h e = subst (λ z. StaysMessage z (k ∷ ks) v u) (some-same e) h
  stays-below (j ∷ []) above k ks h e = by (child above j) h e
    where
      by : (o : Option (TreeOf Name)) → OptionNames (λ c. StaysMessage c (k ∷ ks) v u) o → option_and_then (λ c. part_at c []) o ≡ Some t → StaysMessage t (k ∷ ks) v u
      by None h e = none-some e
      by (Some c) h e = subst (λ z. StaysMessage z (k ∷ ks) v u) (some-same e) h
  stays-below (j ∷ w ∷ way) above k ks h e = by (child above j) h e (λ c. stays-below (w ∷ way) c k ks)
    where
      by : (o : Option (TreeOf Name)) → OptionNames (λ c. StaysMessage c ((w ∷ way) ++ k ∷ ks) v u) o → option_and_then (λ c. part_at c (w ∷ way)) o ≡ Some t → ((c : TreeOf Name) → StaysMessage c ((w ∷ way) ++ k ∷ ks) v u → part_at c (w ∷ way) ≡ Some t → StaysMessage t (k ∷ ks) v u) → StaysMessage t (k ∷ ks) v u
      by None h e ih = none-some e
      by (Some c) h e ih = ih c h e

  pub stays-in : (ss : StatementsOf Name) (way ks : List ℕ) → StaysMessageAmong ss (way ++ ks) v u → part_among (statement_trees ss) way ≡ Some t → StaysMessage t ks v u
  stays-in ss way [] h e = tt
  stays-in ss [] (k ∷ ks) h e = none-some e
  stays-in ss (j ∷ way) (k ∷ ks) h e = by (nth (statement_trees ss) j) h e
    where
      by : (o : Option (TreeOf Name)) → OptionNames (λ c. StaysMessage c (way ++ k ∷ ks) v u) o → option_and_then (λ c. part_at c way) o ≡ Some t → StaysMessage t (k ∷ ks) v u
      by None h e = none-some e
      by (Some c) h e = stays-below way c k ks h e

module _ (i : ImageOf Name) (m : EntryOf Name) (outside : (n : Name) → IsOutside (outer_of i m n)) (x : Name) (proper : is_pseudo_variable x ≡ false) (path : List ℕ) (ps : List Name) (b : SequenceOf Name) (outer : List (PlacedScope Name)) (d : Declares m.tree x path ps b outer) where
  -- a read of the sequence's own scope
  module _ (j : ℕ) (t : TreeOf Name) (at : nth (statement_trees b.statements) j ≡ Some t) (ks : List ℕ) (name : Name) (there : part_at t ks ≡ Some (var name)) where
    rounds : scopes_round (method_scope m.tree) (path ++ j ∷ ks) ≡ entered (length (path ++ j ∷ [])) t ks ++ base m.tree x path ps b outer d
    rounds =
        ap (scopes_round (method_scope m.tree)) (sym (step-apart path j ks)) ∙ scopes-on m.tree (path ++ j ∷ []) ks t (d.stands j t at)
        ∙ ap (λ l. entered (length (path ++ j ∷ [])) t ks ++ l) (d.round j t at)

    pub read-open : (innermost m.tree (path ++ j ∷ ks) == length path) ≡ true → IsOpen (var name) t ks
    read-open e = by (node-round (var name) t ks there)
      where
        no-deeper : (k n l : ℕ) → n ≡ k → suc k ≤ l → n ≡ l → ⊥
        no-deeper k n l p q r = omega (arith, p, q, r)

        deeper : (n k l : ℕ) → suc n ≤ l → suc n ≤ l + k
        deeper n k l h = omega (arith, h)

        by : IsOpen (var name) t ks ⊎ BlockRound (var name) t ks → IsOpen (var name) t ks
        by (inl p) = p
        by (inr r) =
            let inner = entered-scopes (length (path ++ j ∷ [])) r.inside in
            let same : innermost m.tree (path ++ j ∷ ks) ≡ length (path ++ j ∷ []) + length r.steps =
            ap (λ l. option_map_or (λ (s : PlacedScope Name). s.0) (slice_get l 0) 0)
            (rounds ∙ ap (λ l. entered (length (path ++ j ∷ [])) t l ++ base m.tree x path ps b outer d) r.same ∙ ap (λ l. l ++ base m.tree x path ps b outer d) inner.same) in
            absurd (no-deeper (length path) (innermost m.tree (path ++ j ∷ ks)) (length (path ++ j ∷ []) + length r.steps) (eqb-true (innermost m.tree (path ++ j ∷ ks)) (length path) e) (deeper (length path) (length r.steps) (length (path ++ j ∷ [])) (longer path j)) same)

    open-round : IsOpen (var name) t ks → scopes_round (method_scope m.tree) (path ++ j ∷ ks) ≡ base m.tree x path ps b outer d
    open-round p = rounds ∙ ap (λ l. l ++ base m.tree x path ps b outer d) (open-enters (length (path ++ j ∷ [])) p)

    -- the only one, with the value in its place
    module _ (told : text_eq x name ≡ true) (single : only (reads_of text_asked m.tree x) ≡ Some (path ++ j ∷ ks)) where
      pub other-unread : (k : ℕ) (s : TreeOf Name) → nth (statement_trees b.statements) k ≡ Some s → (q : List ℕ) (y : Name) → part_at s q ≡ Some (var y) → ((k ≡ j) × (q ≡ ks) → ⊥) → text_eq x y ≡ false
      other-unread k s e q y p apart = by_cases (text_eq x y) (λ t. absurd (apart (same-behind path k j q ks (listed-one m.tree x proper path ps b outer d k s e q y p t (path ++ j ∷ ks) single)))) (λ f. f)

      module _ (v : TreeOf Name) (without : IsWithout x v) where
        valued-so : IsOpen (var name) t ks → tree_valued x v t ≡ replaced t ks v
        valued-so p = read-replaced x v name told p (λ q y e apart. other-unread j t at q y e (λ both. apart both.1))

        message-stays : list_any (λ r. makes_control control_form m.tree r v) (reads_of text_asked m.tree x) ≡ false → StaysMessage t ks (var name) v
        message-stays control =
            stays-in (var name) v t m.tree.body.statements (path ++ j ∷ []) ks
            (subst (λ l. StaysMessageAmong m.tree.body.statements l (var name) v) (sym (step-apart path j ks))
            (stays-among v m.tree (path ++ j ∷ ks) (var name) (stands-there m.tree x path ps b outer d j t at ks (var name) there) (listed-none m.tree x proper path ps b outer d j t at ks name there told (λ r. makes_control control_form m.tree r v) control)))
            (d.stands j t at)

        -- it is read first
        pub reads-next : (X Y : List Declared) → declared_in (base m.tree x path ps b outer d) ≡ X ++ as_temporary x ∷ Y → IsOpen (var name) t ks → Below (Loose x) t → list_any (λ r. makes_control control_form m.tree r v) (reads_of text_asked m.tree x) ≡ false →
            is_plain_before text_asked i m (path ++ j ∷ ks) t ks ≡ true → ReadsFirst (outer_of i m) (X ++ Y) x v (length ks) t (tree_valued x v t)
        reads-next X Y same p loose control before =
            subst (λ z. ReadsFirst (outer_of i m) (X ++ Y) x v (length ks) z (tree_valued x v t)) back
            (subst (λ z. ReadsFirst (outer_of i m) (X ++ Y) x v (length ks) (replaced (replaced t ks v) ks (var x)) z) (sym (valued-so p))
            (first-evaluated i m (path ++ j ∷ ks) (outer_of i m) (X ++ Y) x v plain (reopened v p) false (not-placed v name p false (λ e w. refl) (message-stays control))
            (subst (IsWithout x) (valued-so p) (tree-left x v without t loose)) (before-replaced v i m (path ++ j ∷ ks) p before)))
          where
            back : replaced (replaced t ks v) ks (var x) ≡ t
            back = replaced-replaced t ks v (var x) ∙ ap (λ n. replaced t ks (var n)) (text-same x name told) ∙ replaced-part_at t ks (var name) there

            plain : (u : TreeOf Name) → IsWithout x u → is_plain text_asked i m (path ++ j ∷ ks) u ≡ true → IsSimple (outer_of i m) (X ++ Y) x u
            plain u w e = simple-less X Y x (outer_of i m) u (plain-there i m outside x (path ++ j ∷ ks) (X ++ as_temporary x ∷ Y) (ap declared_in (open-round p) ∙ same) u w e)
