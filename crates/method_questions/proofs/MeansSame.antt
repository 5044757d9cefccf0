-- Names mean the same in two methods with the same code where the free names of one mean the same at the top of both.
use Rattle.std.proofs.Common.{◌≡◌, ℕ, Bool, true, false, cond, ◌||◌, List, [], ◌∷◌, length, refl, sym, ap, ◌∙◌}
use Rattle.std.specs.Prelude.{nat_eq}
use Rattle.std.specs.Cmp.Lexicographic.{pointwise}
use Rattle.std.specs.List.{list_all}
use Rattle.std.specs.Option.{option_map_or, option_eq}
use Rattle.std.proofs.lemmas.Bool.{and_parts}
use Rattle.tree_model.specs.Tree.{more_statements}
use Rattle.tree_model.specs.Nodes.{Placed, nodes}
use Rattle.scope_model.specs.declared.local.Local.{Local}
use Rattle.scope_model.specs.declared.local.Local.TheVariants.{Argument, Temporary, NotLocal}
use Rattle.scope_model.specs.Scope.{PlacedScope, method_scope, scopes_round, is_among, local_by}
use Rattle.scope_model.specs.FreeNames.{free_in_statements, free_names_of_run, take_statements, run_of}
use Rattle.same_trees.specs.SameTrees.{same_code}
use Rattle.same_trees.proofs.Told.{pointwise_told, statements_told}
use Rattle.st_tree.specs.declared.tree.Statement.{Statement}
use Rattle.st_tree.specs.View.{statements_of}
use Rattle.image_model.specs.Image.{EntryOf, ImageOf}
use Rattle.image_model.specs.Words.{WordsOf}
use Rattle.image_model.specs.Means.{MeaningOf, pseudo, means_by, means_outside, means}
use Rattle.image_model.specs.Uses.{name_used}
use Rattle.class_table.proofs.Live.{eqb-refl}
use Rattle.command_model.specs.SameMethods.{same_meaning, means_same_in}
use Rattle.method_questions.proofs.SameScopes.{bare_scope, local-same}
use Rattle.method_questions.proofs.FreeNames.{declared, passes, all-same, scope-told, once-told}

module _ {N : Type 0} (w : WordsOf N) (told : (x y : N) → w.tests.same x y ≡ true → x ≡ y) where
  abbrev same : N → N → Bool
  same = w.tests.same

  -- what scopes say in both, or what is meant outside
  kept : (ps : List (PlacedScope N)) (x : N) (p q : MeaningOf N) → same_meaning same (means_by (local_by same ps x) p) (means_by (local_by same ps x) q) ≡ (declared same w.tests.is_pseudo ps x || same_meaning same p q)
  kept [] x p q = refl
  kept (s ∷ ps) x p q = by (is_among same s.1.arguments x) (is_among same s.1.temporaries x) (kept ps x p q)
    where
      by : (a b : Bool) → same_meaning same (means_by (local_by same ps x) p) (means_by (local_by same ps x) q) ≡ (declared same w.tests.is_pseudo ps x || same_meaning same p q)
          → same_meaning same (means_by (cond a (Argument s.0) (cond b (Temporary s.0) (local_by same ps x))) p) (means_by (cond a (Argument s.0) (cond b (Temporary s.0) (local_by same ps x))) q)
          ≡ (((a || b) || declared same w.tests.is_pseudo ps x) || same_meaning same p q)
      by true b rest = eqb-refl s.0
      by false true rest = eqb-refl s.0
      by false false rest = rest

  module _ (i j : ImageOf N) (m n : EntryOf N) (code : same_code same m.tree n.tree ≡ true) where
    -- what is meant outside
    abbrev outside : N → Bool
    outside x = same_meaning same (means_outside w i m.class m.meta x) (means_outside w j n.class n.meta x)

    scopes : bare_scope (method_scope m.tree) ≡ bare_scope (method_scope n.tree)
    scopes =
        let a = and_parts (same m.tree.selector n.tree.selector) _ code in
        let b = and_parts (pointwise same m.tree.arguments n.tree.arguments) _ a.1 in
        let c = and_parts (option_eq nat_eq m.tree.primitive n.tree.primitive) _ b.1 in
        let d = and_parts (pointwise same m.tree.body.temporaries n.tree.body.temporaries) _ c.1 in
        λ k. record {
          arguments = pointwise_told same told m.tree.arguments n.tree.arguments b.0 k;
          temporaries = pointwise_told same told m.tree.body.temporaries n.tree.body.temporaries d.0 k;
          statements = statements_told same told m.tree.body.statements n.tree.body.statements d.1 k;
        }

    -- what is meant at a place
    at : (path : List ℕ) (x : N) → same_meaning same (means w i m path x) (means w j n path x) ≡ (w.tests.is_pseudo x || (declared same w.tests.is_pseudo (scopes_round (method_scope m.tree) path) x || outside x))
    at path x = by (w.tests.is_pseudo x)
      where
        here : same_meaning same (means_by (local_by same (scopes_round (method_scope m.tree) path) x) (means_outside w i m.class m.meta x)) (means_by (local_by same (scopes_round (method_scope n.tree) path) x) (means_outside w j n.class n.meta x))
            ≡ (declared same w.tests.is_pseudo (scopes_round (method_scope m.tree) path) x || outside x)
        here =
            ap (λ (l : Local). same_meaning same (means_by (local_by same (scopes_round (method_scope m.tree) path) x) (means_outside w i m.class m.meta x)) (means_by l (means_outside w j n.class n.meta x))) (sym (local-same same (method_scope m.tree) (method_scope n.tree) scopes path x))
            ∙ kept (scopes_round (method_scope m.tree) path) x (means_outside w i m.class m.meta x) (means_outside w j n.class n.meta x)

        by : (b : Bool)
            → same_meaning same (cond b pseudo (means_by (cond b NotLocal (local_by same (scopes_round (method_scope m.tree) path) x)) (means_outside w i m.class m.meta x))) (cond b pseudo (means_by (cond b NotLocal (local_by same (scopes_round (method_scope n.tree) path) x)) (means_outside w j n.class n.meta x)))
            ≡ (b || (declared same w.tests.is_pseudo (scopes_round (method_scope m.tree) path) x || outside x))
        by true = refl
        by false = here

    -- the free names tell
    pub free-tell : means_same_in w i m j n ≡ list_all (λ x. same_meaning same (means w i m [] x) (means w j n [] x)) (free_names_of_run same w.tests.is_pseudo m.tree.body.statements)
    free-tell =
        all-same (λ (e : Placed N). option_map_or (λ x. same_meaning same (means w i m e.0 x) (means w j n e.0 x)) (name_used e.1) true) (passes same w.tests.is_pseudo (scopes_round (method_scope m.tree)) outside)
        (λ e k. option_map_or (λ x. at e.0 x k) (name_used e.1) true) (nodes m.tree.body)
        ∙ scope-told same w.tests.is_pseudo (method_scope m.tree) outside
        ∙ sym (once-told same w.tests.is_pseudo told (λ x. w.tests.is_pseudo x || (declared same w.tests.is_pseudo ((0, method_scope m.tree) ∷ []) x || outside x)) (free_in_statements same w.tests.is_pseudo m.tree.body.statements))
        ∙ all-same (λ x. w.tests.is_pseudo x || (declared same w.tests.is_pseudo ((0, method_scope m.tree) ∷ []) x || outside x)) (λ x. same_meaning same (means w i m [] x) (means w j n [] x)) (λ x. sym (at [] x)) (free_names_of_run same w.tests.is_pseudo m.tree.body.statements)

-- all statements
pub whole-run : (items : List Statement) → run_of (statements_of items) 0 (length items) ≡ statements_of items
whole-run items = taken items
  where
    taken : (xs : List Statement) → take_statements (length xs) (statements_of xs) ≡ statements_of xs
    taken [] = refl
    taken (x ∷ xs) = ap (λ ss. more_statements x.comments x.node ss) (taken xs)
