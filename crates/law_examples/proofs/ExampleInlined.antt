-- The example meets the premises.
use Rattle.std.proofs.Common.{◌≡◌, List, [], ◌∷◌, Some, None, refl, ap, ◌∙◌}
use Rattle.std.specs.Prelude.{Bool, true, false, cond, codes}
use Rattle.rb_base.specs.Names.{text_eq}
use Rattle.tree_model.specs.Tree.{TreeOf, var, literal, send, block, return, no_trees, more_trees}
use Rattle.scope_model.specs.SpecialNames.{is_pseudo_variable, control_form}
use Rattle.image_model.specs.Image.{ClassOf}
use Rattle.image_model.specs.Words.{text_words}
use Rattle.image_model.specs.Means.{means_outside}
use Rattle.image_model.specs.Chain.{class_named}
use Rattle.run_model.specs.Values.{Name}
use Rattle.resolved_model.specs.ResolvedImages.{resolved_image}
use Rattle.resolved_model.specs.Environments.{Declared, as_argument, opened}
use Rattle.unfolded_calls.specs.Unfolding.{IsBelow, itself, above, an_argument}
use Rattle.unfolded_calls.proofs.Running.{some-same}
use Rattle.unfolded_places.specs.Becoming.{Becomes, at_part, in_send, in_block, all_none, all_more, lines_none, lines_more}
use Rattle.unfolded_places.specs.Inlining.{plain_argument, plain_none, plain_more, Filling, filled_inner, filled_formal, filled_outer, filling}
use Rattle.unfolded_places.specs.InlinedOnce.{none_gone, IsInlinedOnce}
use Rattle.law_examples.specs.UnfoldedExamples.{example_class, adding, adder, sending_adder, user_method, example_before, example_after}

abbrev classes : List (ClassOf Name)
classes = (resolved_image example_before).classes

-- no class stands below Account
none-below : (k : Name) (d : ClassOf Name) → class_named text_eq classes k ≡ Some d → d.superclass ≡ Some (codes "Account") → ⊥
none-below k d e s = by (text_eq k (codes "Object")) (text_eq k (codes "Account")) e s
  where
    by : (b c : Bool) → cond b (Some (example_class false (codes "Object") None [])) (cond c (Some (example_class false (codes "Account") (Some (codes "Object")) [])) None) ≡ Some d → d.superclass ≡ Some (codes "Account") → ⊥
    by true c e s =
        let q : None ≡ Some (codes "Account") = ap (λ (x : ClassOf Name). x.superclass) (some-same e) ∙ s in
        absurd (cc)
    by false true e s =
        let q : Some (codes "Object") ≡ Some (codes "Account") = ap (λ (x : ClassOf Name). x.superclass) (some-same e) ∙ s in
        let r : false ≡ true = ap (text_eq (codes "Account")) (some-same q) in
        absurd (cc)
    by false false e s = absurd (cc)

pub below-account : (c n : Name) → IsBelow classes c n → n ≡ codes "Account" → c ≡ codes "Account"
below-account c _ itself e = e
below-account c n (above {k = k} d b q s) e = absurd (none-below k d q (s ∙ ap (λ x. Some x) e))

abbrev formal : List Declared
formal = opened (codes "x" ∷ []) [] []

abbrev around : List Declared
around = opened (codes "y" ∷ []) [] []

abbrev filled : Filling
filled = record {
  arguments = codes "x" ∷ [];
  passed = more_trees (var (codes "y")) no_trees;
  before = λ n. means_outside text_words example_before adder.class adder.meta n;
  after = λ n. means_outside text_words example_before user_method.class user_method.meta n;
  round = around;
}

abbrev pub inner : List Declared
inner = as_argument (codes "k") ∷ []

block-filled : Becomes (filling filled false none_gone.is_gone) formal around (adding (codes "x")) (adding (codes "y"))
unfolding is_pseudo_variable control_form
block-filled =
    in_block (codes "k" ∷ []) [] [] []
    (lines_more [] []
    (in_send (codes "+") refl (λ e. absurd (cc)) (λ e. refl)
    (in_send (codes "+") refl (λ e. no-super e) (λ e. refl) (at_part (filled_inner inner (codes "k") false refl refl)) (all_more (at_part (filled_formal inner (codes "x") (var (codes "y")) refl refl refl (λ e. refl))) all_none))
    (all_more (at_part (filled_outer inner (codes "balance") refl (record { inside = refl; formal = refl; there = refl; same = refl }))) all_none))
    lines_none)
  where
    name-of : TreeOf Name → Name
    name-of (var n) = n
    name-of (literal l) = []
    name-of (send r s args) = []
    name-of (Rattle.tree_model.specs.Tree.TreeOf.cascade r ms) = []
    name-of (Rattle.tree_model.specs.Tree.TreeOf.assign n t) = []
    name-of (block ps ts ss e) = []
    name-of (Rattle.tree_model.specs.Tree.TreeOf.brace ts) = []
    name-of (return t) = []

    no-super : var (codes "k") ≡ var (codes "super") → false ≡ true
    no-super e = ap (λ t. text_eq (codes "super") (name-of t)) e

pub example-inlined : IsInlinedOnce example_before example_after
unfolding is_pseudo_variable control_form
example-inlined = record {
  earlier = adder ∷ [];
  later = [];
  method = user_method;
  methods = refl;
  class = codes "Account";
  meta = false;
  opens = record { class = refl; meta = refl; user = λ b. let e : false ≡ true = ap (text_eq (codes "Account")) (below-account (codes "Class") (codes "Account") b refl) in absurd (cc) };
  path = 0 ∷ 0 ∷ 0 ∷ [];
  send = sending_adder;
  found = refl;
  expression = adding (codes "y");
  inlined = record {
    class = codes "Account";
    meta = false;
    here = refl;
    selector = codes "adder:";
    passed = more_trees (var (codes "y")) no_trees;
    sends = refl;
    message = refl;
    target = adder;
    found = λ c b. ap (λ x. Rattle.resolved_model.specs.ResolvedImages.finds (resolved_image example_before) (Some x) false (codes "adder:")) (below-account c (codes "Account") b refl);
    primitive = refl;
    temporaries = refl;
    note = [];
    answer = adding (codes "x");
    answers = refl;
    supers = false;
    above = λ e. absurd (cc);
    no_super = λ e. absurd (cc);
    actuals = an_argument 0 ∷ [];
    plain = plain_more (plain_argument (codes "y") refl refl) plain_none;
    count = refl;
    filled = block-filled;
  };
  message = λ e. refl;
  source = [];
  after = refl;
}
