-- The example of accessors meets the premises.
use Rattle.std.proofs.Common.{◌≡◌, List, [], ◌∷◌, Some, None, refl, ap}
use Rattle.std.specs.Prelude.{true, false, ◌||◌, codes}
use Rattle.rb_base.specs.Names.{text_eq}
use Rattle.tree_model.specs.Tree.{TreeOf, var, send, no_trees}
use Rattle.scope_model.specs.SpecialNames.{is_pseudo_variable, control_form}
use Rattle.image_model.specs.Image.{EntryOf}
use Rattle.run_model.specs.Values.{Name}
use Rattle.resolved_model.specs.ResolvedImages.{resolved_image, finds}
use Rattle.resolved_model.specs.Environments.{Declared, opened, kind_in}
use Rattle.unfolded_calls.specs.Unfolding.{Allowed}
use Rattle.unfolded_places.specs.Becoming.{at_part}
use Rattle.unfolded_places.specs.ImagesChanged.{methods_end, method_next, method_gone, doits_end, doit_next, ImageBecomes}
use Rattle.unfolded_places.specs.Inlining.{plain_none, filled_outer, IsInlined, IsStored}
use Rattle.law_examples.specs.UnfoldedExamples.{depositing, balance_reader, balance_writer, example_plain, example_accessed}
use Rattle.law_examples.proofs.ExampleInlined.{below-account}
use Rattle.unfolded_places.proofs.AccessedBecomes.{lines-accessed}

-- the selectors of the accessors
abbrev pub accessors_gone : Allowed
accessors_gone = record { is_gone = λ s. text_eq s (codes "balance") || text_eq s (codes "balance:"); reach = 0 }

abbrev depositing_so : EntryOf Name
depositing_so = record depositing {
  tree = record depositing.tree {
    body = Rattle.law_examples.specs.UnfoldedExamples.one_statement (Rattle.law_examples.specs.UnfoldedExamples.with_one (var (codes "self")) (codes "balance:") (Rattle.law_examples.specs.UnfoldedExamples.with_one (send (var (codes "self")) (codes "balance") no_trees) (codes "+") (var (codes "y"))));
  };
}

reads : (A : List Declared) → kind_in A (codes "balance") ≡ None → IsInlined example_accessed accessors_gone depositing_so (Some (codes "Account", false)) A (send (var (codes "self")) (codes "balance") no_trees) (var (codes "balance"))
unfolding is_pseudo_variable control_form
reads A h = record {
  class = codes "Account";
  meta = false;
  here = refl;
  selector = codes "balance";
  passed = no_trees;
  sends = refl;
  message = refl;
  target = balance_reader;
  found = λ c b. ap (λ x. finds (resolved_image example_accessed) (Some x) false (codes "balance")) (below-account c (codes "Account") b refl);
  primitive = refl;
  temporaries = refl;
  note = [];
  answer = var (codes "balance");
  answers = refl;
  supers = false;
  above = λ e. absurd (cc);
  no_super = λ e. no-super e;
  actuals = [];
  plain = plain_none;
  count = refl;
  filled = at_part (filled_outer [] (codes "balance") refl (record { inside = refl; formal = refl; there = h; same = refl }));
}
  where
    name-of : TreeOf Name → Name
    name-of (var n) = n
    name-of t = []

    no-super : var (codes "balance") ≡ var (codes "super") → ⊥
    no-super e = let q : false ≡ true = ap (λ t. text_eq (codes "super") (name-of t)) e in absurd (cc)

writes : (A : List Declared) → kind_in A (codes "balance") ≡ None → IsStored example_accessed accessors_gone depositing_so (Some (codes "Account", false)) A (codes "balance:") (codes "balance")
unfolding is_pseudo_variable control_form
writes A h = record {
  class = codes "Account";
  meta = false;
  here = refl;
  target = balance_writer;
  found = λ c b. ap (λ x. finds (resolved_image example_accessed) (Some x) false (codes "balance:")) (below-account c (codes "Account") b refl);
  primitive = refl;
  argument = codes "v";
  arguments = refl;
  plain_argument = refl;
  temporaries = refl;
  note = [];
  statements = refl;
  plain_variable = refl;
  other = refl;
  there = h;
  same = refl;
}

pub example-accessed : ImageBecomes example_accessed accessors_gone (IsInlined example_accessed accessors_gone) (IsStored example_accessed accessors_gone) example_plain
unfolding is_pseudo_variable control_form
example-accessed = record {
  classes = refl;
  methods =
      method_next
      (record {
        class = refl;
        meta = refl;
        selector = refl;
        primitive = refl;
        arguments = refl;
        temporaries = refl;
        place = Some (codes "Account", false);
        opens = record { class = refl; meta = refl; user = λ b. let e : false ≡ true = ap (text_eq (codes "Account")) (below-account (codes "Class") (codes "Account") b refl) in absurd (cc) };
        statements = lines-accessed example_accessed accessors_gone depositing_so (Some (codes "Account", false)) (codes "balance") (codes "balance") (codes "balance:") reads writes refl (opened (codes "y" ∷ []) [] []) depositing.tree.body.statements ((refl, tt, (tt, tt)), tt);
      })
      (method_gone refl (method_gone refl methods_end));
  doits = doit_next refl ((refl, (refl, tt, tt), (tt, tt)), tt) doits_end;
}
